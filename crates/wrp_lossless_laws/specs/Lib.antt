pub mod LosesNothing
pub mod Worked
pub mod Simulated
pub mod Kinds
pub mod Printed
pub mod WorkedKinds
