pub mod Forward
pub mod Worked
pub mod WorkedNetwork
pub mod WorkedRun
