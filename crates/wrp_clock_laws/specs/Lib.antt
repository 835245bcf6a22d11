pub mod Steady
pub mod Worked
pub mod WorkedRun
