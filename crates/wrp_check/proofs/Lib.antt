pub mod Backwards
pub mod Entering
pub mod OneVerdict
pub mod Parts
pub mod Splitting
pub mod Verdicts
