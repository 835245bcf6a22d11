pub mod Ranges
pub mod Recorded
