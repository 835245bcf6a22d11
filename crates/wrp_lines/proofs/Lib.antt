pub mod Reasons
pub mod LineWords
