pub mod Asked
pub mod Ending
pub mod Shown
pub mod Synced
