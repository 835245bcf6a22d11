pub mod AskingWork
pub mod Ending
pub mod Reporting
pub mod Shown
pub mod Synced
