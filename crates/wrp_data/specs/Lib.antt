pub mod Announce
pub mod Counters
pub mod Reason
