pub mod Lists
pub mod Ports
pub mod Reached
pub mod Bare
