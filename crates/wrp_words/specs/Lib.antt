pub mod Alone
pub mod CommandLine
pub mod Fields
pub mod Parsing
pub mod Refusals
pub mod Requests
pub mod Rows
pub mod Words
