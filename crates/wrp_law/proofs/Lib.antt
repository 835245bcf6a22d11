pub mod Between
pub mod Segments
pub mod Tables
mod Walk
