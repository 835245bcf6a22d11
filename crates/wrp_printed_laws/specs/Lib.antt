pub mod Words
pub mod Offsets
pub mod Steps
pub mod Laws
