pub mod Lines
pub mod Block
pub mod Numbers
pub mod Reading
pub mod Fields
