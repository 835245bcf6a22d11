pub mod Law
pub mod Projection
