pub mod Masters
pub mod Ticks
