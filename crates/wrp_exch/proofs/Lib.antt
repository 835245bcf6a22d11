pub mod Sendings
pub mod Ticks
pub mod NoChain
pub mod Times
