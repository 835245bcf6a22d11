pub mod Bounds
pub mod Hop
pub mod Inequalities
pub mod Laws
pub mod Motion
pub mod Times
