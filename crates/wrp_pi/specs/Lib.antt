pub mod Lock
pub mod Loop
