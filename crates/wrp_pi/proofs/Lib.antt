pub mod LockLaws
pub mod LoopLaws
