pub mod Adapters
pub mod Calls
pub mod Faults
pub mod Link
pub mod Memory
pub mod Queue
pub mod Sockets
pub mod FramesWaiting
