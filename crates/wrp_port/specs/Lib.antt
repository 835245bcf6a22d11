pub mod Wire
pub mod Messages
pub mod Hearing
pub mod LineAfter
pub mod Outputs
pub mod History
pub mod PortAt
