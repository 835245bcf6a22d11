pub mod EventRanges
pub mod Frames
pub mod Gifts
pub mod Kept
pub mod LineSizes
pub mod Ports
pub mod Recorded
pub mod Sends
