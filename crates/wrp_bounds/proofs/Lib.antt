pub mod Counts
pub mod FirstBroken
pub mod Kept
pub mod PathLaws
pub mod Placed
pub mod Rounding
pub mod Rooms
pub mod WayUp
