pub mod Ages
pub mod Departed
pub mod Frames
pub mod Listing
pub mod Losing
pub mod Next
