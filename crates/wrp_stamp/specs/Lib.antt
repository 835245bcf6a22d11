pub mod Merge
pub mod StampBound
