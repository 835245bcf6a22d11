pub mod Beat
pub mod BeatPattern
pub mod Unwrapping
