pub mod FirstFaults
pub mod Filling
pub mod Walk
pub mod Exact
pub mod Numbers
pub mod Encoded
pub mod SoundMessages
pub mod Saying
