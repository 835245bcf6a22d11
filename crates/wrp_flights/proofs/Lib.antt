mod Counting
mod FirstDue
mod Losses
mod Oldest
mod Passing
mod Putting
pub mod Staying
