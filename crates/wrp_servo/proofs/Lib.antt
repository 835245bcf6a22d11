pub mod Tracks
mod Leaving
mod SinceLaws
mod ChainLaws
mod BothLaws
mod Rooms
mod Rests
mod TagLaws
pub mod Locked
mod InTrack
pub mod Sized
mod Safe
mod ValidLaws
mod ToldLaws
mod LeaseLaws
mod ChainSignals
mod ChainGap
mod PhaseLaws
mod StepLaws
mod Outside
pub mod HoldoverLaws
pub mod Gone
mod LastLaws
mod SeenLaws
mod Passed
