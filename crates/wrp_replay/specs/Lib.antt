pub mod DownLaw
pub mod LinkLaw
pub mod NodeText
pub mod Replays
pub mod StandsFor
