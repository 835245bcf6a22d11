mod BeatBits
pub mod Counting
pub mod HandedFrames
pub mod JoinedLinks
pub mod TriedFibres
pub mod TriedFrames
pub mod TriedModules
pub mod TriedNodes
pub mod TriedOctets
pub mod TriedRates
