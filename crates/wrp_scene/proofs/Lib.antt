pub mod FibreDelays
pub mod FibreSplit
pub mod SceneLemmas
pub mod SignedReads
