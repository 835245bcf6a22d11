-- Chains of good samples. LiveChains goes call by call: what starts a chain, and the good tags that it has taken;
-- ChainSources that its node's parent may be followed; ChainLinks that its link is on; ChainMoves that meanwhile
-- nothing moves faster than its hop takes it (`chain_passes_slowly`); FourMoments and SampleEvents what its moments and
-- its events are. ChainRuns puts them together: a chain has a constant (`chain_has_constant`).
pub mod BoundRuns
pub mod ChainLinks
pub mod ChainMoves
pub mod ChainRuns
pub mod ChainSources
pub mod FourMoments
pub mod LiveChains
pub mod SampleEvents
