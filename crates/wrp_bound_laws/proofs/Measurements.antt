-- The measurement that a servo holds. FourCalls, FourInputs, FourRises and FourEvents say which call brought it, and
-- that no later one is of older pieces; FourPorts that the slave port is one. With the pairs before, FourTrack shows
-- that in TRACK its four is true of the chain, and young (`four_holds_in_track`); KeptDeltas and KeptRuns that its
-- delay was computed from the deltas of the link as it is (`kept_is_reckoned`). TrackLimits has the age of that four in
-- ticks, and the other limits of TRACK (`track_keeps_limits`).
pub mod FourCalls
pub mod FourEvents
pub mod FourInputs
pub mod FourPorts
pub mod FourRises
pub mod FourTrack
pub mod KeptDeltas
pub mod KeptRuns
pub mod TrackLimits
