-- The laws of how far nodes are from true time. Each folder next to this file has the proofs of some of them, and
-- begins with a head that names its main lemmas, the files that build them, and the laws (functions of src) that they
-- prove. The order here is the order of the laws; single files also look ahead, if a later folder says of a node, a
-- servo or a call what they need:
--
-- Runs and Nodes (what events do to nodes), Motion (clocks and fibres), Frames and Schedules (what is sent and handed
-- over), Sources (leases), Samples (chains and their constant), SyncPairs and DelayPairs (what the exchange keeps),
-- Measurements (the four that the servo holds in TRACK), Hops (the bound, hop by hop and down the tree).
--
-- What is computed of one node, its parent and the link between them is in `wrp_tracking_laws`, and is used here in
-- these places:
-- `chain_is_kept` in ChainRuns: a chain's constant, as time passes and as good samples come;
-- `stamps_tell_constant` in SyncHeld and in DelayPieces: the stamps of a pair give that constant, and both ways;
-- `ticks_tell_time` in FourMoments and `track_is_young` in FourTrack: ticks as true time, and the age of the four in TRACK;
-- `track_gives` and `hop_holds` in TrackedHops: the limits of TRACK, and the error of an estimate, summed over one hop;
-- `held_within_motion` and `tree_sum` in HopsUp: what HOLDOVER adds, and the sum over the tree from the grandmaster on.
-- Its other laws are about parts that a servo keeps, and no law of runs uses them.
pub mod Runs
pub mod Nodes
pub mod Motion
pub mod Frames
pub mod Schedules
pub mod Sources
pub mod Samples
pub mod SyncPairs
pub mod DelayPairs
pub mod Measurements
pub mod Hops
