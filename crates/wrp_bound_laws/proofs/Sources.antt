-- Leases, and the sources that they rest on. Announces and Holding say when a node sends an Announce of a certain time
-- and how long it may be followed then; with Parents, Renewals (how a lease came to its turns) and Carried,
-- LeaseSources shows that a fresh lease has a source above it (`lease_has_source`); Syncs that a frame which arrives
-- then departed after that Announce (`frames_follow_the_source`).
pub mod Announces
pub mod Carried
pub mod HeldCalls
pub mod Holding
pub mod LeaseSources
pub mod Parents
pub mod Renewals
pub mod Syncs
