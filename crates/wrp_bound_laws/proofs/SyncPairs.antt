-- The Sync pair that a slave's exchange keeps in a chain. SyncTold, SyncGiven and SyncCalls say which calls make it;
-- SyncNumbers, SyncSamples, SyncChains and SyncPasts what the exchange took in the chain, and when; SyncHanded and
-- SyncLatched which sample the stamp of a Sync latched; SyncSends, SyncReadings and SyncMasters what a Follow_Up
-- carries. SyncHeld and SyncSame show that what is held and what the Follow_Up reports are one Sync, and SyncRuns that
-- the pair gives the chain's constant (`syncs_tell`). ExchangeChains and OneSync say the same of a Sync that is
-- pending, and of all that may still come (`pieces_are_of_one_message`). KeptSyncs, CloseSamples and UnbrokenChains say
-- in one what held since the chain began (`chain_stays_unbroken`).
pub mod CloseSamples
pub mod ExchangeChains
pub mod KeptSyncs
pub mod OneSync
pub mod SyncCalls
pub mod SyncChains
pub mod SyncGiven
pub mod SyncHanded
pub mod SyncHeld
pub mod SyncLatched
pub mod SyncMasters
pub mod SyncNumbers
pub mod SyncPasts
pub mod SyncReadings
pub mod SyncRuns
pub mod SyncSame
pub mod SyncSamples
pub mod SyncSends
pub mod SyncTold
pub mod UnbrokenChains
