-- What an exchange keeps of Sync and Follow_Up, and what looking back finds in its place.
use Rattle.std.specs.Prelude.{ℕ, ℤ, ◌^◌, ◌<◌, ◌==◌, unsigned_abs, if◌then◌else◌, List, Option, Some, None, IfSome}
use Rattle.std.specs.Option.{option_map, option_and_then}
use Rattle.wrp_exch.specs.declared.ring.GoodSample.{GoodSample}
use Rattle.wrp_exch.specs.declared.sync.HeldSync.{HeldSync}
use Rattle.wrp_exch.specs.declared.sync.SyncPair.{SyncPair}
use Rattle.wrp_exch.specs.declared.sync.SyncHalf.{SyncHalf}
use Rattle.wrp_exch.specs.Call.{Call}
use Rattle.wrp_exch.specs.Samples.{phase_in}
use Rattle.wrp_exch.specs.SyncPair.{last_sync, is_followed, sync_pair, pair_of_sync}

-- the last kept Sync, while no Follow_Up of its id came
abbrev pub pending_sync : ℕ → List Call → Option HeldSync
pending_sync ring calls = option_and_then (λ s. if is_followed ring s.seq calls then None else Some s) (last_sync ring calls)

-- what looking back finds
abbrev pub sync_half : ℕ → List Call → SyncHalf
sync_half ring calls = record { pending = pending_sync ring calls; pair = sync_pair ring calls }

-- the pending Sync, unless a Follow_Up of this id takes it
abbrev pub left_pending : SyncHalf → ℕ → Option HeldSync
left_pending half seq = option_and_then (λ s. if s.seq == seq then None else Some s) half.pending

-- the pair that a Follow_Up makes of the pending Sync
abbrev pub new_sync_pair : SyncHalf → List GoodSample → ℕ → ℤ → Option SyncPair
new_sync_pair half good seq precise =
    option_and_then (λ s. if s.seq == seq then option_map (λ _. pair_of_sync s precise) (phase_in good s.sample) else None) half.pending

-- the times are in their ranges
abbrev pub HasSyncTimes : SyncHalf → Type 0
HasSyncTimes half = IfSome half.pending (λ s. unsigned_abs s.t2 < 2 ^ 104) × IfSome half.pair (λ p. (unsigned_abs p.t1 < 2 ^ 105) × (unsigned_abs p.t2 < 2 ^ 105))
