-- The Sync pair of a two-step exchange: a Sync and its Follow_Up, matched by sequenceId (IEEE
-- 1588-2019; which Sync is kept is this project's profile).
use Rattle.std.specs.Prelude.{ℕ, ℤ, pos, ◌+ℤ◌, ◌*ℤ◌, ◌==◌, ◌&&◌, ◌||◌, not, Bool, false, if◌then◌else◌, List, [], ◌∷◌, Option, Some, None}
use Rattle.std.specs.Option.{is_some, option_map, option_or, option_and_then}
use Rattle.wrp_base.specs.declared.time.Stamp.{Stamp}
use Rattle.wrp_exch.specs.declared.sync.HeldSync.{HeldSync}
use Rattle.wrp_exch.specs.declared.sync.SyncPair.{SyncPair}
use Rattle.wrp_exch.specs.Call.{Call, CallStart, CallClear, CallSync, CallFollowUp}
use Rattle.wrp_exch.specs.Samples.{phase_in, last_samples}
use Rattle.wrp_exch.specs.Chain.{latched_phase}

-- a Sync with the phase at the sample that its stamp latched
abbrev pub held_sync : ℕ → ℤ → Stamp → ℕ → ℤ → HeldSync
held_sync seq correction t2 tick phase = record { seq = seq; correction = correction; t2 = t2.value; sample = t2.sample; u2 = phase; tick = tick }

-- the Sync that comes after these calls, if it is kept
abbrev pub kept_sync : ℕ → List Call → ℕ → ℤ → Stamp → ℕ → Option HeldSync
kept_sync ring calls seq correction t2 tick = option_map (held_sync seq correction t2 tick) (latched_phase ring calls t2.sample)

-- the last kept Sync of the chain
abbrev pub last_sync : ℕ → List Call → Option HeldSync
last_sync ring [] = None
last_sync ring (CallStart first ∷ calls) = None
last_sync ring (CallClear ∷ calls) = None
last_sync ring (CallSync seq correction t2 tick ∷ calls) = option_or (kept_sync ring calls seq correction t2 tick) (last_sync ring calls)
last_sync ring (_ ∷ calls) = last_sync ring calls

-- a Follow_Up of this id came since the last kept Sync
abbrev pub is_followed : ℕ → ℕ → List Call → Bool
is_followed ring seq [] = false
is_followed ring seq (CallStart first ∷ calls) = false
is_followed ring seq (CallClear ∷ calls) = false
is_followed ring seq (CallSync id correction t2 tick ∷ calls) = not (is_some (kept_sync ring calls id correction t2 tick)) && is_followed ring seq calls
is_followed ring seq (CallFollowUp id precise ∷ calls) = (seq == id) || is_followed ring seq calls
is_followed ring seq (_ ∷ calls) = is_followed ring seq calls

-- the pair that a kept Sync and its Follow_Up make: t1 is preciseOriginTimestamp with both corrections
abbrev pub pair_of_sync : HeldSync → ℤ → SyncPair
pair_of_sync sync precise = record { t1 = precise +ℤ (pos 1000 *ℤ sync.correction); t2 = sync.t2; u2 = sync.u2; tick = sync.tick }

-- the pair that a Follow_Up after these calls makes: its id is the id of the last kept Sync, no
-- Follow_Up of that id came between, and the Sync's sample is still among the last `ring` good ones
abbrev pub followed_pair : ℕ → List Call → ℕ → ℤ → Option SyncPair
followed_pair ring calls seq precise =
    option_and_then (λ s. if (s.seq == seq) && (not (is_followed ring seq calls) && is_some (phase_in (last_samples ring calls) s.sample)) then Some (pair_of_sync s precise) else None) (last_sync ring calls)

-- the Sync pair: the latest Follow_Up of the chain that made one
abbrev pub sync_pair : ℕ → List Call → Option SyncPair
sync_pair ring [] = None
sync_pair ring (CallStart first ∷ calls) = None
sync_pair ring (CallClear ∷ calls) = None
sync_pair ring (CallFollowUp seq precise ∷ calls) = option_or (followed_pair ring calls seq precise) (sync_pair ring calls)
sync_pair ring (_ ∷ calls) = sync_pair ring calls
