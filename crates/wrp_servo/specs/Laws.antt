-- What the servo's rows make sure of, over all lists of calls (this project's profile).
use Rattle.std.specs.Prelude.{◌≡◌, ◌↔◌, ℕ, ℤ, pos, ◌≤◌, true, false, ◌||◌, is_some, Option, None, Some, List, ◌∷◌}
use Rattle.wrp_phase.specs.Unwrapping.{pushed}
use Rattle.wrp_servo.specs.declared.machine.Core.{Core}
use Rattle.wrp_servo.specs.Since.{Since}
use Rattle.wrp_servo.specs.LookBack.{enters_track, leaves_track, chain_starts, chain_ends}
use Rattle.wrp_servo.specs.Table.{is_track}
use Rattle.wrp_servo.specs.Sampling.{is_calm, is_near, is_holdover}
use Rattle.wrp_servo.specs.Call.{Call, CallSample, ServoSetting, run, is_reset}
use Rattle.wrp_servo.specs.Servo.{answer_to}
use Rattle.wrp_servo.specs.Tags.{heard_tag}
use Rattle.wrp_servo.specs.Told.{carrier_told, link_told, lease_told, lease_starts, lease_ends, ticks_since_good}

-- the state is TRACK if and only if a call entered it and no later call left it
abbrev pub TrackSince : Type 0
TrackSince =
    (x : ServoSetting) (calls : List Call) →
    (is_track (run x calls).state ≡ true) ↔ Since (enters_track x) (leaves_track x) calls

-- there is a chain if and only if a call started it and no later call ended it
abbrev pub ChainSince : Type 0
ChainSince =
    (x : ServoSetting) (calls : List Call) →
    (is_some (run x calls).first ≡ true) ↔ Since (chain_starts x) (chain_ends x) calls

-- the lease is fresh if and only if a call gave a fresh lease and no later call gave a lapsed one or was a reset
abbrev pub LeaseSince : Type 0
LeaseSince =
    (x : ServoSetting) (calls : List Call) →
    ((run x calls).signals.lease ≡ true) ↔ Since lease_starts lease_ends calls

-- in TRACK there is a chain
abbrev pub TrackHasChain : Type 0
TrackHasChain =
    (x : ServoSetting) (calls : List Call) → is_track (run x calls).state ≡ true → is_some (run x calls).first ≡ true

-- in TRACK there is a four, and the loop's error and the residual are within their limits
pub record InTrack (v : Core) : Type 0 where
  pub kept : is_some v.kept ≡ true
  pub calm : is_calm v ≡ true
  pub near : is_near v.set.track_tau v.phase v.kept ≡ true

-- after any list of calls that ends in TRACK, there is a four and both limits of TRACK are kept
abbrev pub TrackIsNear : Type 0
TrackIsNear = (x : ServoSetting) (calls : List Call) → is_track (run x calls).state ≡ true → InTrack (run x calls)

-- with a chain the lock detector is locked, or the loop restarted since its last good sample (a carrier came while
-- there was one), and the state is not HOLDOVER
pub record InChain (v : Core) : Type 0 where
  pub locked : (v.phase.lock.locked || v.phase.fresh) ≡ true
  pub state : is_holdover v.state ≡ false

-- after any list of calls with a chain, the lock detector holds it, and the state is not HOLDOVER
abbrev pub ChainIsHeld : Type 0
ChainIsHeld = (x : ServoSetting) (calls : List Call) → is_some (run x calls).first ≡ true → InChain (run x calls)

-- what was last given while there is a chain: a carrier, a link that is on, and a fresh lease
pub record HasSignals (calls : List Call) : Type 0 where
  pub carrier : carrier_told calls ≡ true
  pub link : is_some (link_told calls) ≡ true
  pub lease : lease_told calls ≡ true

-- after any list of calls with a chain, the carrier is there, the link is on and the lease is fresh
abbrev pub ChainHasSignals : Type 0
ChainHasSignals = (x : ServoSetting) (calls : List Call) → is_some (run x calls).first ≡ true → HasSignals calls

-- while there is a chain, at most `gap` ticks passed since the last good sample
abbrev pub ChainKeepsGap : Type 0
ChainKeepsGap =
    (x : ServoSetting) (calls : List Call) → is_some (run x calls).first ≡ true → ticks_since_good x calls ≤ x.set.gap

-- the phase after a call: a good sample's tag alone changes it
abbrev pub phase_after : Core → Option ℕ → ℤ
phase_after v None = v.phase.u
phase_after v (Some tag) = (pushed v.phase.unwrap tag).answer

-- the tag of a good sample that this call brings
abbrev pub good_tag_of : ServoSetting → List Call → Call → Option ℕ
good_tag_of x calls (CallSample n base bits) = heard_tag x calls n base bits
good_tag_of x calls _ = None

-- while no reset comes, u changes by the next good tag alone
abbrev pub PhaseMovesByTags : Type 0
PhaseMovesByTags =
    (x : ServoSetting) (calls : List Call) (call : Call) → is_reset call ≡ false →
    (run x (call ∷ calls)).phase.u ≡ phase_after (run x calls) (good_tag_of x calls call)

-- no step is commanded in TRACK or HOLDOVER
abbrev pub NoStepInTrack : Type 0
NoStepInTrack =
    (x : ServoSetting) (calls : List Call) (call : Call) →
    (is_track (run x calls).state || is_holdover (run x calls).state) ≡ true →
    (answer_to x (run x calls) call).cycles ≡ pos 0
