-- The chain of good samples, by looking back: a good sample began it, and neither that sample nor any call since ended
-- it (this project's profile).
use Rattle.std.specs.Prelude.{◌≡◌, ◌↔◌, ◌⊎◌, ◌<◌, ℕ, ℤ, Bool, true, false, not, ◌&&◌, ◌||◌, nat_lt, is_some, Option, None, Some, List, [], ◌∷◌, ◌++◌}
use Rattle.wrp_base.specs.declared.link.Deltas.{Deltas}
use Rattle.wrp_base.specs.declared.link.ServoState.{ServoState}
use Rattle.wrp_base.specs.declared.link.ServoState.TheVariants.{SyncTai, SyncNsec}
use Rattle.wrp_base.specs.declared.measurement.Four.{Four}
use Rattle.wrp_base.specs.declared.time.Clock.{Clock}
use Rattle.wrp_pi.specs.Lock.{IsLocked}
use Rattle.wrp_servo.specs.Call.{Call, CallSample, CallMeasured, CallTick, CallLease, CallLink, CallCarrier, CallReset, ServoSetting, run}
use Rattle.wrp_servo.specs.Measuring.{is_in, x_of, kept_of, half_period, is_below_second}
use Rattle.wrp_servo.specs.Sampling.{is_far, is_within, est_of}
use Rattle.wrp_servo.specs.Table.{is_track}
use Rattle.wrp_servo.specs.Told.{link_told, lease_told}
use Rattle.wrp_lookback_laws.specs.Detector.{limits_of, error_at, errors}
use Rattle.wrp_lookback_laws.specs.Heard.{state_at, tag_of, u_at, ticks_without}

-- the lock detector is locked with the error of this good sample
abbrev pub LocksWith : ServoSetting → List Call → Call → Type 0
LocksWith x calls call = IsLocked (limits_of x.set) (error_at x calls call ∷ errors x calls)

-- a call may begin a chain: a good sample with which the detector is locked, with the link on and the lease fresh. A good
-- sample has a carrier, and is not in HOLDOVER
pub record MayBegin (x : ServoSetting) (calls : List Call) (call : Call) : Type 0 where
  pub good : is_some (tag_of x calls call) ≡ true
  pub locked : LocksWith x calls call
  pub link : is_some (link_told calls) ≡ true
  pub lease : lease_told calls ≡ true

-- ---- what ends a chain

-- a good sample: its phase is out of range, or the detector is unlocked with it
abbrev pub EndsBySample : ServoSetting → List Call → Call → Option ℕ → Type 0
EndsBySample x calls call None = ⊥
EndsBySample x calls call (Some tag) = (is_far (u_at x (call ∷ calls)) ≡ true) ⊎ (LocksWith x calls call → ⊥)

-- an estimate commands a step of the clock: of seconds in SYNC_TAI, of periods there and in SYNC_NSEC
abbrev pub commands_step : Clock → ServoState → ℤ → Bool
commands_step clock SyncTai est = not (is_below_second est && is_within (half_period clock) est)
commands_step clock SyncNsec est = not (is_within (half_period clock) est)
commands_step clock _ est = false

-- a measurement: out of the law's range, or an own step
abbrev pub ends_by_four : ServoSetting → List Call → Four → ℤ → Option Deltas → Bool
ends_by_four x calls f y None = false
ends_by_four x calls f y (Some d) =
    not (is_in x.lo x.hi (x_of d f))
    || commands_step x.set.clock (state_at x calls) (est_of (u_at x calls) (kept_of f d y))

-- a call ends the chain, not by leaving TRACK: in addition to the above, a tick with more than `gap` ticks since the
-- last good sample, a lapse of the lease, a link that goes off, a carrier that goes, and a reset
abbrev pub Ends : ServoSetting → List Call → Call → Type 0
Ends x calls (CallSample n base bits) =
    EndsBySample x calls (CallSample n base bits) (tag_of x calls (CallSample n base bits))
Ends x calls (CallMeasured f y) = ends_by_four x calls f y (link_told calls) ≡ true
Ends x calls CallTick = nat_lt x.set.gap (ticks_without x (CallTick ∷ calls)) ≡ true
Ends x calls (CallLease fresh) = fresh ≡ false
Ends x calls (CallLink on) = is_some on ≡ false
Ends x calls (CallCarrier up) = up ≡ false
Ends x calls CallReset = Unit {0}

-- the servo is in TRACK before a call, and no longer after it
abbrev pub LeavesTrack : ServoSetting → List Call → Call → Type 0
LeavesTrack x calls call = (is_track (state_at x calls) ≡ true) × (is_track (state_at x (call ∷ calls)) ≡ false)

abbrev pub EndsChain : ServoSetting → List Call → Call → Type 0
EndsChain x calls call = Ends x calls call ⊎ LeavesTrack x calls call

-- none of these calls, each after all those before it, ends the chain
abbrev pub NoneEnds : ServoSetting → List Call → List Call → Type 0
NoneEnds x [] before = Unit {0}
NoneEnds x (call ∷ since) before = (EndsChain x (since ++ before) call → ⊥) × NoneEnds x since before

-- ---- the chain

-- there is a chain: a call may begin one, and neither it nor any call since ended it
pub record ChainStands (x : ServoSetting) (calls : List Call) : Type 0 where
  pub since : List Call
  pub begin : Call
  pub before : List Call
  pub splits : calls ≡ since ++ begin ∷ before
  pub may : MayBegin x before begin
  pub holds : EndsChain x before begin → ⊥
  pub stays : NoneEnds x since (begin ∷ before)

abbrev pub ChainLooksBack : Type 0
ChainLooksBack =
    (x : ServoSetting) (calls : List Call) → 0 < x.set.lock_samples →
    (is_some (run x calls).first ≡ true) ↔ ChainStands x calls

-- the chain began at the sample of this number: there was none before it
pub record ChainBegan (x : ServoSetting) (calls : List Call) (n : ℕ) : Type 0 where
  pub since : List Call
  pub base : ℕ
  pub bits : ℕ
  pub before : List Call
  pub splits : calls ≡ since ++ CallSample n base bits ∷ before
  pub none : ChainStands x before → ⊥
  pub may : MayBegin x before (CallSample n base bits)
  pub holds : EndsChain x before (CallSample n base bits) → ⊥
  pub stays : NoneEnds x since (CallSample n base bits ∷ before)

-- the number that the servo holds of its chain is the number of the sample at which the chain began
abbrev pub FirstLooksBack : Type 0
FirstLooksBack =
    (x : ServoSetting) (calls : List Call) (n : ℕ) → 0 < x.set.lock_samples →
    ((run x calls).first ≡ Some n) ↔ ChainBegan x calls n
