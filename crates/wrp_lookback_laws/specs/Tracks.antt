-- TRACK, by looking back: a measurement entered it, and no call since left it (this project's profile).
use Rattle.std.specs.Prelude.{◌≡◌, ◌↔◌, ◌⊎◌, ◌<◌, ◌-◌, ◌-ℤ◌, ℕ, ℤ, true, false, nat_le, nat_lt, Option, None, Some, List, [], ◌∷◌, ◌++◌}
use Rattle.wrp_base.specs.declared.link.Deltas.{Deltas}
use Rattle.wrp_base.specs.declared.measurement.Four.{Four}
use Rattle.wrp_servo.specs.declared.machine.Measurement.{Measurement}
use Rattle.wrp_servo.specs.Call.{Call, CallSample, CallMeasured, CallTick, ServoSetting, run}
use Rattle.wrp_servo.specs.Measuring.{is_in, x_of, kept_of}
use Rattle.wrp_servo.specs.Sampling.{is_within, est_of}
use Rattle.wrp_servo.specs.Table.{is_track}
use Rattle.wrp_servo.specs.Told.{link_told, ticks_told}
use Rattle.wrp_servo.specs.Tracking.{is_wait_stable}
use Rattle.wrp_lookback_laws.specs.Chains.{ChainStands, Ends}
use Rattle.wrp_lookback_laws.specs.Fours.{FourStands}
use Rattle.wrp_lookback_laws.specs.Heard.{state_at, setpoint_at, tag_of, u_at}

-- the calm count after these calls, a running value
abbrev pub calm_at : ServoSetting → List Call → ℕ
calm_at x calls = (run x calls).calm

-- e_tau after these calls: how far u is from the setpoint
abbrev pub loop_error : ServoSetting → List Call → ℤ
loop_error x calls = u_at x calls -ℤ setpoint_at x calls

-- the residual of a four after these calls: its estimate less e_tau
abbrev pub residual_at : ServoSetting → List Call → Measurement → ℤ
residual_at x calls kept = est_of (u_at x calls) kept -ℤ loop_error x calls

-- a measurement enters TRACK: in a chain, in WAIT_STABLE with the calm count at `stable`, x in the law's range, the residual
-- and e_tau within their limits, and the four at most `age` ticks old
pub record EntersBy (x : ServoSetting) (calls : List Call) (f : Four) (y : ℤ) : Type 0 where
  pub waits : is_wait_stable (state_at x calls) ≡ true
  pub chain : ChainStands x calls
  pub deltas : Deltas
  pub link : link_told calls ≡ Some deltas
  pub range : is_in x.lo x.hi (x_of deltas f) ≡ true
  pub calm : nat_le x.set.stable (calm_at x calls) ≡ true
  pub near : is_within x.set.track_tau (residual_at x calls (kept_of f deltas y)) ≡ true
  pub loop : is_within x.set.loop_tau (loop_error x calls) ≡ true
  pub young : nat_le (ticks_told calls - f.tick) x.set.age ≡ true

abbrev pub EntersTrack : ServoSetting → List Call → Call → Type 0
EntersTrack x calls (CallMeasured f y) = EntersBy x calls f y
EntersTrack x calls _ = ⊥

-- the four that the servo holds is further off than its limit after the good sample
pub record IsFarOff (x : ServoSetting) (calls : List Call) (call : Call) : Type 0 where
  pub kept : Measurement
  pub stands : FourStands x calls kept
  pub far : is_within x.set.track_tau (residual_at x (call ∷ calls) kept) ≡ false

-- a good sample strays: with it e_tau, or the residual of the four that the servo holds, is past its limit
abbrev pub StraysBySample : ServoSetting → List Call → Call → Option ℕ → Type 0
StraysBySample x calls call None = ⊥
StraysBySample x calls call (Some tag) =
    (is_within x.set.loop_tau (loop_error x (call ∷ calls)) ≡ false) ⊎ IsFarOff x calls call

-- a measurement strays: its own residual is past the limit
pub record StraysByFour (x : ServoSetting) (calls : List Call) (f : Four) (y : ℤ) : Type 0 where
  pub deltas : Deltas
  pub link : link_told calls ≡ Some deltas
  pub far : is_within x.set.track_tau (residual_at x calls (kept_of f deltas y)) ≡ false

-- the four that the servo holds is more than `age` ticks old at this tick
pub record IsOld (x : ServoSetting) (calls : List Call) : Type 0 where
  pub kept : Measurement
  pub stands : FourStands x calls kept
  pub old : nat_lt x.set.age (ticks_told (CallTick ∷ calls) - kept.four.tick) ≡ true

-- a call leaves TRACK: it ends the chain in any case, or it has a cause that only TRACK has
abbrev pub Strays : ServoSetting → List Call → Call → Type 0
Strays x calls (CallSample n base bits) =
    StraysBySample x calls (CallSample n base bits) (tag_of x calls (CallSample n base bits))
Strays x calls (CallMeasured f y) = StraysByFour x calls f y
Strays x calls CallTick = IsOld x calls
Strays x calls _ = ⊥

abbrev pub Leaves : ServoSetting → List Call → Call → Type 0
Leaves x calls call = Ends x calls call ⊎ Strays x calls call

-- none of these calls, each after all those before it, leaves it
abbrev pub NoneLeaves : ServoSetting → List Call → List Call → Type 0
NoneLeaves x [] before = Unit {0}
NoneLeaves x (call ∷ since) before = (Leaves x (since ++ before) call → ⊥) × NoneLeaves x since before

pub record TrackStands (x : ServoSetting) (calls : List Call) : Type 0 where
  pub since : List Call
  pub enter : Call
  pub before : List Call
  pub splits : calls ≡ since ++ enter ∷ before
  pub enters : EntersTrack x before enter
  pub stays : NoneLeaves x since (enter ∷ before)

abbrev pub TrackLooksBack : Type 0
TrackLooksBack =
    (x : ServoSetting) (calls : List Call) → 0 < x.set.lock_samples →
    (is_track (state_at x calls) ≡ true) ↔ TrackStands x calls
