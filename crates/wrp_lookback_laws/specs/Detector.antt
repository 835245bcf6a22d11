-- The lock detector, by looking back: the errors of the good samples since its last restart decide whether it is locked
-- (this project's profile).
use Rattle.std.specs.Prelude.{◌≡◌, ◌↔◌, ◌<◌, ℕ, ℤ, ◌-ℤ◌, Bool, true, false, IsTrue, cond, not, ◌&&◌, ◌||◌, Option, None, Some, List, [], ◌∷◌}
use Rattle.wrp_pi.specs.Lock.{Limits, Detector, count_after, IsLocked}
use Rattle.wrp_servo.specs.declared.interface.ServoSet.{ServoSet}
use Rattle.wrp_servo.specs.Call.{Call, CallSample, CallCarrier, CallReset, ServoSetting, run}
use Rattle.wrp_servo.specs.Following.{error_of}
use Rattle.wrp_servo.specs.Sampling.{is_far, is_holdover}
use Rattle.wrp_lookback_laws.specs.Heard.{state_at, setpoint_at, tag_at, tag_of, u_at}

-- the limits to which the detector is set
abbrev pub limits_of : ServoSet → Limits
limits_of set = record { threshold = set.threshold; lock = set.lock_samples; delock = set.delock_samples }

-- a good sample is out of range
abbrev pub is_lost : ServoSetting → List Call → Call → Option ℕ → Bool
is_lost x calls call None = false
is_lost x calls call (Some tag) = is_far (u_at x (call ∷ calls))

abbrev pub differ : Bool → Bool → Bool
differ true b = not b
differ false b = b

-- HOLDOVER is entered by this call, or left
abbrev pub turns : ServoSetting → List Call → Call → Bool
turns x calls call = differ (is_holdover (state_at x calls)) (is_holdover (state_at x (call ∷ calls)))

-- a call restarts the detector whatever the state does: a reset; a carrier that goes, or that comes outside HOLDOVER; a
-- good sample out of range
abbrev pub restarts_by : ServoSetting → List Call → Call → Bool
restarts_by x calls CallReset = true
restarts_by x calls (CallCarrier up) = not (up && is_holdover (state_at x calls))
restarts_by x calls (CallSample n base bits) =
    is_lost x calls (CallSample n base bits) (tag_at x calls n base bits)
restarts_by x calls _ = false

abbrev pub restarts : ServoSetting → List Call → Call → Bool
restarts x calls call = restarts_by x calls call || turns x calls call

-- the error of a good sample: how far u is from the setpoint then, in whole steps of 1,000 tau, held within 2^20
abbrev pub error_at : ServoSetting → List Call → Call → ℤ
error_at x calls call = error_of (u_at x (call ∷ calls) -ℤ setpoint_at x (call ∷ calls))

abbrev pub with_error : Option ℕ → ℤ → List ℤ → List ℤ
with_error None e before = before
with_error (Some tag) e before = e ∷ before

-- the errors of the good samples since the detector's last restart, newest first
abbrev pub errors : ServoSetting → List Call → List ℤ
errors x [] = []
errors x (call ∷ calls) =
    cond (restarts x calls call) [] (with_error (tag_of x calls call) (error_at x calls call) (errors x calls))

-- a detector that took these errors since its last restart
pub record HasErrors (limits : Limits) (detector : Detector) (since : List ℤ) : Type 0 where
  pub same : detector.limits ≡ limits
  pub count : detector.count ≡ count_after limits since
  pub locked : IsTrue detector.locked ↔ IsLocked limits since

-- the servo's detector is the one that the errors since its last restart lead to
abbrev pub DetectorLooksBack : Type 0
DetectorLooksBack =
    (x : ServoSetting) (calls : List Call) → 0 < x.set.lock_samples → HasErrors (limits_of x.set) (run x calls).phase.lock (errors x calls)
