-- The sizes that a servo's numbers keep.
use Rattle.std.specs.Prelude.{pos, ◌^◌, ◌<◌, ◌≤◌, ◌≤ℤ◌, unsigned_abs, IfSome}
use Rattle.wrp_servo.specs.declared.interface.ServoSet.{ServoSet}
use Rattle.wrp_base.specs.declared.measurement.Four.{Four}
use Rattle.wrp_servo.specs.declared.machine.Measurement.{Measurement}
use Rattle.wrp_servo.specs.declared.machine.Core.{Core}

-- a four whose times and delay are in their ranges
pub record FitsFour (k : Measurement) : Type 0 where
  pub t1 : unsigned_abs k.four.t1 < 2 ^ 105
  pub t2 : unsigned_abs k.four.t2 < 2 ^ 105
  pub t3 : unsigned_abs k.four.t3 < 2 ^ 105
  pub t4 : unsigned_abs k.four.t4 < 2 ^ 105
  pub u2 : unsigned_abs k.four.u2 ≤ 2 ^ 63
  pub u3 : unsigned_abs k.four.u3 ≤ 2 ^ 63
  pub delay : unsigned_abs k.delay ≤ 2 ^ 67

-- the setpoint, its goal and the four are in their ranges
pub record HasRoom (v : Core) : Type 0 where
  pub s : unsigned_abs v.phase.s ≤ 2 ^ 62
  pub goal : unsigned_abs v.phase.goal ≤ 2 ^ 62
  pub least : pos 0 ≤ℤ v.set.phase_step
  pub most : v.set.phase_step ≤ℤ pos (2 ^ 30)
  pub kept : IfSome v.kept FitsFour

-- and so is the phase
pub record IsSized (v : Core) : Type 0 where
  pub answer : unsigned_abs v.phase.unwrap.answer < 2 ^ 60
  pub u : unsigned_abs v.phase.u < 2 ^ 61
  pub room : HasRoom v

-- a four whose times are in their ranges
pub record FitsTimes (f : Four) : Type 0 where
  pub t1 : unsigned_abs f.t1 < 2 ^ 105
  pub t2 : unsigned_abs f.t2 < 2 ^ 105
  pub t3 : unsigned_abs f.t3 < 2 ^ 105
  pub t4 : unsigned_abs f.t4 < 2 ^ 105
  pub u2 : unsigned_abs f.u2 ≤ 2 ^ 63
  pub u3 : unsigned_abs f.u3 ≤ 2 ^ 63

-- limits of at most 10^9
pub record FitsSet (set : ServoSet) : Type 0 where
  pub track : set.track_tau ≤ℤ pos (2 ^ 30)
  pub loop : set.loop_tau ≤ℤ pos (2 ^ 30)
  pub delock : set.delock_samples < set.lock_samples

-- a set in the ranges of a network file, as far as sizes rest on it
pub record FitsServoSet (set : ServoSet) : Type 0 where
  pub limits : FitsSet set
  pub least : pos 0 ≤ℤ set.phase_step
  pub most : set.phase_step ≤ℤ pos (2 ^ 30)

-- what stays of a servo's sizes from call to call
pub record IsSafe (v : Core) : Type 0 where
  pub sized : IsSized v
  pub set : FitsSet v.set
