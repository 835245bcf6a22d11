-- The calls of a servo, and the servo after a list of them, which has its newest call first (this project's profile).
use Rattle.std.specs.Prelude.{ℕ, ℤ, Bool, true, false, Option, List, [], ◌∷◌}
use Rattle.wrp_base.specs.declared.link.Deltas.{Deltas}
use Rattle.wrp_base.specs.declared.measurement.Four.{Four}
use Rattle.wrp_servo.specs.declared.interface.ServoSet.{ServoSet}
use Rattle.wrp_servo.specs.declared.machine.Core.{Core}
use Rattle.wrp_servo.specs.Table.{new_core, by_reset, by_carrier, by_link, by_lease, by_tick}
use Rattle.wrp_servo.specs.Sampling.{by_sample}
use Rattle.wrp_servo.specs.Measuring.{by_measured}

-- a call; a measurement has the law's answer beside it
pub data Call : Type 0 where
  CallSample : (n : ℕ) (base : ℕ) (bits : ℕ) → Call
  CallMeasured : (four : Four) (answer : ℤ) → Call
  CallTick : Call
  CallLease : (fresh : Bool) → Call
  CallLink : (on : Option Deltas) → Call
  CallCarrier : (up : Bool) → Call
  CallReset : Call

-- the setting of a servo: what it is set to, and the range of its law
pub record ServoSetting : Type 0 where
  pub set : ServoSet
  pub lo : ℤ
  pub hi : ℤ

-- the servo after one more call
abbrev pub after : ServoSetting → Core → Call → Core
after x v (CallSample n base bits) = by_sample v n base bits
after x v (CallMeasured four answer) = by_measured x.lo x.hi v four answer
after x v CallTick = by_tick v
after x v (CallLease fresh) = by_lease v fresh
after x v (CallLink on) = by_link v on
after x v (CallCarrier up) = by_carrier v up
after x v CallReset = by_reset v

-- the servo after a list of calls, the newest first
abbrev pub run : ServoSetting → List Call → Core
run x [] = new_core x.set
run x (call ∷ calls) = after x (run x calls) call

-- a call is a reset
abbrev pub is_reset : Call → Bool
is_reset CallReset = true
is_reset _ = false
