-- A call of a servo brings at most one tick.
use Rattle.std.proofs.Common.{◌≡◌, ◌+◌, ◌≤◌, sym, subst}
use Rattle.wrp_servo.specs.Call.{Call}
use Rattle.wrp_servo.specs.Servo.{ServoOf, after_call, servo_setting_of}
use Rattle.wrp_servo.specs.Told.{CountsOneTick}

pub ticks-grow : {F : Type 0} → CountsOneTick → (old new : ServoOf F) (call : Call) → new ≡ after_call old call → new.core.ticks ≤ old.core.ticks + 1
ticks-grow {F} law old new call is =
    subst (λ (s : ServoOf F). s.core.ticks ≤ old.core.ticks + 1) (sym is)
    (law (servo_setting_of old.core.set old.law) old.core call)
