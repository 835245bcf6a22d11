use Rattle.std.proofs.Common.{pos}
use Rattle.wrp_servo.specs.Call.{CallTick}
use Rattle.wrp_servo.proofs.ValidLaws.{becomes}
use Rattle.wrp_servo.proofs.valid.Machine.tick.Goals as goal

pub invariant_of-self : goal.invariant_of-self
invariant_of-self c = becomes (record { set = c.self.inside.core.set; lo = pos 0; hi = pos 0 }) c.self.inside.core _ CallTick tt c.self.invariant c.tick.ensures
