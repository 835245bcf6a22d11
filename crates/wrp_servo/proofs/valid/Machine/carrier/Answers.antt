use Rattle.std.proofs.Common.{pos}
use Rattle.wrp_servo.specs.Call.{CallCarrier}
use Rattle.wrp_servo.proofs.ValidLaws.{becomes}
use Rattle.wrp_servo.proofs.valid.Machine.carrier.Goals as goal

pub invariant_of-self : goal.invariant_of-self
invariant_of-self c = becomes (record { set = c.self.inside.core.set; lo = pos 0; hi = pos 0 }) c.self.inside.core _ (CallCarrier c.args.up) tt c.self.invariant c.carrier.ensures
