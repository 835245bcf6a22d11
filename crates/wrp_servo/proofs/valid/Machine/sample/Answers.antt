use Rattle.std.proofs.Common.{pos}
use Rattle.wrp_servo.specs.Call.{CallSample}
use Rattle.wrp_servo.proofs.ValidLaws.{becomes}
use Rattle.wrp_servo.proofs.valid.Machine.sample.Goals as goal

pub invariant_of-self : goal.invariant_of-self
invariant_of-self c = becomes (record { set = c.self.inside.core.set; lo = pos 0; hi = pos 0 }) c.self.inside.core _ (CallSample c.args.n c.args.base c.args.bits) tt c.self.invariant c.sample.ensures.state
