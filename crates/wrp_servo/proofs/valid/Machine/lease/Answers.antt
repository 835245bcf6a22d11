use Rattle.std.proofs.Common.{pos}
use Rattle.wrp_servo.specs.Call.{CallLease}
use Rattle.wrp_servo.proofs.ValidLaws.{becomes}
use Rattle.wrp_servo.proofs.valid.Machine.lease.Goals as goal

pub invariant_of-self : goal.invariant_of-self
invariant_of-self c = becomes (record { set = c.self.inside.core.set; lo = pos 0; hi = pos 0 }) c.self.inside.core _ (CallLease c.args.fresh) tt c.self.invariant c.lease.ensures
