use Rattle.wrp_servo.proofs.ValidLaws.{becomes_ended}
use Rattle.wrp_servo.proofs.valid.Machine.refuse.Goals as goal

pub invariant_of-self : goal.invariant_of-self
invariant_of-self c = becomes_ended c.self.inside.core _ c.self.invariant c.end.ensures
