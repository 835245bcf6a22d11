-- A tick counts for each kept measurement.
use Rattle.wrp_plain.proofs.Marks.{AreKept-later}
use Rattle.wrp_plain.proofs.Adding.{Adds-tick}
use Rattle.wrp_plain.proofs.servo.Plain.age.Goals as goal

pub invariant_of-self : goal.invariant_of-self
invariant_of-self c =
    (c.self.invariant.0, c.self.invariant.1, c.self.invariant.2, c.self.invariant.3, AreKept-later _ _ c.self.invariant.4)

pub returns-clause-stands : goal.returns-clause-stands
returns-clause-stands c = Adds-tick _ _ _ _ _ c.self.view_is c.self.invariant.4
