-- A command moves each kept measurement.
use Rattle.std.proofs.lemmas.Int.{to_z-of_z}
use Rattle.wrp_plain.proofs.Adding.{Adds-command}
use Rattle.wrp_plain.proofs.servo.Plain.steer.Goals as goal

pub returns-clause-stands : goal.returns-clause-stands
returns-clause-stands c = rw (to_z-of_z _ c.args.command c.ranges.command) (Adds-command _ _ _ _ _ _ c.self.view_is c.requires.last)
