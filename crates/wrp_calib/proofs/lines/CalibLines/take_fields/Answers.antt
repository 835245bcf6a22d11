-- Which record is the next one, by what is held.
use Rattle.csv.specs.Records.{fields_of}
use Rattle.wrp_calib.specs.declared.lines.Held.TheVariants.{Error}
use Rattle.wrp_calib.proofs.LineLemmas.{held_as}
use Rattle.wrp_calib.proofs.lines.CalibLines.take_fields.Goals as goal

pub returns-in-Error-clause-taken : goal.returns-in-Error-clause-taken
returns-in-Error-clause-taken c =
    held_as c.args.self.now c.take_cord.new.self (Error c.in-Error.e) (fields_of c.args.row.now) c.take_cord.result c.in-Error.is c.take_cord.ensures.taken
