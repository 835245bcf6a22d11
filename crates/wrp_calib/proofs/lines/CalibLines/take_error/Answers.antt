-- Record 1 is held.
use Rattle.csv.specs.Records.{fields_of}
use Rattle.wrp_calib.proofs.LineLemmas.{takes_error}
use Rattle.wrp_calib.proofs.lines.CalibLines.take_error.Goals as goal

pub returns-clause-taken : goal.returns-clause-taken
returns-clause-taken c =
    takes_error (fields_of c.args.row.now) c.in_ok-e.e c.args.self.now.held c.requires.nothing c.in_ok-e.ensures.value
