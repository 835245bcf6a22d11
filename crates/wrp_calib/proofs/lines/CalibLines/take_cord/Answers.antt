-- Record 2 is held.
use Rattle.csv.specs.Records.{fields_of}
use Rattle.wrp_calib.proofs.LineLemmas.{takes_cord}
use Rattle.wrp_calib.proofs.lines.CalibLines.take_cord.Goals as goal

pub returns-clause-taken : goal.returns-clause-taken
returns-clause-taken c =
    takes_cord (fields_of c.args.row.now) c.args.e c.in_ok-cord.cord.d c.in_ok-cord.cord.ep c.args.self.now.held c.new-calib.result c.requires.error c.in_ok-cord.ensures.value c.new-calib.ensures
