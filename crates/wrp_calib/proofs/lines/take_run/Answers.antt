-- The run of a further record is the newest.
use Rattle.csv.specs.Records.{fields_of}
use Rattle.wrp_calib.specs.Run.{run_of}
use Rattle.wrp_calib.proofs.LineLemmas.{takes_run}
use Rattle.wrp_calib.proofs.lines.take_run.Goals as goal

pub returns : goal.returns
returns c =
    takes_run (fields_of c.args.row.now) (run_of c.in_ok-run.run'.kind c.in_ok-run.run'.times) c.args.calib.now c.add.new.self c.in_ok-run.ensures.value c.add.ensures
