-- By the answer of the runs.
use Rattle.wrp_calib.proofs.LinesTelling.{lines_tell_truth}
use Rattle.wrp_calib.proofs.laws.lines_tell_truth.Goals as goal

pub returns : goal.returns
returns c = lines_tell_truth
