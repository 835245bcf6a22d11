-- By what is expected after the lines.
use Rattle.wrp_calib.proofs.InputsTelling.{inputs_tell_truth}
use Rattle.wrp_calib.proofs.laws.inputs_tell_truth.Goals as goal

pub returns : goal.returns
returns c = inputs_tell_truth
