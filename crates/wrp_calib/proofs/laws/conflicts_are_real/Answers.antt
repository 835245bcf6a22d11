-- If delays keep the errors there is an answer, or a strand may be too short.
use Rattle.wrp_calib.proofs.LinesTelling.{conflicts_are_real}
use Rattle.wrp_calib.proofs.laws.conflicts_are_real.Goals as goal

pub returns : goal.returns
returns c = conflicts_are_real
