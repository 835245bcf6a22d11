use Rattle.wrp_calibration_text.proofs.OneText.{one_text as law}
use Rattle.wrp_calibration_text.proofs.laws.one_text.Goals as goal

pub returns : goal.returns
returns c = law
