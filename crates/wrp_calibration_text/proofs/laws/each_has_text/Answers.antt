use Rattle.wrp_calibration_text.proofs.OneText.{each_has_text as law}
use Rattle.wrp_calibration_text.proofs.laws.each_has_text.Goals as goal

pub returns : goal.returns
returns c = law
