-- The kept ends give the expected answer, and it is true.
use Rattle.std.proofs.Common.{◌∙◌, sym, subst}
use Rattle.wrp_calib.proofs.Telling.{answer_at-is}
use Rattle.wrp_calib.proofs.Holding.{answer_of-tells}
use Rattle.wrp_calib.specs.Truth.{TellsTruth}
use Rattle.wrp_calib.proofs.calibration.Calib.answer.Goals as goal

pub returns-clause-value : goal.returns-clause-value
returns-clause-value c errors runs stands = c.told.ensures ∙ answer_at-is errors _ runs stands

pub returns-clause-truth : goal.returns-clause-truth
returns-clause-truth c errors runs delays stands came keeps =
    subst (TellsTruth delays) (sym (c.told.ensures ∙ answer_at-is errors _ runs stands))
    (answer_of-tells errors delays runs came keeps)
