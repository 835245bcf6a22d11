-- Line by line, and then at the end.
use Rattle.wrp_calib.proofs.InputsAnswered.{each_input_has_answer}
use Rattle.wrp_calib.proofs.laws.each_input_has_answer.Goals as goal

pub returns : goal.returns
returns c = each_input_has_answer
