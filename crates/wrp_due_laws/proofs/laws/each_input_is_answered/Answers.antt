-- By its own lemma.
use Rattle.wrp_due_laws.proofs.Measuring.{step_answered}
use Rattle.wrp_due_laws.proofs.laws.each_input_is_answered.Goals as goal

pub returns : goal.returns
returns c = step_answered
