-- By its own lemma.
use Rattle.wrp_answer_laws.proofs.Listed.{replay_of_listed}
use Rattle.wrp_answer_laws.proofs.laws.replay_of_listed_inputs.Goals as goal

pub returns : goal.returns
returns c = replay_of_listed c.replay_of_emitted_inputs.ensures
