-- Line by line, and then at the end.
use Rattle.wrp_answer_laws.proofs.Replaying.{each_replay_has_answer}
use Rattle.wrp_answer_laws.proofs.laws.each_replay_has_answer.Goals as goal

pub returns : goal.returns
returns c = each_replay_has_answer
