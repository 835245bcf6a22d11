-- By its own lemma.
use Rattle.wrp_answer_laws.proofs.LoopAgain.{loop_audited_again}
use Rattle.wrp_answer_laws.proofs.again.loop_is_audited_again.Goals as goal

pub returns : goal.returns
returns c = loop_audited_again c.reading_is_accepted.ensures c.loop_is_audited.ensures c.looped_events_carry_parts.ensures
