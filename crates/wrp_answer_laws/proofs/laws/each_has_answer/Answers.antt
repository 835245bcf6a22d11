-- Request by request, and then line by line.
use Rattle.wrp_answer_laws.proofs.EachAnswered.{each_has_answer}
use Rattle.wrp_answer_laws.proofs.laws.each_has_answer.Goals as goal

pub returns : goal.returns
returns c = each_has_answer c.reading_is_accepted.ensures
