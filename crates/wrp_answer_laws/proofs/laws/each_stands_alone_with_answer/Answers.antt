-- Each command by its own records.
use Rattle.wrp_answer_laws.proofs.StandingAlone.{each_stands_alone_with_answer}
use Rattle.wrp_answer_laws.proofs.laws.each_stands_alone_with_answer.Goals as goal

pub returns : goal.returns
returns c = each_stands_alone_with_answer
