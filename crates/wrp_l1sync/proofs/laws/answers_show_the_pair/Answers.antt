-- By the records that are handled.
use Rattle.wrp_l1sync.proofs.LineAnswerLaws.{answers_show_the_pair}
use Rattle.wrp_l1sync.proofs.laws.answers_show_the_pair.Goals as goal

pub returns : goal.returns
returns c = answers_show_the_pair
