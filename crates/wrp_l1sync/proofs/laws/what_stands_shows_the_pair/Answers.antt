-- By the records that are handled.
use Rattle.wrp_l1sync.proofs.LineAnswerLaws.{what_stands_shows_the_pair}
use Rattle.wrp_l1sync.proofs.laws.what_stands_shows_the_pair.Goals as goal

pub returns : goal.returns
returns c = what_stands_shows_the_pair
