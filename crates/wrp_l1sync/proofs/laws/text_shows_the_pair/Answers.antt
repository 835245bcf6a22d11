-- By the events that the lines say.
use Rattle.wrp_l1sync.proofs.LineTheoremLaws.{text_shows_the_pair}
use Rattle.wrp_l1sync.proofs.laws.text_shows_the_pair.Goals as goal

pub returns : goal.returns
returns c = text_shows_the_pair
