-- By the delivery that the end heard last, and the tick that sent its message.
use Rattle.wrp_l1sync.proofs.TheoremLaws.{up_ends_agree}
use Rattle.wrp_l1sync.proofs.laws.up_ends_agree.Goals as goal

pub returns : goal.returns
returns c = up_ends_agree
