-- By its own lemma.
use Rattle.wrp_frame.proofs.Saying.{each_says}
use Rattle.wrp_due_laws.proofs.laws.each_says.Goals as goal

pub returns : goal.returns
returns c = each_says
