use Rattle.wrp_link.proofs.Timers as proof
use Rattle.wrp_link.proofs.laws.unheard_fails.Goals as goal

pub returns : goal.returns
returns c = proof.unheard_fails
