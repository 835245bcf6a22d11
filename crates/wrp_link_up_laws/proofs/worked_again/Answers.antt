use Rattle.wrp_link_up_laws.proofs.Again as proof
use Rattle.wrp_link_up_laws.proofs.worked_again.Goals as goal

pub returns : goal.returns
returns c = proof.worked_again
