use Rattle.wrp_link_up_laws.proofs.Worked as proof
use Rattle.wrp_link_up_laws.proofs.worked_up.Goals as goal

pub returns : goal.returns
returns c = proof.worked_up
