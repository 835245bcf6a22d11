use Rattle.wrp_link_up_laws.proofs.Proved as proof
use Rattle.wrp_link_up_laws.proofs.comes_up.Goals as goal

pub returns : goal.returns
returns c = proof.comes_up
