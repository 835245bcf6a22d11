use Rattle.wrp_link_up_laws.proofs.Rest as proof
use Rattle.wrp_link_up_laws.proofs.comes_up_from_rest.Goals as goal

pub returns : goal.returns
returns c = proof.comes_up_from_rest
