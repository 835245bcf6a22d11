use Rattle.wrp_tracking_laws.proofs.Parts as proof
use Rattle.wrp_tracking_laws.proofs.invariant.parts_give_bound.Goals as goal

pub returns : goal.returns
returns c = proof.parts-give_bound
