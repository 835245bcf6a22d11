use Rattle.wrp_tracking_laws.proofs.References as proof
use Rattle.wrp_tracking_laws.proofs.tree.reference_bounds.Goals as goal

pub returns : goal.returns
returns c = proof.reference-bounds
