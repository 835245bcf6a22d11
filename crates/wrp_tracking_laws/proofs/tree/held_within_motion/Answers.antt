use Rattle.wrp_tracking_laws.proofs.Trees as proof
use Rattle.wrp_tracking_laws.proofs.tree.held_within_motion.Goals as goal

pub returns : goal.returns
returns c = proof.held-within
