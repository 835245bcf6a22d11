use Rattle.wrp_tracking_laws.proofs.Trees as proof
use Rattle.wrp_tracking_laws.proofs.tree.tree_sum.Goals as goal

pub returns : goal.returns
returns c = proof.tree-sum
