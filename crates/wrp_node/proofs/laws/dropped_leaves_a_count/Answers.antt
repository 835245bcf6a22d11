-- By what is dropped, and by what the servo knows.
use Rattle.wrp_node.proofs.Drops.{drop_law}
use Rattle.wrp_node.proofs.laws.dropped_leaves_a_count.Goals as goal

pub returns : goal.returns
returns c = drop_law
