-- Drops, after every list of inputs.
use Rattle.wrp_lookback_laws.proofs.NodeDrops.{drops_only_count}
use Rattle.wrp_lookback_laws.proofs.node.drops_only_count.Goals as goal

pub returns : goal.returns
returns c = drops_only_count c.step_settles.ensures c.dropped_leaves_a_count.ensures
