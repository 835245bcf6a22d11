-- A node of the network has its numbers in their ranges.
use Rattle.wrp_bounds.proofs.Placed.{node_read}
use Rattle.wrp_bounds.proofs.network.node_at.Goals as goal

pub returns-clause-ranges : goal.returns-clause-ranges
returns-clause-ranges c =
    c.requires.ranges.nodes c.args.n c.index-deref-from.result
    (node_read c.deref.result.now c.args.cfg.now.nodes.items c.from.result c.args.n c.index-deref-from.result c.deref.ensures.0 c.from.ensures c.requires.node c.index-deref-from.is)
