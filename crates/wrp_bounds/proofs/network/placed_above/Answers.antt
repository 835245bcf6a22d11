-- The link that is found is one of the network's.
use Rattle.wrp_bounds.proofs.Placed.{placed_where_found}
use Rattle.wrp_bounds.proofs.network.placed_above.Goals as goal

pub returns-clause-placed : goal.returns-clause-placed
returns-clause-placed c =
    placed_where_found c.args.cfg.now c.args.n c.link_above.result c.requires.ranges c.requires.tree c.link_above.ensures
