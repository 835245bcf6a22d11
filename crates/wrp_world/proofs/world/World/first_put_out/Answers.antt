use Rattle.wrp_world.proofs.FirstNodes.{first_node}
use Rattle.wrp_world.proofs.Inside.{plant_is}
use Rattle.wrp_world.proofs.world.World.first_put_out.Goals as goal

pub returns-clause-value : goal.returns-clause-value
returns-clause-value g c s w h = c.first_put_out.ensures s w (plant_is _ s w c.args.self.now c.self.inside.plant c.self.inside.nodes.items c.self.view_is h)

pub returns-clause-node : goal.returns-clause-node
returns-clause-node g c = first_node _ _ c.args.self.now c.first_put_out.result c.requires (returns-clause-value g c)
