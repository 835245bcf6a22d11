use Rattle.wrp_world.proofs.Inside.{plant_is}
use Rattle.wrp_world.proofs.world.World.node_at.Goals as goal

pub returns-clause-value : goal.returns-clause-value
returns-clause-value g c s w h = c.node_at.ensures.value s w (plant_is _ s w c.args.self.now c.self.inside.plant c.self.inside.nodes.items c.self.view_is h)
