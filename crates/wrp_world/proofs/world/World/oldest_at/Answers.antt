use Rattle.wrp_world.proofs.Inside.{plant_is}
use Rattle.wrp_world.proofs.world.World.oldest_at.Goals as goal

pub returns : goal.returns
returns g c s w h = c.oldest_at.ensures.value s w (plant_is _ s w c.args.self.now c.self.inside.plant c.self.inside.nodes.items c.self.view_is h)
