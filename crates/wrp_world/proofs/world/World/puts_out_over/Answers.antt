use Rattle.wrp_world.proofs.Inside.{plant_is}
use Rattle.wrp_world.proofs.world.World.puts_out_over.Goals as goal

pub returns : goal.returns
returns g c s w h = c.puts_out_over.ensures s w (plant_is _ s w c.args.self.now c.self.inside.plant c.self.inside.nodes.items c.self.view_is h)
