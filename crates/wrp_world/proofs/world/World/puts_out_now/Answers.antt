use Rattle.std.proofs.Common.{◌∙◌, sym}
use Rattle.wrp_plant.proofs.PutOuts.{none_put_out}
use Rattle.wrp_world.proofs.Inside.{plant_is}
use Rattle.wrp_world.proofs.world.World.puts_out_now.Goals as goal

pub returns-clause-value : goal.returns-clause-value
returns-clause-value g c s w h = c.puts_out_now.ensures s w (plant_is _ s w c.args.self.now c.self.inside.plant c.self.inside.nodes.items c.self.view_is h)

pub returns-clause-none : goal.returns-clause-none
returns-clause-none g c e s w h =
    none_put_out s w (sym (c.puts_out_now.ensures s w (plant_is _ s w c.args.self.now c.self.inside.plant c.self.inside.nodes.items c.self.view_is h)) ∙ e)
