use Rattle.std.proofs.Common.{ap}
use Rattle.wrp_course.specs.declared.clocks.ClockState.{ClockState}
use Rattle.wrp_world.proofs.Inside.{plant_is}
use Rattle.wrp_world.proofs.world.World.is_up.Goals as goal

pub returns : goal.returns
returns g c s w h = ap (λ (k : ClockState). k.up) (c.clock.ensures.value s w (plant_is _ s w c.args.self.now c.self.inside.plant c.self.inside.nodes.items c.self.view_is h))
