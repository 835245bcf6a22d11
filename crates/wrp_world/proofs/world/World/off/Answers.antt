use Rattle.std.proofs.Common.{◌∙◌, ap, arith}
use Rattle.wrp_course.specs.declared.clocks.ClockState.{ClockState}
use Rattle.wrp_world.proofs.Inside.{plant_is}
use Rattle.wrp_plant.proofs.SignedReads.{read}
use Rattle.wrp_world.proofs.world.World.off.Goals as goal

pub returns : goal.returns
returns g c s w h =
    read c.clock.result.now.off (omega (arith, c.clock.ensures.off))
    ∙ ap (λ (k : ClockState). k.off) (c.clock.ensures.value s w (plant_is _ s w c.args.self.now c.self.inside.plant c.self.inside.nodes.items c.self.view_is h))
