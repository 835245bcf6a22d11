use Rattle.std.proofs.Common.{ap}
use Rattle.wrp_course.specs.declared.clocks.ClockState.{ClockState}
use Rattle.wrp_plant.proofs.plant.Plant.is_up.Goals as goal

pub returns : goal.returns
returns c s w h = ap (λ (k : ClockState). k.up) (c.clock.ensures.value s w h)
