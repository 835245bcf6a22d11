use Rattle.std.proofs.Common.{◌∙◌, ap, arith}
use Rattle.wrp_plant.proofs.SignedReads.{read}
use Rattle.wrp_course.specs.declared.clocks.ClockState.{ClockState}
use Rattle.wrp_plant.proofs.plant.Plant.off.Goals as goal

pub returns-clause-value : goal.returns-clause-value
returns-clause-value c s w h = read c.clock.result.now.off (omega (arith, c.clock.ensures.off)) ∙ ap (λ (k : ClockState). k.off) (c.clock.ensures.value s w h)
