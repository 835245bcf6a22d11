use Rattle.std.proofs.Common.{◌∙◌, ap₂, ◌+ℤ◌, arith}
use Rattle.wrp_plant.proofs.SignedReads.{read}
use Rattle.wrp_plant.proofs.plant.Plant.reading.Goals as goal

pub returns-clause-value : goal.returns-clause-value
returns-clause-value c s w h =
    read c.sum.result (omega (arith, c.sum.ensures.size)) ∙ c.sum.ensures.value ∙ ap₂ (λ a b. a +ℤ b)
    (read c.now-now.result (omega (arith, c.now-now.ensures.size)) ∙ c.now-now.ensures.value ∙ h.time)
    (read c.off-off.result (omega (arith, c.off-off.ensures.size)) ∙ c.off-off.ensures.value s w h)
