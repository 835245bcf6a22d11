use Rattle.std.proofs.Common.{◌∙◌, ap₂, ◌+ℤ◌, arith}
use Rattle.wrp_plant.proofs.SignedReads.{read}
use Rattle.wrp_premises.proofs.tries.phase.Goals as goal

pub returns-clause-value : goal.returns-clause-value
returns-clause-value c s w h =
    read c.sum.result (omega (arith, c.sum.ensures.size)) ∙ c.sum.ensures.value ∙ ap₂ (λ a b. a +ℤ b)
    (read c.apart-apart.result (omega (arith, c.apart-apart.ensures.size)) ∙ c.apart-apart.ensures.value s w h)
    (read c.delay_down-down.result (omega (arith, c.delay_down-down.ensures.size)) ∙ c.delay_down-down.ensures.value s w h)
