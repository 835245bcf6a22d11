use Rattle.std.proofs.Common.{◌∙◌, arith}
use Rattle.wrp_plant.proofs.SignedReads.{read}
use Rattle.wrp_plant.proofs.Standing.{down_told}
use Rattle.wrp_premises.proofs.tries.delay_down.Goals as goal

pub returns-clause-value : goal.returns-clause-value
returns-clause-value c s w h =
    read c.down.result (omega (arith, c.down.ensures.size)) ∙ c.down.ensures.value ∙ down_told w c.args.k c.span-span.result.now (h.spans c.args.k c.span-span.result.now c.span-span.ensures.value)
