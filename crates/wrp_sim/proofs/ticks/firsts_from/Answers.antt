use Rattle.std.proofs.Common.{◌∙◌, refl, subst, ℤ, length-set, to_z, of_z, arith}
use Rattle.std.proofs.lemmas.Int.{to_z-of_z}
use Rattle.std.specs.Int.{w128}
use Rattle.wrp_sim.specs.NextTick.{AreFirsts}
use Rattle.wrp_sim.proofs.NextTicks.{all_blocks, blocks_next, no_blocks}
use Rattle.wrp_sim.proofs.ticks.firsts_from.Goals as goal

pub loop-b-init : goal.loop-b-init
loop-b-init c = (refl, no_blocks _ _ _)

pub loop-b-preserved : goal.loop-b-preserved
loop-b-preserved c =
    let b = c.loop-b.b in
    let since : ℤ = to_z w128 (of_z w128 c.args.since) in (
      length-set c.loop-b.firsts b c.first_of_block.result ∙ c.loop-b.invariant.0,
      blocks_next since c.args.times.now b c.loop-b.firsts c.first_of_block.result c.first_of_block.ensures.place
          c.first_of_block.ensures.first c.loop-b.invariant.1,
    )

pub returns : goal.returns
returns c =
    subst (λ (z : ℤ). AreFirsts z c.args.times.now c.loop-b.firsts) (to_z-of_z w128 c.args.since c.ranges.since)
    (all_blocks _ c.args.times.now c.loop-b.b c.loop-b.firsts (omega (arith, c.loop-b.invariant.0)) c.loop-b.invariant.1)
