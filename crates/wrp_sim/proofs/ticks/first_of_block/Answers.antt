use Rattle.std.proofs.Common.{subst, ◌+◌, ◌*◌, ℤ}
use Rattle.std.proofs.lemmas.Int.{to_z-of_z}
use Rattle.std.specs.Int.{w128}
use Rattle.wrp_sim.specs.NextTick.{IsFirstOf}
use Rattle.wrp_sim.proofs.ticks.first_of_block.Goals as goal

pub returns-clause-first : goal.returns-clause-first
returns-clause-first c =
    subst (λ (z : ℤ). IsFirstOf z c.args.times.now (c.args.b * 8) (c.args.b * 8 + 8) c.first_in.result)
    (to_z-of_z w128 c.args.since c.ranges.since) c.first_in.ensures.first
