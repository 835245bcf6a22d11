use Rattle.std.proofs.Common.{◌∙◌, ap, sym, subst, ◌<◌, ℤ, List, arith}
use Rattle.std.proofs.lemmas.Int.{to_z-of_z}
use Rattle.std.specs.Int.{w128}
use Rattle.wrp_sim.specs.NextTick.{IsKept, is_left}
use Rattle.wrp_sim.proofs.NextTicks.{none_earlier}
use Rattle.wrp_sim.proofs.ticks.Ticks.place_at.Goals as goal

pub returns-then-is_left : goal.returns-then-is_left
returns-then-is_left c = λ n t l e.
    let it : IsKept c.args.self.now c.self.inside.firsts c.self.inside.soonest =
    subst (λ (xs : List ℤ). IsKept xs c.self.inside.firsts c.self.inside.soonest) c.self.view_is c.self.invariant in
    let earlier : n < c.self.inside.soonest.first.place = omega (arith, l, c.as_node.ensures) in
    none_earlier c.args.now c.self.inside.soonest.since c.self.inside.soonest.first n t
    (ap (is_left c.self.inside.soonest) (sym (to_z-of_z w128 c.args.now c.ranges.now)) ∙ sym c.is_left.ensures ∙ c.if-is_left.true)
    earlier (it.soonest.least n t e)

pub returns-else-is_left : goal.returns-else-is_left
returns-else-is_left c = λ n t l e. absurd (omega (arith, l))
