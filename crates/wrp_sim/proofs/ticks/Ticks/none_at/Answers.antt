use Rattle.std.proofs.Common.{◌∙◌, ap, sym, subst, ℤ, List}
use Rattle.std.proofs.lemmas.Int.{to_z-of_z}
use Rattle.std.specs.Int.{w128}
use Rattle.wrp_sim.specs.NextTick.{IsKept, is_ahead}
use Rattle.wrp_sim.proofs.NextTicks.{none_now}
use Rattle.wrp_sim.proofs.ticks.Ticks.none_at.Goals as goal

pub returns : goal.returns
returns c = λ is n t e.
    let it : IsKept c.args.self.now c.self.inside.firsts c.self.inside.soonest =
    subst (λ (xs : List ℤ). IsKept xs c.self.inside.firsts c.self.inside.soonest) c.self.view_is c.self.invariant in
    none_now c.args.now c.self.inside.soonest.since c.self.inside.soonest.first n t
    (ap (is_ahead c.self.inside.soonest) (sym (to_z-of_z w128 c.args.now c.ranges.now)) ∙ sym c.is_ahead.ensures ∙ is)
    (it.soonest.least n t e)
