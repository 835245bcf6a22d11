use Rattle.std.proofs.Common.{◌≡◌, ◌∙◌, ap, sym, subst, ℕ, ℤ, List, IfSome, Some, slice_get}
use Rattle.std.proofs.lemmas.Int.{to_z-of_z}
use Rattle.std.specs.Int.{w128}
use Rattle.wrp_sim.specs.NextTick.{IsKept, is_ahead}
use Rattle.wrp_sim.proofs.NextTicks.{some_next}
use Rattle.wrp_sim.proofs.ticks.Ticks.next.Goals as goal

pub returns-then-is_ahead : goal.returns-then-is_ahead
returns-then-is_ahead c =
    let it : IsKept c.args.self.now c.self.inside.firsts c.self.inside.soonest =
    subst (λ (xs : List ℤ). IsKept xs c.self.inside.firsts c.self.inside.soonest) c.self.view_is c.self.invariant in
    some_next c.args.now c.self.inside.soonest.since c.self.inside.soonest.first c.args.self.now c.at_place.result it.soonest.least
    (ap (is_ahead c.self.inside.soonest) (sym (to_z-of_z w128 c.args.now c.ranges.now)) ∙ sym c.is_ahead.ensures ∙ c.if-is_ahead.true)
    (subst (λ (xs : List ℤ). IfSome c.at_place.result (λ (next : ℕ × ℤ). (next.1 ≡ c.self.inside.soonest.first.best) × (slice_get xs next.0 ≡ Some next.1)))
    (c.as_slice.ensures.value ∙ c.self.view_is) c.at_place.ensures)
