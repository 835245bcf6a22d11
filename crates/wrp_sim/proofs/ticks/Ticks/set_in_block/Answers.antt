use Rattle.std.proofs.Common.{rules, FitsSigned, ◌≡◌, ◌+◌, ◌*◌, ◌/◌, ◌≤ℤ◌, sym, subst, ℤ, List, length, length-set, slice_set, to_z, of_z, arith}
use Rattle.std.proofs.lemmas.Int.{ints}
use Rattle.std.specs.Int.{w128}
use Rattle.wrp_sim.specs.declared.ticks.First.{First}
use Rattle.wrp_sim.specs.NextTick.{AreFirsts, HasBlocks, IsFirstOf}
use Rattle.wrp_sim.proofs.NextTicks.{firsts_set}
use Rattle.wrp_sim.proofs.ticks.Ticks.set_in_block.Goals as goal

pub invariant_of-self : goal.invariant_of-self
invariant_of-self c =
    let n = c.args.n in
    let time : ℤ = to_z w128 (of_z w128 c.args.time) in
    let ticks : List ℤ = slice_set c.self.inside.times.items n time in
    let since : ℤ = to_z w128 (of_z w128 c.later_of-since.result) in
    let first = c.first_of_block.result in
    let firsts : List First = slice_set c.self.inside.firsts (n / 8) first in
    let has : HasBlocks (length c.self.inside.times.items) = subst (λ (xs : List ℤ). HasBlocks (length xs)) (sym c.self.view_is) c.requires.blocks in
    let count : length ticks ≡ length c.self.inside.times.items = length-set c.self.inside.times.items n time in
    let old_fits : FitsSigned w128 c.self.inside.soonest.since = search rules in
    let since_fits : FitsSigned w128 c.later_of-since.result = search rules in
    let later : c.self.inside.soonest.since ≤ℤ since = omega (arith, ints, c.later_of-since.ensures) in
    let least : IsFirstOf since ticks (n / 8 * 8) (n / 8 * 8 + 8) first =
    subst (λ (xs : List ℤ). IsFirstOf since xs (n / 8 * 8) (n / 8 * 8 + 8) first) c.as_slice.ensures.value c.first_of_block.ensures.first in
    let are : AreFirsts since ticks firsts =
    firsts_set c.self.inside.soonest.since since c.self.inside.times.items n time c.self.inside.firsts first later (c.self.invariant.blocks has)
    c.first_of_block.ensures.place least in
    record {
      soonest = c.soonest_of-self-inside.ensures.soonest ticks are (omega (arith, count, has.1));
      blocks = λ many. subst (λ (z : ℤ). AreFirsts z ticks firsts) (sym c.soonest_of-self-inside.ensures.since) are;
    }
