use Rattle.std.proofs.Common.{sym, subst, ◌+◌, ◌*◌, ◌<◌, ◌≤◌, ◌⊎◌, ℤ, ◌<ℤ◌, length, arith}
use Rattle.std.proofs.lemmas.Int.{to_z-of_z}
use Rattle.std.proofs.lemmas.Option.{slice_get_within}
use Rattle.std.specs.Int.{w128}
use Rattle.std.specs.Int.Signed.{lt_z}
use Rattle.wrp_sim.specs.declared.ticks.First.{First}
use Rattle.wrp_sim.specs.NextTick.{IsFirstOf, IsNoEarlier}
use Rattle.wrp_sim.proofs.NextTicks.{block_next, earlier_place}
use Rattle.wrp_sim.proofs.ticks.soonest_of.Goals as goal

pub loop-b-init : goal.loop-b-init
loop-b-init c = λ since ticks all. (omega arith, λ n t low high e. absurd (omega (arith, high)))

pub loop-b-preserved : goal.loop-b-preserved
loop-b-preserved c = λ since ticks all.
    let b = c.loop-b.b in
    let first = c.loop-b.first in
    let other = c.first_at.result in
    let held = c.loop-b.invariant since ticks all in
    let place : other.place ≤ b * 8 + 8 = all.place b other c.first_at.ensures in (
      subst (λ (f : First). f.place ≤ (b + 1) * 8) (sym c.earlier_of-first.ensures)
          (earlier_place (lt_z other.best first.best) first other ((b + 1) * 8) (omega (arith, held.0)) (omega (arith, place))),
      subst (λ (f : First). IsFirstOf since ticks 0 ((b + 1) * 8) f) (sym c.earlier_of-first.ensures)
          (block_next since ticks b first other held.0 held.1 (all.least b other c.first_at.ensures)),
    )

pub returns-clause-soonest : goal.returns-clause-soonest
returns-clause-soonest c = λ ticks all few. record {
  least = λ n t e.
      let within : n < length ticks = slice_get_within ticks n t e in
      let reached : n < c.loop-b.b * 8 = omega (arith, within, few, c.loop-b-test.false) in
      subst (λ (z : ℤ). (t <ℤ z) ⊎ IsNoEarlier c.loop-b.first n t) (sym (to_z-of_z w128 c.args.since c.ranges.since))
      ((c.loop-b.invariant c.args.since ticks all).1 n t (omega arith) reached e);
}
