use Rattle.std.proofs.Common.{rules, FitsSigned, ◌≡◌, ◌∙◌, ap, sym, subst, ◌+◌, ◌<◌, ◌≤◌, ◌⊎◌, ℤ, ◌<ℤ◌, length, to_z, of_z, arith}
use Rattle.std.proofs.lemmas.Int.{to_z-of_z}
use Rattle.std.proofs.lemmas.Option.{slice_get_within}
use Rattle.std.specs.Int.{w128}
use Rattle.wrp_sim.specs.declared.ticks.First.{First}
use Rattle.wrp_sim.specs.NextTick.{IsFirstOf, IsNoEarlier, sooner_of}
use Rattle.wrp_sim.proofs.NextTicks.{first_next, sooner_place}
use Rattle.wrp_sim.proofs.ticks.first_in.Goals as goal

pub loop-n-init : goal.loop-n-init
loop-n-init c = (omega arith, omega arith, λ n t low high e. absurd (omega (arith, low, high)))

pub loop-n-preserved : goal.loop-n-preserved
loop-n-preserved c =
    let fits : FitsSigned w128 c.time_at-at.result = search rules in
    let first = c.loop-n.first in
    let at = c.time_at-at.result in
    let n = c.loop-n.n in
    let since : ℤ = to_z w128 (of_z w128 c.args.since) in
    let is : c.sooner_of-first.result ≡ sooner_of since first at n =
    c.sooner_of-first.ensures ∙ ap (λ (t : ℤ). sooner_of since first t n) (to_z-of_z w128 at fits) in
    let within : n ≤ c.args.end = omega (arith, c.loop-n-test.true, c.end_in-last.ensures.most) in (
      subst (λ (f : First). f.place ≤ n + 1) (sym is)
          (sooner_place since first at n (n + 1) (omega (arith, c.loop-n.invariant.0)) (omega arith)),
      subst (λ (f : First). f.place ≤ c.args.end) (sym is)
          (sooner_place since first at n c.args.end c.loop-n.invariant.1 within),
      subst (λ (f : First). IsFirstOf since c.args.times.now c.args.start (n + 1) f) (sym is)
          (first_next since c.args.times.now c.args.start n first at c.time_at-at.ensures c.loop-n.invariant.0 c.loop-n.invariant.2),
    )

pub returns-clause-place : goal.returns-clause-place
returns-clause-place c = c.loop-n.invariant.1

pub returns-clause-first : goal.returns-clause-first
returns-clause-first c = λ n t low high e.
    let within : n < length c.args.times.now = slice_get_within c.args.times.now n t e in
    let reached : n < c.loop-n.n = omega (arith, c.loop-n-test.false, c.end_in-last.ensures.whole n high within) in
    subst (λ (z : ℤ). (t <ℤ z) ⊎ IsNoEarlier c.loop-n.first n t) (to_z-of_z w128 c.args.since c.ranges.since)
    (c.loop-n.invariant.2 n t low reached e)
