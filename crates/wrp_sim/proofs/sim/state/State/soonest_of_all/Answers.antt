-- The tick times of the nodes that are up are tried one after another.
use Rattle.std.proofs.Common.{◌≡◌, ◌∙◌, ap, ap₂, sym, subst, ℕ, ℤ, ◌≤◌, ◌^◌, unsigned_abs, fold, map, filter, arith}
use Rattle.std.proofs.lemmas.Int.{ints}
use Rattle.wrp_network.specs.declared.configuration.NetCfg.{NetCfg}
use Rattle.wrp_network.specs.Network.{node_count}
use Rattle.wrp_course.specs.Setting.{from_on}
use Rattle.wrp_plant.proofs.SignedReads.{read}
use Rattle.wrp_sim.specs.Rules.{sooner}
use Rattle.wrp_sim.proofs.Moments.{tried_node, tried_nodes, untried_nodes}
use Rattle.wrp_sim.proofs.sim.state.State.soonest_of_all.Goals as goal

pub loop-n-init : goal.loop-n-init
loop-n-init g c =
    let now = read c.args.now (omega (arith, c.requires.now)) in
    let other = read c.args.other (omega (arith, c.requires.other)) in (
      omega (arith, ints, now, other, c.requires.later),
      omega (arith, ints),
      subst (λ (z : ℤ). unsigned_abs z ≤ 2 ^ 101) (sym other) c.requires.other,
      λ s w at h i. untried_nodes _ at.tick_at (λ n. (w.clock n).up) c.node_count-count.result _,
    )

pub loop-n-preserved : goal.loop-n-preserved
loop-n-preserved g c =
    let best = read c.sooner_tick-best.result (omega (arith, c.sooner_tick-best.ensures.size)) in
    let held = c.loop-n.invariant in (
      omega (arith, ints, best, c.sooner_tick-best.ensures.later),
      omega (arith, ints, best, c.sooner_tick-best.ensures.most, held.1),
      subst (λ (z : ℤ). unsigned_abs z ≤ 2 ^ 101) (sym best) c.sooner_tick-best.ensures.size,
      λ s w at h i.
          tried_node _ at.tick_at (λ n. (w.clock n).up) c.node_count-count.result c.loop-n.n _ _ c.loop-n-test.true
          (best ∙ c.sooner_tick-best.ensures.value s w at h i)
          ∙ held.3 s w at h i,
    )

pub returns-clause-value : goal.returns-clause-value
returns-clause-value g c s w at h i =
    let now = read c.args.now (omega (arith, c.requires.now)) in
    let other = read c.args.other (omega (arith, c.requires.other)) in
    let count : c.node_count-count.result ≡ node_count s.cfg =
    c.node_count-count.ensures.value ∙ c.requires.valid.node_count ∙ ap (λ (x : NetCfg). node_count x) h.plant.cfg in
    tried_nodes _ at.tick_at (λ n. (w.clock n).up) c.node_count-count.result c.loop-n.n _ c.loop-n-test.false
    ∙ c.loop-n.invariant.3 s w at h i
    ∙ ap₂ (λ (t b : ℤ). fold (sooner t) b (map at.tick_at (filter (λ n. (w.clock n).up) (from_on c.node_count-count.result 0)))) now other
    ∙ ap (λ (k : ℕ). fold (sooner c.args.now) c.args.other (map at.tick_at (filter (λ n. (w.clock n).up) (from_on k 0)))) count

pub returns-clause-later : goal.returns-clause-later
returns-clause-later g c =
    let now = read c.args.now (omega (arith, c.requires.now)) in
    omega (arith, ints, now, c.loop-n.invariant.0)

pub returns-clause-most : goal.returns-clause-most
returns-clause-most g c =
    let other = read c.args.other (omega (arith, c.requires.other)) in
    omega (arith, ints, other, c.loop-n.invariant.1)
