use Rattle.std.proofs.Common.{rules, ◌∙◌, ap, ap₂, sym, ℤ, Bool, if◌then◌else◌, FitsSigned, to_z, of_z, arith}
use Rattle.std.proofs.lemmas.Int.{ints, to_z-of_z}
use Rattle.std.specs.Int.{w128}
use Rattle.wrp_sim.specs.Rules.{sooner}
use Rattle.wrp_plant.proofs.SignedReads.{read}
use Rattle.wrp_sim.proofs.sim.state.State.sooner_tick.Goals as goal

pub returns-then-up-clause-value : goal.returns-then-up-clause-value
returns-then-up-clause-value g c s w at h i =
    let fits : FitsSigned w128 c.tick_of-at.result = search rules in
    read c.sooner.result (omega (arith, c.sooner.ensures.size)) ∙ c.sooner.ensures.value
    ∙ ap₂ (λ (x y : ℤ). sooner x y (to_z w128 (of_z w128 c.tick_of-at.result))) (read c.args.now (omega (arith, c.requires.now))) (read c.args.best (omega (arith, c.requires.best)))
    ∙ ap (sooner c.args.now c.args.best) (to_z-of_z w128 c.tick_of-at.result fits ∙ i.ticks c.args.n c.tick_of-at.result c.tick_of-at.ensures)
    ∙ sym (ap (λ (b : Bool). if b then sooner c.args.now c.args.best (at.tick_at c.args.n) else c.args.best) (sym (c.is_up-up.ensures s w h) ∙ c.if-up.true))

pub returns-else-up-clause-value : goal.returns-else-up-clause-value
returns-else-up-clause-value g c s w at h i =
    read c.args.best (omega (arith, c.requires.best))
    ∙ sym (ap (λ (b : Bool). if b then sooner c.args.now c.args.best (at.tick_at c.args.n) else c.args.best) (sym (c.is_up-up.ensures s w h) ∙ c.if-up.false))

pub returns-then-up-clause-later : goal.returns-then-up-clause-later
returns-then-up-clause-later g c =
    let now = read c.args.now (omega (arith, c.requires.now)) in
    let soonest = read c.sooner.result (omega (arith, c.sooner.ensures.size)) in
    omega (arith, ints, now, soonest, c.sooner.ensures.later)

pub returns-then-up-clause-most : goal.returns-then-up-clause-most
returns-then-up-clause-most g c =
    let best = read c.args.best (omega (arith, c.requires.best)) in
    let soonest = read c.sooner.result (omega (arith, c.sooner.ensures.size)) in
    omega (arith, ints, best, soonest, c.sooner.ensures.most)
