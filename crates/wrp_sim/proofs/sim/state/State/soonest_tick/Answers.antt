use Rattle.std.proofs.Common.{rules, FitsSigned, ◌∙◌, ap₂, ℤ, sym, subst, fold, arith}
use Rattle.std.proofs.lemmas.Int.{ints, to_z-of_z}
use Rattle.std.specs.Int.{w128}
use Rattle.wrp_plant.proofs.SignedReads.{read}
use Rattle.wrp_sim.specs.NextTick.{IsNext}
use Rattle.wrp_sim.specs.Rules.{sooner, tick_times}
use Rattle.wrp_sim.proofs.sim.state.State.soonest_tick.Goals as goal

pub soonest_known-requires-clause-next : goal.soonest_known-requires-clause-next
soonest_known-requires-clause-next g c =
    let fits : FitsSigned w128 c.in-Some.time = search rules in
    subst (IsNext _ c.args.self.now.tick_at c.in-Some.n) (sym (to_z-of_z w128 c.in-Some.time fits)) c.in-Some.ensures

pub returns-in-Some-clause-value : goal.returns-in-Some-clause-value
returns-in-Some-clause-value g c s w at h i =
    read c.soonest_known.result (omega (arith, c.soonest_known.ensures.size)) ∙ c.soonest_known.ensures.value s w at h i
    ∙ ap₂ (λ (t b : ℤ). fold (sooner t) b (tick_times s w at)) (read c.args.now (omega (arith, c.requires.now))) (read c.args.other (omega (arith, c.requires.other)))

pub returns-in-Some-clause-later : goal.returns-in-Some-clause-later
returns-in-Some-clause-later g c =
    let now = read c.args.now (omega (arith, c.requires.now)) in
    let soonest = read c.soonest_known.result (omega (arith, c.soonest_known.ensures.size)) in
    omega (arith, ints, now, soonest, c.soonest_known.ensures.later)

pub returns-in-Some-clause-most : goal.returns-in-Some-clause-most
returns-in-Some-clause-most g c =
    let other = read c.args.other (omega (arith, c.requires.other)) in
    let soonest = read c.soonest_known.result (omega (arith, c.soonest_known.ensures.size)) in
    omega (arith, ints, other, soonest, c.soonest_known.ensures.most)

pub returns-in-None-clause-value : goal.returns-in-None-clause-value
returns-in-None-clause-value g c s w at h i =
    read c.soonest_of_all.result (omega (arith, c.soonest_of_all.ensures.size)) ∙ c.soonest_of_all.ensures.value s w at h i
    ∙ ap₂ (λ (t b : ℤ). fold (sooner t) b (tick_times s w at)) (read c.args.now (omega (arith, c.requires.now))) (read c.args.other (omega (arith, c.requires.other)))

pub returns-in-None-clause-later : goal.returns-in-None-clause-later
returns-in-None-clause-later g c =
    let now = read c.args.now (omega (arith, c.requires.now)) in
    let soonest = read c.soonest_of_all.result (omega (arith, c.soonest_of_all.ensures.size)) in
    omega (arith, ints, now, soonest, c.soonest_of_all.ensures.later)

pub returns-in-None-clause-most : goal.returns-in-None-clause-most
returns-in-None-clause-most g c =
    let other = read c.args.other (omega (arith, c.requires.other)) in
    let soonest = read c.soonest_of_all.result (omega (arith, c.soonest_of_all.ensures.size)) in
    omega (arith, ints, other, soonest, c.soonest_of_all.ensures.most)
