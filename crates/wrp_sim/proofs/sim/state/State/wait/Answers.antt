use Rattle.std.proofs.Common.{rules, ◌∙◌, FitsSigned, arith}
use Rattle.std.proofs.lemmas.Int.{ints, to_z-of_z}
use Rattle.std.specs.Int.{w64}
use Rattle.wrp_plant.proofs.SignedReads.{read}
use Rattle.wrp_sim.proofs.Moments.{waited}
use Rattle.wrp_sim.proofs.sim.state.State.wait.Goals as goal

pub returns : goal.returns
returns g c s w at h i =
    let fits : FitsSigned w64 c.between.result = search rules in
    waited c.args.self.now.scene s w c.args.due at _ _ _ _ _ _ _ _ c.args.self.now.faults.items
    (read c.time-now.result (omega (arith, c.time-now.ensures.size)) ∙ c.time-now.ensures.value s w h)
    (read c.sum-last.result (omega (arith, c.sum-last.ensures.size)) ∙ c.sum-last.ensures.value)
    (read c.soonest_tick-ticks.result (omega (arith, c.soonest_tick-ticks.ensures.size)) ∙ c.soonest_tick-ticks.ensures.value s w at h i)
    (read c.soonest_due-arrives.result (omega (arith, c.soonest_due-arrives.ensures.size)) ∙ c.soonest_due-arrives.ensures.value)
    (read c.soonest_fault-fails.result (omega (arith, c.soonest_fault-fails.ensures.size)) ∙ c.soonest_fault-fails.ensures.value s w h)
    i.faults
    (read c.end_time-end.result (omega (arith, c.end_time-end.ensures.size)) ∙ c.end_time-end.ensures.value s w h)
    (read c.sooner-next.result (omega (arith, c.sooner-next.ensures.size)) ∙ c.sooner-next.ensures.value)
    (to_z-of_z w64 c.between.result fits ∙ c.between.ensures)

pub soonest_tick-ticks-requires-clause-later : goal.soonest_tick-ticks-requires-clause-later
soonest_tick-ticks-requires-clause-later g c =
    let now = read c.time-now.result (omega (arith, c.time-now.ensures.size)) in
    let last = read c.sum-last.result (omega (arith, c.sum-last.ensures.size)) in
    let value = c.sum-last.ensures.value in
    omega (arith, ints, now, last, value)

pub between-requires-clause-most : goal.between-requires-clause-most
between-requires-clause-most g c =
    let now = read c.time-now.result (omega (arith, c.time-now.ensures.size)) in
    let last = read c.sum-last.result (omega (arith, c.sum-last.ensures.size)) in
    let ticks = read c.soonest_tick-ticks.result (omega (arith, c.soonest_tick-ticks.ensures.size)) in
    let arrives = read c.soonest_due-arrives.result (omega (arith, c.soonest_due-arrives.ensures.size)) in
    let fails = read c.soonest_fault-fails.result (omega (arith, c.soonest_fault-fails.ensures.size)) in
    let next = read c.sooner-next.result (omega (arith, c.sooner-next.ensures.size)) in
    omega (arith, ints, now, last, ticks, arrives, fails, next, c.sum-last.ensures.value, c.soonest_tick-ticks.ensures.most, c.soonest_due-arrives.ensures.most, c.soonest_fault-fails.ensures.most, c.sooner-next.ensures.most)
