use Rattle.std.proofs.Common.{◌∙◌, sym, refl, Some}
use Rattle.wrp_sim.specs.Rules.{tick_of, ticks}
use Rattle.wrp_sim.proofs.RuleCases.{no_tick, ticks_at}
use Rattle.wrp_sim.proofs.Turns.{gave_none, gives_same}
use Rattle.wrp_sim.proofs.sim.state.State.tick.Goals as goal

pub returns-in-Some-clause-follows : goal.returns-in-Some-clause-follows
returns-in-Some-clause-follows g c s w at h i =
    let set = c.set_tick.ensures.ticks s w at h i in
    gives_same at (Some (tick_of s w at c.in-Some.n)) (ticks s w at) _ _
    (sym (ticks_at s w at c.in-Some.n (sym (c.first_tick.ensures.value s w at h i) ∙ c.in-Some.is)))
    (refl, record { state = set.state; begun = set.begun; faults = set.faults; ticks = set.ticks; ticked = refl; arrived = set.arrived })

pub returns-in-None-clause-follows : goal.returns-in-None-clause-follows
returns-in-None-clause-follows g c s w at h i =
    gave_none at (ticks s w at) _ (no_tick s w at (sym (c.first_tick.ensures.value s w at h i) ∙ c.in-None.is)) i
