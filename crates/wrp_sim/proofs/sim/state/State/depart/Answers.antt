use Rattle.std.proofs.Common.{◌∙◌, sym, find}
use Rattle.wrp_course.specs.declared.event.Event.TheVariants.{Depart}
use Rattle.wrp_sim.specs.Numbers.{drawn_stamp}
use Rattle.wrp_sim.specs.Rules.{after_draw, comes, departs, departs_now, ports_of, stamp_room}
use Rattle.wrp_sim.proofs.Leaving.{departs_none, departs_then}
use Rattle.wrp_sim.proofs.Turns.{gave_none, gives_same}
use Rattle.wrp_sim.proofs.sim.state.State.depart.Goals as goal

pub returns-in-Some-clause-follows : goal.returns-in-Some-clause-follows
returns-in-Some-clause-follows g c s w at h i =
    let from = c.in-Some.from in
    gives_same at (comes (Depart from.node from.port (drawn_stamp (stamp_room s from.node) from.at at.state)) (after_draw at)) (departs s w at) _ c.depart_from.new.self
    (sym (departs_then s w at (find (departs_now s w) (ports_of s)) from (sym c.in-Some.is ∙ c.first_departure.ensures.value s w h)))
    (c.depart_from.ensures.follows s w at h i)

pub returns-in-None-clause-follows : goal.returns-in-None-clause-follows
returns-in-None-clause-follows g c s w at h i =
    gave_none at (departs s w at) _ (departs_none s w at (find (departs_now s w) (ports_of s)) (sym c.in-None.is ∙ c.first_departure.ensures.value s w h)) i
