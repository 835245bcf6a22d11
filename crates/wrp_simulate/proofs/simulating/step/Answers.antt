-- The next event is accepted, and makes the run longer by one.
use Rattle.std.proofs.Common.{rules, ◌≡◌, ◌<◌, ◌+◌, ◌∙◌, ℕ, true, false, List, ap, arith, refl, subst, sym}
use Rattle.std.specs.List.{AllByRecursion}
use Rattle.wrp_network.specs.Network.{node_count}
use Rattle.wrp_config.specs.declared.network.Network.{Network}
use Rattle.wrp_course.specs.declared.node_out.NodeOut.{NodeOut}
use Rattle.wrp_sim.specs.Sim.{FitsSim}
use Rattle.wrp_simulate.proofs.SimSteps.{can_happen, event_comes, goes_on, may_come, none_comes, none_put, one_put, some_comes}
use Rattle.wrp_simulate.proofs.simulating.step.Goals as goal

pub happen-requires-clause-event : goal.happen-requires-clause-event
happen-requires-clause-event g c =
    let r = c.requires.run in
    let some : c.next_into.result ≡ true = search rules in
    may_come r.0 r.1 r.2 c.args.network.now c.args.course.now r.3 r.4 c.next_into.new.self c.next_into.new.event r.5 c.requires.course
    (event_comes c.simulator_keeps_the_bounds.ensures.runs r.0 r.1 r.2 c.args.network.now c.args.course.now r.3 r.4 c.next_into.new.self c.next_into.new.event r.5 c.requires.ready c.requires.course
    (one_put c.args.network.now.world c.args.course.now.sim c.next_into.new.self c.next_into.result c.next_into.new.event c.next_into.ensures.follows some))

pub happen-requires-clause-accepted : goal.happen-requires-clause-accepted
happen-requires-clause-accepted g c =
    let r = c.requires.run in
    let some : c.next_into.result ≡ true = search rules in
    can_happen r.0 r.1 r.2 c.args.network.now c.args.course.now r.3 r.4 c.next_into.new.self c.next_into.new.event r.5
    (event_comes c.simulator_keeps_the_bounds.ensures.runs r.0 r.1 r.2 c.args.network.now c.args.course.now r.3 r.4 c.next_into.new.self c.next_into.new.event r.5 c.requires.ready c.requires.course
    (one_put c.args.network.now.world c.args.course.now.sim c.next_into.new.self c.next_into.result c.next_into.new.event c.next_into.ensures.follows some))

pub add_tracks-requires-clause-nodes : goal.add_tracks-requires-clause-nodes
add_tracks-requires-clause-nodes g c =
    subst (λ (outs : List NodeOut). AllByRecursion (λ (out : NodeOut). out.node < node_count c.happen.new.self.world.plant.net.cfg) outs)
    (sym c.deref.ensures.value) c.in_ok-happen.ensures.nodes

pub returns-then-not-next_into-clause-steps : goal.returns-then-not-next_into-clause-steps
returns-then-not-next_into-clause-steps g c = λ seed s scene events at h.
    let none : c.next_into.result ≡ false = search rules in (
      record { stands = h.stands; totals = h.totals; none = refl },
      none_comes seed s scene c.args.network.now c.args.course.now events at c.next_into.new.self h
          (none_put c.args.network.now.world c.args.course.now.sim c.next_into.new.self c.next_into.result c.next_into.new.event c.next_into.ensures.follows none),
    )

pub returns-then-course-clause-steps : goal.returns-then-course-clause-steps
returns-then-course-clause-steps g c = λ seed s scene events at h.
    let some : c.next_into.result ≡ true = search rules in
    let comes = some_comes s scene seed events at c.next_into.new.event c.next_into.new.self
    (event_comes c.simulator_keeps_the_bounds.ensures.runs seed s scene c.args.network.now c.args.course.now events at c.next_into.new.self c.next_into.new.event h c.requires.ready c.requires.course
    (one_put c.args.network.now.world c.args.course.now.sim c.next_into.new.self c.next_into.result c.next_into.new.event c.next_into.ensures.follows some)) in
    let last = c.if-course.true in
    let count = h.count in
    (record { stands = h.stands; totals = h.totals; none = refl }, comes.0, comes.1, omega (arith, last, count))

pub returns-clause-steps : goal.returns-clause-steps
returns-clause-steps g c = λ seed s scene events at h.
    let some : c.next_into.result ≡ true = search rules in
    goes_on seed s scene c.args.network.now c.happen.new.self c.args.course.now _ events at c.next_into.new.event c.args.text.now.items c.happen.new.text.items h
    (event_comes c.simulator_keeps_the_bounds.ensures.runs seed s scene c.args.network.now c.args.course.now events at c.next_into.new.self c.next_into.new.event h c.requires.ready c.requires.course
    (one_put c.args.network.now.world c.args.course.now.sim c.next_into.new.self c.next_into.result c.next_into.new.event c.next_into.ensures.follows some))
    c.next_into.ensures.stays.scene c.happen.ensures.ready c.happen.ensures.net c.in_ok-happen.ensures.steps c.in_ok-happen.ensures.wrote
    (rw c.deref.ensures.value at c.add_tracks.ensures.each) refl
    (let other = c.if-course.false in let below = c.requires.course.below in omega (arith, other, below))

pub returns-clause-course : goal.returns-clause-course
returns-clause-course g c = record {
  sim = subst (λ (net : Network). FitsSim net.cfg c.next_into.new.self) (sym c.happen.ensures.net) c.next_into.ensures.stays.fits;
  totals = c.add_tracks.ensures.count ∙ c.requires.course.totals ∙ ap (λ (net : Network). node_count net.cfg) (sym c.happen.ensures.net);
  count = c.in_ok-happen.ensures.counted ∙ ap (λ (n : ℕ). n + 1) c.requires.course.count;
  below = let other = c.if-course.false in let below = c.requires.course.below in omega (arith, other, below);
}
