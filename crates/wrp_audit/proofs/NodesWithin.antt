-- The nodes that make steps in an event belong to the network.
use Rattle.std.proofs.Common.{sym, subst, ℕ, ℤ, ◌<◌, List, [], ◌∷◌, map}
use Rattle.std.specs.List.{AllByRecursion}
use Rattle.wrp_network.specs.Network.{IsTree, node_count}
use Rattle.wrp_course.specs.declared.event.Event.{Event}
use Rattle.wrp_course.specs.declared.node_out.NodeOut.{NodeOut}
use Rattle.wrp_course.specs.EventAt.{IsEventOf}
use Rattle.wrp_course.specs.Given.{Given, NodeStepAt, given_by, gives, steps_of}
use Rattle.wrp_course.specs.Moved.{moved}
use Rattle.wrp_course.specs.Setting.{Setting}
use Rattle.wrp_world.specs.StandsFor.{StandsFor, WorldOf}
use Rattle.wrp_world.specs.Step.{Stepped, step_seen}
use Rattle.wrp_trace.proofs.GivenWithin.{AllWithin, given_within}
use Rattle.wrp_course.specs.WorldAt.{WorldAt}

steps_within : (s : Setting) (y : ℤ) (v : WorldAt) (gs : List Given) → AllWithin s gs
    → AllByRecursion (λ (step : NodeStepAt). step.node < node_count s.cfg) (steps_of s y v gs)
steps_within s y v [] all = tt
steps_within s y v (g ∷ gs) all = (all.0, steps_within s y (gives s y v g) gs all.1)

seen_within : (count : ℕ) (outs : List NodeOut) → AllByRecursion (λ (step : NodeStepAt). step.node < count) (map step_seen outs)
    → AllByRecursion (λ (out : NodeOut). out.node < count) outs
seen_within count [] all = tt
seen_within count (out ∷ outs) all = (all.0, seen_within count outs all.1)

pub nodes_within : {F : Type 0} (post : F → ℤ → ℤ → Type 0) (s : Setting) (w : WorldAt) (e : Event) (old new : WorldOf F) (outs : List NodeOut)
    → StandsFor post s w old → Stepped post e old new outs → IsTree s.cfg → IsEventOf s.cfg e
    → AllByRecursion (λ (out : NodeOut). out.node < node_count s.cfg) outs
nodes_within post s w e old new outs stood stepped tree is =
    seen_within (node_count s.cfg) outs
    (subst (AllByRecursion (λ (step : NodeStepAt). step.node < node_count s.cfg)) (sym (stepped.2.seen s w stood))
    (steps_within s stepped.1 (moved s w e) (given_by s w (moved s w e) stepped.0 e) (given_within s w (moved s w e) stepped.0 e tree is)))
