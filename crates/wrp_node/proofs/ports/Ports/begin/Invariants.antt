-- The ports so far have begun, and the others are as they were.
use Rattle.wrp_node.specs.Place.{Begins}
use Rattle.wrp_node.proofs.Lists.{Done}
use Rattle.wrp_node.proofs.ports.Ports.begin.Given as goal

abbrev pub invariant-loop-place : goal.invariant-loop-place
invariant-loop-place l = Done Begins l.fn.self l.place-items l.place-index
