-- The ports so far were given the input, and the others are as they were.
use Rattle.wrp_node.specs.declared.ports.To.TheVariants.{Every}
use Rattle.wrp_node.specs.Place.{GivesTo}
use Rattle.wrp_node.proofs.Lists.{Done}
use Rattle.wrp_node.proofs.ports.Ports.give_every.Given as goal

abbrev pub invariant-loop-place : goal.invariant-loop-place
invariant-loop-place l = Done (GivesTo Every l.fn.input) l.fn.self l.place-items l.place-index
