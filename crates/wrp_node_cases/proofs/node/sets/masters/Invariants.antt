-- The ports so far have numbers below the next one.
use Rattle.wrp_node_cases.proofs.Masters.{Rising}
use Rattle.wrp_node_cases.proofs.node.sets.masters.Given as goal

abbrev pub invariant-loop-number : goal.invariant-loop-number
invariant-loop-number l = Rising l.ports.items l.number
