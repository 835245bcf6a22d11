-- The states of the ports so far are there.
use Rattle.std.proofs.Common.{◌≡◌, length, take, map}
use Rattle.wrp_node.specs.States.{port_state}
use Rattle.wrp_node.proofs.ports.Ports.states.Given as goal

abbrev pub invariant-loop-place : goal.invariant-loop-place
invariant-loop-place l = (l.states.items ≡ map port_state (take l.place-index l.place-items)) × (length l.states.items ≡ l.place-index)
