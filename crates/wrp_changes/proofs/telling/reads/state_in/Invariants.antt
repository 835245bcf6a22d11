-- No row so far belongs to the port.
use Rattle.std.proofs.Common.{◌≡◌, drop}
use Rattle.wrp_node.specs.States.{state_in}
use Rattle.wrp_changes.proofs.telling.reads.state_in.Given as goal

abbrev pub invariant-loop-it : goal.invariant-loop-it
invariant-loop-it l = state_in l.fn.port (drop l.it-index l.fn.ports) ≡ state_in l.fn.port l.fn.ports
