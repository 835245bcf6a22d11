use Rattle.std.proofs.Common.{◌≡◌, pos, length, map, take}
use Rattle.wrp_trace.proofs.events.marks.still_clocks.Given as goal

abbrev pub invariant-loop-node : goal.invariant-loop-node
invariant-loop-node l =
    (l.drifts.items ≡ map (λ node. pos 0) (take l._node-index l.nodes)) × (length l.drifts.items ≡ l._node-index)
