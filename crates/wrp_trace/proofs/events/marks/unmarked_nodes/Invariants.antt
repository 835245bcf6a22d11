use Rattle.std.proofs.Common.{◌≡◌, false, length, map, take}
use Rattle.wrp_trace.proofs.events.marks.unmarked_nodes.Given as goal

abbrev pub invariant-loop-node : goal.invariant-loop-node
invariant-loop-node l =
    (l.marks.items ≡ map (λ node. false) (take l._node-index l.nodes)) × (length l.marks.items ≡ l._node-index)
