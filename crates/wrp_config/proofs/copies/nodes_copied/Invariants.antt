use Rattle.std.proofs.Common.{◌≡◌, ◌≤◌, ◌++◌, drop, length}
use Rattle.wrp_config.proofs.copies.nodes_copied.Given as goal

abbrev pub invariant-loop-node : goal.invariant-loop-node
invariant-loop-node l = (length l.copies.items ≤ l.node-index) × (l.nodes ≡ l.copies.items ++ drop l.node-index l.nodes)
