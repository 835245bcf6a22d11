use Rattle.std.proofs.Common.{ℕ, ◌<◌}
use Rattle.wrp_network.specs.declared.network.NodeCfg.{NodeCfg}
use Rattle.wrp_network.specs.Network.{IsNode}
use Rattle.wrp_trace.specs.declared.events.marks.Named.TheVariants.{Node}
use Rattle.wrp_trace.specs.Places.{StandsFor}
use Rattle.wrp_trace.proofs.events.marks.finds_nodes.Given as goal

-- the names of the nodes before stand for them
abbrev pub invariant-loop-at : goal.invariant-loop-at
invariant-loop-at l =
    (n : ℕ) (node : NodeCfg) → n < l.at → IsNode l.cfg n node → StandsFor l.cfg node.name.bytes (Node n)
