use Rattle.wrp_network_text.specs.Tree.{NoneBefore}
use Rattle.wrp_network_text.proofs.tree.first_node.Given as goal

abbrev pub invariant-loop-n : goal.invariant-loop-n
invariant-loop-n l = NoneBefore l.cfg l.fault l.n
