-- What is passed so far and what is left make the way.
use Rattle.wrp_node.proofs.WayUp.{Passed}
use Rattle.wrp_node.proofs.set.way_up.Given as goal

abbrev pub invariant-loop-steps : goal.invariant-loop-steps
invariant-loop-steps l = Passed l.fn.net l.fn.n l.top l.steps
