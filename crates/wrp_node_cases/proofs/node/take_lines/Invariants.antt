-- The node stays valid.
use Rattle.wrp_node.specs.Node.{IsValid}
use Rattle.wrp_node_cases.proofs.node.take_lines.Given as goal

abbrev pub invariant-loop-line : goal.invariant-loop-line
invariant-loop-line g l = IsValid (λ f x. g.F.Fn.pre f (x, tt)) (λ f x y. g.F.Fn.post f (x, tt) y) l.node
