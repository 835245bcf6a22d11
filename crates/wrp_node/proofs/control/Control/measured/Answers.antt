-- If there is no servo, any answer of the law serves.
use Rattle.std.proofs.Common.{rules, pos, arith}
use Rattle.std.proofs.lemmas.Grind.{common_steps}
use Rattle.wrp_node.proofs.control.Control.measured.Goals as goal
use Rattle.wrp_node.proofs.control.Control.measured.Goals.{in-Some, in-None}

pub returns-clause-calls : goal.returns-clause-calls
returns-clause-calls g c = elim c.match-self.branch [
  | in-Some w ↦ (w.measured.ensures.calls.0, first_of (search rules, grind (arith, common_steps)))
  | in-None w ↦ (pos 0, first_of (search rules, grind (arith, common_steps)))
]
