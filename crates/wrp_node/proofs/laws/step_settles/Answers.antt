-- At the end of the input the servo is given what changed.
use Rattle.wrp_node.proofs.Settled.{step_settles}
use Rattle.wrp_node.proofs.laws.step_settles.Goals as goal

pub returns : goal.returns
returns c = step_settles
