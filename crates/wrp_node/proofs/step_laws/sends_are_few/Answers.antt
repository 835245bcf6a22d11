use Rattle.wrp_node.proofs.StepLaws.{sends_are_few}
use Rattle.wrp_node.proofs.step_laws.sends_are_few.Goals as goal

pub returns : goal.returns
returns c = sends_are_few
