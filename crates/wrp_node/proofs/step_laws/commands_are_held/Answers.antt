use Rattle.wrp_node.proofs.StepLaws.{commands_are_held}
use Rattle.wrp_node.proofs.step_laws.commands_are_held.Goals as goal

pub returns : goal.returns
returns c = commands_are_held
