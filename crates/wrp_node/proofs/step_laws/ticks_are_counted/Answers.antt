use Rattle.wrp_node.proofs.StepLaws.{ticks_are_counted}
use Rattle.wrp_node.proofs.step_laws.ticks_are_counted.Goals as goal

pub returns : goal.returns
returns c = ticks_are_counted
