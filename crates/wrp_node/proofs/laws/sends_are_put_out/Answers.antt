-- Each port appears once among the numbers of the ports.
use Rattle.wrp_node.proofs.Sends.{sends_are_put_out}
use Rattle.wrp_node.proofs.laws.sends_are_put_out.Goals as goal

pub returns : goal.returns
returns c = sends_are_put_out
