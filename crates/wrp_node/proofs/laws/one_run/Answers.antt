-- What octets say is one, and a law that is a function has one answer.
use Rattle.wrp_node.proofs.OneRun.{one_run, one_node}
use Rattle.wrp_node.proofs.laws.one_run.Goals as goal

pub returns : goal.returns
returns c = record { run = one_run c.told_last.ensures; node = one_node c.told_last.ensures }
