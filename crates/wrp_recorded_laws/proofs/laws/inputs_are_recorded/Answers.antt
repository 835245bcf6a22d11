-- Each input has its line.
use Rattle.wrp_recorded_laws.proofs.Recorded.{recorded}
use Rattle.wrp_recorded_laws.proofs.laws.inputs_are_recorded.Goals as goal

pub returns : goal.returns
returns c = recorded c.port_is_of_one_link.ensures
