use Rattle.wrp_simulate.proofs.Counting.{events_are_numbered}
use Rattle.wrp_simulate.proofs.laws.events_are_numbered.Goals as goal

pub returns : goal.returns
returns c = events_are_numbered
