use Rattle.wrp_loop.proofs.Counting.{events_are_numbered}
use Rattle.wrp_loop.proofs.laws.events_are_numbered.Goals as goal

pub returns : goal.returns
returns c = events_are_numbered
