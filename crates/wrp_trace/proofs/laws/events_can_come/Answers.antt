-- By the kind of the line.
use Rattle.wrp_trace.proofs.EventsFit.{events_can_come}
use Rattle.wrp_trace.proofs.laws.events_can_come.Goals as goal

pub returns : goal.returns
returns c = events_can_come
