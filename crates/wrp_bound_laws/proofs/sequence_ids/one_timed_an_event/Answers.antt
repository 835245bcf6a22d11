use Rattle.wrp_bound_laws.proofs.Schedules.IdsAgain.{one_timed_an_event}
use Rattle.wrp_bound_laws.proofs.sequence_ids.one_timed_an_event.Goals as goal

pub returns : goal.returns
returns c = one_timed_an_event
