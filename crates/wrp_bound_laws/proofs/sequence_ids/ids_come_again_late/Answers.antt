use Rattle.wrp_bound_laws.proofs.Schedules.IdsAgain.{ids_come_again_late}
use Rattle.wrp_bound_laws.proofs.sequence_ids.ids_come_again_late.Goals as goal

pub returns : goal.returns
returns c = ids_come_again_late c.ticks_are_apart.ensures
