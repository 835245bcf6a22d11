-- By the records of a replay, one by one.
use Rattle.wrp_asked.proofs.ReplayTold.{replays_are_told}
use Rattle.wrp_asked.proofs.laws.replays_are_told.Goals as goal

pub returns : goal.returns
returns c = replays_are_told c.one_run.ensures.run c.one_run.ensures.node c.drops_only_count.ensures
