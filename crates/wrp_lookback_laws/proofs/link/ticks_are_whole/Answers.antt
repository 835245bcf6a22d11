-- The count of ticks in WR_LINK_ON.
use Rattle.wrp_lookback_laws.proofs.OnTicksLaws.{capped, whole_count_decides}
use Rattle.wrp_lookback_laws.proofs.link.ticks_are_whole.Goals as goal

pub returns-clause-count : goal.returns-clause-count
returns-clause-count c = capped

pub returns-clause-rows : goal.returns-clause-rows
returns-clause-rows c = whole_count_decides
