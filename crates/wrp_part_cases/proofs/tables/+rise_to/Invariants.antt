use Rattle.std.proofs.Common.{length}
use Rattle.wrp_part_cases.proofs.tables.+rise_to.Given as goal

abbrev pub decreases-rise_to : goal.decreases-rise_to
decreases-rise_to l = length l.points.now
