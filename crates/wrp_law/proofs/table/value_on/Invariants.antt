-- The points ahead have the value at x.
use Rattle.std.proofs.Common.{drop}
use Rattle.wrp_law.proofs.Walk.{IsAhead}
use Rattle.wrp_law.proofs.table.value_on.Given as goal

abbrev pub invariant-loop-end : goal.invariant-loop-end
invariant-loop-end l = IsAhead l.fn.points l.fn.x l.start (drop l.end-index l.end-items)
