-- The frames so far are lost, and the others are as before.
use Rattle.std.proofs.Common.{drop}
use Rattle.wrp_flights.specs.Losing.{lost_by}
use Rattle.wrp_flights.proofs.Losses.{Losing}
use Rattle.wrp_flights.proofs.losing.lose_all.Given as goal

abbrev pub invariant-loop-it : goal.invariant-loop-it
invariant-loop-it l = Losing l.fn.horizon (lost_by l.links l.fn.loss) l.fn.kept.entries l.kept.entries (drop l.it-index l.listed)
