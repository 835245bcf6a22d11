-- What is kept so far.
use Rattle.std.proofs.Common.{length}
use Rattle.wrp_flights.proofs.Passing.{Passing}
use Rattle.wrp_flights.proofs.ages.expire.Given as goal

abbrev pub invariant-loop-number : goal.invariant-loop-number
invariant-loop-number l = Passing l.fn.horizon l.fn.kept.entries l.fn.ages.keys l.kept.entries l.ages.keys

abbrev pub decreases-loop-number : goal.decreases-loop-number
decreases-loop-number l = length l.ages.keys
