-- What is left so far.
use Rattle.std.proofs.Common.{length}
use Rattle.wrp_flights.proofs.FirstDue.{Settling}
use Rattle.wrp_flights.proofs.next.settle.Given as goal

abbrev pub invariant-landed : goal.invariant-landed
invariant-landed l = Settling l.kept.entries l.fn.dues.keys l.dues.keys

abbrev pub decreases-landed : goal.decreases-landed
decreases-landed l = length l.dues.keys
