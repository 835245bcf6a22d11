-- The links so far have room for the steps, and the others are as they were.
use Rattle.wrp_changes.proofs.Roomy.{Takes}
use Rattle.wrp_changes.proofs.Turned.{TurnedTo}
use Rattle.wrp_changes.proofs.room.reserve_all.Given as goal

abbrev pub invariant-loop-k : goal.invariant-loop-k
invariant-loop-k l = TurnedTo (Takes l.fn.steps) l.fn.spans.items l.spans.items l.k
