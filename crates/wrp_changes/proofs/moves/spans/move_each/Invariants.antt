-- The fibres so far have changed, and the others are as they were.
use Rattle.wrp_changes.specs.Moves.{Moves}
use Rattle.wrp_changes.proofs.Turned.{TurnedTo}
use Rattle.wrp_changes.proofs.moves.spans.move_each.Given as goal

abbrev pub invariant-loop-k : goal.invariant-loop-k
invariant-loop-k l = TurnedTo (Moves l.fn.moves) l.fn.spans.items l.spans.items l.k
