-- The clocks so far have drifted, and the others are as they were.
use Rattle.wrp_changes.specs.Moves.{Drifts}
use Rattle.wrp_changes.proofs.Turned.{TurnedTo}
use Rattle.wrp_changes.proofs.moves.clocks.drift_all.Given as goal

abbrev pub invariant-loop-n : goal.invariant-loop-n
invariant-loop-n l = TurnedTo (Drifts l.fn.drifts) l.fn.clocks l.clocks l.n
