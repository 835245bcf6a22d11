-- The node's links so far have lost their waiting frames, and all else is as it was.
use Rattle.wrp_changes.specs.Moves.{DropsAt}
use Rattle.wrp_changes.proofs.Turned.{TurnedTo}
use Rattle.wrp_changes.proofs.moves.spans.drop_at.Given as goal

abbrev pub invariant-loop-k : goal.invariant-loop-k
invariant-loop-k l = TurnedTo (DropsAt l.fn.n l.fn.cfg.links.items) l.fn.spans.items l.spans.items l.k
