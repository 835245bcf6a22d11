-- The links so far have their modules, and the others are as they were.
use Rattle.wrp_changes.specs.Moves.{SwapsAt}
use Rattle.wrp_changes.proofs.Turned.{TurnedTo}
use Rattle.wrp_changes.proofs.moves.swaps.put_modules.Given as goal

abbrev pub invariant-loop-k : goal.invariant-loop-k
invariant-loop-k l = TurnedTo (SwapsAt l.fn.n l.fn.swaps l.fn.cfg.links.items) l.fn.spans.items l.spans.items l.k
