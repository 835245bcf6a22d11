-- The links so far have taken their part of the step and have room for the remaining steps; the others
-- are as they were.
use Rattle.wrp_changes.proofs.TellingEnds.{TellsWithRoom}
use Rattle.wrp_changes.proofs.Turned.{TurnedTo}
use Rattle.wrp_changes.proofs.telling.ends.tell.Given as goal

abbrev pub invariant-loop-k : goal.invariant-loop-k
invariant-loop-k l = TurnedTo (TellsWithRoom l.fn.now l.fn.news l.fn.outs l.fn.cfg.links.items) l.fn.spans.items l.spans.items l.k
