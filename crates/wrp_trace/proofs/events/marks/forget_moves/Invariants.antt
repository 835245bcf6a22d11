use Rattle.std.proofs.Common.{◌≡◌, pos, length}
use Rattle.wrp_trace.specs.Places.{OnlyMoves, RestsAt, moves_in}
use Rattle.wrp_trace.proofs.PlaceLemmas.{NoneBefore}
use Rattle.wrp_trace.proofs.events.marks.forget_moves.Given as goal

-- none is marked before this place
abbrev pub invariant-loop-l : goal.invariant-loop-l
invariant-loop-l l =
    (length l.marks.items ≡ length l.fn.marks.items) × (length (moves_in l.event) ≡ length (moves_in l.fn.event))
    × RestsAt (pos 0, pos 0) l.marks.items (moves_in l.event) × NoneBefore l.l l.marks.items × OnlyMoves l.fn.event l.event
