use Rattle.std.proofs.Common.{◌≡◌, pos, length}
use Rattle.wrp_trace.specs.Places.{OnlyDrifts, RestsAt, drifts_in}
use Rattle.wrp_trace.proofs.PlaceLemmas.{NoneBefore}
use Rattle.wrp_trace.proofs.events.marks.forget_drifts.Given as goal

-- none is marked before this place
abbrev pub invariant-loop-n : goal.invariant-loop-n
invariant-loop-n l =
    (length l.marks.items ≡ length l.fn.marks.items) × (length (drifts_in l.event) ≡ length (drifts_in l.fn.event))
    × RestsAt (pos 0) l.marks.items (drifts_in l.event) × NoneBefore l.n l.marks.items × OnlyDrifts l.fn.event l.event
