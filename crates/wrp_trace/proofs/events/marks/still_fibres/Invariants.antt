use Rattle.std.proofs.Common.{◌≡◌, pos, length, map, take}
use Rattle.wrp_trace.proofs.events.marks.still_fibres.Given as goal

abbrev pub invariant-loop-link : goal.invariant-loop-link
invariant-loop-link l =
    (l.moves.items ≡ map (λ link. (pos 0, pos 0)) (take l._link-index l.links)) × (length l.moves.items ≡ l._link-index)
