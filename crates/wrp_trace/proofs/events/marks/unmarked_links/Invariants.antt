use Rattle.std.proofs.Common.{◌≡◌, false, length, map, take}
use Rattle.wrp_trace.proofs.events.marks.unmarked_links.Given as goal

abbrev pub invariant-loop-link : goal.invariant-loop-link
invariant-loop-link l =
    (l.marks.items ≡ map (λ link. false) (take l._link-index l.links)) × (length l.marks.items ≡ l._link-index)
