use Rattle.std.proofs.Common.{◌≡◌, ◌+◌, drop}
use Rattle.csv.specs.Records.{fields_of}
use Rattle.wrp_trace.specs.Changes.{nothing_said, changes_said, said_count}
use Rattle.wrp_trace.specs.Places.{IsPassing, drifts_in, moves_in, said_by, span_in}
use Rattle.wrp_trace.proofs.events.marks.changes_into.Given as goal

-- what is left says the rest
abbrev pub invariant-loop-at : goal.invariant-loop-at
invariant-loop-at l =
    (changes_said l.cfg 3 (nothing_said l.cfg) (drop 2 (fields_of l.row))
    ≡ changes_said l.cfg (l.at + 1) (said_by l.marks (drifts_in l.event) (moves_in l.event)) (drop l.at (fields_of l.row)))
    × IsPassing l.cfg l.marks l.event
    × (said_count (said_by l.marks (drifts_in l.event) (moves_in l.event)) + 2 ≡ l.at)
    × (span_in l.event ≡ span_in l.fn.event)
