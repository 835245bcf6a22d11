use Rattle.std.proofs.Common.{◌≡◌, ◌+◌, [], length, map, drop}
use Rattle.csv.specs.Records.{fields_of}
use Rattle.wrp_trace.specs.Swaps.{bare_swap, swaps_said}
use Rattle.wrp_trace.proofs.events.swaps.swaps_at.Given as goal
use Rattle.wrp_course.specs.EventAt.{AreSwaps}

-- what is left says the rest
abbrev pub invariant-loop-at : goal.invariant-loop-at
invariant-loop-at l =
    (swaps_said 4 [] (drop 3 (fields_of l.row))
    ≡ swaps_said (l.at + 1) (map bare_swap l.swaps.items) (drop l.at (fields_of l.row)))
    × AreSwaps l.swaps.items × (length l.swaps.items + 3 ≡ l.at)
