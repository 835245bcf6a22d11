-- If no bit was gathered, no fibre so far moves.
use Rattle.std.proofs.Common.{◌≡◌, ℕ, ◌<◌, pos}
use Rattle.wrp_course.specs.Moved.{move_of}
use Rattle.wrp_changes.proofs.moves.spans.all_stay.Given as goal

abbrev pub invariant-loop-by : goal.invariant-loop-by
invariant-loop-by l = l.bits ≡ (pos 0, pos 0) → (k : ℕ) → k < l.by-index → move_of l.fn.moves k ≡ (pos 0, pos 0)
