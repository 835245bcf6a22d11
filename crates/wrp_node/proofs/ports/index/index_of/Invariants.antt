-- The numbers so far are in the index.
use Rattle.std.proofs.Common.{◌≡◌, ◌≤◌, ◌<◌, ◌-◌, ℕ, length, slice_index_or, None}
use Rattle.wrp_node.specs.Index.{numbers_in, IsWhere}
use Rattle.wrp_node.proofs.ports.index.index_of.Given as goal

abbrev pub invariant-loop-number : goal.invariant-loop-number
invariant-loop-number l =
    (1 ≤ l.number) × (length l.index ≡ 18)
    × ((p : ℕ) → 1 ≤ p → p < l.number → IsWhere p (numbers_in l.places) (slice_index_or l.index (p - 1) None))
