-- The rows so far have the same content.
use Rattle.std.proofs.Common.{◌≡◌, ℕ, ◌<◌, Some, slice_get}
use Rattle.wrp_node.specs.declared.ports.states.PortState.{PortState}
use Rattle.wrp_changes.specs.PlantTold.{SameRow}
use Rattle.wrp_changes.proofs.telling.reads.are_same.Given as goal

abbrev pub invariant-loop-i : goal.invariant-loop-i
invariant-loop-i l =
    (j : ℕ) (x y : PortState) → j < l.i → slice_get l.fn.before j ≡ Some x → slice_get l.fn.after j ≡ Some y → SameRow x y
