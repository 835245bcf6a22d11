-- No swap so far names the port.
use Rattle.std.proofs.Common.{◌≡◌, drop}
use Rattle.wrp_course.specs.Moved.{swap_at}
use Rattle.wrp_plant.proofs.swaps.swap_for.Given as goal

abbrev pub invariant-loop-swap : goal.invariant-loop-swap
invariant-loop-swap l = swap_at l.fn.port (drop l.swap-index l.fn.swaps) ≡ swap_at l.fn.port l.fn.swaps
