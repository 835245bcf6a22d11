-- The inputs at the ports so far are listed.
use Rattle.std.proofs.Common.{◌*◌, ℤ}
use Rattle.wrp_course.specs.Given.{comes_from}
use Rattle.wrp_changes.specs.Giving.{Adds, at_numbers, up_of}
use Rattle.wrp_course.specs.Setting.{from_on}
use Rattle.wrp_changes.proofs.giving.up.comes_at_ports.Given as goal

abbrev pub invariant-loop-i : goal.invariant-loop-i
invariant-loop-i l =
    (off : ℤ) → Adds l.plant (2 * l.i)
    (λ s w. at_numbers s (up_of s w l.n off l.swaps) (comes_from s (up_of s w l.n off l.swaps)) l.n (from_on l.i 1)) l.fn.outs.items l.outs.items
