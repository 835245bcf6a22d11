-- The inputs at the ports so far are listed.
use Rattle.std.proofs.Common.{◌*◌}
use Rattle.wrp_course.specs.Given.{goes_from}
use Rattle.wrp_changes.specs.Giving.{Adds, at_numbers}
use Rattle.wrp_course.specs.Setting.{from_on}
use Rattle.wrp_changes.proofs.giving.down.goes_at_ports.Given as goal

abbrev pub invariant-loop-i : goal.invariant-loop-i
invariant-loop-i l = Adds l.plant (2 * l.i) (λ s w. at_numbers s w (goes_from s) l.n (from_on l.i 1)) l.fn.outs.items l.outs.items
