-- The law stays, and the ticks are counted along.
use Rattle.std.proofs.Common.{◌≡◌, ◌≤◌}
use Rattle.wrp_node_cases.proofs.servo.take_lines.Given as goal

abbrev pub invariant-loop-line : goal.invariant-loop-line
invariant-loop-line g l = (l.servo.law ≡ l.fn.servo.law) × (l.servo.core.ticks ≤ l.count)
