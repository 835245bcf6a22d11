-- The law stays, and the ticks are counted along.
use Rattle.std.proofs.Common.{◌≡◌, ◌≤◌}
use Rattle.wrp_tests.proofs.servo.compares.Given as goal

abbrev pub invariant-loop-n : goal.invariant-loop-n
invariant-loop-n g l = (l.servo.law ≡ l.fn.servo.law) × (l.servo.core.ticks ≤ l.count)
