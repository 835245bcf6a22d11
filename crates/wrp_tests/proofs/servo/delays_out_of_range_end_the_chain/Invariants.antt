-- The law stays.
use Rattle.std.proofs.Common.{◌≡◌}
use Rattle.wrp_tests.proofs.servo.delays_out_of_range_end_the_chain.Given as goal

abbrev pub invariant-loop-n : goal.invariant-loop-n
invariant-loop-n g l = l.servo.law ≡ l.initial.servo.law
