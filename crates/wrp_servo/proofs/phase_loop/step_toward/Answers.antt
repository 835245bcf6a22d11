-- Moving towards the goal by at most a step stays between the setpoint and the goal.
use Rattle.std.proofs.Common.{ℤ, pos, ◌^◌, ◌≤◌, ◌≤ℤ◌, unsigned_abs, arith}
use Rattle.std.proofs.lemmas.Int.{ints, clamps, to_z-of_z}
use Rattle.wrp_servo.specs.Following.{moved_toward}
use Rattle.wrp_servo.proofs.phase_loop.step_toward.Goals as goal

between : (step s goal : ℤ) → pos 0 ≤ℤ step → unsigned_abs s ≤ 2 ^ 62 → unsigned_abs goal ≤ 2 ^ 62 → unsigned_abs (moved_toward step s goal) ≤ 2 ^ 62
between step s goal h a b = omega (arith, ints, clamps)

is_value : goal.returns-clause-value
is_value c = grind (arith, to_z-of_z)

pub returns-clause-value : goal.returns-clause-value
returns-clause-value c = is_value c

pub returns-clause-size : goal.returns-clause-size
returns-clause-size c = rw (is_value c) (between c.args.step c.args.s c.args.goal c.requires.least c.requires.s c.requires.goal)
