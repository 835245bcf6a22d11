-- The whole seconds of a time are few.
use Rattle.std.proofs.Common.{ℤ, pos, negsuc, ◌^◌, ◌≤◌, unsigned_abs, arith}
use Rattle.std.proofs.lemmas.Int.{ints, to_z-of_z}
use Rattle.wrp_base.specs.Division.{trunc_quotient}
use Rattle.wrp_base.specs.Clock.{second}
use Rattle.wrp_servo.proofs.measuring.whole_seconds.Goals as goal

small : (a : ℤ) → unsigned_abs a ≤ 2 ^ 110 → unsigned_abs (trunc_quotient a second) ≤ 2 ^ 60
small (pos a) h = omega (arith, ints)
small (negsuc a) h = omega (arith, ints)

pub returns-clause-size : goal.returns-clause-size
returns-clause-size c =
    let few : unsigned_abs (trunc_quotient c.args.est second) ≤ 2 ^ 60 = small c.args.est c.requires in
    grind (arith, to_z-of_z)
