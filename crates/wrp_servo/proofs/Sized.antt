-- The sizes of a setpoint's goal.
use Rattle.std.proofs.Common.{◌≡◌, ℤ, pos, true, ◌^◌, ◌<◌, ◌≤◌, ◌≤ℤ◌, ◌+ℤ◌, ◌-ℤ◌, unsigned_abs, arith}
use Rattle.std.proofs.lemmas.Int.{ints}
use Rattle.wrp_servo.specs.Sampling.{is_within}

-- what a test of a size says
pub within_says : (limit x : ℤ) → is_within limit x ≡ true → pos (unsigned_abs x) ≤ℤ limit
within_says limit x h = grind (arith, ints)

-- a goal that is set where est is within half a period keeps its size: it is u less est
pub half_keeps : (u s base u2 : ℤ) → unsigned_abs u < 2 ^ 61 → unsigned_abs (base +ℤ (u -ℤ u2)) ≤ 2 ^ 30 → unsigned_abs (s -ℤ ((base +ℤ (u -ℤ u2)) -ℤ (u -ℤ s))) ≤ 2 ^ 62
half_keeps u s base u2 h e = omega (arith, ints)

-- and so does one that is set in TRACK
pub goal_keeps : (u s r : ℤ) → unsigned_abs u < 2 ^ 61 → unsigned_abs (u -ℤ s) ≤ 2 ^ 30 → unsigned_abs r ≤ 2 ^ 30 → unsigned_abs (s -ℤ r) ≤ 2 ^ 62
goal_keeps u s r h e k = omega (arith, ints)
