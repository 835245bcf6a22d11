-- A number that is held within a limit, either sign (this project's profile).
use Rattle.std.specs.Prelude.{ℤ, neg_ℤ}
use Rattle.std.specs.Int.{int_min, int_max}

-- x, or the nearer end if it is outside of -limit to limit
abbrev pub held_within : ℤ → ℤ → ℤ
held_within limit x = int_max (neg_ℤ limit) (int_min limit x)
