-- Distance round the period: how far two times are apart, without whole periods (this project's profile).
use Rattle.std.specs.Prelude.{ℕ, ℤ, pos, ◌-◌, ◌-ℤ◌, min, unsigned_abs}
use Rattle.std.specs.Int.{int_rem_euclid}
use Rattle.wrp_base.specs.declared.time.Clock.{Clock}
use Rattle.wrp_base.specs.Clock.{period_of}

-- how far a is past b, in tau, without whole periods
abbrev pub ahead_of : Clock → ℤ → ℤ → ℕ
ahead_of clock a b = unsigned_abs (int_rem_euclid (a -ℤ b) (pos (period_of clock)))

-- the distance of a and b round the period, in tau
abbrev pub distance_round : Clock → ℤ → ℤ → ℕ
distance_round clock a b = min (ahead_of clock a b) (period_of clock - ahead_of clock a b)
