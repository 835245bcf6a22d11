-- How far a rate carries something in a time (this project's profile).
use Rattle.std.specs.Prelude.{ℕ, pos, ◌*◌, unsigned_abs}
use Rattle.wrp_base.specs.Division.{ceil_quotient}

-- n / d rounded up
unfoldable pub rounded_up : ℕ → ℕ → ℕ
rounded_up n d = unsigned_abs (ceil_quotient (pos n) (pos d))

-- how far a rate, in 10^-12, carries something in a time: in tau, rounded up
abbrev pub motion : ℕ → ℕ → ℕ
motion rate time = rounded_up (rate * time) 1_000_000_000_000
