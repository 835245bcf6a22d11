-- Times of stamps in a line (this project's profile).
use Rattle.std.specs.Prelude.{ℕ, ℤ, pos, ◌%◌, ◌==◌, if◌then◌else◌, Option, None, Some, option_and_then, List}
use Rattle.wrp_fields.specs.Numbers.{natural_in}

-- the time of a stamp, in tau: 0 to 2^92, a multiple of 1,000
abbrev pub time_of : List ℕ → Option ℤ
time_of text =
    option_and_then (λ n. if n % 1_000 == 0 then Some (pos n) else None)
    (natural_in 0 4_951_760_157_141_521_099_596_496_896 text)
