-- Quotients of whole numbers by a positive one, rounded down, up and towards zero (this project's profile: nothing
-- else is rounded).
use Rattle.std.specs.Prelude.{ℤ, neg_ℤ, int_div}
use Rattle.std.specs.Int.{int_div_euclid}

-- a / b rounded down
abbrev pub floor_quotient : ℤ → ℤ → ℤ
floor_quotient a b = int_div_euclid a b

-- a / b rounded up
abbrev pub ceil_quotient : ℤ → ℤ → ℤ
ceil_quotient a b = neg_ℤ (int_div_euclid (neg_ℤ a) b)

-- a / b rounded towards zero
abbrev pub trunc_quotient : ℤ → ℤ → ℤ
trunc_quotient a b = int_div a b
