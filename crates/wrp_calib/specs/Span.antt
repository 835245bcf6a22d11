-- Intervals of whole numbers, and what a list of them has in common (this project's profile).
use Rattle.std.specs.Prelude.{ℕ, ℤ, ◌^◌, ◌≤◌, ◌≤ℤ◌, Bool, int_lt, unsigned_abs, List, [], ◌∷◌}
use Rattle.std.specs.Int.{int_max, int_min}
use Rattle.wrp_calib.specs.declared.span.Span.{Span}

-- the number lies in the interval
abbrev pub Holds : Span → ℤ → Type 0
Holds span x = (span.lo ≤ℤ x) × (x ≤ℤ span.hi)

-- no number lies in the interval
abbrev pub is_empty : Span → Bool
is_empty span = int_lt span.hi span.lo

-- the interval of one number
abbrev pub point : ℤ → Span
point x = record { lo = x; hi = x }

-- what two intervals have in common
abbrev pub meet : Span → Span → Span
meet a b = record { lo = int_max a.lo b.lo; hi = int_min a.hi b.hi }

-- the intersection of an interval and the intervals of a list
abbrev pub intersection : Span → List Span → Span
intersection span [] = span
intersection span (next ∷ rest) = meet span (intersection next rest)

-- the interval that the ends of an interval give: the lower one's lower end, and the upper one's upper end
abbrev pub both_ends : (ℤ → Span) → Span → Span
both_ends interval span = record { lo = (interval span.lo).lo; hi = (interval span.hi).hi }

-- each end is at most 2^n, either sign
abbrev pub IsSmall : ℕ → Span → Type 0
IsSmall n span = (unsigned_abs span.lo ≤ 2 ^ n) × (unsigned_abs span.hi ≤ 2 ^ n)
