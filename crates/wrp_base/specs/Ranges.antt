-- Numbers within limits, both of which belong to the range.
use Rattle.std.specs.Prelude.{ℕ, ℤ, pos, ◌≤◌, ◌≤ℤ◌}

-- a signed number from least to greatest
abbrev pub IsFromTo : ℕ → ℕ → ℤ → Type 0
IsFromTo least greatest z = (pos least ≤ℤ z) × (z ≤ℤ pos greatest)

-- an unsigned number from least to greatest
abbrev pub IsAmong : ℕ → ℕ → ℕ → Type 0
IsAmong least greatest n = (least ≤ n) × (n ≤ greatest)
