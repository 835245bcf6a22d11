-- The law of a link, as the link database gives it: its range, its error and its answers (this project's
-- profile).
use Rattle.std.specs.Prelude.{ℕ, ℤ, pos, neg_ℤ, ◌^◌, ◌+◌, ◌≤◌, unsigned_abs}
use Rattle.wrp_law.specs.Law.{floor_at}
use Rattle.wrp_law.specs.Table.{IsTable, IsWithin, first_x, last_x, table_value}
use Rattle.wrp_law.specs.declared.delay.LawKind.{LawKind}
use Rattle.wrp_law.specs.declared.delay.LawKind.TheVariants.{Linear}
use Rattle.wrp_law.specs.declared.link_law.LinkLaw.{LinkLaw}
use Rattle.wrp_law.specs.declared.link_law.LinkLaw.TheVariants.{Fraction, Table}

-- the law's numbers are in their ranges, and the points of a table are near the fraction
abbrev pub IsSound : LinkLaw → Type 0
IsSound (Fraction kappa) = unsigned_abs kappa ≤ 2 ^ 38
IsSound (Table kappa points err) =
    (unsigned_abs kappa ≤ 2 ^ 38) × (err ≤ 1_000_000_000) × IsTable points.now × IsWithin kappa err points.now

-- the exact fraction that the law represents
abbrev pub kind_of : LinkLaw → LawKind
kind_of (Fraction kappa) = Linear kappa
kind_of (Table kappa points err) = Linear kappa

-- the least delay both ways
abbrev pub least_of : LinkLaw → ℤ
least_of (Fraction kappa) = neg_ℤ (pos (2 ^ 30))
least_of (Table kappa points err) = first_x points.now

-- the greatest delay both ways
abbrev pub most_of : LinkLaw → ℤ
most_of (Fraction kappa) = pos (2 ^ 53)
most_of (Table kappa points err) = last_x points.now

-- how far an answer may be from the exact fraction
abbrev pub error_of : LinkLaw → ℕ
error_of (Fraction kappa) = 1
error_of (Table kappa points err) = err + 1

-- the delay down, where x is the delay both ways
abbrev pub down_of : LinkLaw → ℤ → ℤ
down_of (Fraction kappa) x = floor_at kappa x
down_of (Table kappa points err) x = table_value points.now x
