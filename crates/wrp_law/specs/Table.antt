-- A table of points (x, y) in tau, between which a law is linear (this project's profile).
use Rattle.std.specs.Prelude.{ℕ, ℤ, pos, neg_ℤ, ◌^◌, ◌≤◌, ◌≤ℤ◌, ◌<ℤ◌, ◌+ℤ◌, ◌-ℤ◌, ◌*ℤ◌, cond, int_le, unsigned_abs, length, List, [], ◌∷◌}
use Rattle.std.specs.List.{AllByRecursion}
use Rattle.wrp_base.specs.Division.{floor_quotient}
use Rattle.wrp_law.specs.Law.{IsNear}
use Rattle.wrp_law.specs.declared.delay.LawKind.TheVariants.{Linear}

-- a point in the range of a table
pub record FitsPoint (point : ℤ × ℤ) : Type 0 where
  pub least : neg_ℤ (pos (2 ^ 30)) ≤ℤ point.0
  pub most : point.0 ≤ℤ pos (2 ^ 53)
  pub value : unsigned_abs point.1 ≤ 2 ^ 53

-- each point is past the one before it in x, and not below it in y
abbrev pub Rises : List (ℤ × ℤ) → Type 0
Rises [] = Unit {0}
Rises (start ∷ []) = Unit {0}
Rises (start ∷ end ∷ points) = (start.0 <ℤ end.0) × (start.1 ≤ℤ end.1) × Rises (end ∷ points)

-- a table: 2 to 32 points in their range, which rise
pub record IsTable (points : List (ℤ × ℤ)) : Type 0 where
  pub least : 2 ≤ length points
  pub most : length points ≤ 32
  pub fits : AllByRecursion FitsPoint points
  pub rises : Rises points

-- the x of the first point
abbrev pub first_x : List (ℤ × ℤ) → ℤ
first_x [] = pos 0
first_x (point ∷ points) = point.0

-- the x of the last point
abbrev pub last_x : List (ℤ × ℤ) → ℤ
last_x [] = pos 0
last_x (point ∷ []) = point.0
last_x (point ∷ next ∷ points) = last_x (next ∷ points)

-- x lies from the first point to the last
pub record IsOnTable (points : List (ℤ × ℤ)) (x : ℤ) : Type 0 where
  pub first : first_x points ≤ℤ x
  pub last : x ≤ℤ last_x points

-- the value at x of the segment from start to end, rounded down
abbrev pub segment_value : ℤ × ℤ → ℤ × ℤ → ℤ → ℤ
segment_value start end x =
    start.1 +ℤ floor_quotient ((x -ℤ start.0) *ℤ (end.1 -ℤ start.1)) (end.0 -ℤ start.0)

-- the value at x: the value on the first segment that has x
abbrev pub table_value : List (ℤ × ℤ) → ℤ → ℤ
table_value [] x = pos 0
table_value (point ∷ []) x = point.1
table_value (start ∷ end ∷ points) x =
    cond (int_le x end.0) (segment_value start end x) (table_value (end ∷ points) x)

-- each point is within err of the exact fraction
abbrev pub IsWithin : ℤ → ℕ → List (ℤ × ℤ) → Type 0
IsWithin kappa err points = AllByRecursion (λ point. IsNear (Linear kappa) err point.0 point.1) points

-- on a table that rises the value never falls as x rises
abbrev pub TableNeverFalls : Type 0
TableNeverFalls =
    (points : List (ℤ × ℤ)) (x z : ℤ) → Rises points → first_x points ≤ℤ x → x ≤ℤ z → z ≤ℤ last_x points
    → table_value points x ≤ℤ table_value points z
