-- A history: what was true after each event, the newest first (this project's profile). The number of a moment is how
-- many moments come after it in the list, so it stays the same when more come.
use Rattle.std.specs.Prelude.{ℕ, ℤ, ◌≡◌, ◌*◌, ◌≤◌, ◌-ℤ◌, ◌⊎◌, ◌≤ℤ◌, unsigned_abs, length, List, [], ◌∷◌}

-- the moment of this number
abbrev pub Was : {A : Type 0} → List A → ℕ → A → Type 0
Was [] k x = ⊥
Was (m ∷ ms) k x = ((k ≡ length ms) × (x ≡ m)) ⊎ Was ms k x

-- each step from the moment of number k on is one of these
abbrev pub EachStep : {A : Type 0} → (A → A → Type 0) → ℕ → List A → Type 0
EachStep P k [] = Unit {0}
EachStep P k (m ∷ []) = Unit {0}
EachStep P k (m ∷ (b ∷ ms)) = (k ≤ length ms → P b m) × EachStep P k (b ∷ ms)

-- a quantity moves from a to b at most at this rate, in 10^-12, and time does not run back
pub record IsSlow {A : Type 0} (time : A → ℤ) (rate : ℕ) (quantity : A → ℤ) (a b : A) : Type 0 where
  pub order : time a ≤ℤ time b
  pub limit :
      unsigned_abs (quantity b -ℤ quantity a) * 1_000_000_000_000
      ≤ rate * unsigned_abs (time b -ℤ time a)
