-- A delay law: what is kept beside the closure, and the fact about the closure (this project's profile).
use Rattle.std.specs.Prelude.{ℕ, ℤ, pos, ◌^◌, ◌*◌, ◌≤◌, ◌≤ℤ◌, ◌+ℤ◌, ◌-ℤ◌, ◌*ℤ◌, unsigned_abs}
use Rattle.wrp_base.specs.Division.{floor_quotient}
use Rattle.wrp_law.specs.declared.delay.LawKind.{LawKind}
use Rattle.wrp_law.specs.declared.delay.LawKind.TheVariants.{Linear}

-- what a law is seen as: its closure, its kind, its least and greatest x, and its error, in tau
pub record LawOf (F : Type 0) : Type 0 where
  pub closure : F
  pub kind : LawKind
  pub lo : ℤ
  pub hi : ℤ
  pub err : ℕ

-- 2^40 times the exact fraction of x: of both ways the way down takes (2^39 + kappa) / 2^40
abbrev pub numerator : LawKind → ℤ → ℤ
numerator (Linear kappa) x = x *ℤ (pos (2 ^ 39) +ℤ kappa)

-- y is within err of the exact fraction of x, both sides times 2^40
abbrev pub IsNear : LawKind → ℕ → ℤ → ℤ → Type 0
IsNear kind err x y = unsigned_abs ((pos (2 ^ 40) *ℤ y) -ℤ numerator kind x) ≤ 2 ^ 40 * err

-- the kept fact: from lo to hi the closure may be called, and each of its answers is within err of the
-- exact fraction
pub record KeepsFact {F : Type 0} (pre : F → ℤ → Type 0) (post : F → ℤ → ℤ → Type 0) (law : LawOf F) : Type 0 where
  pub callable : (x : ℤ) → law.lo ≤ℤ x → x ≤ℤ law.hi → pre law.closure x
  pub near : (x y : ℤ) → law.lo ≤ℤ x → x ≤ℤ law.hi → post law.closure x y → IsNear law.kind law.err x y

-- the exact fraction of x, rounded down
abbrev pub floor_at : ℤ → ℤ → ℤ
floor_at kappa x = floor_quotient (x *ℤ (pos (2 ^ 39) +ℤ kappa)) (pos (2 ^ 40))
