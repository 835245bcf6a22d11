-- Differences and sums of numbers, as they are read.
use Rattle.std.proofs.Common.{◌≡◌, ℤ, ◌^◌, ◌≤◌, ◌+ℤ◌, ◌-ℤ◌, unsigned_abs, FitsSigned, to_z, of_z, ap₂, ◌∙◌, arith}
use Rattle.std.specs.Int.{w128}
use Rattle.std.proofs.lemmas.Int.{to_z-of_z, fits_signed_from_abs}
use Rattle.wrp_calib.specs.declared.span.Span.{Span}

-- the interval of two ends
abbrev pub span_of : ℤ → ℤ → Span
span_of lo hi = record { lo = lo; hi = hi }

-- a number that is at most 2^63 fits
pub fits_small : (a : ℤ) → unsigned_abs a ≤ 2 ^ 63 → FitsSigned w128 a
fits_small a h = fits_signed_from_abs w128 a (omega arith)

-- a difference, and a sum, of what two numbers are read as
pub less : (a b c r : ℤ) → FitsSigned w128 a → FitsSigned w128 b → b ≡ c →
    r ≡ to_z w128 (of_z w128 a) -ℤ to_z w128 (of_z w128 b) → r ≡ a -ℤ c
less a b c r f g same e = e ∙ ap₂ (λ (x y : ℤ). x -ℤ y) (to_z-of_z w128 a f) (to_z-of_z w128 b g ∙ same)

pub more : (a b c r : ℤ) → FitsSigned w128 a → FitsSigned w128 b → b ≡ c →
    r ≡ to_z w128 (of_z w128 a) +ℤ to_z w128 (of_z w128 b) → r ≡ a +ℤ c
more a b c r f g same e = e ∙ ap₂ (λ (x y : ℤ). x +ℤ y) (to_z-of_z w128 a f) (to_z-of_z w128 b g ∙ same)
