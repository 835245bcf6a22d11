-- Numbers, as they are read.
use Rattle.std.proofs.Common.{◌≡◌, ℤ, ◌^◌, ◌≤◌, ◌-ℤ◌, unsigned_abs, FitsSigned, to_z, of_z, ap₂, ◌∙◌, arith}
use Rattle.std.specs.Int.{w64, w128}
use Rattle.std.proofs.lemmas.Int.{to_z-of_z, fits_signed_from_abs}

-- a stamp is read as it is
pub stamp_is : (a : ℤ) → unsigned_abs a ≤ 2 ^ 61 → to_z w64 (of_z w64 a) ≡ a
stamp_is a h = to_z-of_z w64 a (fits_signed_from_abs w64 a (omega arith))

-- what a way measured more than its delay is read as it is
pub way_is : (t1 t2 d r : ℤ) → unsigned_abs t1 ≤ 2 ^ 61 → unsigned_abs t2 ≤ 2 ^ 61 → FitsSigned w64 d → FitsSigned w128 r →
    r ≡ (to_z w64 (of_z w64 t2) -ℤ to_z w64 (of_z w64 t1)) -ℤ to_z w64 (of_z w64 d) → to_z w128 (of_z w128 r) ≡ (t2 -ℤ t1) -ℤ d
way_is t1 t2 d r h k f g e =
    let minus = λ (a b : ℤ). a -ℤ b in
    to_z-of_z w128 r g ∙ e ∙ ap₂ minus (ap₂ minus (stamp_is t2 k) (stamp_is t1 h)) (to_z-of_z w64 d f)
