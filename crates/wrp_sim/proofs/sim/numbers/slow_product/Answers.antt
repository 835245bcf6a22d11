-- The product of a time and of a slow rate fits, so what is computed is the product.
use Rattle.std.proofs.Common.{◌≡◌, ◌∙◌, ap, ap₂, sym, subst, ℕ, ◌<◌, ◌≤◌, ◌^◌, ℤ, ◌*ℤ◌, unsigned_abs, FitsSigned, to_z, of_z, arith}
use Rattle.std.proofs.lemmas.Int.{fits_signed_mul, to_z-of_z}
use Rattle.std.specs.Int.{w64}
use Rattle.wrp_sim.specs.Numbers.{IsSlow}
use Rattle.wrp_sim.proofs.sim.numbers.slow_product.Goals as goal

below : (x : ℕ) → x ≤ 2 ^ 62 → x < 2 ^ 63
below x h = omega (arith, h)

same : (dt rate : ℤ) → FitsSigned w64 dt → FitsSigned w64 rate → to_z w64 (of_z w64 dt) *ℤ to_z w64 (of_z w64 rate) ≡ dt *ℤ rate
same dt rate h k = ap₂ (λ (a b : ℤ). a *ℤ b) (to_z-of_z w64 dt h) (to_z-of_z w64 rate k)

fits : (dt most rate : ℤ) → IsSlow dt most → unsigned_abs rate ≤ unsigned_abs most → FitsSigned w64 (dt *ℤ rate)
fits dt most rate slow h =
    let least : unsigned_abs dt ≤ unsigned_abs dt = omega arith in
    fits_signed_mul w64 dt rate (unsigned_abs dt) (unsigned_abs most) least h (below _ slow.fits)

pub overflow_mul-result : goal.overflow_mul-result
overflow_mul-result c =
    subst (FitsSigned w64) (sym (same c.args.dt c.args.rate c.ranges.dt c.ranges.rate))
    (fits c.args.dt c.args.most c.args.rate c.requires.slow c.requires.rate)

pub returns : goal.returns
returns c =
    ap (λ (z : ℤ). to_z w64 (of_z w64 z)) (same c.args.dt c.args.rate c.ranges.dt c.ranges.rate)
    ∙ to_z-of_z w64 (c.args.dt *ℤ c.args.rate) (fits c.args.dt c.args.most c.args.rate c.requires.slow c.requires.rate)
