-- A number of the network that is in its range is read as it is.
use Rattle.std.proofs.Common.{◌≡◌, ℕ, ℤ, ◌<◌, ◌≤◌, ◌^◌, unsigned_abs, to_z, of_z, FitsSigned, ap, arith}
use Rattle.std.proofs.lemmas.Int.{ints, to_z-of_z}
use Rattle.std.specs.Int.{w64}
use Rattle.wrp_base.specs.Ranges.{IsFromTo}

-- one from a least to a greatest number
pub read_between : (least greatest : ℕ) (z : ℤ) → IsFromTo least greatest z → greatest < 2 ^ 62 → unsigned_abs (to_z w64 (of_z w64 z)) ≡ unsigned_abs z
read_between least greatest z range small =
    let fits : FitsSigned w64 z = omega (arith, ints) in
    ap unsigned_abs (to_z-of_z w64 z fits)

-- one of a size
pub read_of_size : (size : ℕ) (z : ℤ) → unsigned_abs z ≤ size → size < 2 ^ 62 → to_z w64 (of_z w64 z) ≡ z
read_of_size size z limit small =
    let fits : FitsSigned w64 z = omega (arith, ints) in
    to_z-of_z w64 z fits
