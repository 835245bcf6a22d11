-- A signed number of the code is read unchanged.
use Rattle.std.proofs.Common.{◌≡◌, ℤ, ◌≤◌, ◌^◌, unsigned_abs, to_z, of_z, FitsSigned, arith}
use Rattle.std.proofs.lemmas.Int.{ints, to_z-of_z}
use Rattle.std.specs.Int.{w128}

pub read : (z : ℤ) → unsigned_abs z ≤ 2 ^ 126 → to_z w128 (of_z w128 z) ≡ z
read z limit =
    let fits : FitsSigned w128 z = omega (arith, ints) in
    to_z-of_z w128 z fits
