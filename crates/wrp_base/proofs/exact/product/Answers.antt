-- The product of two numbers of these sizes fits, so what is computed is the product.
use Rattle.std.proofs.Common.{◌≤◌, ◌*◌, ◌^◌, ◌*ℤ◌, unsigned_abs, FitsSigned, arith, lit<}
use Rattle.std.proofs.Math.Nat.{mul-le-mul}
use Rattle.std.proofs.lemmas.Int.{fits_signed_mul, unsigned_abs-mul, to_z-of_z}
use Rattle.std.specs.Int.{w128}
use Rattle.wrp_base.proofs.exact.product.Goals as goal

pub returns-clause-value : goal.returns-clause-value
returns-clause-value c =
    let fits_product : FitsSigned w128 (c.args.a *ℤ c.args.b) = fits_signed_mul w128 c.args.a c.args.b (2 ^ 64) (2 ^ 61) c.requires.a c.requires.b (lit< tt) in
    grind (arith, to_z-of_z, fits_product)

pub returns-clause-size : goal.returns-clause-size
returns-clause-size c =
    let fits_product : FitsSigned w128 (c.args.a *ℤ c.args.b) = fits_signed_mul w128 c.args.a c.args.b (2 ^ 64) (2 ^ 61) c.requires.a c.requires.b (lit< tt) in
    let size : unsigned_abs (c.args.a *ℤ c.args.b) ≤ 2 ^ 64 * 2 ^ 61 = rw unsigned_abs-mul (mul-le-mul c.requires.a c.requires.b) in
    grind (arith, to_z-of_z, fits_product, size)
