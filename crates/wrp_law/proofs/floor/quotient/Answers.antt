-- The quotient rounded down is within one of the exact one.
use Rattle.std.proofs.Common.{ℕ, pos, ◌^◌, ◌*◌, ◌<◌, ◌≤◌, ◌+ℤ◌, ◌*ℤ◌, ◌-ℤ◌, ◌≤ℤ◌, ◌<ℤ◌, ℤ, unsigned_abs, arith}
use Rattle.std.proofs.Math.Nat.{mul-le-mul}
use Rattle.std.proofs.lemmas.Int.{ints, to_z-of_z, unsigned_abs-mul}
use Rattle.wrp_law.specs.declared.delay.LawKind.TheVariants.{Linear}
use Rattle.wrp_law.specs.Law.{floor_at, numerator}
use Rattle.wrp_base.specs.Division.{floor_quotient}
use Rattle.wrp_base.proofs.DivisionLaws.{floor_quotient-at_most, floor_quotient-next}
use Rattle.wrp_law.proofs.floor.quotient.Goals as goal

between : (z n : ℤ) (b : ℕ) → z ≤ℤ n → n <ℤ (z +ℤ pos b) → unsigned_abs (z -ℤ n) ≤ b
between z n b h k = omega (arith, ints)

small : (n q : ℤ) → unsigned_abs n ≤ 2 ^ 93 → (pos (2 ^ 40) *ℤ q) ≤ℤ n → n <ℤ (pos (2 ^ 40) *ℤ q +ℤ pos (2 ^ 40)) → unsigned_abs q < 2 ^ 54
small n q size h k = omega (arith, ints)

near : (n : ℤ) → unsigned_abs ((pos (2 ^ 40) *ℤ floor_quotient n (pos (2 ^ 40))) -ℤ n) ≤ 2 ^ 40 * 1
near n =
    between (pos (2 ^ 40) *ℤ floor_quotient n (pos (2 ^ 40))) n (2 ^ 40)
    (floor_quotient-at_most n (pos (2 ^ 40)) (omega (arith, ints)))
    (floor_quotient-next n (pos (2 ^ 40)) (omega (arith, ints)))

is_value : goal.returns-clause-value
is_value c = grind (arith, to_z-of_z)

pub returns-clause-value : goal.returns-clause-value
returns-clause-value c = is_value c

pub returns-clause-near : goal.returns-clause-near
returns-clause-near c = rw (is_value c) (near (numerator (Linear c.args.kappa) c.args.x))

pub returns-clause-size : goal.returns-clause-size
returns-clause-size c =
    let part : unsigned_abs (pos (2 ^ 39) +ℤ c.args.kappa) ≤ 2 ^ 40 = omega (arith, ints) in
    let size : unsigned_abs (c.args.x *ℤ (pos (2 ^ 39) +ℤ c.args.kappa)) ≤ 2 ^ 53 * 2 ^ 40 = rw unsigned_abs-mul (mul-le-mul c.requires.x part) in
    rw (is_value c)
    (small (numerator (Linear c.args.kappa) c.args.x) (floor_at c.args.kappa c.args.x) size
    (floor_quotient-at_most (numerator (Linear c.args.kappa) c.args.x) (pos (2 ^ 40)) (omega (arith, ints)))
    (floor_quotient-next (numerator (Linear c.args.kappa) c.args.x) (pos (2 ^ 40)) (omega (arith, ints))))
