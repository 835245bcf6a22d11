-- The value of this many digits fits 64 bits.
use Rattle.std.proofs.Common.{ℕ, ◌<◌, ◌≤◌, ◌*◌, ◌+◌, ◌^◌, arith, lit≤}
use Rattle.std.proofs.Math.Nat.{pow-le-pow_right}
use Rattle.wrp_fields.proofs.numbers.few_digits.Goals as goal

-- with one more digit it still fits
fits : (value digit i count : ℕ) → value < 10 ^ i → i < count → count ≤ 19 → digit ≤ 255 → 10 * value + digit < 2 ^ 64
fits value digit i count small within few one =
    let least : i ≤ 18 = omega arith in
    let most : 10 ^ i ≤ 10 ^ 18 = pow-le-pow_right (lit≤ tt) least in
    omega arith

pub overflow_mul-value : goal.overflow_mul-value
overflow_mul-value c =
    let small = fits c.loop-digit.value 0 c.loop-digit.digit-index _ c.loop-digit.invariant.2 c.loop-digit-test.true c.requires (omega arith) in
    omega (arith, small)

pub overflow_add-value : goal.overflow_add-value
overflow_add-value c =
    let small = fits c.loop-digit.value c.from.result c.loop-digit.digit-index _ c.loop-digit.invariant.2 c.loop-digit-test.true c.requires (omega (arith, c.from.ensures)) in
    omega (arith, small)
