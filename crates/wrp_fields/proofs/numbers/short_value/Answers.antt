-- If the value of some digits does not fit 64 bits, the value of all does not fit.
use Rattle.std.proofs.Common.{arith}
use Rattle.wrp_fields.proofs.Values.{value_reaches}
use Rattle.wrp_fields.proofs.numbers.short_value.Goals as goal

pub returns-in_err-checked_mul : goal.returns-in_err-checked_mul
returns-in_err-checked_mul c =
    let reached = value_reaches c.args.digits.now c.loop-digit.digit-index c.loop-digit-test.true in
    rw c.from_residual.ensures (λ small. c.in_err-checked_mul.ensures (omega (arith, reached, c.loop-digit.invariant.0, small)))

pub returns-in_err-value : goal.returns-in_err-value
returns-in_err-value c =
    let reached = value_reaches c.args.digits.now c.loop-digit.digit-index c.loop-digit-test.true in
    rw c.from_residual-in_err-value.ensures (λ small. c.in_err-value.ensures (omega (arith, reached, c.loop-digit.invariant.0, small, c.in_ok-checked_mul.ensures, c.from.ensures, c.saturating_sub.ensures)))
