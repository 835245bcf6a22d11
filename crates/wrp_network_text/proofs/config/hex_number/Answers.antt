use Rattle.std.proofs.Common.{arith}
use Rattle.wrp_network_text.proofs.Hex.{hex_fits}
use Rattle.wrp_network_text.proofs.config.hex_number.Goals as goal

pub overflow_mul-number : goal.overflow_mul-number
overflow_mul-number c =
    omega (arith, hex_fits c.args.digits.now c.loop-digit.digit-index c.loop-digit.number c.requires.digits c.requires.count c.loop-digit-test.true c.loop-digit.invariant)

pub overflow_add-number : goal.overflow_add-number
overflow_add-number c =
    omega (arith, c.hex_value.ensures.value, hex_fits c.args.digits.now c.loop-digit.digit-index c.loop-digit.number c.requires.digits c.requires.count c.loop-digit-test.true c.loop-digit.invariant)
