use Rattle.std.proofs.Common.{◌≡◌, ap₂, sym, subst, ◌/◌, ◌<◌, ◌^◌, unsigned_abs, arith}
use Rattle.std.proofs.lemmas.Int.{ints}
use Rattle.wrp_base.specs.Clock.{period_of}
use Rattle.wrp_sim.proofs.Numbers.{few_periods}
use Rattle.wrp_sim.proofs.sim.numbers.periods.Goals as goal

pub overflow_cast-result : goal.overflow_cast-result
overflow_cast-result c =
    let above : c.unsigned_abs.result ≡ unsigned_abs c.args.at = omega (arith, ints, c.unsigned_abs.ensures.value) in
    let below : c.unsigned_abs-2.result ≡ period_of c.args.clock = omega (arith, ints, c.unsigned_abs-2.ensures.value, c.period.ensures) in
    let few : c.unsigned_abs.result / c.unsigned_abs-2.result < 2 ^ 63 =
    subst (λ n. n < 2 ^ 63) (sym (ap₂ (λ a b. a / b) above below)) (few_periods c.args.clock (unsigned_abs c.args.at) c.requires.most) in
    omega (arith, few)
