-- Sizes of the numbers in events.
use Rattle.std.proofs.Common.{ℕ, ◌*◌, ◌/◌, ◌<◌, ◌≤◌, ◌^◌, ℤ, pos, ◌-ℤ◌, ◌*ℤ◌, unsigned_abs, arith}
use Rattle.std.proofs.lemmas.Int.{ints}
use Rattle.wrp_base.specs.Clock.{period_of}
use Rattle.wrp_base.specs.declared.time.Clock.{Clock}
use Rattle.wrp_base.specs.declared.time.Clock.TheVariants.{Mhz125, Mhz62}

pub few_periods : (clock : Clock) (n : ℕ) → n < 2 ^ 63 * period_of clock → n / period_of clock < 2 ^ 63
few_periods Mhz125 n h = omega (arith, h)
few_periods Mhz62 n h = omega (arith, h)

pub small_rate : (free bias : ℤ) (dac : ℕ) → unsigned_abs free ≤ 100_000 → unsigned_abs bias ≤ 65_535 → dac < 65_536 →
    unsigned_abs (free -ℤ (pos 10 *ℤ (pos dac -ℤ bias))) ≤ 1_000_000_000
small_rate free bias dac f b d = omega (arith, ints, f, b, d)
