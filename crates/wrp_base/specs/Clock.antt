-- The clock of a network: its period and its detector's step, and a second, in tau (this project's profile).
use Rattle.std.specs.Prelude.{ℕ, ℤ, pos}
use Rattle.wrp_base.specs.declared.time.Clock.{Clock}
use Rattle.wrp_base.specs.declared.time.Clock.TheVariants.{Mhz125, Mhz62}

-- one period, in tau
abbrev pub period_of : Clock → ℕ
period_of Mhz125 = 524_288_000
period_of Mhz62 = 1_048_576_000

-- one step of the phase detector, in tau
abbrev pub step_of : Clock → ℕ
step_of Mhz125 = 32_000
step_of Mhz62 = 64_000

-- the whole periods in one second
abbrev pub periods_per_second : Clock → ℕ
periods_per_second Mhz125 = 125_000_000
periods_per_second Mhz62 = 62_500_000

-- the steps of the phase detector in one period
abbrev pub steps_of_period : ℕ
steps_of_period = 16_384

-- one second, in tau
abbrev pub second : ℤ
second = pos 65_536_000_000_000_000
