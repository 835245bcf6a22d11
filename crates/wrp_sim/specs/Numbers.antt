-- The numbers in the events of a simulator (this project's profile). Times are in tau, rates in 10^-12.
use Rattle.std.specs.Prelude.{ℕ, ℤ, pos, neg_ℤ, ◌+◌, ◌-◌, ◌*◌, ◌/◌, ◌%◌, ◌^◌, ◌≤◌, ◌≤ℤ◌, ◌&&◌, ◌+ℤ◌, ◌-ℤ◌, ◌*ℤ◌, unsigned_abs, Bool, Option, None, Some}
use Rattle.std.specs.Int.Signed.{le_z, lt_z}
use Rattle.wrp_base.specs.Clock.{period_of, step_of, steps_of_period}
use Rattle.wrp_base.specs.declared.time.Clock.{Clock}
use Rattle.wrp_base.specs.declared.time.Raw.{Raw}
use Rattle.wrp_base.specs.Division.{floor_quotient, trunc_quotient}
use Rattle.wrp_base.specs.Held.{held_within}
use Rattle.wrp_stamp.specs.StampBound.{true_place}
use Rattle.wrp_sim.specs.Draws.{drawn_from}

-- it is drawn whether something happens that happens so often of 1000 times
abbrev pub is_drawn : (permille state : ℕ) → Bool
is_drawn permille state = lt_z (drawn_from (pos 0) (pos 999) state) (pos permille)

-- Samples

-- how many bits are 0 at the front: 32, plus or minus up to beat
abbrev pub drawn_zeros : (beat state : ℕ) → ℕ
drawn_zeros beat state = unsigned_abs (pos 32 +ℤ drawn_from (neg_ℤ (pos beat)) (pos beat) state)

-- this many bits 0, and the rest of 64 bits 1
abbrev pub bits_behind : ℕ → ℕ
bits_behind zeros = 2 ^ (64 - zeros) - 1

-- the base that is 32 steps before a step of the detector
abbrev pub base_before : ℕ → ℕ
base_before step = (step + (steps_of_period - 32)) % steps_of_period

-- Stamps

-- a reading that a stamp can show: from 2 to 2^62 periods
abbrev pub is_within : Clock → ℤ → Bool
is_within clock at = le_z (pos (2 * period_of clock)) at && le_z at (pos (2 ^ 62 * period_of clock))

-- a reading in whole 1,000 tau, and so many times 1,000 tau more
abbrev pub whole_thousands : ℤ → ℤ
whole_thousands at = floor_quotient at (pos 1_000) *ℤ pos 1_000

abbrev pub stamp_at : (at more : ℤ) → ℤ
stamp_at at more = whole_thousands at +ℤ (pos 1_000 *ℤ more)

-- with up to k times 1,000 tau more or less
abbrev pub drawn_stamp : (k : ℕ) (at : ℤ) (state : ℕ) → ℤ
drawn_stamp k at state = stamp_at at (drawn_from (neg_ℤ (pos k)) (pos k) state)

-- how many times 1,000 tau a stamp may be off, less one for its rounding
abbrev pub thousands : (e_tx : ℕ) → ℕ
thousands e_tx = e_tx / 1_000 - 1

-- the whole periods of a reading
abbrev pub periods_in : Clock → ℤ → ℕ
periods_in clock at = unsigned_abs (floor_quotient at (pos (period_of clock)))

abbrev pub half_later : Clock → ℤ → ℤ
half_later clock at = at +ℤ pos (period_of clock / 2)

-- the step of the detector in which a reading lies in its period, counted from the transition
abbrev pub tag_at : Clock → (transition : ℕ) → ℤ → ℕ
tag_at clock transition at = (true_place clock at / step_of clock + transition) % steps_of_period

-- the true counters, and the true tag
abbrev pub raw_at : Clock → (transition : ℕ) → ℤ → Raw
raw_at clock transition at = record {
  rising = periods_in clock at;
  falling = periods_in clock (half_later clock at);
  tag = tag_at clock transition at;
}

-- Rates

-- the rate of a clock by itself: 10 less for each step that the DAC is above the bias
abbrev pub own_rate : (free : ℤ) (dac : ℕ) (bias : ℤ) → ℤ
own_rate free dac bias = free -ℤ (pos 10 *ℤ (pos dac -ℤ bias))

-- a rate held within the one that a clock keeps, if it keeps one
abbrev pub held_to : (kept : Option ℕ) → ℤ → ℤ
held_to None rate = rate
held_to (Some most) rate = held_within (pos most) rate

-- the product of this time and of a rate that is no greater in size needs no more than 64 bits
pub record IsSlow (dt most : ℤ) : Type 0 where
  pub least : pos 0 ≤ℤ most
  pub fits : unsigned_abs dt * unsigned_abs most ≤ 2 ^ 62

-- how far a clock of this rate moves in a time
abbrev pub drift_at : (dt rate : ℤ) → ℤ
drift_at dt rate = trunc_quotient (dt *ℤ rate) (pos 1_000_000_000_000)
