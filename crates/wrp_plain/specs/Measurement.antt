-- What one two-way measurement shows without White Rabbit: an offset, and how far the true one may be from it (this
-- project's profile).
use Rattle.std.specs.Prelude.{ℕ, ℤ, pos, ◌+◌, ◌*◌, ◌/◌, ◌^◌, ◌≤◌, ◌+ℤ◌, ◌-ℤ◌, ◌*ℤ◌, ◌≤ℤ◌, unsigned_abs}
use Rattle.wrp_base.specs.Division.{floor_quotient, ceil_quotient}
use Rattle.wrp_plain.specs.declared.settings.PlainSet.{PlainSet}

-- the settings are in their ranges
pub record HasRanges (set : PlainSet) : Type 0 where
  pub rate : set.rate ≤ 10 ^ 9
  pub err : set.err ≤ 10 ^ 9
  pub least : (pos 0 ≤ℤ set.least) × (set.least ≤ℤ pos (10 ^ 15))
  pub span : (pos 0 ≤ℤ set.span) × (set.span ≤ℤ pos (10 ^ 15))
  pub dmax : (pos 1 ≤ℤ set.dmax) × (set.dmax ≤ℤ pos (10 ^ 18))
  pub ring : (1 ≤ set.ring) × (set.ring ≤ 64)
  pub step : (pos 1 ≤ℤ set.step) × (set.step ≤ℤ pos (2 ^ 60))

-- how far an offset may move in a time, at a rate in 10^-12, rounded up
abbrev pub moves_within : ℕ → ℕ → ℕ
moves_within rate time = (rate * time + 999999999999) / 10 ^ 12

-- how far the offset may move in an exchange: v
abbrev pub exchange_move : PlainSet → ℕ
exchange_move set = moves_within set.rate (unsigned_abs set.span)

-- the round trip: (t2 - t1) + (t4 - t3)
abbrev pub round_of : ℤ → ℤ → ℤ → ℤ → ℤ
round_of t1 t2 t3 t4 = (t2 -ℤ t1) +ℤ (t4 -ℤ t3)

-- the least round trip that the settings allow: 2 least - 2 v - 4 err
abbrev pub least_round : PlainSet → ℤ
least_round set = ((pos 2 *ℤ set.least) -ℤ pos (2 * exchange_move set)) -ℤ pos (4 * set.err)

-- the offset as measured: half of (t2 - t1) - (t4 - t3), rounded down
abbrev pub est_of : ℤ → ℤ → ℤ → ℤ → ℤ
est_of t1 t2 t3 t4 = floor_quotient ((t2 -ℤ t1) -ℤ (t4 -ℤ t3)) (pos 2)

-- how far the true offset may be from it: half the round trip, rounded up, less least, and 2 v + 4 err + 1
abbrev pub base_of : PlainSet → ℤ → ℤ
base_of set round = (ceil_quotient round (pos 2) -ℤ set.least) +ℤ pos (2 * exchange_move set + 4 * set.err + 1)
