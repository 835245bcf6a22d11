-- A chain's constant, sample by sample.
use Rattle.std.proofs.Common.{◌≡◌, ℕ, ℤ, pos, negsuc, neg_ℤ, ◌+◌, ◌-◌, ◌*◌, ◌/◌, ◌%◌, ◌<◌, ◌≤◌, ◌+ℤ◌, ◌-ℤ◌, ◌≤ℤ◌, ◌<ℤ◌, lit<, arith, min}
use Rattle.std.proofs.lemmas.Int.{ints}
use Rattle.std.proofs.Math.Nat.{div-add-mod, mod-lt}
use Rattle.std.specs.Prelude.{unsigned_abs}
use Rattle.std.specs.Int.{int_rem_euclid}
use Rattle.std.proofs.lemmas.Bool.{cases_lt}
use mathlib.Core.Logic.{inl, inr}
use Rattle.wrp_base.specs.declared.time.Clock.{Clock}
use Rattle.wrp_base.specs.declared.time.Clock.TheVariants.{Mhz125, Mhz62}
use Rattle.wrp_base.specs.Clock.{period_of}
use Rattle.wrp_base.specs.Circle.{distance_round}
use Rattle.wrp_base.specs.Closeness.{IsWithin}
use Rattle.wrp_phase.specs.Beat.{phase_of}
use Rattle.wrp_phase.specs.Unwrapping.{brought_round}
use Rattle.wrp_phase.proofs.UnwrapLaws.{brought_round-is}
use Rattle.wrp_tracking_laws.specs.ChainPhase.{KeepsConstant, HasPhaseRoom, unwrapped_by}

-- a good sample: its tag, and the true phase at its moment
pub record TruePhase : Type 0 where
  pub tag : ℕ
  pub phase : ℤ

-- one good sample after another: its tag is within e of the true phase round the period, which has moved by at most h
pub record Follows (clock : Clock) (e h : ℕ) (before next : TruePhase) : Type 0 where
  pub tag : distance_round clock (pos (phase_of clock next.tag)) next.phase ≤ e
  pub moved : IsWithin h next.phase before.phase

-- what is left of z when whole multiples of p are taken away or added
left_over : (z : ℤ) (p : ℕ) → 0 < p →
    (i : ℕ) × (j : ℕ) × (pos (unsigned_abs (int_rem_euclid z (pos p))) +ℤ pos (i * p) ≡ z +ℤ pos (j * p)) × (unsigned_abs (int_rem_euclid z (pos p)) < p)
left_over (pos n) p positive =
    let whole : p * (n / p) + n % p ≡ n = div-add-mod n p in
    let below : n % p < p = mod-lt n positive in
    (n / p, 0, omega (arith, ints), below)
left_over (negsuc n) p positive =
    let whole : p * (n / p) + n % p ≡ n = div-add-mod n p in
    let below : n % p < p = mod-lt n positive in
    (0, n / p + 1, omega (arith, ints), omega arith)

-- two times that are near round the period differ by a small error and whole periods
apart-is : (p e : ℕ) (a b : ℤ) → 0 < p → min (unsigned_abs (int_rem_euclid (a -ℤ b) (pos p))) (p - unsigned_abs (int_rem_euclid (a -ℤ b) (pos p))) ≤ e →
    (error : ℤ) × (i : ℕ) × (j : ℕ) × (a +ℤ pos (j * p) ≡ (b +ℤ error) +ℤ pos (i * p)) × (unsigned_abs error ≤ e)
apart-is p e a b positive near =
    let (i, j, is, below) = left_over (a -ℤ b) p positive in
    elim (cases_lt e (unsigned_abs (int_rem_euclid (a -ℤ b) (pos p)))) [
      | inl far ↦ (pos (unsigned_abs (int_rem_euclid (a -ℤ b) (pos p))) -ℤ pos p, i + 1, j, omega (arith, ints), omega (arith, ints))
      | inr close ↦ (pos (unsigned_abs (int_rem_euclid (a -ℤ b) (pos p))), i, j, omega (arith, ints), omega (arith, ints))
    ]

-- if two times differ only by whole periods, they are no distance apart round the period
whole-round : (clock : Clock) (a b : ℤ) (i j : ℕ) → a +ℤ pos (i * period_of clock) ≡ b +ℤ pos (j * period_of clock) → distance_round clock a b ≡ 0
whole-round Mhz125 a b i j is =
    let (k, l, left, below) = left_over (a -ℤ b) 524_288_000 (lit< tt) in
    omega (arith, ints)
whole-round Mhz62 a b i j is =
    let (k, l, left, below) = left_over (a -ℤ b) 1_048_576_000 (lit< tt) in
    omega (arith, ints)

-- near round the period, for a clock
apart-round : (clock : Clock) (e : ℕ) (a b : ℤ) → distance_round clock a b ≤ e →
    (error : ℤ) × (i : ℕ) × (j : ℕ) × (a +ℤ pos (j * period_of clock) ≡ (b +ℤ error) +ℤ pos (i * period_of clock)) × (unsigned_abs error ≤ e)
apart-round Mhz125 e a b near = apart-is 524_288_000 e a b (lit< tt) near
apart-round Mhz62 e a b near = apart-is 1_048_576_000 e a b (lit< tt) near

-- the three sums together
step_sum : (u c phase error d old_place place i0 j0 i1 j1 i2 j2 : ℤ) →
    (u -ℤ c) +ℤ j0 ≡ old_place +ℤ i0 → place +ℤ j1 ≡ (phase +ℤ error) +ℤ i1 → d +ℤ i2 ≡ (place -ℤ old_place) +ℤ j2 →
    (((u +ℤ d) -ℤ phase) -ℤ (c +ℤ error)) +ℤ ((j0 +ℤ j1) +ℤ i2) ≡ (i0 +ℤ i1) +ℤ j2
step_sum u c phase error d old_place place i0 j0 i1 j1 i2 j2 off new step = omega (arith, ints)

-- how large that can be: half is half a period
step_size : (u c old_phase phase error d : ℤ) (e h half : ℕ) →
    h + 2 * e < half → IsWithin e (u -ℤ old_phase) c → IsWithin h phase old_phase → unsigned_abs error ≤ e →
    neg_ℤ (pos half) ≤ℤ d → d <ℤ pos half → unsigned_abs (((u +ℤ d) -ℤ phase) -ℤ (c +ℤ error)) < half + half
step_size u c old_phase phase error d e h half small near moved off least most = omega (arith, ints)

-- whole periods that are less than one are none
no_period : (clock : Clock) (a b : ℤ) (i0 i1 i2 j0 j1 j2 : ℕ) → unsigned_abs (a -ℤ b) < period_of clock →
    (a -ℤ b) +ℤ ((pos (j0 * period_of clock) +ℤ pos (j1 * period_of clock)) +ℤ pos (i2 * period_of clock)) ≡ (pos (i0 * period_of clock) +ℤ pos (i1 * period_of clock)) +ℤ pos (j2 * period_of clock) →
    a ≡ b
no_period Mhz125 a b i0 i1 i2 j0 j1 j2 size is = omega (arith, ints)
no_period Mhz62 a b i0 i1 i2 j0 j1 j2 size is = omega (arith, ints)

half_of : (clock : Clock) (e h : ℕ) → 2 * h + 4 * e < period_of clock → (h + 2 * e < period_of clock / 2) × (period_of clock / 2 + period_of clock / 2 ≡ period_of clock)
half_of Mhz125 e h small = omega arith
half_of Mhz62 e h small = omega arith

-- the one number that is whole periods and less than one
step_error : (clock : Clock) (u c old_phase phase error d old_place place : ℤ) (e h i0 j0 i1 j1 i2 j2 : ℕ) →
    2 * h + 4 * e < period_of clock → IsWithin e (u -ℤ old_phase) c → IsWithin h phase old_phase → unsigned_abs error ≤ e →
    (u -ℤ c) +ℤ pos (j0 * period_of clock) ≡ old_place +ℤ pos (i0 * period_of clock) →
    place +ℤ pos (j1 * period_of clock) ≡ (phase +ℤ error) +ℤ pos (i1 * period_of clock) →
    d +ℤ pos (i2 * period_of clock) ≡ (place -ℤ old_place) +ℤ pos (j2 * period_of clock) →
    neg_ℤ (pos (period_of clock / 2)) ≤ℤ d → d <ℤ pos (period_of clock / 2) →
    (u +ℤ d) -ℤ phase ≡ c +ℤ error
step_error clock u c old_phase phase error d old_place place e h i0 j0 i1 j1 i2 j2 small near moved off old new step least most =
    let (fits, whole) = half_of clock e h small in
    let size : unsigned_abs (((u +ℤ d) -ℤ phase) -ℤ (c +ℤ error)) < period_of clock / 2 + period_of clock / 2 = step_size u c old_phase phase error d e h (period_of clock / 2) fits near moved off least most in
    no_period clock ((u +ℤ d) -ℤ phase) (c +ℤ error) i0 i1 i2 j0 j1 j2 (rw whole at size)
    (step_sum u c phase error d old_place place (pos (i0 * period_of clock)) (pos (j0 * period_of clock)) (pos (i1 * period_of clock)) (pos (j1 * period_of clock)) (pos (i2 * period_of clock)) (pos (j2 * period_of clock)) old new step)

-- no error
no_error : (a b error p q : ℤ) → a +ℤ p ≡ (b +ℤ error) +ℤ q → unsigned_abs error ≤ 0 → a +ℤ p ≡ b +ℤ q
no_error a b error p q is none = omega (arith, ints)

-- the first sample's constant
first_is : (u place phase error i j : ℤ) → place +ℤ j ≡ (phase +ℤ error) +ℤ i → (u -ℤ (u -ℤ (phase +ℤ error))) +ℤ i ≡ place +ℤ j
first_is u place phase error i j is = omega (arith, ints)

first_near : (u phase error : ℤ) (e : ℕ) → unsigned_abs error ≤ e → IsWithin e (u -ℤ phase) (u -ℤ (phase +ℤ error))
first_near u phase error e small = omega (arith, ints)

-- and a further one's
next_is : (u d c place phase error i j : ℤ) → (u +ℤ d) -ℤ phase ≡ c +ℤ error → place +ℤ j ≡ (phase +ℤ error) +ℤ i → ((u +ℤ d) -ℤ c) +ℤ i ≡ place +ℤ j
next_is u d c place phase error i j step is = omega (arith, ints)

next_near : (a c error : ℤ) (e : ℕ) → a ≡ c +ℤ error → unsigned_abs error ≤ e → IsWithin e a c
next_near a c error e step small = omega (arith, ints)

-- a chain has a constant: its first sample keeps one, whatever its u
pub constant-starts : (clock : Clock) (e : ℕ) (u : ℤ) (first : TruePhase) → distance_round clock (pos (phase_of clock first.tag)) first.phase ≤ e →
    (constant : ℤ) × KeepsConstant clock e constant u first.tag first.phase
constant-starts clock e u first near =
    let (error, i, j, is, small) = apart-round clock e (pos (phase_of clock first.tag)) first.phase near in (
      u -ℤ (first.phase +ℤ error),
      record {
        near = first_near u first.phase error e small;
        round = whole-round clock (u -ℤ (u -ℤ (first.phase +ℤ error))) (pos (phase_of clock first.tag)) i j
            (first_is u (pos (phase_of clock first.tag)) first.phase error (pos (i * period_of clock)) (pos (j * period_of clock)) is);
      },
    )

-- a good sample that follows another keeps the other's constant
pub constant-kept : (clock : Clock) (e h : ℕ) (constant u : ℤ) (before next : TruePhase) → HasPhaseRoom clock e h → KeepsConstant clock e constant u before.tag before.phase → Follows clock e h before next →
    KeepsConstant clock e constant (unwrapped_by clock u before.tag next.tag) next.tag next.phase
constant-kept clock e h constant u before next small keeps follows =
    let d : ℤ = brought_round clock (pos (phase_of clock next.tag) -ℤ pos (phase_of clock before.tag)) in
    let (none, i0, j0, old, zero_error) = apart-round clock 0 (u -ℤ constant) (pos (phase_of clock before.tag)) (omega (arith, keeps.round)) in
    let (error, i1, j1, new, off) = apart-round clock e (pos (phase_of clock next.tag)) next.phase follows.tag in
    let (i2, j2, step, least, most) = brought_round-is clock (pos (phase_of clock next.tag) -ℤ pos (phase_of clock before.tag)) in
    let is : (u +ℤ d) -ℤ next.phase ≡ constant +ℤ error =
    step_error clock u constant before.phase next.phase error d (pos (phase_of clock before.tag)) (pos (phase_of clock next.tag)) e h i0 j0 i1 j1 i2 j2 small keeps.near follows.moved off
    (no_error (u -ℤ constant) (pos (phase_of clock before.tag)) none (pos (j0 * period_of clock)) (pos (i0 * period_of clock)) old zero_error) new step least most in
    record {
      near = next_near ((u +ℤ d) -ℤ next.phase) constant error e is off;
      round = whole-round clock ((u +ℤ d) -ℤ constant) (pos (phase_of clock next.tag)) i1 j1
          (next_is u d constant (pos (phase_of clock next.tag)) next.phase error (pos (i1 * period_of clock)) (pos (j1 * period_of clock)) is new);
    }
