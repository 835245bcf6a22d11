-- The beat bits of a sample keep the beat pattern, if the base is 32 steps before the true step and nearly 32
-- blanks come first.
use Rattle.std.proofs.Common.{◌≡◌, inl, inr, ◌∙◌, ap, ℕ, ◌+◌, ◌-◌, ◌%◌, ◌^◌, ◌<◌, ◌≤◌, ◌==◌, ◌&&◌, ◌||◌, ℤ, pos, negsuc, ◌+ℤ◌, ◌-ℤ◌, not, Bool, false, arith}
use Rattle.std.proofs.lemmas.Int.{ints}
use Rattle.std.proofs.lemmas.Bool.{cases_lt}
use Rattle.std.proofs.lemmas.Bool.Decides.{nat_tests}
use Rattle.std.proofs.lemmas.Nat.Bits.{bit_at_ones, bit_at_ones_above}
use Rattle.std.specs.Int.Signed.{le_z, lt_z}
use Rattle.wrp_base.specs.declared.time.Clock.{Clock}
use Rattle.wrp_base.specs.declared.time.Clock.TheVariants.{Mhz125, Mhz62}
use Rattle.wrp_phase.specs.Beat.{beat_bit}
use Rattle.wrp_phase.specs.BeatPattern.{true_step, steps_past}

-- the base is 32 steps before the true step
pub steps_are : (c base : ℕ) → c < 16384 → base ≡ (c + 16352) % 16384 → steps_past c base ≡ pos 32
steps_are c base h e = grind (arith, ints)

pub true_step_small : (clock : Clock) (phase : ℤ) → true_step clock phase < 16384
true_step_small Mhz125 (pos n) = omega arith
true_step_small Mhz125 (negsuc n) = omega arith
true_step_small Mhz62 (pos n) = omega arith
true_step_small Mhz62 (negsuc n) = omega arith

-- this many blanks, and then ones
begin_blank : (blanks i : ℕ) → blanks ≤ 64 → i < blanks → beat_bit (2 ^ (64 - blanks) - 1) i ≡ 0
begin_blank blanks i h k = bit_at_ones_above (64 - blanks) (63 - i) (omega arith)

then_ones : (blanks i : ℕ) → i < 64 → blanks ≤ i → beat_bit (2 ^ (64 - blanks) - 1) i ≡ 1
then_ones blanks i h k = bit_at_ones (64 - blanks) (63 - i) (omega arith)

abbrev wrong_by : (beat i bit : ℕ) → Bool
wrong_by beat i bit =
    (lt_z (pos i) (pos 32 -ℤ pos beat) && not (bit == 0)) || (le_z (pos 32 +ℤ pos beat) (pos i) && not (bit == 1))

zero_right : (beat blanks i : ℕ) → i < blanks → blanks ≤ 32 + beat → wrong_by beat i 0 ≡ false
zero_right beat blanks i h k = grind (arith, ints, nat_tests)

one_right : (beat blanks i : ℕ) → blanks ≤ i → 32 ≤ blanks + beat → wrong_by beat i 1 ≡ false
one_right beat blanks i h k = grind (arith, ints, nat_tests)

pub bit_right : (beat blanks i : ℕ) → i < 64 → blanks ≤ 64 → 32 ≤ blanks + beat → blanks ≤ 32 + beat → wrong_by beat i (beat_bit (2 ^ (64 - blanks) - 1) i) ≡ false
bit_right beat blanks i h fits least most = elim (cases_lt i blanks) [
  | inl p ↦ ap (wrong_by beat i) (begin_blank blanks i fits p) ∙ zero_right beat blanks i p most
  | inr p ↦ ap (wrong_by beat i) (then_ones blanks i h p) ∙ one_right beat blanks i p least
]
