-- The checks of stamps hold, both for drawn stamps and for true ones.
use Rattle.std.proofs.Common.{◌≡◌, refl, ℕ, ◌+◌, ◌-◌, ◌*◌, ◌/◌, ◌%◌, ◌^◌, ◌<◌, ◌≤◌, ℤ, pos, negsuc, neg_ℤ, ◌+ℤ◌, ◌-ℤ◌, ◌≤ℤ◌, unsigned_abs, true, arith}
use Rattle.std.proofs.lemmas.Int.{ints}
use Rattle.std.specs.Int.Signed.{le_z}
use Rattle.std.proofs.lemmas.Bool.{and_parts, and_right}
use Rattle.wrp_base.specs.Circle.{distance_round}
use Rattle.wrp_base.specs.Clock.{period_of, step_of}
use Rattle.wrp_base.specs.declared.time.Clock.{Clock}
use Rattle.wrp_base.specs.declared.time.Clock.TheVariants.{Mhz125, Mhz62}
use Rattle.wrp_base.specs.Division.{floor_quotient}
use Rattle.wrp_base.specs.Ranges.{IsAmong}
use Rattle.wrp_base.proofs.Integers.{le_plus, pos_le, pos_of_abs}
use Rattle.wrp_stamp.specs.Merge.{place_of as place_in_period}
use Rattle.wrp_stamp.specs.StampBound.{true_place}
use Rattle.wrp_course.specs.Checks.{AllHold, Holds}
use Rattle.wrp_course.specs.EventAt.{IsRaw, IsTime}
use Rattle.wrp_course.specs.Premises.{counter_check, may_fall, may_rise, raw_checks}
use Rattle.wrp_course.specs.Setting.{Setting}
use Rattle.wrp_sim.specs.Draws.{drawn, drawn_from}
use Rattle.wrp_sim.specs.Numbers.{drawn_stamp}
use Rattle.wrp_sim.specs.Rules.{is_tellable, true_raw}
use Rattle.wrp_sim.proofs.KeepsNumbers.{drawn_most, stamp_least, stamp_most, stamp_within, whole_stamp}
use Rattle.wrp_sim.proofs.KeepsRaw.{true_tag}
use Rattle.wrp_sim.proofs.KeepsChecks.{not_more}

-- Raw stamps

counter_holds : (counter : ℕ) (due : ℤ) → pos counter ≡ due → Holds (counter_check counter due)
counter_holds counter due e = let h : unsigned_abs (pos counter -ℤ due) ≤ 0 = grind (arith, ints, e) in not_more (unsigned_abs (pos counter -ℤ due)) 0 h

period_large : (clock : Clock) → 524_288_000 ≤ period_of clock
period_large Mhz125 = omega arith
period_large Mhz62 = omega arith

period_small : (clock : Clock) → period_of clock ≤ 1_048_576_000
period_small Mhz125 = omega arith
period_small Mhz62 = omega arith

place_small : (clock : Clock) (at : ℤ) → true_place clock at < period_of clock
place_small Mhz125 (pos n) = omega arith
place_small Mhz125 (negsuc n) = omega arith
place_small Mhz62 (pos n) = omega arith
place_small Mhz62 (negsuc n) = omega arith

floor_least : (at : ℤ) (p : ℕ) → pos 0 ≤ℤ at → pos 0 ≤ℤ floor_quotient at (pos p)
floor_least (pos n) p h = omega (arith, ints)
floor_least (negsuc n) p h = absurd (omega (arith, ints, h))

half_later : (at : ℤ) (half : ℕ) → pos 0 ≤ℤ at → pos 0 ≤ℤ (at +ℤ pos half)
half_later at half h = omega (arith, ints, h)

pub raw_holds : (s : Setting) (transition e_tag : ℕ) (at : ℤ) → transition ≤ 16383 → step_of s.cfg.clock ≤ e_tag → pos 0 ≤ℤ at → AllHold (raw_checks s.cfg.clock e_tag transition at (true_raw s transition at))
raw_holds s transition e_tag at small wide least =
    let clock : Clock = s.cfg.clock in
    let half : ℕ = period_of clock / 2 in
    let later : pos 0 ≤ℤ (at +ℤ pos half) = half_later at half least in (
      not_more (distance_round clock (pos (place_in_period clock (true_raw s transition at).tag transition)) (pos (true_place clock at))) e_tag
          (true_tag clock (true_place clock at) transition e_tag (place_small clock at) small wide),
      (
        and_right (may_rise clock e_tag (true_place clock at)) (counter_check (true_raw s transition at).rising (floor_quotient at (pos (period_of clock)))).fails
            (counter_holds (unsigned_abs (floor_quotient at (pos (period_of clock)))) (floor_quotient at (pos (period_of clock))) (pos_of_abs (floor_quotient at (pos (period_of clock))) (floor_least at (period_of clock) least))),
        (
          and_right (may_fall clock e_tag (true_place clock at)) (counter_check (true_raw s transition at).falling (floor_quotient (at +ℤ pos half) (pos (period_of clock)))).fails
              (counter_holds (unsigned_abs (floor_quotient (at +ℤ pos half) (pos (period_of clock)))) (floor_quotient (at +ℤ pos half) (pos (period_of clock)))
              (pos_of_abs (floor_quotient (at +ℤ pos half) (pos (period_of clock))) (floor_least (at +ℤ pos half) (period_of clock) later))),
          tt,
        ),
      ),
    )

-- a reading that a stamp can show

at_most_told : (a b : ℤ) → le_z a b ≡ true → a ≤ℤ b
at_most_told a b e = grind (arith, ints)

pub record IsTold (s : Setting) (at : ℤ) : Type 0 where
  pub least : pos (2 * period_of s.cfg.clock) ≤ℤ at
  pub most : at ≤ℤ pos (2 ^ 62 * period_of s.cfg.clock)

pub tellable : (s : Setting) (at : ℤ) → is_tellable s at ≡ true → IsTold s at
tellable s at e =
    let both : (le_z (pos (2 * period_of s.cfg.clock)) at ≡ true) × (le_z at (pos (2 ^ 62 * period_of s.cfg.clock)) ≡ true) =
    and_parts (le_z (pos (2 * period_of s.cfg.clock)) at) (le_z at (pos (2 ^ 62 * period_of s.cfg.clock))) e in
    record { least = at_most_told (pos (2 * period_of s.cfg.clock)) at both.0; most = at_most_told at (pos (2 ^ 62 * period_of s.cfg.clock)) both.1 }

least_zero : (p : ℕ) (at : ℤ) → pos (2 * p) ≤ℤ at → pos 0 ≤ℤ at
least_zero p at h = omega (arith, ints, h)

pub told_least : (s : Setting) (at : ℤ) → IsTold s at → pos 0 ≤ℤ at
told_least s at h = least_zero (period_of s.cfg.clock) at h.least

-- counters in their ranges
rising_in : (clock : Clock) (n : ℕ) → 2 * period_of clock ≤ n → n ≤ 2 ^ 62 * period_of clock → IsAmong 1 9_223_372_036_854_775_807 (n / period_of clock)
rising_in Mhz125 n h k = (omega (arith, h, k), omega (arith, h, k))
rising_in Mhz62 n h k = (omega (arith, h, k), omega (arith, h, k))

falling_in : (clock : Clock) (n : ℕ) → 2 * period_of clock ≤ n → n ≤ 2 ^ 62 * period_of clock → IsAmong 1 9_223_372_036_854_775_807 ((n + period_of clock / 2) / period_of clock)
falling_in Mhz125 n h k = (omega (arith, h, k), omega (arith, h, k))
falling_in Mhz62 n h k = (omega (arith, h, k), omega (arith, h, k))

tag_in : (x : ℕ) → x % 16384 ≤ 16_383
tag_in x = omega arith

pub raw_by : (s : Setting) (transition : ℕ) (at : ℤ) → IsTold s at → IsRaw (true_raw s transition at)
raw_by s transition (pos n) h = record {
  rising = rising_in s.cfg.clock n (pos_le (2 * period_of s.cfg.clock) n h.least) (pos_le n (2 ^ 62 * period_of s.cfg.clock) h.most);
  falling = falling_in s.cfg.clock n (pos_le (2 * period_of s.cfg.clock) n h.least) (pos_le n (2 ^ 62 * period_of s.cfg.clock) h.most);
  tag = tag_in (true_place s.cfg.clock (pos n) / step_of s.cfg.clock + transition);
}
raw_by s transition (negsuc n) h = absurd (let least : pos 0 ≤ℤ negsuc n = told_least s (negsuc n) h in omega (arith, ints, least))

-- Stamps

pub record StampFits (e : ℕ) (at stamp : ℤ) : Type 0 where
  pub near : unsigned_abs (stamp -ℤ at) ≤ e
  pub time : IsTime stamp

far_told : (p : ℕ) → p ≤ 1_048_576_000 → pos (2 ^ 62 * p) ≤ℤ pos (2 ^ 62 * 1_048_576_000)
far_told p h = omega (arith, ints, h)

pub even_ends : (k : ℕ) → neg_ℤ (pos k) ≤ℤ pos k
even_ends k = omega (arith, ints)

pub stamp_fits : (s : Setting) (e state : ℕ) (at : ℤ) → 1_000 ≤ e → e ≤ 1_000_000_000 → IsTold s at → StampFits e at (drawn_stamp (e / 1_000 - 1) at state)
stamp_fits s e state at large small told =
    let k : ℕ = e / 1_000 - 1 in
    let d : ℤ = drawn_from (neg_ℤ (pos k)) (pos k) state in
    let least : neg_ℤ (pos k) ≤ℤ d = le_plus (neg_ℤ (pos k)) _ in
    let most : d ≤ℤ pos k = drawn_most (neg_ℤ (pos k)) (pos k) (drawn state) (even_ends k) in
    let near : unsigned_abs (drawn_stamp k at state -ℤ at) ≤ e = stamp_within at d k e least most refl large in
    let low : pos 0 ≤ℤ drawn_stamp k at state = stamp_least (drawn_stamp k at state) at e (period_of s.cfg.clock) near small (period_large s.cfg.clock) told.least in
    record {
      near = near;
      time = record {
        least = low;
        greatest = stamp_most (drawn_stamp k at state) at e (period_of s.cfg.clock) near small (period_small s.cfg.clock) (far_told (period_of s.cfg.clock) (period_small s.cfg.clock)) low told.most;
        whole = whole_stamp (floor_quotient at (pos 1_000)) d;
      };
    }
