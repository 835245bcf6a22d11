-- The error statement of a tag.
use Rattle.std.proofs.Common.{◌≡◌, ℕ, ℤ, pos, negsuc, ◌+◌, ◌-◌, ◌*◌, ◌/◌, ◌%◌, ◌<◌, ◌≤◌, ◌≤ℤ◌, ◌+ℤ◌, ◌-ℤ◌, min, unsigned_abs, subst, refl, ap, arith, Some}
use Rattle.std.proofs.lemmas.Int.{ints, int_rem_euclid_is}
use Rattle.wrp_base.specs.declared.time.Clock.{Clock}
use Rattle.wrp_base.specs.declared.time.Clock.TheVariants.{Mhz125, Mhz62}
use Rattle.wrp_base.specs.Clock.{period_of, step_of, steps_of_period}
use Rattle.wrp_base.specs.Circle.{distance_round}
use Rattle.wrp_phase.specs.Beat.{phase_of, beat_bit, deglitched, tag_of}
use Rattle.wrp_phase.specs.BeatPattern.{true_step, steps_past, detector_error, TagWithinDetectorError}
use Rattle.wrp_phase.proofs.Beats.{zeros-least, zeros-most, settled}
use Rattle.std.specs.Int.{count_zeros, leading_zeros, trailing_ones, w64, int_rem_euclid}
use Rattle.std.proofs.lemmas.Bool.Decides.{nat_tests}

-- whole periods aside, a time is no further round the period than its size
round : (clock : Clock) (w y : ℤ) (k l e : ℕ) → w +ℤ pos (period_of clock * k) ≡ y +ℤ pos (period_of clock * l) → unsigned_abs y ≤ e →
    min (unsigned_abs (int_rem_euclid w (pos (period_of clock)))) (period_of clock - unsigned_abs (int_rem_euclid w (pos (period_of clock)))) ≤ e
round Mhz125 (pos a) y k l e is most = omega (arith, ints)
round Mhz125 (negsuc a) y k l e is most = omega (arith, ints)
round Mhz62 (pos a) y k l e is most = omega (arith, ints)
round Mhz62 (negsuc a) y k l e is most = omega (arith, ints)

-- how many steps the true one is past the base, with a period added
past_is : (step base : ℕ) → base < steps_of_period → steps_past step base ≡ pos ((step + 24_576 - base) % 16_384) -ℤ pos 8_192
past_is step base h = ap (λ z. z -ℤ pos 8_192)
    (int_rem_euclid_is ((pos step -ℤ pos base) +ℤ pos 8_192) (pos 16_384) 16_384 1 (step + 24_576 - base) (omega (arith, ints)) refl (omega (arith, ints)))

-- a count of steps from the base that is within `beat` of the steps to the step of a time in its period gives a tag
-- within the detector's error
near_rest : (clock : Clock) (base count beat rest g : ℕ) (phase : ℤ) (k l : ℕ) → base < steps_of_period →
    phase +ℤ pos (period_of clock * k) ≡ pos (period_of clock * l + rest) →
    g ≡ (rest / step_of clock + 24_576 - base) % 16_384 →
    ((pos g -ℤ pos 8_192) -ℤ pos beat) ≤ℤ pos count →
    pos count ≤ℤ ((pos g -ℤ pos 8_192) +ℤ pos beat) →
    distance_round clock (pos (phase_of clock ((base + count) % steps_of_period))) phase ≤ detector_error clock beat
near_rest Mhz125 base count beat rest g phase k l h is g_is least most =
    let q : ℕ = (rest / 32_000 + 24_576 - base) / 16_384 in
    let j : ℕ = (base + count) / 16_384 in
    round Mhz125 (pos (32_000 * ((base + count) % 16_384)) -ℤ phase) (((pos (32_000 * count) +ℤ pos 262_144_000) -ℤ pos (32_000 * g)) -ℤ pos (rest % 32_000)) (q + j + l) (k + 1) ((beat + 1) * 32_000)
    (omega (arith, ints)) (omega (arith, ints))
near_rest Mhz62 base count beat rest g phase k l h is g_is least most =
    let q : ℕ = (rest / 64_000 + 24_576 - base) / 16_384 in
    let j : ℕ = (base + count) / 16_384 in
    round Mhz62 (pos (64_000 * ((base + count) % 16_384)) -ℤ phase) (((pos (64_000 * count) +ℤ pos 524_288_000) -ℤ pos (64_000 * g)) -ℤ pos (rest % 64_000)) (q + j + l) (k + 1) ((beat + 1) * 64_000)
    (omega (arith, ints)) (omega (arith, ints))

-- a time is whole periods and its remainder
record Parts (clock : Clock) (phase : ℤ) : Type 0 where
  k : ℕ
  l : ℕ
  is : phase +ℤ pos (period_of clock * k) ≡ pos (period_of clock * l + unsigned_abs (int_rem_euclid phase (pos (period_of clock))))

parts : (clock : Clock) (phase : ℤ) → Parts clock phase
parts Mhz125 (pos a) = record { k = 0; l = a / 524_288_000; is = omega (arith, ints) }
parts Mhz125 (negsuc a) = record { k = a / 524_288_000 + 1; l = 0; is = omega (arith, ints) }
parts Mhz62 (pos a) = record { k = 0; l = a / 1_048_576_000; is = omega (arith, ints) }
parts Mhz62 (negsuc a) = record { k = a / 1_048_576_000 + 1; l = 0; is = omega (arith, ints) }

-- a count of steps from the base that is within `beat` of the steps to the true step gives a tag within the detector's
-- error
near_tag : (clock : Clock) (base count beat : ℕ) (phase : ℤ) → base < steps_of_period →
    (steps_past (true_step clock phase) base -ℤ pos beat) ≤ℤ pos count →
    pos count ≤ℤ (steps_past (true_step clock phase) base +ℤ pos beat) →
    distance_round clock (pos (phase_of clock ((base + count) % steps_of_period))) phase ≤ detector_error clock beat
near_tag clock base count beat phase h least most =
    let past : steps_past (true_step clock phase) base ≡ pos ((true_step clock phase + 24_576 - base) % 16_384) -ℤ pos 8_192 = past_is (true_step clock phase) base h in
    let parted : Parts clock phase = parts clock phase in
    near_rest clock base count beat (unsigned_abs (int_rem_euclid phase (pos (period_of clock)))) _ phase parted.k parted.l h parted.is refl
    (subst (λ z. (z -ℤ pos beat) ≤ℤ pos count) past least)
    (subst (λ z. pos count ≤ℤ (z +ℤ pos beat)) past most)

-- what the detector reports is the tag of a sample that is not glitched
told : (base bits tag : ℕ) → deglitched base bits ≡ Some tag → (8 ≤ leading_zeros w64 bits) × (8 ≤ trailing_ones w64 bits) × (tag ≡ tag_of base bits)
told base bits tag is = grind (arith, nat_tests)

-- a tag that the detector reports is within its error of the true phase, round the period
pub tag-within_detector_error : TagWithinDetectorError
tag-within_detector_error clock base bits beat tag phase h fits pattern is =
    let read : (8 ≤ leading_zeros w64 bits) × (8 ≤ trailing_ones w64 bits) × (tag ≡ tag_of base bits) = told base bits tag is in
    let ends : (beat_bit bits 0 ≡ 0) × (beat_bit bits 63 ≡ 1) = settled bits fits read.0 read.1 in
    rw read.2 (near_tag clock base (count_zeros w64 bits) beat phase h
    (zeros-least bits (steps_past (true_step clock phase) base -ℤ pos beat) fits ends.1 pattern.zeros)
    (zeros-most bits (steps_past (true_step clock phase) base +ℤ pos beat) fits ends.0 pattern.ones))
