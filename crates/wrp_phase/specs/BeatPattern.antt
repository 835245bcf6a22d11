-- The beat pattern: what the beat bits of a sample keep of the true phase, and how near its tag then is (this project's profile).
use Rattle.std.specs.Prelude.{ℕ, ℤ, pos, ◌≡◌, ◌+◌, ◌*◌, ◌/◌, ◌<◌, ◌≤◌, ◌^◌, ◌+ℤ◌, ◌-ℤ◌, ◌≤ℤ◌, ◌<ℤ◌, unsigned_abs, Some}
use Rattle.std.specs.Int.{int_rem_euclid}
use Rattle.wrp_base.specs.declared.time.Clock.{Clock}
use Rattle.wrp_base.specs.Clock.{period_of, step_of, steps_of_period}
use Rattle.wrp_base.specs.Circle.{distance_round}
use Rattle.wrp_phase.specs.Beat.{beat_bit, deglitched, phase_of}

-- the detector step in which a true phase lies, in its period
abbrev pub true_step : Clock → ℤ → ℕ
true_step clock phase = unsigned_abs (int_rem_euclid phase (pos (period_of clock))) / step_of clock

-- how many steps that is past the base, brought into -8192 to 8191
abbrev pub steps_past : ℕ → ℕ → ℤ
steps_past step base =
    int_rem_euclid ((pos step -ℤ pos base) +ℤ pos (steps_of_period / 2)) (pos steps_of_period) -ℤ pos (steps_of_period / 2)

-- the beat bits are 0 up to `beat` steps before the true one, and 1 from `beat` steps past it on
pub record KeepsBeatPattern (clock : Clock) (base bits beat : ℕ) (phase : ℤ) : Type 0 where
  pub zeros : (i : ℕ) → i < 64 → pos i <ℤ (steps_past (true_step clock phase) base -ℤ pos beat) → beat_bit bits i ≡ 0
  pub ones : (i : ℕ) → i < 64 → (steps_past (true_step clock phase) base +ℤ pos beat) ≤ℤ pos i → beat_bit bits i ≡ 1

-- the detector's error, in tau: `beat` steps, and the one in which the edge lies
abbrev pub detector_error : Clock → ℕ → ℕ
detector_error clock beat = (beat + 1) * step_of clock

-- the error statement of a tag: if the bits keep the beat pattern about the true phase, a tag that the detector reports
-- is within its error of that phase, round the period
abbrev pub TagWithinDetectorError : Type 0
TagWithinDetectorError =
    (clock : Clock) (base bits beat tag : ℕ) (phase : ℤ) →
    base < steps_of_period → bits < 2 ^ 64 → KeepsBeatPattern clock base bits beat phase → deglitched base bits ≡ Some tag →
    distance_round clock (pos (phase_of clock tag)) phase ≤ detector_error clock beat
