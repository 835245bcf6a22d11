-- A chain's constant: along the good samples of a chain the unwrapped phase keeps its distance from the true phase,
-- except for the detector's error (this project's profile).
use Rattle.std.specs.Prelude.{ℕ, ℤ, pos, ◌≡◌, ◌+◌, ◌*◌, ◌<◌, ◌+ℤ◌, ◌-ℤ◌, Some}
use Rattle.wrp_base.specs.declared.time.Clock.{Clock}
use Rattle.wrp_base.specs.Clock.{period_of}
use Rattle.wrp_base.specs.Circle.{distance_round}
use Rattle.wrp_base.specs.Closeness.{IsWithin}
use Rattle.wrp_phase.specs.Beat.{phase_of}
use Rattle.wrp_phase.specs.Unwrapping.{added_by}

-- the unwrapped phase u of a sample with this tag keeps the constant: u less the true phase is within e of
-- it, and round the period u is the tag's phase past it
pub record KeepsConstant (clock : Clock) (e : ℕ) (constant u : ℤ) (tag : ℕ) (phase : ℤ)
    : Type 0 where
  pub near : IsWithin e (u -ℤ phase) constant
  pub round : distance_round clock (u -ℤ constant) (pos (phase_of clock tag)) ≡ 0

-- the unwrapped phase after one more tag
abbrev pub unwrapped_by : Clock → (u : ℤ) → (before tag : ℕ) → ℤ
unwrapped_by clock u before tag = u +ℤ added_by clock (Some before) tag

-- the phase moves so little from one good sample to the next, and the tag is so near it, that its whole
-- periods are known
abbrev pub HasPhaseRoom : Clock → (e h : ℕ) → Type 0
HasPhaseRoom clock e h = 2 * h + 4 * e < period_of clock
