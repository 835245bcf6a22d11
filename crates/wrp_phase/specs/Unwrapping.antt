-- Unwrapping: a phase as the sum of the wrapped differences of successive tags since the last restart (this project's profile).
use Rattle.std.specs.Prelude.{ℕ, ℤ, pos, ◌≡◌, ◌/◌, ◌+ℤ◌, ◌-ℤ◌, Option, None, Some, List, [], ◌∷◌}
use Rattle.std.specs.Int.{int_rem_euclid}
use Rattle.wrp_base.specs.declared.time.Clock.{Clock}
use Rattle.wrp_base.specs.Clock.{period_of}
use Rattle.wrp_phase.specs.Beat.{phase_of}

-- a difference of phases, in tau, brought into half a period on either side: from -P/2 to below P/2
abbrev pub brought_round : Clock → ℤ → ℤ
brought_round clock difference =
    int_rem_euclid (difference +ℤ pos (period_of clock / 2)) (pos (period_of clock)) -ℤ pos (period_of clock / 2)

-- what a tag adds to the phase: its wrapped difference from the tag before it, and nothing if there is none
abbrev pub added_by : Clock → Option ℕ → ℕ → ℤ
added_by clock None tag = pos 0
added_by clock (Some before) tag = brought_round clock (pos (phase_of clock tag) -ℤ pos (phase_of clock before))

-- the last tag since a restart
abbrev pub last_tag : List ℕ → Option ℕ
last_tag [] = None
last_tag (tag ∷ before) = Some tag

-- the unwrapped phase after these tags since a restart, newest first, in tau
abbrev pub unwrapped : Clock → List ℕ → ℤ
unwrapped clock [] = pos 0
unwrapped clock (tag ∷ before) = unwrapped clock before +ℤ added_by clock (last_tag before) tag

-- what an unwrapper is seen as: its clock, the last tag since the restart, and its last answer
pub record Unwrapping : Type 0 where
  pub clock : Clock
  pub last : Option ℕ
  pub answer : ℤ

-- an unwrapper that has taken no tag
abbrev pub untouched : Clock → Unwrapping
untouched clock = record { clock = clock; last = None; answer = pos 0 }

-- an unwrapper that took one more tag
abbrev pub pushed : Unwrapping → ℕ → Unwrapping
pushed u tag = record { clock = u.clock; last = Some tag; answer = u.answer +ℤ added_by u.clock u.last tag }

-- the unwrapper has taken these tags since its last restart, newest first
pub record StandsFor (unwrap : Unwrapping) (tags : List ℕ) : Type 0 where
  pub last : unwrap.last ≡ last_tag tags
  pub answer : unwrap.answer ≡ unwrapped unwrap.clock tags
