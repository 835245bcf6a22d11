-- Whether a node's clock took a step, in an event of a run and in the events since (this project's profile).
use Rattle.std.specs.Prelude.{◌≡◌, ◌++◌, ℕ, List, [], ◌∷◌}
use Rattle.wrp_course.specs.Moved.{clock_after}
use Rattle.wrp_course.specs.Run.{Happened, world_after}
use Rattle.wrp_course.specs.Setting.{Setting}

-- a node took no step in an event: its clock is where the event by itself took it
abbrev pub TookNoStep : Setting → ℕ → (h : Happened) → (before : List Happened) → Type 0
TookNoStep s n h before =
    ((world_after s (h ∷ before)).clock n).off ≡ (clock_after (world_after s before) h.event n).off

-- it took none in each of the newer events, which came after the older ones
abbrev pub TookNoStepSince : Setting → ℕ → (newer older : List Happened) → Type 0
TookNoStepSince s n [] older = Unit {0}
TookNoStepSince s n (h ∷ newer) older = TookNoStep s n h (newer ++ older) × TookNoStepSince s n newer older

-- it took none in an event, and in each of the newer ones, which came after it
abbrev pub TookNoStepFrom : Setting → ℕ → (newer : List Happened) → (h : Happened) → (before : List Happened) → Type 0
TookNoStepFrom s n newer h before = TookNoStep s n h before × TookNoStepSince s n newer (h ∷ before)
