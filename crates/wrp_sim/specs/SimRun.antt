-- Runs of a world that a simulator makes (this project's profile).
use Rattle.std.specs.Prelude.{◌≡◌, ℕ, ℤ, List, [], ◌∷◌, Option, None, Some}
use Rattle.wrp_course.specs.declared.event.Event.{Event}
use Rattle.wrp_course.specs.Run.{Happened, world_after}
use Rattle.wrp_course.specs.Setting.{Setting}
use Rattle.wrp_course.specs.Views.{IsNextArrival}
use Rattle.wrp_course.specs.WorldAt.{WorldAt}
use Rattle.wrp_sim.specs.Rules.{Next, next_of}
use Rattle.wrp_scene.specs.Scenario.{SceneAt}
use Rattle.wrp_sim.specs.SimAt.{SimAt, new_sim}

-- in this world the rules give this, for the frame that is due first
pub record Gives (scene : SceneAt) (s : Setting) (w : WorldAt) (at : SimAt) (given : Option Next) : Type 0 where
  pub due : Option (ℕ × ℤ)
  pub first : IsNextArrival w due
  pub next : given ≡ next_of scene s w due at

-- this event comes, and after it so much has been drawn and done
abbrev pub GivesEvent : SceneAt → Setting → WorldAt → SimAt → Event → SimAt → Type 0
GivesEvent scene s w at event new = Gives scene s w at (Some (record { event = event; at = new }))

-- only the events of a simulator, the newest first, and what has been drawn and done after them
abbrev pub IsSimRun : SceneAt → Setting → (seed : ℕ) → List Happened → SimAt → Type 0
IsSimRun scene s seed [] at = at ≡ new_sim scene seed
IsSimRun scene s seed (h ∷ before) at =
    (old : SimAt) × IsSimRun scene s seed before old × GivesEvent scene s (world_after s before) old h.event at

-- the same to the end, when the rules give nothing
pub record IsWholeRun (scene : SceneAt) (s : Setting) (seed : ℕ) (events : List Happened) : Type 0 where
  pub at : SimAt
  pub run : IsSimRun scene s seed events at
  pub ends : Gives scene s (world_after s events) at None
