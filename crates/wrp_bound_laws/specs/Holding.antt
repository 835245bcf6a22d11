-- HOLDOVER in a run: how a node entered it, and what held since (this project's profile).
use Rattle.std.specs.Prelude.{◌≡◌, ◌<◌, ◌≤◌, ◌+◌, ◌++◌, ℕ, unsigned_abs, List, ◌∷◌, Some}
use Rattle.wrp_network.specs.declared.network.LinkCfg.{LinkCfg}
use Rattle.wrp_network.specs.Network.{link_above}
use Rattle.wrp_bounds.specs.Bounds.{path_of}
use Rattle.wrp_course.specs.Run.{Happened, world_after}
use Rattle.wrp_course.specs.Setting.{Setting}
use Rattle.wrp_bound_laws.specs.Bounds.{TrueRun}
use Rattle.wrp_bound_laws.specs.Holdovers.{IsHeld, LeavesTrack}
use Rattle.wrp_bound_laws.specs.Moments.{AtEach}
use Rattle.wrp_bound_laws.specs.Steps.{TookNoStepSince}

-- a node entered HOLDOVER in an event
pub record CameWithinPath (s : Setting) (n : ℕ) (events : List Happened) : Type 0 where
  pub newer : List Happened
  pub entry : Happened
  pub before : List Happened
  pub splits : events ≡ newer ++ entry ∷ before
  -- before it the node was up and in TRACK, and the event did not move it
  pub leaves : LeavesTrack s entry before n
  -- it was within its path of true time
  pub path : unsigned_abs ((world_after s before).clock n).off ≤ path_of s.cfg n
  -- since then it was up and in HOLDOVER after each event, and took no step in any
  pub held : AtEach (IsHeld s n) newer (entry ∷ before)
  pub steps : TookNoStepSince s n newer (entry ∷ before)
  -- it ticked fewer times than HOLDOVER lasts
  pub ticks :
      ((world_after s events).node n).ticks < ((world_after s (entry ∷ before)).node n).ticks + unsigned_abs s.cfg.holdover

-- this holds of every node in HOLDOVER
abbrev pub HoldoverCameWithinPath : Type 0
HoldoverCameWithinPath =
    (s : Setting) (events : List Happened) (n : ℕ) (link : LinkCfg) → TrueRun s events → link_above s.cfg n ≡ Some link →
    IsHeld s n events → CameWithinPath s n events
