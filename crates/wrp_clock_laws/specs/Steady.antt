-- The clock of a node that stays in TRACK or HOLDOVER through a part of a run: it runs forward, and its offset from true time moves
-- no faster than its node's rate in the network file (this project's profile). Times are in tau, rates in 10^-12.
use Rattle.std.specs.Prelude.{◌≡◌, ◌⊎◌, ◌≤ℤ◌, ℕ, max, true, List, ◌∷◌, ◌++◌}
use Rattle.wrp_base.specs.declared.link.ServoState.{ServoState}
use Rattle.wrp_base.specs.declared.link.ServoState.TheVariants.{Track, Holdover}
use Rattle.wrp_node.specs.NodeAt.{state_of}
use Rattle.wrp_tracking_laws.specs.History.{IsSlow}
use Rattle.wrp_course.specs.Run.{Happened, world_after}
use Rattle.wrp_course.specs.Runs.{IsRun}
use Rattle.wrp_course.specs.Setting.{Setting, node_setting_of, of_node}
use Rattle.wrp_course.specs.WorldAt.{reading}
use Rattle.wrp_bound_laws.specs.Moments.{AtEach}

-- after these events a node is up, and its servo is in this state
pub record IsUpIn (state : ServoState) (s : Setting) (n : ℕ) (events : List Happened) : Type 0 where
  pub up : ((world_after s events).clock n).up ≡ true
  pub there : state_of (node_setting_of s n) ((world_after s events).node n) ≡ state

-- it is up, and in TRACK or HOLDOVER
abbrev pub IsSteady : Setting → ℕ → List Happened → Type 0
IsSteady s n events = IsUpIn Track s n events ⊎ IsUpIn Holdover s n events

-- from an earlier moment to a later one time does not run back, and the node's offset from true time moves at most at this rate
abbrev pub MovesWithin : ℕ → Setting → ℕ → (earlier later : List Happened) → Type 0
MovesWithin rate s n earlier later =
    IsSlow (λ w. w.time) rate (λ w. (w.clock n).off) (world_after s earlier) (world_after s later)

-- The local time of a node is true time and its offset. It does not fall while the node is up and in TRACK or HOLDOVER:
-- not from the older events to the newest, if the node was so after the older events and after each of the newer ones
-- except the newest
abbrev pub ClocksRunForward : Type 0
ClocksRunForward =
    (s : Setting) (newest : Happened) (newer older : List Happened) (n : ℕ) → IsRun s (newest ∷ (newer ++ older)) →
    AtEach (IsSteady s n) newer older →
    reading (world_after s older) n ≤ℤ reading (world_after s (newest ∷ (newer ++ older))) n

-- through such a part of a run in TRACK the offset moves at most at the node's `slew`
abbrev pub TrackKeepsSlew : Type 0
TrackKeepsSlew =
    (s : Setting) (newest : Happened) (newer older : List Happened) (n : ℕ) → IsRun s (newest ∷ (newer ++ older)) →
    AtEach (IsUpIn Track s n) newer older →
    MovesWithin (of_node (λ node. node.slew) s n) s n older (newest ∷ (newer ++ older))

-- in HOLDOVER at its `held`
abbrev pub HoldoverKeepsHeld : Type 0
HoldoverKeepsHeld =
    (s : Setting) (newest : Happened) (newer older : List Happened) (n : ℕ) → IsRun s (newest ∷ (newer ++ older)) →
    AtEach (IsUpIn Holdover s n) newer older →
    MovesWithin (of_node (λ node. node.held) s n) s n older (newest ∷ (newer ++ older))

-- and in either of them at the greater of both
abbrev pub SteadyKeepsRate : Type 0
SteadyKeepsRate =
    (s : Setting) (newest : Happened) (newer older : List Happened) (n : ℕ) → IsRun s (newest ∷ (newer ++ older)) →
    AtEach (IsSteady s n) newer older →
    MovesWithin (max (of_node (λ node. node.slew) s n) (of_node (λ node. node.held) s n)) s n older (newest ∷ (newer ++ older))
