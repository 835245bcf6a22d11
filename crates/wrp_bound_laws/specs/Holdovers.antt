-- HOLDOVER in a run: since when, how fast, and how long (this project's profile).
use Rattle.std.specs.Prelude.{◌≡◌, ◌+ℤ◌, ◌≤ℤ◌, ℕ, pos, true, List, ◌∷◌, ◌++◌, length, Some}
use Rattle.wrp_base.specs.declared.link.ServoState.TheVariants.{Holdover, Track}
use Rattle.wrp_network.specs.declared.network.LinkCfg.{LinkCfg}
use Rattle.wrp_network.specs.Network.{link_above}
use Rattle.wrp_bounds.specs.Times.{held_time}
use Rattle.wrp_node.specs.NodeAt.{state_of}
use Rattle.wrp_tracking_laws.specs.History.{EachStep, IsSlow}
use Rattle.wrp_course.specs.Run.{Happened, world_after, worlds_of}
use Rattle.wrp_course.specs.Runs.{IsRun}
use Rattle.wrp_course.specs.Setting.{Setting, node_setting_of, of_node}
use Rattle.wrp_bound_laws.specs.Moments.{AtEach}

-- a node is up, and in HOLDOVER
pub record IsHeld (s : Setting) (n : ℕ) (events : List Happened) : Type 0 where
  pub up : ((world_after s events).clock n).up ≡ true
  pub state : state_of (node_setting_of s n) ((world_after s events).node n) ≡ Holdover

-- a node entered HOLDOVER in an event; since then it moved in each event at most at the rate of HOLDOVER and took no
-- step; and the time of HOLDOVER has not passed
pub record HeldSince (s : Setting) (n : ℕ) (events : List Happened) : Type 0 where
  pub newer : List Happened
  pub entry : Happened
  pub before : List Happened
  pub splits : events ≡ newer ++ entry ∷ before
  pub begins : IsHeld s n before → ⊥
  pub held : AtEach (IsHeld s n) newer (entry ∷ before)
  pub slow :
      EachStep (IsSlow (λ w. w.time) (of_node (λ node. node.held) s n) (λ w. (w.clock n).off)) (length (entry ∷ before))
      (worlds_of s events)
  pub recent : (world_after s events).time ≤ℤ ((world_after s (entry ∷ before)).time +ℤ pos (held_time s.cfg))

-- this holds of every node in HOLDOVER
abbrev pub HoldoverIsShort : Type 0
HoldoverIsShort =
    (s : Setting) (events : List Happened) (n : ℕ) (link : LinkCfg) → IsRun s events → link_above s.cfg n ≡ Some link →
    IsHeld s n events → HeldSince s n events

-- a node was up and in TRACK before an event that did not move it
pub record LeavesTrack (s : Setting) (h : Happened) (before : List Happened) (n : ℕ) : Type 0 where
  pub up : ((world_after s before).clock n).up ≡ true
  pub state : state_of (node_setting_of s n) ((world_after s before).node n) ≡ Track
  pub still : ((world_after s (h ∷ before)).clock n).off ≡ ((world_after s before).clock n).off

-- this holds if an event brings a node to HOLDOVER
abbrev pub HoldoverIsFromTrack : Type 0
HoldoverIsFromTrack =
    (s : Setting) (h : Happened) (before : List Happened) (n : ℕ) (link : LinkCfg) → IsRun s (h ∷ before) → link_above s.cfg n ≡ Some link →
    IsHeld s n (h ∷ before) → (IsHeld s n before → ⊥) → LeavesTrack s h before n
