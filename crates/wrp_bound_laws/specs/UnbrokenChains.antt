-- Chains of a servo in a run: what held of its node, and of the node's parent, since a chain began (this project's
-- profile).
use Rattle.std.specs.Prelude.{◌≡◌, ◌≤◌, ◌≤ℤ◌, ◌+ℤ◌, ◌++◌, ℕ, ℤ, pos, true, List, [], ◌∷◌, length, Some, IfSome}
use Rattle.wrp_base.specs.declared.link.Role.TheVariants.{Master}
use Rattle.wrp_network.specs.declared.network.LinkCfg.{LinkCfg}
use Rattle.wrp_bounds.specs.Times.{gap_time}
use Rattle.wrp_exch.specs.declared.sync.HeldSync.{HeldSync}
use Rattle.wrp_exch.specs.SyncPair.{last_sync}
use Rattle.wrp_node.specs.NodeAt.{locked_of}
use Rattle.wrp_tracking_laws.specs.Chain.{Good}
use Rattle.wrp_tracking_laws.specs.History.{Was}
use Rattle.wrp_course.specs.Run.{Happened, world_after, worlds_of}
use Rattle.wrp_course.specs.Runs.{IsRun}
use Rattle.wrp_course.specs.Setting.{Setting, link_of, node_setting_of}
use Rattle.wrp_course.specs.WorldAt.{Sending, WorldAt}
use Rattle.wrp_bound_laws.specs.Chains.{AllFit, goods_since}
use Rattle.wrp_bound_laws.specs.Exchanges.{exchange_at, ring_below}
use Rattle.wrp_bound_laws.specs.Leases.{FollowsSource}
use Rattle.wrp_bound_laws.specs.Moments.{AtEach}
use Rattle.wrp_bound_laws.specs.OneMessage.{FrameOf, IsHeldOf}
use Rattle.wrp_bound_laws.specs.Rates.{HasChain}
use Rattle.wrp_bound_laws.specs.SequenceIds.{IsTimed}
use Rattle.wrp_bound_laws.specs.Steps.{TookNoStepFrom}

-- a node's lock detector is locked
abbrev pub IsLocked : Setting → ℕ → List Happened → Type 0
IsLocked s n events = locked_of (node_setting_of s n) ((world_after s events).node n) ≡ true

-- the newest of these good samples came at most `gap + 1` longest ticks before this time, and each of the others at
-- most as long before the next
abbrev pub AreClose : Setting → List Happened → (time : ℤ) → List Good → Type 0
AreClose s events time [] = Unit {0}
AreClose s events time (good ∷ earlier) =
    (w : WorldAt) × Was (worlds_of s events) good.at w × (time ≤ℤ (w.time +ℤ pos (gap_time s.cfg)))
    × AreClose s events w.time earlier

-- a Sync that the exchange below a link kept is of a frame of the master, which departed once this many events had come, or
-- later
pub record DepartedSince (s : Setting) (events : List Happened) (k : ℕ) (link : LinkCfg) (from : ℕ) (held : HeldSync) : Type 0 where
  pub sync : Sending
  pub is_sync : IsTimed Master sync.message.body
  pub frame : FrameOf (world_after s events) k Master sync
  pub held_is : IsHeldOf s events k link frame held
  pub since : from ≤ frame.frame.moment

-- this holds of the last Sync that it kept, if it kept one in the current chain
abbrev pub SyncDepartedSince : Setting → (k : ℕ) → LinkCfg → (from : ℕ) → List Happened → Type 0
SyncDepartedSince s k link from events =
    IfSome (last_sync (ring_below s link) (exchange_at s link events)) (DepartedSince s events k link from)

-- a chain of the servo below a link, and the event that started it
pub record StaysUnbroken (s : Setting) (events : List Happened) (k : ℕ) (link : LinkCfg) : Type 0 where
  pub newer : List Happened
  pub start : Happened
  pub before : List Happened
  pub splits : events ≡ newer ++ start ∷ before
  pub begins : HasChain s link.lower before → ⊥
  -- the chain was there after that event and after each since, and the node's lock detector was locked
  pub stands : AtEach (HasChain s link.lower) newer (start ∷ before)
  pub locked : AtEach (IsLocked s link.lower) newer (start ∷ before)
  -- in none of these events did the node or its parent take a step
  pub own : TookNoStepFrom s link.lower newer start before
  pub parent : TookNoStepFrom s link.upper newer start before
  -- its good samples came at most `gap + 1` longest ticks apart, and the last of them at most as long ago
  pub samples : AreClose s events (world_after s events).time (goods_since s link.lower newer (start ∷ before))
  -- each Sync that the slave's exchange kept in these events departed no sooner than the parent put out the Announce
  -- that had last renewed the lease when the chain began
  pub follows : FollowsSource s (start ∷ before) k link
  pub syncs : AtEach (SyncDepartedSince s k link (length follows.older)) newer (start ∷ before)

-- this holds of every current chain
abbrev pub ChainStaysUnbroken : Type 0
ChainStaysUnbroken =
    (s : Setting) (events : List Happened) (k : ℕ) (link : LinkCfg) → IsRun s events → AllFit events → link_of s k ≡ Some link →
    HasChain s link.lower events → StaysUnbroken s events k link
