-- Frames of one way of a link, in a run (this project's profile).
use Rattle.std.specs.Prelude.{◌≡◌, ◌<◌, ◌≤◌, ◌+◌, ℕ, List, ◌++◌, length, Some, IfSome}
use Rattle.wrp_base.specs.declared.link.Role.TheVariants.{Master}
use Rattle.wrp_network.specs.declared.network.LinkCfg.{LinkCfg}
use Rattle.wrp_course.specs.Run.{Happened, world_after}
use Rattle.wrp_course.specs.Runs.{IsRun}
use Rattle.wrp_course.specs.Setting.{Setting}
use Rattle.wrp_course.specs.WorldAt.{Arrival, FrameAt}
use Rattle.wrp_bound_laws.specs.Leases.{FollowsSource}

-- frames are numbered in the order in which they departed
abbrev pub FramesDepartInOrder : Type 0
FramesDepartInOrder =
    (s : Setting) (events : List Happened) (i j : ℕ) (f g : FrameAt) → IsRun s events →
    (world_after s events).frame i ≡ Some f → (world_after s events).frame j ≡ Some g → i < j → f.moment < g.moment

-- frames of one way that arrive do so in that order
abbrev pub FramesArriveInOrder : Type 0
FramesArriveInOrder =
    (s : Setting) (events : List Happened) (i j : ℕ) (f g : FrameAt) → IsRun s events →
    (world_after s events).frame i ≡ Some f → (world_after s events).frame j ≡ Some g → i < j → f.link ≡ g.link → f.by ≡ g.by →
    IfSome f.arrival (λ a. IfSome g.arrival (λ b. a.moment < b.moment))

-- a frame that a link's master sent, and that arrived no sooner than the last of the earlier events, departed no sooner
-- than the master put out the Announce that had last renewed the lease below
abbrev pub FramesFollowTheSource : Type 0
FramesFollowTheSource =
    (s : Setting) (since earlier : List Happened) (k : ℕ) (link : LinkCfg) (source : FollowsSource s earlier k link) →
    (j : ℕ) (f : FrameAt) (a : Arrival) → IsRun s (since ++ earlier) →
    (world_after s (since ++ earlier)).frame j ≡ Some f → f.link ≡ k → f.by ≡ Master → f.arrival ≡ Some a →
    length earlier ≤ a.moment + 1 → length source.older ≤ f.moment
