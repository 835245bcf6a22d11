-- A lease that runs has a source of time above it, in every run (this project's profile).
use Rattle.std.specs.Prelude.{◌≡◌, ◌+◌, ◌*◌, ◌==◌, ◌&&◌, ◌+ℤ◌, ◌≤ℤ◌, ℕ, pos, unsigned_abs, true, if◌then◌else◌, is_some, List, [], ◌∷◌, ◌++◌, length, Option, None, Some}
use Rattle.std.specs.Option.{option_or}
use Rattle.wrp_base.specs.declared.link.Role.TheVariants.{Master}
use Rattle.wrp_base.specs.declared.link.ServoState.TheVariants.{Track}
use Rattle.wrp_network.specs.declared.network.LinkCfg.{LinkCfg}
use Rattle.wrp_network.specs.Network.{link_above}
use Rattle.wrp_bounds.specs.Times.{frame_life, longest_tick}
use Rattle.wrp_node.specs.NodeAt.{is_fresh_in, link_at, servo_at, setting_of, state_of}
use Rattle.wrp_port.specs.History.{renews_at}
use Rattle.wrp_tracking_laws.specs.Tree.{IsSource}
use Rattle.wrp_course.specs.declared.event.Event.{Event}
use Rattle.wrp_course.specs.declared.event.Event.TheVariants.{Deliver}
use Rattle.wrp_course.specs.Run.{Happened, world_after}
use Rattle.wrp_course.specs.Runs.{IsRun, WasPutOut}
use Rattle.wrp_course.specs.Setting.{Setting, node_setting_of, is_role, link_of}
use Rattle.wrp_course.specs.WorldAt.{FrameAt, Sending, WorldAt, has_carrier}
use Rattle.wrp_bound_laws.specs.Announcing.{IsCertainAnnounce}
use Rattle.wrp_bound_laws.specs.Moments.{AtEach}
use Rattle.wrp_bound_laws.specs.Views.{offsets_at}

-- The last renewal

-- a frame that is handed over renews the lease of the slave of a link: it is from that link's master, and the port
-- takes it and renews its lease with it
abbrev pub renews_by : Setting → WorldAt → ℕ → LinkCfg → FrameAt → Option Sending
renews_by s w k link f =
    if (f.link == k) && (is_role f.by Master
    && renews_at (setting_of (s.set link.lower) link.lower_port) (link_at (s.set link.lower) (w.node link.lower) link.lower_port) f.sending.message)
    then Some f.sending else None

abbrev pub renewed_by : Setting → WorldAt → ℕ → LinkCfg → Option FrameAt → Option Sending
renewed_by s w k link None = None
renewed_by s w k link (Some f) = renews_by s w k link f

-- the Announce with which an event renews the lease of the slave of a link, if it does
abbrev pub renewal_in : Setting → WorldAt → ℕ → LinkCfg → Event → Option Sending
renewal_in s w k link (Deliver i) = renewed_by s w k link (w.frame i)
renewal_in s w k link _ = None

-- the last Announce of these events that renewed it
abbrev pub last_renewal : Setting → ℕ → LinkCfg → List Happened → Option Sending
last_renewal s k link [] = None
last_renewal s k link (h ∷ before) =
    option_or (renewal_in s (world_after s before) k link h.event) (last_renewal s k link before)

-- The source

-- the ticks of a lease as time, and the life of the frame that renewed it
abbrev pub lease_time : Setting → ℕ
lease_time s = unsigned_abs s.cfg.lease * longest_tick s.cfg + frame_life s.cfg

-- the parent may be followed: it is the grandmaster, or in TRACK or HOLDOVER
abbrev pub HasSource : Setting → LinkCfg → List Happened → Type 0
HasSource s link events = IsSource s.cfg (offsets_at s (world_after s events)) link.upper

-- a link has its carrier
abbrev pub IsCarried : Setting → ℕ → List Happened → Type 0
IsCarried s k events = has_carrier s (world_after s events) k ≡ true

-- the Announce that last renewed the lease of a link's slave was put out by its master not long ago, certain of its
-- time, in the newest of the older events; at every event since, the parent may be followed and the link had its
-- carrier
pub record FollowsSource (s : Setting) (events : List Happened) (k : ℕ) (link : LinkCfg) : Type 0 where
  pub announce : Sending
  pub renewed : last_renewal s k link events ≡ Some announce
  pub certain : IsCertainAnnounce announce.message
  pub newer : List Happened
  pub older : List Happened
  pub splits : events ≡ newer ++ older
  pub put_out : WasPutOut announce ((world_after s older).end_at k Master).sent
  pub moment : announce.moment ≡ length older
  pub at : announce.at ≡ (world_after s older).time
  pub recent : (world_after s events).time ≤ℤ (announce.at +ℤ pos (lease_time s))
  pub carried : AtEach (IsCarried s k) newer older
  pub source : AtEach (HasSource s link) newer older

-- if the lease of a link's slave is fresh, its parent could be followed since the last Announce that renewed it
abbrev pub LeaseHasSource : Type 0
LeaseHasSource =
    (s : Setting) (events : List Happened) (k : ℕ) (link : LinkCfg) → IsRun s events → link_of s k ≡ Some link →
    is_fresh_in (s.set link.lower) ((world_after s events).node link.lower) ≡ true → FollowsSource s events k link

-- so it is while its servo has a chain
abbrev pub ChainHasSource : Type 0
ChainHasSource =
    (s : Setting) (events : List Happened) (k : ℕ) (link : LinkCfg) → IsRun s events → link_of s k ≡ Some link →
    is_some (servo_at (node_setting_of s link.lower) ((world_after s events).node link.lower)).first ≡ true → FollowsSource s events k link

-- a node in TRACK has a parent that is the grandmaster, or in TRACK or HOLDOVER
abbrev pub TrackHasSource : Type 0
TrackHasSource =
    (s : Setting) (events : List Happened) (n : ℕ) (link : LinkCfg) → IsRun s events → link_above s.cfg n ≡ Some link →
    state_of (node_setting_of s n) ((world_after s events).node n) ≡ Track → HasSource s link events
