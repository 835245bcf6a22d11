-- Chains of good samples in a run: their limits, their samples, and their constant (this project's profile).
use Rattle.std.specs.Prelude.{◌≡◌, ◌+◌, ◌==◌, ◌++◌, ◌+ℤ◌, ◌≤ℤ◌, ℕ, ℤ, pos, if◌then◌else◌, List, [], ◌∷◌, length, Option, None, Some, option_map, option_to_list}
use Rattle.wrp_network.specs.declared.network.LinkCfg.{LinkCfg}
use Rattle.wrp_bounds.specs.Bounds.{numbers_of}
use Rattle.wrp_bounds.specs.declared.numbers.HopNumbers.{HopNumbers}
use Rattle.wrp_node.specs.NodeAt.{servo_at, servo_setting_of}
use Rattle.wrp_servo.specs.Tags.{heard_tag}
use Rattle.wrp_tracking_laws.specs.Chain.{ChainHolds, Good}
use Rattle.wrp_course.specs.declared.event.Event.{Event}
use Rattle.wrp_course.specs.declared.event.Event.TheVariants.{Sample}
use Rattle.wrp_course.specs.EventAt.{FitsEvent}
use Rattle.wrp_course.specs.Run.{Happened, world_after}
use Rattle.wrp_course.specs.Runs.{IsRun}
use Rattle.wrp_course.specs.Setting.{Setting, node_setting_of, link_of}
use Rattle.wrp_course.specs.WorldAt.{WorldAt}
use Rattle.wrp_bound_laws.specs.Leases.{FollowsSource}
use Rattle.wrp_bound_laws.specs.Moments.{AtEach}
use Rattle.wrp_bound_laws.specs.Rates.{HasChain}
use Rattle.wrp_bound_laws.specs.Views.{moments_of}

-- The good samples of a node

-- the phase that its servo has unwrapped
abbrev pub phase_in : Setting → WorldAt → ℕ → ℤ
phase_in s w n = (servo_at (node_setting_of s n) (w.node n)).phase.u

-- the good sample that an event brings to a node, if it brings one: its number, its tag, the phase once it is
-- unwrapped, and the number of the event
abbrev pub good_in : Setting → ℕ → Happened → List Happened → Event → Option Good
good_in s n h before (Sample m base bits) =
    if n == m
    then option_map
    (λ tag. record { number = ((world_after s before).clock n).samples + 1; tag = tag; u = phase_in s (world_after s (h ∷ before)) n; at = length before + 1 })
    (heard_tag (servo_setting_of (node_setting_of s n)) ((world_after s before).node n).calls (((world_after s before).clock n).samples + 1) base bits)
    else None
good_in s n h before _ = None

-- the good sample of the newest of the older events and of each newer one, the newest first
abbrev pub goods_since : Setting → ℕ → (newer older : List Happened) → List Good
goods_since s n [] [] = []
goods_since s n [] (h ∷ before) = option_to_list (good_in s n h before h.event)
goods_since s n (h ∷ newer) older = option_to_list (good_in s n h (newer ++ older) h.event) ++ goods_since s n newer older

-- A chain

-- a chain of the servo below a link, started by the newest of the older events: its parent could be followed then;
-- since then the limits of its hop are kept, and since its Announce the limits of what moves above; at each of its good
-- samples the unwrapped phase less the true one was within the detector's error of one constant; and the last of them
-- was no longer ago than the longest time between two
pub record ChainRuns (s : Setting) (events : List Happened) (k : ℕ) (link : LinkCfg) (hop : HopNumbers) : Type 0 where
  pub newer : List Happened
  pub start : Happened
  pub before : List Happened
  pub splits : events ≡ newer ++ start ∷ before
  pub stands : AtEach (HasChain s link.lower) newer (start ∷ before)
  pub begins : HasChain s link.lower before → ⊥
  pub follows : FollowsSource s (start ∷ before) k link
  pub constant : ℤ
  pub newest : Good
  pub earlier : List Good
  pub goods : newest ∷ earlier ≡ goods_since s link.lower newer (start ∷ before)
  pub holds :
      ChainHolds hop (moments_of s k link events) (length follows.older) (length (start ∷ before)) constant newest earlier
  pub phase : phase_in s (world_after s events) link.lower ≡ newest.u
  pub recent : (world_after s events).time ≤ℤ (holds.moment.time +ℤ pos hop.gap_time)

-- each current chain has a constant
abbrev pub AllHaveConstants : Setting → List Happened → Type 0
AllHaveConstants s events =
    (k : ℕ) (link : LinkCfg) (hop : HopNumbers) → link_of s k ≡ Some link → numbers_of s.cfg link.lower ≡ Some hop →
    HasChain s link.lower events → ChainRuns s events k link hop

-- each event's numbers fit the types that hold them
abbrev pub AllFit : List Happened → Type 0
AllFit [] = Unit {0}
AllFit (h ∷ before) = FitsEvent h.event × AllFit before

-- this holds of every current chain
abbrev pub ChainHasConstant : Type 0
ChainHasConstant =
    (s : Setting) (events : List Happened) (k : ℕ) (link : LinkCfg) (hop : HopNumbers) → IsRun s events → AllFit events →
    link_of s k ≡ Some link → numbers_of s.cfg link.lower ≡ Some hop → HasChain s link.lower events →
    ChainRuns s events k link hop
