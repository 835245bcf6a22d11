-- How long ago a port whose quiet time is over got its carrier and left its last stretch, in every run (this project's profile).
use Rattle.std.specs.Prelude.{◌≡◌, ◌⊎◌, ℕ, true, false, List, ◌∷◌, ◌++◌, Some}
use Rattle.std.specs.List.{AllByRecursion}
use Rattle.wrp_base.specs.declared.link.LinkState.TheVariants.{Idle}
use Rattle.wrp_base.specs.declared.link.Role.{Role}
use Rattle.wrp_network.specs.declared.network.LinkCfg.{LinkCfg}
use Rattle.wrp_bounds.specs.Times.{frame_life}
use Rattle.wrp_handshake_laws.specs.Ends.{Port}
use Rattle.wrp_handshake_laws.specs.Laws.{IsAwake, IsLongAgo}
use Rattle.wrp_course.specs.declared.event.Event.{Event}
use Rattle.wrp_course.specs.declared.event.Event.TheVariants.{Join, Up}
use Rattle.wrp_course.specs.LinkEnds.{port_at}
use Rattle.wrp_course.specs.Run.{Happened, world_after}
use Rattle.wrp_course.specs.Runs.{IsRun}
use Rattle.wrp_course.specs.Setting.{Setting, end_of, link_of}

-- the port at an end of a link after these events
abbrev pub port_after : Setting → ℕ → Role → LinkCfg → List Happened → Port
port_after s k r link events = port_at s (world_after s events) k r (end_of r link)

-- an event in which the carrier of a link can come: the link is joined, or the node at one of its ends comes up
abbrev pub MayLight : ℕ → LinkCfg → Event → Type 0
MayLight k link (Join l ms sm) = l ≡ k
MayLight k link (Up n off swaps) = (n ≡ link.upper) ⊎ (n ≡ link.lower)
MayLight k link _ = ⊥

-- the carrier of a port came by one of these events: it was not there before, and was there after that event and after each
-- one since; and that was longer ago than two lives of a frame
pub record LitLongAgo (s : Setting) (k : ℕ) (r : Role) (link : LinkCfg) (events : List Happened) : Type 0 where
  pub since : List Happened
  pub event : Happened
  pub before : List Happened
  pub splits : events ≡ since ++ event ∷ before
  pub lights : MayLight k link event.event
  pub dark : (port_after s k r link before).link.carrier ≡ false
  pub stood : (newer older : List Happened) → since ≡ newer ++ older → (port_after s k r link (older ++ event ∷ before)).link.carrier ≡ true
  pub long : IsLongAgo (frame_life s.cfg) (world_after s events).time (world_after s (event ∷ before)).time

-- the marks of the end of a link with which its port left a stretch are older than two lives of a frame
abbrev pub LeftLongAgo : Setting → ℕ → Role → List Happened → Type 0
LeftLongAgo s k r events =
    AllByRecursion (λ mark. mark.to ≡ Idle → IsLongAgo (frame_life s.cfg) (world_after s events).time mark.at)
    ((world_after s events).end_at k r).marks

-- a port that has its carrier, and whose quiet time is over, got the carrier and left its last stretch that long ago
abbrev pub AwakePortsWereLitLongAgo : Type 0
AwakePortsWereLitLongAgo =
    (s : Setting) (events : List Happened) (k : ℕ) (r : Role) (link : LinkCfg) → IsRun s events → link_of s k ≡ Some link →
    IsAwake (port_after s k r link events) → LitLongAgo s k r link events

-- in every run, a port that has its carrier, and whose quiet time is over, has not come back to IDLE within the last two lives of
-- a frame
abbrev pub AwakePortsLeftLongAgo : Type 0
AwakePortsLeftLongAgo =
    (s : Setting) (events : List Happened) (k : ℕ) (r : Role) (link : LinkCfg) → IsRun s events → link_of s k ≡ Some link →
    IsAwake (port_after s k r link events) → LeftLongAgo s k r events
