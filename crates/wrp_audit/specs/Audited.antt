-- The events that the record lines of an audit say (this project's profile).
use Rattle.std.specs.Prelude.{◌≡◌, ◌<◌, ℕ, Ok, List, map, reverse}
use Rattle.wrp_network.specs.Network.{node_count}
use Rattle.wrp_node.specs.NodeRun.{AllSaid}
use Rattle.wrp_trace.specs.Events.{event_read}
use Rattle.wrp_course.specs.Run.{Happened, WorldRun, world_after}
use Rattle.wrp_course.specs.Setting.{Setting}
use Rattle.wrp_course.specs.WorldAt.{WorldAt}
use Rattle.wrp_network_world.specs.NetworkSetting.{answers_in}

-- each line says its event; the events are newest first
abbrev pub AreEvents : Setting → List (List ℕ) → List Happened → Type 0
AreEvents s lines events =
    map (event_read s.cfg) lines ≡ map (λ (h : Happened). Ok h.event) (reverse events)

-- each frame that a node was given is read as its octets say, including a frame that another node
-- sent
abbrev pub AllHeard : Setting → WorldAt → Type 0
AllHeard s w = (n : ℕ) → n < node_count s.cfg → AllSaid (w.inputs n)

-- the lines say these events, each of which kept all premises when it came
pub record IsAudit (s : Setting) (lines : List (List ℕ)) (events : List Happened) : Type 0 where
  pub are : AreEvents s lines events
  pub run : WorldRun (answers_in s) s events
  pub heard : AllHeard s (world_after s events)
