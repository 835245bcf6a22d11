-- What a step of a world returns, and how it changes the world (this project's profile).
use Rattle.std.specs.Prelude.{◌≡◌, ◌<◌, ◌+◌, ◌^◌, ℤ, List, map, Some, Result, Option}
use Rattle.wrp_base.specs.declared.message.PtpMsg.{PtpMsg}
use Rattle.wrp_frame.specs.declared.fault.FrameFault.{FrameFault}
use Rattle.wrp_course.specs.declared.event.Event.{Event}
use Rattle.wrp_course.specs.declared.node_out.NodeOut.{NodeOut}
use Rattle.wrp_world.specs.declared.outcome.Refused.{Refused}
use Rattle.wrp_world.specs.declared.outcome.Refused.TheVariants.{Broken, Memory}
use Rattle.wrp_course.specs.Checks.{told_of}
use Rattle.wrp_course.specs.EventAt.{IsEventOf}
use Rattle.wrp_course.specs.Given.{NodeStepAt, world_step, event_steps}
use Rattle.wrp_course.specs.Premises.{Accepts, checks_of}
use Rattle.wrp_course.specs.Run.{IsSaid}
use Rattle.wrp_course.specs.Setting.{Setting}
use Rattle.wrp_world.specs.StandsFor.{StandsFor, WorldOf}
use Rattle.wrp_course.specs.WorldAt.{WorldAt}
use Rattle.wrp_course.specs.declared.breach.Breach.{Breach}

-- an event that can come: it belongs to the network, and it can still be counted
pub record MayCome {F : Type 0} (world : WorldOf F) (e : Event) : Type 0 where
  pub event : IsEventOf world.plant.net.cfg e
  pub room : world.plant.events + 1 < 2 ^ 32

-- a step of a node as the definition has it
abbrev pub step_seen : NodeOut → NodeStepAt
step_seen out = record { node = out.node; input = out.input; outs = out.outs.items }

-- an event was accepted; says is what its octets say, and answer is the law's answer: outs are the nodes' steps, and
-- the world stands for what the event makes of each state that it stood for
pub record Steps {F : Type 0} (post : F → ℤ → ℤ → Type 0) (e : Event) (says : Result PtpMsg FrameFault) (answer : ℤ) (old new : WorldOf F) (outs : List NodeOut) : Type 0 where
  pub said : IsSaid e says
  pub accepted : (s : Setting) (w : WorldAt) → StandsFor post s w old → Accepts s w says e
  pub seen : (s : Setting) (w : WorldAt) → StandsFor post s w old → map step_seen outs ≡ event_steps s says answer w e
  pub stands : (s : Setting) (w : WorldAt) → StandsFor post s w old → StandsFor post s (world_step s says answer w e) new

abbrev pub Stepped : {F : Type 0} → (F → ℤ → ℤ → Type 0) → Event → (old new : WorldOf F) → List NodeOut → Type 0
Stepped post e old new outs = (says : Result PtpMsg FrameFault) × (answer : ℤ) × Steps post e says answer old new outs

-- the reason for which an event was refused: the first check that fails, or, if none fails, lack of memory
abbrev pub IsRefusal : {F : Type 0} → (F → ℤ → ℤ → Type 0) → Event → WorldOf F → Refused → Type 0
IsRefusal post e world (Broken premise shown bound) =
    (says : Result PtpMsg FrameFault) × IsSaid e says
    × ((s : Setting) (w : WorldAt) → StandsFor post s w world
    → told_of (checks_of s w says e) ≡ Some (record { premise = premise; shown = shown; bound = bound }))
IsRefusal post e world (Memory fault) =
    (says : Result PtpMsg FrameFault) × IsSaid e says
    × ((s : Setting) (w : WorldAt) → StandsFor post s w world → Accepts s w says e)

-- the world stands for each state that it stood for
abbrev pub StaysSo : {F : Type 0} → (F → ℤ → ℤ → Type 0) → (old new : WorldOf F) → Type 0
StaysSo post old new = (s : Setting) (w : WorldAt) → StandsFor post s w old → StandsFor post s w new

-- the breach of an event, for each state that the world stands for: the first check that fails
abbrev pub TellsBreach :
    {F : Type 0} → (F → ℤ → ℤ → Type 0) → Event → WorldOf F → Option Breach → Type 0
TellsBreach post e world breach =
    (says : Result PtpMsg FrameFault) × IsSaid e says
    × ((s : Setting) (w : WorldAt) → StandsFor post s w world
    → breach ≡ told_of (checks_of s w says e))
