-- What a step makes of a world if its event is known to keep all premises: what `Steps` says of every state that the
-- world stands for is said here of each such state in which the event keeps them (this project's profile).
use Rattle.std.specs.Prelude.{◌≡◌, ℤ, List, map, Result}
use Rattle.wrp_base.specs.declared.message.PtpMsg.{PtpMsg}
use Rattle.wrp_frame.specs.declared.fault.FrameFault.{FrameFault}
use Rattle.wrp_course.specs.declared.event.Event.{Event}
use Rattle.wrp_course.specs.declared.node_out.NodeOut.{NodeOut}
use Rattle.wrp_course.specs.Given.{event_steps, world_step}
use Rattle.wrp_course.specs.Premises.{Accepts}
use Rattle.wrp_course.specs.Run.{Happened, IsSaid, world_after}
use Rattle.wrp_course.specs.Setting.{Setting}
use Rattle.wrp_course.specs.WorldAt.{WorldAt}
use Rattle.wrp_world.specs.InRun.{InRun}
use Rattle.wrp_world.specs.InTrueRun.{InTrueRun}
use Rattle.wrp_world.specs.RunsOn.{GoesOn}
use Rattle.wrp_world.specs.StandsFor.{StandsFor, WorldOf}
use Rattle.wrp_world.specs.Step.{step_seen}
use Rattle.wrp_world.specs.StepHolds.{CarriesLinks, CarriesTruth}

-- the event keeps all premises in this state, whatever its octets may say
abbrev pub KeepsAll : Setting → WorldAt → Event → Type 0
KeepsAll s w e = (says : Result PtpMsg FrameFault) → IsSaid e says → Accepts s w says e

-- an event that the world can take: it keeps all premises in some state that the world stands for
pub record CanHappen {F : Type 0} (post : F → ℤ → ℤ → Type 0) (world : WorldOf F) (e : Event) : Type 0 where
  pub setting : Setting
  pub state : WorldAt
  pub stands : StandsFor post setting state world
  pub accepted : KeepsAll setting state e

-- the same, if this is what its octets say
pub record CanHappenSo {F : Type 0} (post : F → ℤ → ℤ → Type 0) (world : WorldOf F) (e : Event) : Type 0 where
  pub says : Result PtpMsg FrameFault
  pub said : IsSaid e says
  pub setting : Setting
  pub state : WorldAt
  pub stands : StandsFor post setting state world
  pub accepted : Accepts setting state says e

-- an event was taken; says is what its octets say, and answer is the law's answer: for each state in which it keeps all
-- premises, outs are the nodes' steps, and the world stands for what the event makes of that state
pub record Takes {F : Type 0} (post : F → ℤ → ℤ → Type 0) (e : Event) (says : Result PtpMsg FrameFault) (answer : ℤ) (old new : WorldOf F) (outs : List NodeOut) : Type 0 where
  pub said : IsSaid e says
  pub seen : (s : Setting) (w : WorldAt) → StandsFor post s w old → Accepts s w says e → map step_seen outs ≡ event_steps s says answer w e
  pub stands : (s : Setting) (w : WorldAt) → StandsFor post s w old → Accepts s w says e → StandsFor post s (world_step s says answer w e) new

abbrev pub Taken : {F : Type 0} → (F → ℤ → ℤ → Type 0) → Event → (old new : WorldOf F) → List NodeOut → Type 0
Taken post e old new outs = (says : Result PtpMsg FrameFault) × (answer : ℤ) × Takes post e says answer old new outs

-- the same, whatever its octets say
abbrev pub TakenSo : {F : Type 0} → (F → ℤ → ℤ → Type 0) → Event → (old new : WorldOf F) → List NodeOut → Type 0
TakenSo post e old new outs =
    (answer : ℤ) × ((says : Result PtpMsg FrameFault) → IsSaid e says → Takes post e says answer old new outs)

-- For each run in whose last state the event keeps all premises

-- the event continues the run, and each port in WR_LINK_ON has earned it
abbrev pub TakesRunsOn : {F : Type 0} → (F → ℤ → ℤ → Type 0) → Event → (old new : WorldOf F) → Type 0
TakesRunsOn post e old new =
    (s : Setting) (events : List Happened) → InRun post s events old → KeepsAll s (world_after s events) e → GoesOn post s e events new

-- what is true of links and of dropped frames
abbrev pub TakesLinksOn : {F : Type 0} → (F → ℤ → ℤ → Type 0) → Event → (old new : WorldOf F) → List NodeOut → Type 0
TakesLinksOn post e old new outs =
    (s : Setting) (events : List Happened) → InRun post s events old → KeepsAll s (world_after s events) e → CarriesLinks post s e events new outs

-- and, in a run whose numbers fit, with fitting laws, how far the nodes are from true time
abbrev pub TakesTruthOn : {F : Type 0} → (F → ℤ → Type 0) → (F → ℤ → ℤ → Type 0) → Event → (old new : WorldOf F) → List NodeOut → Type 0
TakesTruthOn pre post e old new outs =
    (s : Setting) (events : List Happened) → InTrueRun pre post s events old → KeepsAll s (world_after s events) e →
    CarriesTruth pre post s e events new outs
