-- Worlds that the events of a run led to (this project's profile).
use Rattle.std.specs.Prelude.{ℤ, List, [], ◌∷◌, Option, Result}
use Rattle.wrp_network.specs.declared.configuration.NetCfg.{NetCfg}
use Rattle.wrp_base.specs.declared.message.PtpMsg.{PtpMsg}
use Rattle.wrp_caldb.specs.Database.{Database}
use Rattle.wrp_config.specs.Accepted.{IsAccepted}
use Rattle.wrp_frame.specs.declared.fault.FrameFault.{FrameFault}
use Rattle.wrp_law.specs.Law.{LawOf}
use Rattle.wrp_course.specs.declared.event.Event.{Event}
use Rattle.wrp_course.specs.declared.node_out.NodeOut.{NodeOut}
use Rattle.wrp_course.specs.EventAt.{IsEventOf}
use Rattle.wrp_world.specs.New.{setting_of}
use Rattle.wrp_course.specs.Run.{Happened, world_after}
use Rattle.wrp_course.specs.Runs.{IsRun}
use Rattle.wrp_course.specs.Setting.{Setting}
use Rattle.wrp_world.specs.StandsFor.{StandsFor, WorldOf}
use Rattle.wrp_world.specs.Step.{Steps}
use Rattle.wrp_course.specs.WorldAt.{new_world}

-- the world stands for what these events, a run of its network, make of the first world
pub record InRun {F : Type 0} (post : F → ℤ → ℤ → Type 0) (s : Setting) (events : List Happened) (world : WorldOf F) : Type 0 where
  pub run : IsRun s events
  pub stands : StandsFor post s (world_after s events) world

-- a world before any event is in a run of no events
abbrev pub NewIsInRun : {F : Type 0} → (F → ℤ → ℤ → Type 0) → Type 0
NewIsInRun {F} post =
    (cfg : NetCfg) (db : Database) (laws : List (Option (LawOf F))) (world : WorldOf F) → IsAccepted cfg db →
    StandsFor post (setting_of cfg db laws) (new_world (setting_of cfg db laws)) world → InRun post (setting_of cfg db laws) [] world

-- an accepted event adds itself to each run that the world is in
abbrev pub StepAddsToRun : {F : Type 0} → (F → ℤ → ℤ → Type 0) → Type 0
StepAddsToRun {F} post =
    (s : Setting) (events : List Happened) (e : Event) (says : Result PtpMsg FrameFault) (answer : ℤ) (old new : WorldOf F) (outs : List NodeOut) →
    InRun post s events old → IsEventOf s.cfg e → Steps post e says answer old new outs →
    InRun post s (record { event = e; says = says; answer = answer } ∷ events) new
