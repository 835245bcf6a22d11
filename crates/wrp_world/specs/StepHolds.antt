-- What a step of a world adds to the steps of the definition: this event continues each run that the world was in, the
-- steps that it returns are the steps of the nodes in that run, and what is true of each event of a run is true of it
-- (this project's profile).
use Rattle.std.specs.Prelude.{◌≡◌, ℤ, List, ◌∷◌, map, Result}
use Rattle.wrp_base.specs.declared.message.PtpMsg.{PtpMsg}
use Rattle.wrp_frame.specs.declared.fault.FrameFault.{FrameFault}
use Rattle.wrp_course.specs.declared.event.Event.{Event}
use Rattle.wrp_course.specs.declared.node_out.NodeOut.{NodeOut}
use Rattle.wrp_course.specs.Run.{Happened, IsSaid, steps_at}
use Rattle.wrp_course.specs.Setting.{Setting}
use Rattle.wrp_world.specs.EventHolds.{LinksHold, TracksHold}
use Rattle.wrp_world.specs.InRun.{InRun}
use Rattle.wrp_world.specs.InTrueRun.{InTrueRun}
use Rattle.wrp_world.specs.StandsFor.{WorldOf}
use Rattle.wrp_world.specs.Step.{step_seen}

-- in every run: what is true of links and of dropped frames
pub record CarriesLinks {F : Type 0} (post : F → ℤ → ℤ → Type 0) (s : Setting) (e : Event) (events : List Happened) (new : WorldOf F) (outs : List NodeOut) : Type 0 where
  pub says : Result PtpMsg FrameFault
  pub answer : ℤ
  -- if there are octets that the peer did not send, this is what they say
  pub said : IsSaid e says
  pub run : InRun post s (record { event = e; says = says; answer = answer } ∷ events) new
  pub steps : map step_seen outs ≡ steps_at s events (record { event = e; says = says; answer = answer })
  pub links : LinksHold s (record { event = e; says = says; answer = answer }) events

abbrev pub LinksGoOn : {F : Type 0} → (F → ℤ → ℤ → Type 0) → Event → (old new : WorldOf F) → List NodeOut → Type 0
LinksGoOn post e old new outs =
    (s : Setting) (events : List Happened) → InRun post s events old → CarriesLinks post s e events new outs

-- in a run whose numbers fit, with fitting laws: the same, and how far the nodes are from true time
pub record CarriesTruth {F : Type 0} (pre : F → ℤ → Type 0) (post : F → ℤ → ℤ → Type 0) (s : Setting) (e : Event) (events : List Happened) (new : WorldOf F) (outs : List NodeOut) : Type 0 where
  pub says : Result PtpMsg FrameFault
  pub answer : ℤ
  -- if there are octets that the peer did not send, this is what they say
  pub said : IsSaid e says
  pub run : InTrueRun pre post s (record { event = e; says = says; answer = answer } ∷ events) new
  pub steps : map step_seen outs ≡ steps_at s events (record { event = e; says = says; answer = answer })
  pub links : LinksHold s (record { event = e; says = says; answer = answer }) events
  pub tracks : TracksHold s (record { event = e; says = says; answer = answer }) events

abbrev pub TruthGoesOn : {F : Type 0} → (F → ℤ → Type 0) → (F → ℤ → ℤ → Type 0) → Event → (old new : WorldOf F) → List NodeOut → Type 0
TruthGoesOn pre post e old new outs =
    (s : Setting) (events : List Happened) → InTrueRun pre post s events old → CarriesTruth pre post s e events new outs

-- If an event is refused

-- the world is in every run that it was in
pub record KeepsRuns {F : Type 0} (pre : F → ℤ → Type 0) (post : F → ℤ → ℤ → Type 0) (old new : WorldOf F) : Type 0 where
  pub run : (s : Setting) (events : List Happened) → InRun post s events old → InRun post s events new
  pub true_run : (s : Setting) (events : List Happened) → InTrueRun pre post s events old → InTrueRun pre post s events new
