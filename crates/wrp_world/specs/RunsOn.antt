-- What a step of a world adds to a run, and what is then true at its ports (this project's profile).
use Rattle.std.specs.Prelude.{ℤ, List, ◌∷◌, Result}
use Rattle.wrp_base.specs.declared.message.PtpMsg.{PtpMsg}
use Rattle.wrp_frame.specs.declared.fault.FrameFault.{FrameFault}
use Rattle.wrp_course.specs.declared.event.Event.{Event}
use Rattle.wrp_course.specs.Earned.{AllHaveEarned}
use Rattle.wrp_world.specs.InRun.{InRun}
use Rattle.wrp_course.specs.Run.{Happened, world_after}
use Rattle.wrp_course.specs.Setting.{Setting}
use Rattle.wrp_world.specs.StandsFor.{WorldOf}

-- this event continues the run, the world is in it, and each port in WR_LINK_ON has earned it: its peer went through
-- the steps that this requires, in that same handshake, and a slave knows the deltas of the installed modules
pub record GoesOn {F : Type 0} (post : F → ℤ → ℤ → Type 0) (s : Setting) (e : Event) (events : List Happened) (new : WorldOf F) : Type 0 where
  pub says : Result PtpMsg FrameFault
  pub answer : ℤ
  pub run : InRun post s (record { event = e; says = says; answer = answer } ∷ events) new
  pub handshakes : AllHaveEarned s (world_after s (record { event = e; says = says; answer = answer } ∷ events))

-- this holds for each run that the world was in
abbrev pub RunsOn : {F : Type 0} → (F → ℤ → ℤ → Type 0) → Event → (old new : WorldOf F) → Type 0
RunsOn post e old new =
    (s : Setting) (events : List Happened) → InRun post s events old → GoesOn post s e events new
