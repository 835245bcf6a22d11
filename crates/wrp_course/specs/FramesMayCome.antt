-- Frames that can still be handed over, in every run (this project's profile).
use Rattle.std.specs.Prelude.{◌≡◌, ◌≤◌, ◌+ℤ◌, ◌≤ℤ◌, ℕ, pos, List, ◌∷◌, ◌++◌, length, Some, Result}
use Rattle.std.specs.List.{Contains}
use Rattle.wrp_base.specs.declared.message.PtpMsg.{PtpMsg}
use Rattle.wrp_network.specs.Network.{End}
use Rattle.wrp_bounds.specs.Times.{frame_life}
use Rattle.wrp_frame.specs.declared.fault.FrameFault.{FrameFault}
use Rattle.wrp_frame.specs.SentOctets.{octets_of}
use Rattle.wrp_node.specs.declared.interface.Output.TheVariants.{Send}
use Rattle.wrp_course.specs.declared.event.Event.TheVariants.{Deliver}
use Rattle.wrp_course.specs.Given.{NodeStepAt}
use Rattle.wrp_course.specs.Premises.{Accepts}
use Rattle.wrp_course.specs.Run.{Happened, steps_at, world_after}
use Rattle.wrp_course.specs.Runs.{IsRun}
use Rattle.wrp_course.specs.Setting.{Setting, end_at}
use Rattle.wrp_course.specs.WorldAt.{FrameAt}

-- a frame that was put out in these events, and that can still be handed over: after none or more further events, it is
-- accepted that it is
pub record MayStillCome (s : Setting) (events : List Happened) (f : FrameAt) : Type 0 where
  pub later : List Happened
  pub run : IsRun s (later ++ events)
  pub number : ℕ
  pub there : (world_after s (later ++ events)).frame number ≡ Some f
  pub put_out : f.sending.moment ≤ length events
  pub says : Result PtpMsg FrameFault
  pub accepted : Accepts s (world_after s (later ++ events)) says (Deliver number)

-- a frame was put out in one of these events, of which some came before and some since, at most a frame's life ago: in a step
-- that the node at its end took in that event, in the world before it, the node sent these octets at the port there
pub record WasSentLately (s : Setting) (events : List Happened) (f : FrameAt) : Type 0 where
  pub since : List Happened
  pub event : Happened
  pub before : List Happened
  pub splits : events ≡ since ++ event ∷ before
  pub moment : f.sending.moment ≡ length (event ∷ before)
  pub at : f.sending.at ≡ (world_after s (event ∷ before)).time
  pub recent : (world_after s events).time ≤ℤ (f.sending.at +ℤ pos (frame_life s.cfg))
  pub end : End
  pub end_is : end_at s f.link f.by ≡ Some end
  pub step : NodeStepAt
  pub taken : Contains (steps_at s before event) step
  pub node : step.node ≡ end.node
  pub sent : Contains step.outs (Send end.port (record { items = octets_of f.sending.message }))

-- this holds of each frame that can still be handed over
abbrev pub FramesMayCome : Type 0
FramesMayCome = (s : Setting) (events : List Happened) (f : FrameAt) → MayStillCome s events f → WasSentLately s events f
