-- The inputs that an event gives, as the code lists them before the nodes take them (this project's profile).
use Rattle.std.specs.Prelude.{◌≡◌, ℤ, List, Result}
use Rattle.std.specs.List.{AllZip}
use Rattle.wrp_base.specs.declared.message.PtpMsg.{PtpMsg}
use Rattle.wrp_frame.specs.declared.fault.FrameFault.{FrameFault}
use Rattle.wrp_node.specs.declared.interface.Input.{Input}
use Rattle.wrp_node.specs.declared.interface.Input.TheVariants.{Frame}
use Rattle.wrp_frame.specs.Saying.{Says}
use Rattle.wrp_course.specs.declared.event.Event.{Event}
use Rattle.wrp_course.specs.declared.node_out.NodeOut.{NodeOut}
use Rattle.wrp_course.specs.Given.{Given, given_by}
use Rattle.wrp_course.specs.Moved.{moved}
use Rattle.wrp_course.specs.Setting.{Setting}
use Rattle.wrp_course.specs.WorldAt.{WorldAt}

-- what is noted with a frame is what its octets say, and the time at which it was put out
abbrev pub IsRead : ℤ → Result PtpMsg FrameFault → ℤ → Input → Type 0
IsRead put says at (Frame p octets raw sample) = Says octets.items says × (at ≡ put)
IsRead put says at _ = Unit {0}

-- an input that is listed; if it is a frame, it was put out at the time `put`
pub record GiftIs (put : ℤ) (g : Given) (out : NodeOut) : Type 0 where
  pub node : out.node ≡ g.to
  pub input : out.input ≡ g.input
  pub read : IsRead put g.says g.at g.input

-- all inputs that the event gives, in order
abbrev pub AreGifts : Setting → WorldAt → Result PtpMsg FrameFault → Event → ℤ → List NodeOut → Type 0
AreGifts s w says e put outs = AllZip (GiftIs put) (given_by s w (moved s w e) says e) outs
