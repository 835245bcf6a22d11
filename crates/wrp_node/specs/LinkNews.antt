-- What an input is to the link of each port of a node (this project's profile).
use Rattle.std.specs.Prelude.{◌≡◌, ℕ, ◌==◌, true, false, if◌then◌else◌, Option, None, Some, Result, Ok, Err}
use Rattle.wrp_base.specs.declared.message.PtpMsg.{PtpMsg}
use Rattle.wrp_frame.specs.declared.fault.FrameFault.{FrameFault}
use Rattle.wrp_link.specs.declared.interface.LinkIn.{LinkIn}
use Rattle.wrp_link.specs.declared.interface.LinkIn.TheVariants as link
use Rattle.wrp_link.specs.LinkAt.{LinkAt, new_link}
use Rattle.wrp_link.specs.Table.{after}
use Rattle.wrp_node.specs.declared.interface.Input.{Input}
use Rattle.wrp_node.specs.declared.interface.Input.TheVariants.{Tick, Frame, Carrier, Reset}
use Rattle.wrp_node.specs.NodeAt.{Taken, NodeSetting, NodeAt, setting_of, link_at, locked_of}
use Rattle.wrp_node.specs.NodeStep.{node_step, servo_ticked}
use Rattle.wrp_port.specs.declared.setting.Setting.{Setting}
use Rattle.wrp_port.specs.Hearing.{early_reason, link_input}
use Rattle.wrp_port.specs.History.{input_unless}

-- nothing, one input of the handshake table, or a new beginning
pub data LinkNews : Type 0 where
  Nothing : LinkNews
  Given : (input : LinkIn) → LinkNews
  Renewed : LinkNews

-- an input of the handshake table, if there is one, as what it is to the link
abbrev pub news_of : Option LinkIn → LinkNews
news_of None = Nothing
news_of (Some input) = Given input

-- the link after it
abbrev pub link_after : Setting → LinkAt → LinkNews → LinkAt
link_after set l Nothing = l
link_after set l (Given input) = after l input
link_after set l Renewed = new_link set.ds.role set.link

-- what a frame is to the link of the port that it came to
abbrev pub frame_news : NodeSetting → NodeAt → ℕ → Result PtpMsg FrameFault → LinkNews
frame_news fixed n p (Err fault) = Nothing
frame_news fixed n p (Ok message) =
    news_of (input_unless (early_reason (setting_of fixed.set p) (link_at fixed.set n p) message) (link_input (setting_of fixed.set p).ds.role message.body))

-- what an input is to the link of a port
abbrev pub news_at : NodeSetting → NodeAt → Input → Result PtpMsg FrameFault → ℕ → LinkNews
news_at fixed n Tick says p = Given (link.Tick (locked_of fixed (servo_ticked fixed n).node))
news_at fixed n (Frame q octets raw sample) says p = if p == q then frame_news fixed n q says else Nothing
news_at fixed n (Carrier q true own_module) says p = if p == q then Given (link.CarrierUp own_module) else Nothing
news_at fixed n (Carrier q false own_module) says p = if p == q then Given link.CarrierDown else Nothing
news_at fixed n Reset says p = Renewed
news_at fixed n _ says p = Nothing

-- a step gives the link of each port what the input is to it, and nothing else
abbrev pub StepGivesLinks : Type 0
StepGivesLinks =
    (fixed : NodeSetting) (t : Taken) (n : NodeAt) (p : ℕ) →
    link_at fixed.set (node_step fixed t n).node p ≡ link_after (setting_of fixed.set p) (link_at fixed.set n p) (news_at fixed n t.input t.says p)
