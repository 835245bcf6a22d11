-- What a step of a node sends: which of it is link setup, and that all of it is put out (this project's profile).
use Rattle.std.specs.Prelude.{◌≡◌, ℕ, ◌==◌, Bool, true, false, if◌then◌else◌, List, [], ◌∷◌, map}
use Rattle.std.specs.List.{list_any}
use Rattle.wrp_base.specs.declared.message.Body.{Body}
use Rattle.wrp_base.specs.declared.message.Body.TheVariants.{Signal}
use Rattle.wrp_base.specs.declared.message.PtpMsg.{PtpMsg}
use Rattle.wrp_base.specs.declared.message.WrMsg.{WrMsg}
use Rattle.wrp_frame.specs.SentOctets.{octets_of}
use Rattle.wrp_link.specs.LinkAt.{LinkAt}
use Rattle.wrp_link.specs.Table.{sends_of}
use Rattle.wrp_node.specs.declared.interface.Output.{Output}
use Rattle.wrp_node.specs.declared.interface.Output.TheVariants.{Send}
use Rattle.wrp_node.specs.LinkNews.{LinkNews, Nothing, Given, Renewed, news_at}
use Rattle.wrp_node.specs.New.{OfDifferentNumbers}
use Rattle.wrp_node.specs.NodeAt.{Taken, NodeSetting, NodeAt, setting_of, line_at, link_at}
use Rattle.wrp_node.specs.NodeRun.{outputs_of}
use Rattle.wrp_node.specs.NodeStep.{node_step}
use Rattle.wrp_port.specs.Messages.{signals_of}

-- ---- link setup

-- whether a body is a Signaling, which carries a message of link setup
abbrev pub is_signal : Body → Bool
is_signal (Signal target message) = true
is_signal _ = false

-- the Signaling messages among these, in their order
abbrev pub signals_in : List PtpMsg → List PtpMsg
signals_in [] = []
signals_in (m ∷ messages) = if is_signal m.body then m ∷ signals_in messages else signals_in messages

-- what a link sends after what it is given
abbrev pub link_sends : LinkAt → LinkNews → List WrMsg
link_sends l Nothing = []
link_sends l (Given input) = sends_of l input
link_sends l Renewed = []

-- what the link of a port sends, each as a Signaling to the peer, from the port's next sequenceId on
abbrev pub signals_at : NodeSetting → NodeAt → ℕ → LinkNews → List PtpMsg
signals_at fixed n p news =
    signals_of (setting_of fixed.set p) (line_at fixed.set n p).ids.signal (link_sends (link_at fixed.set n p) news)

-- the Signaling messages that a port sends at a step are the ones that its link sends, in their order, and no others
abbrev pub SignalsAreOfLink : Type 0
SignalsAreOfLink =
    (fixed : NodeSetting) (t : Taken) (n : NodeAt) (p : ℕ) →
    signals_in ((node_step fixed t n).sends p) ≡ signals_at fixed n p (news_at fixed n t.input t.says p)

-- ---- what is put out

-- the octets of the frames that these outputs send at a port, in their order
abbrev pub frames_at : ℕ → List Output → List (List ℕ)
frames_at p [] = []
frames_at p (Send q frame ∷ outs) = if q == p then frame.items ∷ frames_at p outs else frames_at p outs
frames_at p (out ∷ outs) = frames_at p outs

-- whether one of the node's ports has this number
abbrev pub is_own_port : NodeSetting → ℕ → Bool
is_own_port fixed p = list_any (λ ds. ds.own.port == p) fixed.set.ports.items

-- the frames among the outputs of a step are what its ports send: at each port, in order, and at no other number
abbrev pub SendsArePutOut : Type 0
SendsArePutOut =
    (fixed : NodeSetting) (t : Taken) (n : NodeAt) (p : ℕ) → OfDifferentNumbers fixed.set.ports.items →
    frames_at p (outputs_of fixed t.input n (node_step fixed t n))
    ≡ (if is_own_port fixed p then map octets_of ((node_step fixed t n).sends p) else [])
