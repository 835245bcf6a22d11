-- The inputs that an event gives to the nodes, in their order, and what the nodes' steps then do to the world (this
-- project's profile).
use Rattle.std.specs.Prelude.{ℕ, ℤ, pos, ◌==◌, ◌+ℤ◌, ◌*ℤ◌, true, false, if◌then◌else◌, List, [], ◌∷◌, ◌++◌, map, flat_map, Option, None, Some, Result, Ok, Err, option_map}
use Rattle.std.specs.Option.{option_map_or}
use Rattle.wrp_base.specs.Clock.{period_of}
use Rattle.wrp_base.specs.declared.link.LinkState.{LinkState}
use Rattle.wrp_base.specs.declared.link.Role.{Role}
use Rattle.wrp_base.specs.declared.link.Role.TheVariants.{Master}
use Rattle.wrp_base.specs.declared.message.Body.{Body}
use Rattle.wrp_base.specs.declared.message.Body.TheVariants.{Sync, DelayReq, Signal}
use Rattle.wrp_base.specs.declared.message.PtpMsg.{PtpMsg}
use Rattle.wrp_base.specs.declared.message.WrMsg.{WrMsg}
use Rattle.wrp_base.specs.Link.{other_of}
use Rattle.wrp_frame.specs.declared.fault.FrameFault.{FrameFault}
use Rattle.wrp_frame.specs.declared.fault.FrameFault.TheVariants.{Short}
use Rattle.wrp_frame.specs.SentOctets.{octets_of}
use Rattle.wrp_handshake_laws.specs.Ends.{marked}
use Rattle.wrp_node.specs.declared.interface.Input.{Input}
use Rattle.wrp_node.specs.declared.interface.Input.TheVariants.{Tick as TickInput, Sample as SampleInput, Frame, Sent, Carrier, Reset}
use Rattle.wrp_node.specs.declared.interface.Output.{Output}
use Rattle.wrp_node.specs.NodeAt.{Taken, link_at, numbers_of}
use Rattle.wrp_node.specs.NodeRun.{outputs_of}
use Rattle.wrp_node.specs.NodeStep.{node_step}
use Rattle.wrp_node.specs.Telling.{Step}
use Rattle.wrp_course.specs.declared.clocks.ClockState.{ClockState}
use Rattle.wrp_course.specs.declared.event.Event.{Event}
use Rattle.wrp_course.specs.declared.event.Event.TheVariants.{Tick, Sample, Depart, Deliver, Noise, Down, Up, Cut, Join}
use Rattle.wrp_course.specs.Moved.{moved, waiting_at}
use Rattle.wrp_course.specs.declared.place.Place.{Place}
use Rattle.wrp_course.specs.Setting.{Setting, end_at, entry_at, node_setting_of, is_of, place_of}
use Rattle.wrp_course.specs.WorldAt.{WorldAt, EndAt, FrameAt, Arrival, Sending, has_carrier}

-- What an event gives

-- an input of a node; if it is a frame, also what its octets say, and the true time at which it was put out
pub record Given : Type 0 where
  pub to : ℕ
  pub input : Input
  pub says : Result PtpMsg FrameFault
  pub at : ℤ

-- an input that is no frame, or whose octets say this and were put out by no port
abbrev pub given : ℕ → Input → Result PtpMsg FrameFault → Given
given n input says = record { to = n; input = input; says = says; at = pos 0 }

-- the value used when no octets are read
abbrev pub unread : Result PtpMsg FrameFault
unread = Err Short

-- an input for which no octets are read: each kind but a frame
abbrev pub given_plain : ℕ → Input → Given
given_plain n input = given n input unread

-- the sending of a Sync and of a Delay_Req is reported to its node
abbrev pub told_sending : (n p seq : ℕ) (stamp : ℤ) (samples : ℕ) → Body → List Given
told_sending n p seq stamp samples (Sync origin) =
    given_plain n (Sent p seq false (record { value = stamp; sample = samples })) ∷ []
told_sending n p seq stamp samples (DelayReq origin) =
    given_plain n (Sent p seq true (record { value = stamp; sample = samples })) ∷ []
told_sending n p seq stamp samples _ = []

-- what a node is given when the oldest of these frames, which wait at its port, departs: its send stamp, in tau, with
-- the number of the node's last sample, if it is a Sync or a Delay_Req; nothing if it is another message, or if no
-- frame waits
abbrev pub sent_oldest : (n p : ℕ) (stamp : ℤ) (samples : ℕ) → List Sending → List Given
sent_oldest n p stamp samples [] = []
sent_oldest n p stamp samples (oldest ∷ rest) =
    told_sending n p oldest.message.head.seq stamp samples oldest.message.body

-- a frame that arrived is handed over at the other end, with its stamp
abbrev pub delivered_to : FrameAt → Arrival → ℕ → ℕ → List Given
delivered_to f arrival n p =
    record {
      to = n;
      input = Frame p (record { items = octets_of f.sending.message }) arrival.raw arrival.sample;
      says = Ok f.sending.message;
      at = f.sending.at;
    } ∷ []

-- a frame as it is handed over: nothing if it has not arrived, else one input of the node at the end that did not send it
abbrev pub delivered_by : Setting → FrameAt → Option Arrival → List Given
delivered_by s f None = []
delivered_by s f (Some arrival) =
    option_map_or (λ end. delivered_to f arrival end.node end.port) (end_at s f.link (other_of f.by)) []

-- the same of the frame of this number: nothing if no such frame departed
abbrev pub delivered : Setting → Option FrameAt → List Given
delivered s None = []
delivered s (Some f) = delivered_by s f f.arrival

-- the carrier of an end goes, or comes with the module in place
abbrev pub goes_at : Setting → ℕ → Role → List Given
goes_at s k r =
    option_map_or (λ end. given_plain end.node (Carrier end.port false None) ∷ []) (end_at s k r) []

-- the carrier comes at one end: the port there is given the database entry of the module in place, or none if the module is
-- not listed
abbrev pub comes_at : Setting → WorldAt → ℕ → Role → List Given
comes_at s w k r =
    option_map_or (λ end. given_plain end.node (Carrier end.port true (entry_at s k r (w.end_at k r).name)) ∷ [])
    (end_at s k r) []

-- it goes, or comes, at this end of a link and then at the other
abbrev pub goes_from : Setting → ℕ → Role → List Given
goes_from s k r = goes_at s k r ++ goes_at s k (other_of r)

-- the carrier comes at this end of a link, and then at the other
abbrev pub comes_from : Setting → WorldAt → ℕ → Role → List Given
comes_from s w k r = comes_at s w k r ++ comes_at s w k (other_of r)

-- if the link of a port has its carrier in the first world
abbrev pub if_carried : Setting → WorldAt → (ℕ → Role → List Given) → Option Place → List Given
if_carried s w gives None = []
if_carried s w gives (Some place) = if has_carrier s w place.link then gives place.link place.role else []

-- each port of a node, ascending
abbrev pub at_ports : Setting → WorldAt → (ℕ → Role → List Given) → ℕ → List Given
at_ports s w gives n = flat_map (λ p. if_carried s w gives (place_of s n p)) (numbers_of (s.set n))

-- the inputs that an event gives: w is the world before it, v the one that it made by itself
abbrev pub given_by : Setting → WorldAt → WorldAt → Result PtpMsg FrameFault → Event → List Given
given_by s w v says (Tick n) = given_plain n TickInput ∷ []
given_by s w v says (Sample n base bits) = given_plain n (SampleInput (v.clock n).samples base bits) ∷ []
given_by s w v says (Depart n p stamp) =
    sent_oldest n p stamp (w.clock n).samples (waiting_at w (place_of s n p))
given_by s w v says (Deliver i) = delivered s (w.frame i)
given_by s w v says (Noise n p octets raw) = given n (Frame p octets raw (w.clock n).samples) says ∷ []
given_by s w v says (Down n) = at_ports s w (goes_from s) n
given_by s w v says (Up n off swaps) = given_plain n Reset ∷ at_ports s v (comes_from s v) n
given_by s w v says (Cut k) = if has_carrier s w k then goes_from s k Master else []
given_by s w v says (Join k ms sm) = if has_carrier s v k then comes_from s v k Master else []
given_by s w v says _ = []

-- What a node's step does to the world

-- a message as it is sent now: with the true time, in tau, and the number of its event
abbrev pub sending : WorldAt → PtpMsg → Sending
sending v message = record { message = message; at = v.time; moment = v.count }

-- put out one after the other, before what was put out earlier
abbrev pub put_out : List Sending → List Sending → List Sending
put_out [] sent = sent
put_out (m ∷ ms) sent = put_out ms (m ∷ sent)

-- the White Rabbit message of a frame, with the true time at which it was put out
abbrev pub in_body : Body → ℤ → Option (WrMsg × ℤ)
in_body (Signal target message) at = option_map (λ m. (m, at)) message
in_body _ at = None

-- the White Rabbit message that a frame's octets say, with the true time at which it was sent, in tau; None if they say no
-- message, or one of another kind
abbrev pub in_frame : Result PtpMsg FrameFault → ℤ → Option (WrMsg × ℤ)
in_frame (Err fault) at = None
in_frame (Ok message) at = in_body message.body at

-- the White Rabbit message that an input is, which is what may move a link's state, with the true time at which it was
-- sent; None for every other input
abbrev pub mover_of : Given → Input → Option (WrMsg × ℤ)
mover_of g (Frame p octets raw sample) = in_frame g.says g.at
mover_of g _ = None

-- an end of the node: what its port sent waits there, and a changed state of its link is marked
abbrev pub end_told : WorldAt → Given → (old new : LinkState) → List PtpMsg → EndAt → EndAt
end_told v g old new messages e = record e {
  waiting = e.waiting ++ map (sending v) messages;
  sent = put_out (map (sending v) messages) e.sent;
  marks = marked v.time old new (mover_of g g.input) e.marks;
}

-- the record of an input that a node took; y is the law's answer, should it be asked
abbrev pub taken_of : ℤ → Given → Taken
taken_of y g = record { input = g.input; says = g.says; answer = y }

-- the step that a node makes of an input, from its state in world v; y is the delay law's answer, should it be asked
abbrev pub step_of : Setting → ℤ → WorldAt → Given → Step
step_of s y v g = node_step (node_setting_of s g.to) (taken_of y g) (v.node g.to)

-- a tick is noted when it is given
abbrev pub ticked_by : Input → ℤ → ℤ → ℤ
ticked_by TickInput time before = time
ticked_by _ time before = before

-- a step that the node commands moves its clock by whole periods
abbrev pub clock_told : Setting → WorldAt → Given → ℤ → ClockState → ClockState
clock_told s v g cycles c = record c {
  off = c.off +ℤ (cycles *ℤ pos (period_of s.cfg.clock));
  ticked = ticked_by g.input v.time c.ticked;
}

-- an end of the node, at its port p, after the node's step: with what that port sent, and with the change of its link's state
abbrev pub end_given : Setting → WorldAt → Given → Step → ℕ → Role → ℕ → EndAt
end_given s v g step k r p =
    end_told v g (link_at (s.set g.to) (v.node g.to) p).state (link_at (s.set g.to) step.node p).state (step.sends p)
    (v.end_at k r)

-- an end of a link after a node's step: changed by it if it is an end of that node, else as it was
abbrev pub end_by : Setting → WorldAt → Given → Step → ℕ → Role → EndAt
end_by s v g step k r =
    if is_of g.to (end_at s k r) then option_map_or (λ end. end_given s v g step k r end.port) (end_at s k r) (v.end_at k r)
    else v.end_at k r

-- the world after a node's step
abbrev pub stepped_by : Setting → WorldAt → Given → Taken → Step → WorldAt
stepped_by s v g taken step = record v {
  node = λ n. if n == g.to then step.node else v.node n;
  inputs = λ n. if n == g.to then taken ∷ v.inputs n else v.inputs n;
  clock = λ n. if n == g.to then clock_told s v g step.cycles (v.clock n) else v.clock n;
  end_at = end_by s v g step;
}

-- the world once a node took one input and made its step; y is the delay law's answer, should it be asked
abbrev pub gives : Setting → ℤ → WorldAt → Given → WorldAt
gives s y v g = stepped_by s v g (taken_of y g) (step_of s y v g)

-- the world once the nodes took these inputs, one after the other
abbrev pub gives_all : Setting → ℤ → WorldAt → List Given → WorldAt
gives_all s y v [] = v
gives_all s y v (g ∷ gs) = gives_all s y (gives s y v g) gs

-- a step of a node: what it was given, and what it put out
pub record NodeStepAt : Type 0 where
  pub node : ℕ
  pub input : Input
  pub outs : List Output

-- the step that a node makes of an input, as it is seen from outside: the node, the input, and what the node outputs
abbrev pub node_step_of : Setting → ℤ → WorldAt → Given → NodeStepAt
node_step_of s y v g = record {
  node = g.to;
  input = g.input;
  outs = outputs_of (node_setting_of s g.to) g.input (v.node g.to) (step_of s y v g);
}

-- the steps of the nodes, in their order
abbrev pub steps_of : Setting → ℤ → WorldAt → List Given → List NodeStepAt
steps_of s y v [] = []
steps_of s y v (g ∷ gs) = node_step_of s y v g ∷ steps_of s y (gives s y v g) gs

-- An event

-- the world after an event; says is what the octets of a Noise say, and y the law's answer: at most one input of an
-- event is a frame
abbrev pub world_step : Setting → Result PtpMsg FrameFault → ℤ → WorldAt → Event → WorldAt
world_step s says y w e = gives_all s y (moved s w e) (given_by s w (moved s w e) says e)

-- the nodes' steps in an event
abbrev pub event_steps : Setting → Result PtpMsg FrameFault → ℤ → WorldAt → Event → List NodeStepAt
event_steps s says y w e = steps_of s y (moved s w e) (given_by s w (moved s w e) says e)
