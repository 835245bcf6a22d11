-- What each call of a node makes of it, on its way through an input.
use Rattle.std.specs.Prelude.{◌≡◌, ℕ, ℤ, ◌<◌, ◌≤◌, ◌+◌, ◌%◌, ◌^◌, ◌==◌, ◌&&◌, Bool, true, false, if◌then◌else◌, List, [], ◌++◌, flat_map, Option, None, Some, Result, Ok}
use Rattle.wrp_base.specs.declared.link.LinkWord.{LinkWord}
use Rattle.wrp_base.specs.declared.link.ServoState.{ServoState}
use Rattle.wrp_base.specs.declared.link.Module.{Module}
use Rattle.wrp_base.specs.declared.message.PtpMsg.{PtpMsg}
use Rattle.wrp_base.specs.declared.time.Stamp.{Stamp}
use Rattle.wrp_port.specs.declared.interface.PortIn.TheVariants.{Sent as PortSent}
use Rattle.wrp_base.specs.declared.time.Raw.{Raw}
use Rattle.wrp_data.specs.Counters.{count_at}
use Rattle.wrp_frame.specs.declared.fault.FrameFault.{FrameFault}
use Rattle.wrp_link.specs.Table.{word_of}
use Rattle.wrp_node.specs.Control.{HasTick, KeepsLaw, state_in, tracked_in}
use Rattle.wrp_node.specs.declared.interface.Input.{Input}
use Rattle.wrp_node.specs.declared.interface.Input.TheVariants.{Tick, Sample, Frame, Sent, Carrier, Reset}
use Rattle.wrp_node.specs.declared.interface.Output.{Output}
use Rattle.wrp_node.specs.NodeAt.{Taken, NodeSetting, NodeAt, link_at}
use Rattle.wrp_node.specs.NodeRun.{IsSaid, node_after, step_out, dac_out, servo_out, est_out}
use Rattle.wrp_frame.specs.Saying.{Says}
use Rattle.wrp_node.specs.NodeStep.{servo_ticked, ports_ticked, stepped, handed, carried, restarted, heard}
use Rattle.wrp_node.specs.Parts.{FitsRaw, is_among}
use Rattle.wrp_node.specs.Place.{place_out}
use Rattle.wrp_node.specs.StandsFor.{NodeOf, IsIn, StandsFor}
use Rattle.wrp_node.specs.Telling.{Step, step_from, for_slave, tell}
use Rattle.wrp_port.specs.PortAt.{IsStamp}
use Rattle.wrp_servo.specs.Call.{CallTick, CallSample}

-- ---- what a node is, and what it can take

-- a node as its calls made it: it stands for some list of inputs, and its law keeps its fact
pub record IsValid {F : Type 0} (pre : F → ℤ → Type 0) (post : F → ℤ → ℤ → Type 0) (node : NodeOf F) : Type 0 where
  pub law : KeepsLaw pre post node.control
  pub report : 1 ≤ node.report
  pub fixed : NodeSetting
  pub inputs : List Taken
  pub stands : StandsFor post fixed node inputs

-- an input that can come: the port is one of the node's, numbers are in their ranges, and a tick can still be counted
abbrev pub FitsInput : {F : Type 0} → NodeOf F → Input → Type 0
FitsInput node Tick = node.parts.ticks + 1 < 2 ^ 32
FitsInput node (Sample number base bits) = base < 16384
FitsInput node (Frame p octets raw sample) = (is_among p node.parts.ports ≡ true) × FitsRaw raw
FitsInput node (Sent p seq delay stamp) = (is_among p node.parts.ports ≡ true) × IsStamp stamp
FitsInput node (Carrier p up own_module) = is_among p node.parts.ports ≡ true
FitsInput node Reset = Unit {0}

-- the servo can count a tick, should the input be one
abbrev pub HasTickFor : {F : Type 0} → NodeOf F → Input → Type 0
HasTickFor node Tick = HasTick node.control
HasTickFor node _ = Unit {0}

-- ---- calls on the way through an input

-- a call leads from one moment of an input to a later one
abbrev pub NodeLeads : {F : Type 0} → (F → ℤ → ℤ → Type 0) → (NodeSetting → Step → Step) → NodeOf F → NodeOf F → Type 0
NodeLeads post moved old new =
    (fixed : NodeSetting) (before : NodeAt) (s : Step) → IsIn post fixed before s old → IsIn post fixed before (moved fixed s) new

-- from the beginning of an input
abbrev pub NodeTakes : {F : Type 0} → (F → ℤ → ℤ → Type 0) → (NodeSetting → NodeAt → Step) → NodeOf F → NodeOf F → Type 0
NodeTakes post taken old new =
    (fixed : NodeSetting) (n : NodeAt) → IsIn post fixed n (step_from n) old → IsIn post fixed n (taken fixed n) new

-- the servo has its tick
abbrev pub servo_has_tick : NodeSetting → Step → Step
servo_has_tick fixed s = tell fixed (for_slave fixed (Some CallTick)) s

-- the servo gets a sample of the phase detector: its number, the tag at which its bits begin, in steps of the detector,
-- and its 64 beat bits
abbrev pub servo_has_sample : ℕ → ℕ → ℕ → NodeSetting → NodeAt → Step
servo_has_sample number base bits fixed n = tell fixed (for_slave fixed (Some (CallSample number base bits))) (step_from n)

-- the whole of a tick: the count, the lease and the servo have their turn, then the ports
abbrev pub ticked : NodeSetting → NodeAt → Step
ticked fixed n = ports_ticked fixed (servo_ticked fixed n)

-- the ports have their tick, if none has sent yet
abbrev pub PortsTick : {F : Type 0} → (F → ℤ → ℤ → Type 0) → NodeOf F → NodeOf F → Type 0
PortsTick post old new =
    (fixed : NodeSetting) (before : NodeAt) (s : Step) → ((p : ℕ) → s.sends p ≡ []) → IsIn post fixed before s old →
    IsIn post fixed before (ports_ticked fixed s) new

-- a reset comes: nothing is commanded, and nothing sent
abbrev pub restarts : NodeSetting → NodeAt → Step
restarts fixed n = step_from (restarted fixed n)

-- a frame comes to a port: what its octets say, its raw stamp, the number of the last sample, and the answer of the law
-- should it make a measurement
abbrev pub heard_at : ℕ → Result PtpMsg FrameFault → Raw → ℕ → ℤ → NodeSetting → NodeAt → Step
heard_at p says raw sample answer fixed n = heard fixed p says raw sample answer n

-- a frame, with what its octets say and an answer of the law
abbrev pub TakesFrame : {F : Type 0} → (F → ℤ → ℤ → Type 0) → ℕ → List ℕ → Raw → ℕ → NodeOf F → NodeOf F → Type 0
TakesFrame post p octets raw sample old new =
    (says : Result PtpMsg FrameFault) × (answer : ℤ) × Says octets says × NodeTakes post (heard_at p says raw sample answer) old new

-- a message, with an answer of the law
abbrev pub TakesMessage : {F : Type 0} → (F → ℤ → ℤ → Type 0) → ℕ → PtpMsg → Raw → ℕ → NodeOf F → NodeOf F → Type 0
TakesMessage post p message raw sample old new = (answer : ℤ) × NodeTakes post (heard_at p (Ok message) raw sample answer) old new

-- the port is given the stamp of a Delay_Req (`delay` is true) or a Sync that it sent, with the node's tick count
abbrev pub sent_at : ℕ → ℕ → Bool → Stamp → NodeSetting → NodeAt → Step
sent_at p seq delay stamp fixed n = handed fixed p (PortSent delay seq stamp n.ticks) n

-- the carrier of a port comes or goes; the port's module is there if the calibration database lists it
abbrev pub carried_at : ℕ → Bool → Option Module → NodeSetting → NodeAt → Step
carried_at p up own_module fixed n = carried fixed p up own_module n

-- an input, with what its octets say and an answer of the law
abbrev pub Takes : {F : Type 0} → (F → ℤ → ℤ → Type 0) → Input → NodeOf F → NodeOf F → Type 0
Takes post input old new =
    (says : Result PtpMsg FrameFault) × (answer : ℤ) × IsSaid input says × NodeTakes post (λ fixed n. stepped fixed input says answer n) old new

-- ---- what is put out

-- the offset to report: in TRACK, at a tick that `report` divides
abbrev pub track_in : {F : Type 0} → Bool → NodeOf F → Option ℤ
track_in tick node = if tick && (node.parts.ticks % node.report == 0) then tracked_in node.control.told else None

-- all that is put out after an input, in its order: the step of the clock, the DAC value, the state of the servo if it
-- changed, the word and the frames of each port, and the track report
abbrev pub puts_out : {F : Type 0} → ServoState → Bool → NodeOf F → List Output
puts_out before tick node =
    step_out node.parts.cycles ++ dac_out node.parts.dac ++ servo_out before (state_in node.control.told)
    ++ flat_map place_out node.parts.ports ++ est_out (track_in tick node)

-- whether an input is a tick
abbrev pub is_tick : Input → Bool
is_tick Tick = true
is_tick _ = false

-- ---- what it reports of itself, for each list of inputs that it stands for

-- a result is the value of the node after any list of inputs that it stands for
abbrev pub Tells : {F A : Type 0} → (F → ℤ → ℤ → Type 0) → (NodeSetting → NodeAt → A) → NodeOf F → A → Type 0
Tells post value node result =
    (fixed : NodeSetting) (inputs : List Taken) → StandsFor post fixed node inputs → result ≡ value fixed (node_after fixed inputs)

-- the word of a port
abbrev pub word_at : ℕ → NodeSetting → NodeAt → LinkWord
word_at p fixed n = word_of (link_at fixed.set n p)

-- how often a port dropped something for the reason of this number
abbrev pub count_of : ℕ → ℕ → NodeSetting → NodeAt → ℕ
count_of p reason fixed n = count_at (n.counters p) reason

-- the ticks since the last reset
abbrev pub ticks_at : NodeSetting → NodeAt → ℕ
ticks_at fixed n = n.ticks
