-- The run of a node: what it is after a list of inputs, newest first, and what it puts out at the newest of them, in order (this project's profile).
use Rattle.std.specs.Prelude.{◌≡◌, ℕ, ℤ, ◌%◌, ◌==◌, ◌&&◌, if◌then◌else◌, unsigned_abs, List, [], ◌∷◌, ◌++◌, map, flat_map, Option, None, Some, Result}
use Rattle.wrp_base.specs.declared.link.LinkWord.{LinkWord}
use Rattle.wrp_base.specs.declared.link.ServoState.{ServoState}
use Rattle.wrp_base.specs.declared.link.ServoState.TheVariants.{Uninit, SyncTai, SyncNsec, SyncPhase, WaitStable, Track, Holdover}
use Rattle.wrp_base.specs.declared.message.PtpMsg.{PtpMsg}
use Rattle.wrp_data.specs.Counters.{no_counts}
use Rattle.wrp_frame.specs.declared.fault.FrameFault.{FrameFault}
use Rattle.wrp_frame.specs.Saying.{Says}
use Rattle.wrp_frame.specs.SentOctets.{octets_of}
use Rattle.wrp_link.specs.Table.{word_of}
use Rattle.wrp_node.specs.declared.interface.Input.{Input}
use Rattle.wrp_node.specs.declared.interface.Input.TheVariants.{Tick, Frame}
use Rattle.wrp_node.specs.declared.interface.Output.{Output}
use Rattle.wrp_node.specs.declared.interface.Output.TheVariants.{Send, Step as StepOf, Dac, Report as ReportOf}
use Rattle.wrp_node.specs.declared.interface.Report.TheVariants.{Link, Servo, Track as TrackReport}
use Rattle.wrp_node.specs.NodeAt.{Taken, NodeSetting, NodeAt, numbers_of, servo_setting_of, link_at, state_of, est_of}
use Rattle.wrp_node.specs.NodeStep.{node_step}
use Rattle.wrp_node.specs.Telling.{Step}
use Rattle.wrp_port.specs.Outputs.{is_word}
use Rattle.wrp_servo.specs.Servo.{AllAnswered}
use Rattle.wrp_servo.specs.Table.{is_track}

-- ---- outputs, in their order

-- the step of the clock, if it is not 0
abbrev pub step_out : ℤ → List Output
step_out cycles = if unsigned_abs cycles == 0 then [] else StepOf cycles ∷ []

-- the DAC value, if the input brought a new one
abbrev pub dac_out : Option ℕ → List Output
dac_out None = []
dac_out (Some value) = Dac value ∷ []

-- the rank of a state in the list of states
abbrev pub rank_of : ServoState → ℕ
rank_of Uninit = 0
rank_of SyncTai = 1
rank_of SyncNsec = 2
rank_of SyncPhase = 3
rank_of WaitStable = 4
rank_of Track = 5
rank_of Holdover = 6

-- the state of the servo, if it differs from the one before the input
abbrev pub servo_out : ServoState → ServoState → List Output
servo_out before after = if rank_of before == rank_of after then [] else ReportOf (Servo after) ∷ []

-- the word of a port, if it differs from the one before the input
abbrev pub word_out : ℕ → LinkWord → LinkWord → List Output
word_out p before after = if is_word before after then [] else ReportOf (Link p after) ∷ []

-- a frame that a port sends
abbrev pub frame_out : ℕ → PtpMsg → Output
frame_out p message = Send p (record { items = octets_of message })

-- a port's word, then its frames
abbrev pub port_out : NodeSetting → NodeAt → Step → ℕ → List Output
port_out fixed before s p =
    word_out p (word_of (link_at fixed.set before p)) (word_of (link_at fixed.set s.node p)) ++ map (frame_out p) (s.sends p)

-- the track report of an offset from the parent, in tau, if there is one
abbrev pub est_out : Option ℤ → List Output
est_out None = []
est_out (Some est) = ReportOf (TrackReport est) ∷ []

-- a track report: in TRACK, at a tick whose number `report` divides
abbrev pub track_out : NodeSetting → Input → NodeAt → List Output
track_out fixed Tick n =
    if is_track (state_of fixed n) && (n.ticks % fixed.set.report == 0) then est_out (est_of fixed n) else []
track_out fixed _ n = []

-- the step, the DAC value, the servo's state, each port in ascending order, and the track report
abbrev pub outputs_of : NodeSetting → Input → NodeAt → Step → List Output
outputs_of fixed input before s =
    step_out s.cycles ++ dac_out s.dac ++ servo_out (state_of fixed before) (state_of fixed s.node)
    ++ flat_map (port_out fixed before s) (numbers_of fixed.set) ++ track_out fixed input s.node

-- ---- the run

-- a node before any input
abbrev pub new_node : NodeAt
new_node = record { ticks = 0; told = λ p. []; calls = []; counters = λ p. no_counts }

-- the node after these inputs, newest first
abbrev pub node_after : NodeSetting → List Taken → NodeAt
node_after fixed [] = new_node
node_after fixed (t ∷ before) = (node_step fixed t (node_after fixed before)).node

-- what the newest input puts out
abbrev pub outputs_at : NodeSetting → List Taken → Taken → List Output
outputs_at fixed before t =
    outputs_of fixed t.input (node_after fixed before) (node_step fixed t (node_after fixed before))

-- what is noted beside an input, as said by its octets, is what they say
abbrev pub IsSaid : Input → Result PtpMsg FrameFault → Type 0
IsSaid (Frame p octets raw sample) says = Says octets.items says
IsSaid _ says = Unit {0}

-- beside each frame is noted what its octets say
abbrev pub AllSaid : List Taken → Type 0
AllSaid [] = Unit {0}
AllSaid (t ∷ before) = IsSaid t.input t.says × AllSaid before

-- the run of a node whose law may answer so: each frame is read as its octets say, each measurement has one of the law's answers, and these are the outputs of the newest input
pub record NodeRun (answers : ℤ → ℤ → Type 0) (fixed : NodeSetting) (before : List Taken) (t : Taken) (put_out : List Output) : Type 0 where
  pub said : AllSaid (t ∷ before)
  pub answered : AllAnswered answers (servo_setting_of fixed) (node_after fixed (t ∷ before)).calls
  pub outputs : put_out ≡ outputs_at fixed before t
