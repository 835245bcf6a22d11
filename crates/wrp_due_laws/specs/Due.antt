-- What is expected when something is read, heard or awaited: some value, whatever comes (this project's
-- profile).
use Rattle.std.specs.Prelude.{◌≡◌, ℕ, ℤ, List, [], Option, Result}
use Rattle.wrp_base.specs.declared.message.PtpMsg.{PtpMsg}
use Rattle.wrp_config.specs.Accepted.{IsAccepted}
use Rattle.wrp_course.specs.Run.{AllSaid as AllEventsSaid, Happened, world_after}
use Rattle.wrp_course.specs.Setting.{Setting}
use Rattle.wrp_course.specs.Views.{IsNextArrival}
use Rattle.wrp_frame.specs.declared.fault.FrameFault.{FrameFault}
use Rattle.wrp_node.specs.declared.interface.Input.{Input}
use Rattle.wrp_node.specs.NodeAt.{NodeAt, NodeSetting, servo_setting_of}
use Rattle.wrp_node.specs.NodeRun.{AllSaid}
use Rattle.wrp_frame.specs.Saying.{Says}
use Rattle.wrp_node.specs.NodeStep.{node_step}
use Rattle.wrp_node.specs.OneRun.{answers_by}
use Rattle.wrp_node.specs.Set.{set_of}
use Rattle.wrp_pcap.specs.Inspected.{capture}
use Rattle.wrp_recorded_laws.specs.Recorded.{AllSaidByLines}
use Rattle.wrp_records.specs.declared.status.Status.{Status}
use Rattle.wrp_servo.specs.Servo.{AllAnswered}

-- any octets say a message or have a first fault
abbrev pub EachSays : Type 0
EachSays = (octets : List ℕ) → (says : Result PtpMsg FrameFault) × Says octets says

-- if a delay law is a function, each input of a node, whatever its octets say, can be taken with an answer of that
-- law
abbrev pub EachInputIsAnswered : Type 0
EachInputIsAnswered =
    (law : ℤ → ℤ) (fixed : NodeSetting) (input : Input) (says : Result PtpMsg FrameFault) (n : NodeAt) →
    AllAnswered (answers_by law) (servo_setting_of fixed) n.calls →
    (y : ℤ) × AllAnswered (answers_by law) (servo_setting_of fixed)
    (node_step fixed (record { input = input; says = says; answer = y }) n).node.calls

-- in every run of an accepted network, if the octets of each Noise, which a line says, are read as they say, then
-- so is each frame that a node was given, including a frame that another node put out
abbrev pub FramesAreHeard : Type 0
FramesAreHeard =
    (s : Setting) (events : List Happened) → IsAccepted s.cfg s.db → ((n : ℕ) → s.set n ≡ set_of s.cfg n) →
    AllSaidByLines s.cfg events → AllEventsSaid events → (n : ℕ) → AllSaid ((world_after s events).inputs n)

-- after all events, one frame is due first, or no frame is on a fibre
abbrev pub OneIsDueFirst : Type 0
OneIsDueFirst = (s : Setting) (events : List Happened) → (due : Option (ℕ × ℤ)) × IsNextArrival (world_after s events) due

-- for each input that is inspected some status and octets are expected
abbrev pub EachIsInspected : Type 0
EachIsInspected = (octets : List ℕ) → (status : Status) × (text : List ℕ) × capture.answers octets [] status text
