-- Runs of a world: lists of events, the newest first, each with what the octets of a Noise say and with the law's answer,
-- should the law be asked (this project's profile).
use Rattle.std.specs.Prelude.{ℤ, ℕ, List, [], ◌∷◌, Result}
use Rattle.wrp_base.specs.declared.message.PtpMsg.{PtpMsg}
use Rattle.wrp_frame.specs.declared.fault.FrameFault.{FrameFault}
use Rattle.wrp_frame.specs.Saying.{Says}
use Rattle.wrp_servo.specs.Servo.{AllAnswered}
use Rattle.wrp_node.specs.NodeAt.{servo_setting_of}
use Rattle.wrp_course.specs.declared.event.Event.{Event}
use Rattle.wrp_course.specs.declared.event.Event.TheVariants.{Noise}
use Rattle.wrp_course.specs.Given.{NodeStepAt, world_step, event_steps}
use Rattle.wrp_course.specs.Premises.{Accepts}
use Rattle.wrp_course.specs.Setting.{Setting, node_setting_of}
use Rattle.wrp_course.specs.WorldAt.{WorldAt, new_world}

-- an event that came
pub record Happened : Type 0 where
  pub event : Event
  pub says : Result PtpMsg FrameFault
  pub answer : ℤ

-- the world after these events
abbrev pub world_after : Setting → List Happened → WorldAt
world_after s [] = new_world s
world_after s (h ∷ before) = world_step s h.says h.answer (world_after s before) h.event

-- all worlds of a run, the newest first
abbrev pub worlds_of : Setting → List Happened → List WorldAt
worlds_of s [] = new_world s ∷ []
worlds_of s (h ∷ before) = world_after s (h ∷ before) ∷ worlds_of s before

-- the nodes' steps in the newest event
abbrev pub steps_at : Setting → List Happened → Happened → List NodeStepAt
steps_at s before h = event_steps s h.says h.answer (world_after s before) h.event

-- each event kept all premises when it came
abbrev pub AllAccepted : Setting → List Happened → Type 0
AllAccepted s [] = Unit {0}
AllAccepted s (h ∷ before) = Accepts s (world_after s before) h.says h.event × AllAccepted s before

-- what is noted with the octets of a Noise is what they say
abbrev pub IsSaid : Event → Result PtpMsg FrameFault → Type 0
IsSaid (Noise n p octets raw) says = Says octets.items says
IsSaid _ says = Unit {0}

-- the same of each of these events
abbrev pub AllSaid : List Happened → Type 0
AllSaid [] = Unit {0}
AllSaid (h ∷ before) = IsSaid h.event h.says × AllSaid before

-- the laws of the links may give these answers, by the node below each
abbrev pub IsAnswered : (ℕ → ℤ → ℤ → Type 0) → Setting → WorldAt → Type 0
IsAnswered answers s w = (n : ℕ) → AllAnswered (answers n) (servo_setting_of (node_setting_of s n)) (w.node n).calls

-- a run of the world: each event is accepted, octets are read as they say, and each measurement has one of the law's answers
pub record WorldRun (answers : ℕ → ℤ → ℤ → Type 0) (s : Setting) (events : List Happened) : Type 0 where
  pub accepted : AllAccepted s events
  pub said : AllSaid events
  pub answered : IsAnswered answers s (world_after s events)
