-- The same events make the same world, except for answers of the law that nobody asked for and for what is noted of
-- inputs; its nodes make the same steps, and the same premises are tried (this project's profile).
use Rattle.std.specs.Prelude.{◌≡◌, ℕ, ℤ, List, [], ◌∷◌, Result}
use Rattle.wrp_base.specs.declared.message.PtpMsg.{PtpMsg}
use Rattle.wrp_frame.specs.declared.fault.FrameFault.{FrameFault}
use Rattle.wrp_node.specs.NodeAt.{Taken, servo_setting_of}
use Rattle.wrp_node.specs.OneRun.{answers_by}
use Rattle.wrp_servo.specs.Call.{Call, run}
use Rattle.wrp_course.specs.declared.event.Event.{Event}
use Rattle.wrp_course.specs.Premises.{checks_of}
use Rattle.wrp_course.specs.Run.{AllSaid, Happened, IsAnswered, IsSaid, steps_at, world_after}
use Rattle.wrp_course.specs.Setting.{Setting, node_setting_of}
use Rattle.wrp_course.specs.WorldAt.{WorldAt}

-- Two worlds that differ only in the answers that their servos were given, and in what is noted of inputs

abbrev pub with_all : (ℕ → List Call) → (ℕ → List Taken) → WorldAt → WorldAt
with_all calls inputs v = record v { node = λ n. record (v.node n) { calls = calls n }; inputs = inputs }

pub record Alike (s : Setting) (v w : WorldAt) : Type 0 where
  pub calls : ℕ → List Call
  pub inputs : ℕ → List Taken
  pub is : w ≡ with_all calls inputs v
  pub servo :
      (n : ℕ) →
      run (servo_setting_of (node_setting_of s n)) (v.node n).calls ≡ run (servo_setting_of (node_setting_of s n)) (calls n)

-- the answers of the laws of links, by the node below each
abbrev pub answers_of : (ℕ → ℤ → ℤ) → ℕ → ℤ → ℤ → Type 0
answers_of law n = answers_by (law n)

-- Runs

-- two lists of the same events
abbrev pub SameEvents : List Happened → List Happened → Type 0
SameEvents [] [] = Unit {0}
SameEvents (h ∷ before) (k ∷ others) = (h.event ≡ k.event) × SameEvents before others
SameEvents _ _ = ⊥

-- what is the same after two runs of the same events: the worlds are alike; a further event makes the same steps in
-- both; and an event is tried against the same premises in both, whatever is noted with the octets of a Noise
pub record SameWorlds (law : ℕ → ℤ → ℤ) (s : Setting) (events others : List Happened) : Type 0 where
  pub after : Alike s (world_after s events) (world_after s others)
  pub steps :
      (h k : Happened) → h.event ≡ k.event → IsSaid h.event h.says → IsSaid k.event k.says →
      IsAnswered (answers_of law) s (world_after s (h ∷ events)) → IsAnswered (answers_of law) s (world_after s (k ∷ others)) →
      steps_at s events h ≡ steps_at s others k
  pub tried :
      (e : Event) (a b : Result PtpMsg FrameFault) → IsSaid e a → IsSaid e b →
      checks_of s (world_after s events) a e ≡ checks_of s (world_after s others) b e

abbrev pub OneWorld : Type 0
OneWorld =
    (law : ℕ → ℤ → ℤ) (s : Setting) (events others : List Happened) → SameEvents events others → AllSaid events → AllSaid others →
    IsAnswered (answers_of law) s (world_after s events) → IsAnswered (answers_of law) s (world_after s others) →
    SameWorlds law s events others
