-- Laws of loops (this project's profile).
use Rattle.std.specs.Prelude.{◌≡◌, ◌<◌, ℕ, ℤ, List, ◌++◌, Option, length}
use Rattle.wrp_io.specs.declared.link.LinkCall.{LinkCall}
use Rattle.wrp_node.specs.OneRun.{answers_by}
use Rattle.wrp_course.specs.Run.{Happened, IsAnswered, world_after}
use Rattle.wrp_course.specs.Runs.{IsNetwork, IsRun}
use Rattle.wrp_course.specs.Setting.{Setting}
use Rattle.wrp_sim.specs.Keeps.{IsDriven}
use Rattle.wrp_scene.specs.Scenario.{IsSceneOf}
use Rattle.wrp_loop.specs.declared.index.Came.{Came}
use Rattle.wrp_loop.specs.Datagrams.{IsFrameOf, Way, sending_end}
use Rattle.wrp_loop.specs.Index.{IsIndex, chosen, fits, has_number, no_choice, with_all}
use Rattle.wrp_loop.specs.LoopEnds.{EndsLarge, EndsOver, IsOverrun}
use Rattle.wrp_loop.specs.LoopRun.{Going, Loops, Plan, events_at, place, world_at}
use Rattle.wrp_loop.specs.LoopText.{NoneIsMarked, all_lines, audit_lines, forged_lines, loop_text, marked_in, others_in, told_lines}

-- no datagram is two frames
abbrev pub OneFrame : Type 0
OneFrame =
    (s : Setting) (events : List Happened) (way : Way) (octets : List ℕ) (a b : Option ℕ) →
    IsFrameOf s events way octets a → IsFrameOf s events way octets b → a ≡ b

-- the frame found in lists that show all frames a datagram may be is the frame that the rule names
abbrev pub IndexChooses : Type 0
IndexChooses =
    (s : Setting) (events : List Happened) (way : Way) (octets : List ℕ) (came handed : List Came) →
    IsIndex s events came handed →
    IsFrameOf s events way octets
    (chosen (with_all (fits s (world_after s events) (sending_end way) octets) (has_number handed) came no_choice))

-- the ends that report neither a fault nor that memory ran out
pub data Ending : Type 0 where
  Over : Ending
  Large : Ending

abbrev pub EndsAs : Plan → List LinkCall → Ending → Going → Type 0
EndsAs x calls Over last = EndsOver x calls last
EndsAs x calls Large last = EndsLarge x calls last

-- each measurement has the answer of the law of its link, by the node below it
abbrev pub IsAnsweredBy : (ℕ → ℤ → ℤ) → Plan → Going → Type 0
IsAnsweredBy law x last = IsAnswered (λ n. answers_by (law n)) x.setting (world_at x (place last))

-- two loops write the same, and leave the same counters
pub record AreOneLoop (x : Plan) (a b : Going) : Type 0 where
  pub text : loop_text x.setting (events_at (place a)) ≡ loop_text x.setting (events_at (place b))
  pub forged : (place a).forged ≡ (place b).forged
  pub counters :
      (n : ℕ) → ((world_at x (place b)).node n).counters ≡ ((world_at x (place a)).node n).counters

-- what the link gave determines how a loop ends and what it writes, whatever is noted apart from octets and
-- measurements
abbrev pub OneLoop : Type 0
OneLoop =
    (law : ℕ → ℤ → ℤ) (x : Plan) (calls : List LinkCall) (a b : Going) (first other : Ending) →
    EndsAs x calls first a → EndsAs x calls other b → IsAnsweredBy law x a → IsAnsweredBy law x b →
    (first ≡ other) × AreOneLoop x a b

-- among all its lines, the marked ones, without their marks, are the lines of its events; the others are what an
-- audit of these events writes, and then the line of forged datagrams; the lines of counters are not lines of events
abbrev pub LoopIsAudited : Type 0
LoopIsAudited =
    (s : Setting) (events : List Happened) (counts : List (List ℕ)) (forged : ℕ) → IsNetwork s → NoneIsMarked counts →
    (marked_in (all_lines s events counts forged) ≡ told_lines s events)
    × (others_in (all_lines s events counts forged) ≡ (audit_lines s events ++ counts) ++ forged_lines forged)

-- no event of a loop breaks a premise, whatever the link does: the events are a run of the world, and the turns are
-- turns of the simulator
abbrev pub LoopKeepsTheBounds : Type 0
LoopKeepsTheBounds =
    (x : Plan) (calls : List LinkCall) (last : Going) → IsNetwork x.setting → IsSceneOf x.setting.cfg x.scene →
    Loops x calls last →
    IsRun x.setting (events_at (place last))
    × IsDriven x.scene x.setting x.seed (place last).turns (place last).at

-- no event of a loop has the number 4,294,967,295; and if the number of the next event is too great, an event came
-- for each number below it
abbrev pub EventsAreNumbered : Type 0
EventsAreNumbered =
    (x : Plan) (calls : List LinkCall) (last : Going) → Loops x calls last →
    (length (events_at (place last)) < 4_294_967_295)
    × (IsOverrun x last → length (events_at (place last)) ≡ 4_294_967_294)
