-- Which lines are an audit: events, each accepted in its turn (this project's profile).
use Rattle.std.specs.Prelude.{◌≡◌, ◌<◌, ℕ, Ok, Result, List, [], ◌∷◌, ◌++◌, length, map}
use Rattle.std.specs.List.{AllByRecursion}
use Rattle.wrp_base.specs.declared.message.PtpMsg.{PtpMsg}
use Rattle.wrp_course.specs.declared.event.Event.{Event}
use Rattle.wrp_course.specs.Premises.{Accepts}
use Rattle.wrp_course.specs.Run.{Happened, IsSaid, WorldRun, world_after}
use Rattle.wrp_course.specs.Setting.{Setting}
use Rattle.wrp_frame.specs.declared.fault.FrameFault.{FrameFault}
use Rattle.wrp_records.specs.declared.status.Status.TheVariants.{Done}
use Rattle.wrp_records.specs.Lines.{content_of, lines_of}
use Rattle.wrp_records.specs.Stream.{IsWithin, number_limit}
use Rattle.wrp_scene.specs.Scenario.{SceneAt}
use Rattle.wrp_sim.specs.SimAt.{SimAt}
use Rattle.wrp_trace.specs.Events.{event_read}
use Rattle.wrp_commands.specs.Request.{CommandLine}
use Rattle.wrp_asked.specs.Answer.{Answer}
use Rattle.wrp_audit.specs.Audited.{AllHeard, AreEvents, IsAudit}
use Rattle.wrp_network_world.specs.NetworkSetting.{IsSettingOf, answers_in}
use Rattle.wrp_audit.specs.AuditText.{audit_lines}
use Rattle.wrp_network_world.specs.Counts.{all_counts}
use Rattle.wrp_asked.specs.Input.{behind_separator, network_text}
use Rattle.wrp_scene_records.specs.Scenarios.{IsScenario}
use Rattle.wrp_simulate.specs.Simulates.{IsSimulated}
use Rattle.wrp_asked.specs.Tasks.{AsksFor, Audit}

-- the line says an event that keeps all premises after the events that the lines before it say
abbrev pub IsAccepted : Setting → List (List ℕ) → List ℕ → Type 0
IsAccepted s front line =
    (e : Event) × (event_read s.cfg line ≡ Ok e)
    × ((events : List Happened) (says : Result PtpMsg FrameFault) → IsAudit s front events → IsSaid e says →
    Accepts s (world_after s events) says e)

-- each of these lines does
abbrev pub EachIsAccepted : Setting → List (List ℕ) → Type 0
EachIsAccepted s lines =
    (front behind : List (List ℕ)) (line : List ℕ) → lines ≡ front ++ line ∷ behind → IsAccepted s front line

-- lines that say events, each accepted in its turn, have an audit
abbrev pub AcceptedIsAudit : Type 0
AcceptedIsAudit =
    (text : List ℕ) (s : Setting) (lines : List (List ℕ)) → IsSettingOf text s → EachIsAccepted s lines →
    (events : List Happened) × IsAudit s lines events

-- a run of a world whose events are said by lines is an audit: each frame is read as its octets say
abbrev pub RunOfLinesIsAudit : Type 0
RunOfLinesIsAudit =
    (text : List ℕ) (s : Setting) (lines : List (List ℕ)) (events : List Happened) → IsSettingOf text s →
    AreEvents s lines events → WorldRun (answers_in s) s events → IsAudit s lines events

-- and so is each frame in the run of a simulator
abbrev pub SimulatedIsHeard : Type 0
SimulatedIsHeard =
    (text : List ℕ) (s : Setting) (lines : List (List ℕ)) (scene : SceneAt) (seed : ℕ) (events : List Happened) (at : SimAt) →
    IsSettingOf text s → IsScenario s lines scene → IsSimulated s scene seed events at → AllHeard s (world_after s events)

-- if an audit is asked for of the network that the text in front describes, and the records are not too many, and
-- each record is a line that is not too large and says an event that is accepted in its turn, then Done is
-- expected, with the lines of the nodes' steps and their counters
abbrev pub AcceptedIsDone : Type 0
AcceptedIsDone =
    (asked : CommandLine) (input : List ℕ) (s : Setting) → AsksFor asked (network_text input) (Audit s) →
    AllByRecursion IsWithin (behind_separator (lines_of input)) → length (behind_separator (lines_of input)) < number_limit →
    EachIsAccepted s (map content_of (behind_separator (lines_of input))) →
    (events : List Happened) × IsAudit s (map content_of (behind_separator (lines_of input))) events
    × Answer asked input [] Done (audit_lines s events ++ all_counts s (world_after s events))
