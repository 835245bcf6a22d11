-- The aim of the project, part by part, for what a run over a link wrote, for each status. It printed the events that
-- came, each after `= `, and the lines of the nodes' steps in them (`PrintsTheLoop`). Of all events that came, the
-- following holds with no premise, since no event can break one whatever the link does: no port was in WR_LINK_ON
-- unless its peer had passed the required steps of that same handshake (`LinkOnIsEarned`); every track line's true
-- offset is at most its printed bound (`TracksAreWithin`); and a malformed or foreign frame changed only a counter
-- (`DropsOnlyCount`). If the run was done, its lines can be told apart again: the lines of the events, and what an
-- audit of these events writes (`IsToldApart`). This project's profile.
use Rattle.std.specs.Prelude.{◌≡◌, ◌⊎◌, ℕ, List, [], ◌∷◌, ◌++◌, map}
use Rattle.std.specs.List.{AllByRecursion}
use Rattle.wrp_course.specs.Run.{Happened, world_after}
use Rattle.wrp_course.specs.Setting.{Setting}
use Rattle.wrp_io.specs.declared.link.LinkCall.{LinkCall}
use Rattle.wrp_loop.specs.Calls.{IsFrameCall}
use Rattle.wrp_loop.specs.LoopEnds.{CallFails, IsOver, IsOverrun}
use Rattle.wrp_loop.specs.LoopRun.{Going, Loops, Plan, events_at, place}
use Rattle.wrp_scene.specs.EventLimit.{event_limit}
use Rattle.wrp_loop.specs.LoopText.{forged_lines, marked_in, marked_line, others_in, told_lines}
use Rattle.wrp_records.specs.declared.status.Status.{Status}
use Rattle.wrp_records.specs.declared.status.Status.TheVariants.{Done, LinkFault, TooLarge, OutOfMemory}
use Rattle.wrp_records.specs.Lines.{content_of, lines_of}
use Rattle.wrp_records.specs.Stream.{large_line}
use Rattle.wrp_audit.specs.AuditText.{audit_lines, event_lines}
use Rattle.wrp_network_world.specs.Counts.{all_counts}
use Rattle.wrp_commands.specs.Request.{CommandLine}
use Rattle.wrp_asked.specs.Headline.{CarriesRun, Prints, ReachesNone}
use Rattle.wrp_asked.specs.Input.{behind_separator, network_text}
use Rattle.wrp_loop.specs.Loops.{IsLawful, IsShort, closing_lines, plan_of}
use Rattle.wrp_asked.specs.SimHeadline.{NamesLine}
use Rattle.wrp_scene_records.specs.Scenarios.{IsScenario}
use Rattle.wrp_asked.specs.Tasks.{Loop, AsksFor}
use Rattle.wrp_scene.specs.Scenario.{SceneAt}

-- Which events came

-- this seed is asked for, the records say this scenario of the network that the text before them describes, and a loop
-- by both, with the first of these calls of the link, came to here
pub record Looped (asked : CommandLine) (input : List ℕ) (calls : List LinkCall) (s : Setting) (last : Going)
    : Type 0 where
  pub seed : ℕ
  pub asks : AsksFor asked (network_text input) (Loop s seed)
  pub scene : SceneAt
  pub said : IsScenario s (map content_of (behind_separator (lines_of input))) scene
  pub first : List LinkCall
  pub later : List LinkCall
  pub all : calls ≡ first ++ later
  pub loops : Loops (plan_of s scene seed) first last
  pub frames : AllByRecursion IsFrameCall first
  pub answered : IsLawful s (place last)

-- The first part

-- the lines that are written of events: each event after `= `, and then the lines of its nodes' steps, as an audit
-- writes them
abbrev pub came_lines : Setting → List Happened → List ℕ
came_lines s [] = []
came_lines s (h ∷ before) = came_lines s before ++ (marked_line s.cfg h.event ++ event_lines s before h)

-- what follows them, by the status: the counters and the number of forged datagrams, and no event comes any more; the
-- line that names the number of the next event as too great; nothing, if a call at the next arrival failed, or memory
-- ran out
abbrev pub StandsBehind : Status → Plan → (calls later : List LinkCall) → Going → List ℕ → Type 0
StandsBehind Done x calls later last text =
    IsOver x last × (later ≡ []) × (text ≡ closing_lines x.setting (place last))
StandsBehind TooLarge x calls later last text =
    IsOverrun x last × (later ≡ []) × (text ≡ large_line event_limit)
StandsBehind LinkFault x calls later last text = CallFails x calls (place last) × (text ≡ [])
StandsBehind OutOfMemory x calls later last text = IsShort x calls last × (text ≡ [])
StandsBehind _ x calls later last text = ⊥

-- the lines of the events that came, and what follows them
pub record LoopOf (asked : CommandLine) (input : List ℕ) (calls : List LinkCall) (status : Status) (octets : List ℕ)
    : Type 0 where
  pub setting : Setting
  pub last : Going
  pub came : Looped asked input calls setting last
  pub behind : List ℕ
  pub ends : StandsBehind status (plan_of setting came.scene came.seed) calls came.later last behind
  pub is : octets ≡ came_lines setting (events_at (place last)) ++ behind

-- after lines of a scenario a line of its records is refused, or too large: only the line that names it is written,
-- and no call is made
pub record LacksScene (asked : CommandLine) (input : List ℕ) (calls : List LinkCall) (status : Status) (octets : List ℕ)
    : Type 0 where
  pub setting : Setting
  pub seed : ℕ
  pub asks : AsksFor asked (network_text input) (Loop setting seed)
  pub front : List (List ℕ)
  pub line : List ℕ
  pub behind : List (List ℕ)
  pub divided : behind_separator (lines_of input) ≡ front ++ line ∷ behind
  pub scene : SceneAt
  pub said : IsScenario setting (map content_of front) scene
  pub is : NamesLine status setting front line octets
  pub uncalled : calls ≡ []

-- after a whole scenario the link did not start, and nothing is written
pub record NotStarted (asked : CommandLine) (input : List ℕ) (calls : List LinkCall) (octets : List ℕ) : Type 0 where
  pub setting : Setting
  pub seed : ℕ
  pub asks : AsksFor asked (network_text input) (Loop setting seed)
  pub scene : SceneAt
  pub said : IsScenario setting (map content_of (behind_separator (lines_of input))) scene
  pub uncalled : calls ≡ []
  pub none : octets ≡ []

abbrev pub LacksLink : CommandLine → List ℕ → List LinkCall → Status → List ℕ → Type 0
LacksLink asked input calls LinkFault octets = NotStarted asked input calls octets
LacksLink asked input calls _ octets = ⊥

-- what is expected for a status; if no record was reached, no call was made
abbrev pub IsLoopDue : CommandLine → List ℕ → List LinkCall → Status → List ℕ → Type 0
IsLoopDue asked input calls status octets =
    (ReachesNone input status octets × (calls ≡ []))
    ⊎ (LacksScene asked input calls status octets
    ⊎ (LacksLink asked input calls status octets ⊎ LoopOf asked input calls status octets))

-- a run over a link prints exactly its events and the nodes' steps in them, and never reports a broken premise
abbrev pub PrintsTheLoop : CommandLine → List ℕ → List LinkCall → Status → List ℕ → Type 0
PrintsTheLoop asked input calls status octets = Prints (λ due text. IsLoopDue asked input calls due text) status octets

-- The audit of its events

-- of the lines of the octets, the ones after `= ` are the events, and the others are the lines that an audit of these
-- events writes of the nodes' steps and of their counters, and then the line of forged datagrams, if there was any
pub record IsToldApart (s : Setting) (last : Going) (octets : List ℕ) : Type 0 where
  pub marked : marked_in (lines_of octets) ≡ told_lines s (events_at (place last))
  pub others : others_in (lines_of octets)
      ≡ lines_of (audit_lines s (events_at (place last)) ++ all_counts s (world_after s (events_at (place last))))
      ++ forged_lines (place last).forged

-- so it is of what was written if the run was done
abbrev pub TellsApart : CommandLine → List ℕ → List LinkCall → Status → List ℕ → Type 0
TellsApart asked input calls Done octets =
    (loop : LoopOf asked input calls Done octets) × IsToldApart loop.setting loop.last octets
TellsApart asked input calls status octets = Unit {0}

-- All parts

-- whatever events came
abbrev pub LoopedEventsCarryParts : Type 0
LoopedEventsCarryParts =
    (asked : CommandLine) (input : List ℕ) (calls : List LinkCall) (s : Setting) (last : Going) →
    Looped asked input calls s last → CarriesRun event_lines s (events_at (place last))

-- of a run over a link that ended with this status and wrote these octets, if the link reports these calls
pub record LoopHeadline (asked : CommandLine) (input : List ℕ) (calls : List LinkCall) (status : Status) (octets : List ℕ)
    : Type 0 where
  pub prints : PrintsTheLoop asked input calls status octets
  pub carries : (s : Setting) (last : Going) → Looped asked input calls s last → CarriesRun event_lines s (events_at (place last))
  pub apart : TellsApart asked input calls status octets
