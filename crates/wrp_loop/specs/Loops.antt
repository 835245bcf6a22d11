-- What a network that runs over a link writes after its scenario: the calls of the link, with what they answered,
-- determine its events. Each event is a line after `= `, and then come the lines of what its steps put out, of all
-- kinds; at the end come the counters that are not 0, and how many datagrams were forged, if any was (this
-- project's profile).
use Rattle.std.specs.Prelude.{◌≡◌, ◌⊎◌, ℕ, List, [], ◌++◌}
use Rattle.std.specs.List.{AllByRecursion, concat}
use Rattle.wrp_course.specs.Run.{IsAnswered, world_after}
use Rattle.wrp_course.specs.Setting.{Setting}
use Rattle.wrp_io.specs.declared.link.LinkCall.{LinkCall}
use Rattle.wrp_loop.specs.Calls.{IsFrameCall}
use Rattle.wrp_loop.specs.Laws.{Ending, EndsAs, Large, Over}
use Rattle.wrp_loop.specs.LoopEnds.{CallFails}
use Rattle.wrp_loop.specs.LoopRun.{Full, Going, LoopAt, Loops, On, Plan, events_at, place}
use Rattle.wrp_scene.specs.EventLimit.{event_limit}
use Rattle.wrp_loop.specs.LoopText.{forged_lines, loop_text}
use Rattle.wrp_loop.specs.SoFar.{ComesShort}
use Rattle.wrp_records.specs.declared.status.Status.{Status}
use Rattle.wrp_records.specs.declared.status.Status.TheVariants.{LinkFault, OutOfMemory, TooLarge}
use Rattle.wrp_records.specs.LineMeaning.{LineMeaning}
use Rattle.wrp_records.specs.Stream.{large_line}
use Rattle.wrp_network_world.specs.NetworkSetting.{answers_in}
use Rattle.wrp_network_world.specs.Counts.{all_counts}
use Rattle.wrp_scene_records.specs.Scenarios.{IsScenario, SimAccepts, SimRefuses}
use Rattle.wrp_scene.specs.Scenario.{SceneAt}

-- Loops by a scenario

-- what a loop runs by
abbrev pub plan_of : Setting → SceneAt → ℕ → Plan
plan_of s scene seed = record { setting = s; scene = scene; seed = seed }

-- each measurement so far has the answer of its link's law
abbrev pub IsLawful : Setting → LoopAt → Type 0
IsLawful s l = IsAnswered (answers_in s) s (world_after s (events_at l))

-- a loop by the scenario that the lines say, whose link showed these calls, ended in this way; each datagram that
-- the calls gave is a frame
pub record LoopEnded (s : Setting) (seed : ℕ) (lines : List (List ℕ)) (calls : List LinkCall) (ending : Ending)
    : Type 0 where
  pub scene : SceneAt
  pub said : IsScenario s lines scene
  pub last : Going
  pub ends : EndsAs (plan_of s scene seed) calls ending last
  pub frames : AllByRecursion IsFrameCall calls
  pub answered : IsLawful s (place last)

-- these are the calls of a loop that came to here; if the loop goes on, also the calls of the arrival that came
-- next, if they were made
abbrev pub IsShort : Plan → List LinkCall → Going → Type 0
IsShort x calls (On l) = ComesShort x calls l
IsShort x calls (Full l) = Loops x calls (Full l)

-- a loop came to here, and then memory ran out
pub record LoopShort (s : Setting) (seed : ℕ) (lines : List (List ℕ)) (calls : List LinkCall) : Type 0 where
  pub scene : SceneAt
  pub said : IsScenario s lines scene
  pub last : Going
  pub short : IsShort (plan_of s scene seed) calls last
  pub frames : AllByRecursion IsFrameCall calls
  pub answered : IsLawful s (place last)

-- a loop came to here, and then a call of the arrival that came next failed: the last of these calls are the calls
-- before the failed one
pub record LoopFailed (s : Setting) (seed : ℕ) (lines : List (List ℕ)) (calls : List LinkCall) : Type 0 where
  pub scene : SceneAt
  pub said : IsScenario s lines scene
  pub at : LoopAt
  pub fails : CallFails (plan_of s scene seed) calls at
  pub frames : AllByRecursion IsFrameCall calls
  pub answered : IsLawful s at

-- What is written after a scenario

-- the counters that are not 0, and how many datagrams were forged, if any was
abbrev pub closing_lines : Setting → LoopAt → List ℕ
closing_lines s l = all_counts s (world_after s (events_at l)) ++ concat (forged_lines l.forged)

-- no event comes any more: the lines of all events are written, and then those that close them
abbrev pub LoopCloses : Setting → ℕ → List LinkCall → List (List ℕ) → List ℕ → Type 0
LoopCloses s seed calls lines last =
    (loop : LoopEnded s seed lines calls Over)
    × (last ≡ loop_text s (events_at (place loop.last)) ++ closing_lines s (place loop.last))

-- either the next event has too great a number, and the line that names it follows the lines of all events before
-- it; or memory runs out, and the lines of the first events are written; or a call of the link fails: if this is
-- its start, nothing is written, and if it is a call at an arrival, the lines of all events before that are written
abbrev pub LoopBreaks : Setting → ℕ → List LinkCall → List (List ℕ) → Status → List ℕ → Type 0
LoopBreaks s seed calls lines TooLarge last =
    (loop : LoopEnded s seed lines calls Large)
    × (last ≡ loop_text s (events_at (place loop.last)) ++ large_line event_limit)
LoopBreaks s seed calls lines OutOfMemory last =
    (loop : LoopShort s seed lines calls) × (last ≡ loop_text s (events_at (place loop.last)))
LoopBreaks s seed calls lines LinkFault last =
    ((calls ≡ []) × (last ≡ []))
    ⊎ ((loop : LoopFailed s seed lines calls) × (last ≡ loop_text s (events_at loop.at)))
LoopBreaks s seed calls lines _ last = ⊥

-- what the record lines mean if a link showed these calls
abbrev pub loop_of : Setting → ℕ → List LinkCall → LineMeaning
loop_of s seed calls = record {
  accepts = SimAccepts s;
  refuses = SimRefuses s;
  closes = LoopCloses s seed calls;
  breaks_off = LoopBreaks s seed calls;
}
