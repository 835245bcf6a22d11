-- The aim of the project, part by part, of what a simulation wrote, for each status: it printed the lines of the nodes'
-- steps in the events that its rules make (`PrintsTheRun`); and of all events that they make, with no premise: they are a run of
-- their network, so none breaks a premise (`CarriesRun`); no port was in WR_LINK_ON unless its peer had passed the required steps of that same handshake
-- (`LinkOnIsEarned`); every track line's true offset is at most its printed bound (`TracksAreWithin`); and a malformed or
-- foreign frame changed only a counter (`DropsOnlyCount`). This project's profile.
use Rattle.std.specs.Prelude.{◌≡◌, ◌⊎◌, ℕ, ◌+◌, None, Some, List, [], ◌∷◌, ◌++◌, length, map}
use Rattle.std.specs.List.{flat_map}
use Rattle.wrp_sim.specs.Rules.{Next}
use Rattle.wrp_scene.specs.Scenario.{SceneAt}
use Rattle.wrp_sim.specs.SimAt.{SimAt}
use Rattle.wrp_sim.specs.SimRun.{Gives}
use Rattle.wrp_course.specs.Run.{Happened, steps_at, world_after}
use Rattle.wrp_course.specs.Setting.{Setting}
use Rattle.wrp_records.specs.declared.machine.Refusal.TheVariants as refusals
use Rattle.wrp_records.specs.declared.status.Status.{Status}
use Rattle.wrp_records.specs.declared.status.Status.TheVariants.{Done, BadTrace, TooLarge, OutOfMemory}
use Rattle.wrp_commands.specs.Request.{CommandLine}
use Rattle.wrp_asked.specs.Headline.{CarriesRun, Prints, ReachesNone}
use Rattle.wrp_asked.specs.Input.{behind_separator, network_text}
use Rattle.wrp_records.specs.Lines.{content_of, lines_of}
use Rattle.wrp_scene.specs.EventLimit.{event_limit}
use Rattle.wrp_scene_records.specs.Scenarios.{IsScenario, SimRefuses}
use Rattle.wrp_simulate.specs.Simulates.{IsSimulated}
use Rattle.wrp_simulate.specs.SimText.{printed_lines, sim_lines, sum_lines}
use Rattle.wrp_records.specs.Stream.{IsTooLarge, large_line}
use Rattle.wrp_asked.specs.Tasks.{Simulate, AsksFor}

-- Which events are made

-- this seed is asked for, the records say this scenario of the network that the text before them describes, and the
-- simulator's rules make these events of both
pub record Made (asked : CommandLine) (input : List ℕ) (s : Setting) (events : List Happened) : Type 0 where
  pub seed : ℕ
  pub asks : AsksFor asked (network_text input) (Simulate s seed)
  pub scene : SceneAt
  pub said : IsScenario s (map content_of (behind_separator (lines_of input))) scene
  pub at : SimAt
  pub simulated : IsSimulated s scene seed events at

-- the lines that a simulation writes of an event
abbrev pub run_lines : Setting → List Happened → Happened → List ℕ
run_lines s before h = flat_map (printed_lines s (world_after s (h ∷ before))) (steps_at s before h)

-- The first part

-- what follows the lines of these events, by the status: the lines of the sums, and no event comes any more; the line
-- that names the number of the next event as too great; nothing, if memory ran out
abbrev pub StandsAfter : Status → Setting → SceneAt → List Happened → SimAt → List ℕ → Type 0
StandsAfter Done s scene events at last =
    Gives scene s (world_after s events) at None × (last ≡ sum_lines s events)
StandsAfter TooLarge s scene events at last =
    (next : Next) × Gives scene s (world_after s events) at (Some next) × (length events + 1 ≡ event_limit)
    × (last ≡ large_line (length events + 1))
StandsAfter OutOfMemory s scene events at last = last ≡ []
StandsAfter _ s scene events at last = ⊥

-- the lines of the nodes' steps in events that are made, and what follows them
pub record RunOf (asked : CommandLine) (input : List ℕ) (status : Status) (octets : List ℕ) : Type 0 where
  pub setting : Setting
  pub events : List Happened
  pub made : Made asked input setting events
  pub last : List ℕ
  pub ends : StandsAfter status setting made.scene events made.at last
  pub is : octets ≡ sim_lines setting events ++ last

-- the line that names the next line of a scenario as refused, or as too large
abbrev pub NamesLine : Status → Setting → (front : List (List ℕ)) → (line octets : List ℕ) → Type 0
NamesLine BadTrace s front line octets = SimRefuses s (map content_of front) (content_of line) refusals.BadTrace octets
NamesLine TooLarge s front line octets = IsTooLarge line (length front) × (octets ≡ large_line (length front + 1))
NamesLine _ s front line octets = ⊥

-- only this line is written, after lines of a scenario: no event is made
pub record LacksScenario (asked : CommandLine) (input : List ℕ) (status : Status) (octets : List ℕ) : Type 0 where
  pub setting : Setting
  pub seed : ℕ
  pub asks : AsksFor asked (network_text input) (Simulate setting seed)
  pub front : List (List ℕ)
  pub line : List ℕ
  pub behind : List (List ℕ)
  pub divided : behind_separator (lines_of input) ≡ front ++ line ∷ behind
  pub scene : SceneAt
  pub said : IsScenario setting (map content_of front) scene
  pub is : NamesLine status setting front line octets

-- a simulation prints exactly the nodes' steps, and never reports a broken premise
abbrev pub PrintsTheRun : CommandLine → List ℕ → Status → List ℕ → Type 0
PrintsTheRun asked input status octets =
    Prints
    (λ due text. ReachesNone input due text ⊎ (LacksScenario asked input due text ⊎ RunOf asked input due text))
    status octets

-- All parts

-- whatever events are made
abbrev pub MadeEventsCarryParts : Type 0
MadeEventsCarryParts =
    (asked : CommandLine) (input : List ℕ) (s : Setting) (events : List Happened) → Made asked input s events →
    CarriesRun run_lines s events

-- of a simulation that ended with this status and wrote these octets
pub record SimHeadline (asked : CommandLine) (input : List ℕ) (status : Status) (octets : List ℕ) : Type 0 where
  pub prints : PrintsTheRun asked input status octets
  pub carries : (s : Setting) (events : List Happened) → Made asked input s events → CarriesRun run_lines s events
