-- What the record lines of a simulation mean: the scenario that they say, and after them what the network
-- writes as it runs by that scenario from a seed (this project's profile).
use Rattle.std.specs.Prelude.{◌≡◌, ℕ, ◌+◌, ◌<◌, None, Some, List, ◌++◌, length}
use Rattle.wrp_sim.specs.Rules.{Next}
use Rattle.wrp_scene.specs.Scenario.{SceneAt}
use Rattle.wrp_sim.specs.SimAt.{SimAt}
use Rattle.wrp_sim.specs.SimRun.{Gives, IsSimRun}
use Rattle.wrp_course.specs.Run.{AllSaid, Happened, IsAnswered, world_after}
use Rattle.wrp_course.specs.Setting.{Setting}
use Rattle.wrp_scene.specs.EventLimit.{event_limit}
use Rattle.wrp_records.specs.declared.status.Status.{Status}
use Rattle.wrp_records.specs.declared.status.Status.TheVariants.{TooLarge, OutOfMemory}
use Rattle.wrp_network_world.specs.NetworkSetting.{answers_in}
use Rattle.wrp_records.specs.LineMeaning.{LineMeaning}
use Rattle.wrp_scene_records.specs.Scenarios.{IsScenario, SimAccepts, SimRefuses}
use Rattle.wrp_simulate.specs.SimText.{sim_lines, sum_lines}
use Rattle.wrp_records.specs.Stream.{large_line}

-- Runs

-- the network ran through these events by its scenario, the newest first, and so much has been drawn and
-- done; each measurement has the answer of its link's law
pub record IsSimulated (s : Setting) (scene : SceneAt) (seed : ℕ) (events : List Happened) (at : SimAt)
    : Type 0 where
  pub run : IsSimRun scene s seed events at
  pub said : AllSaid events
  pub answered : IsAnswered (answers_in s) s (world_after s events)
  pub count : length events < event_limit

-- a run of the scenario that the lines say
pub record Simulates (s : Setting) (seed : ℕ) (lines : List (List ℕ)) : Type 0 where
  pub scene : SceneAt
  pub said : IsScenario s lines scene
  pub events : List Happened
  pub at : SimAt
  pub simulated : IsSimulated s scene seed events at

-- no event comes after it
abbrev pub IsOver : (s : Setting) (seed : ℕ) (lines : List (List ℕ)) → Simulates s seed lines → Type 0
IsOver s seed lines run = Gives run.scene s (world_after s run.events) run.at None

-- an event comes after it whose number is too great
pub record Overruns (s : Setting) (seed : ℕ) (lines : List (List ℕ)) (run : Simulates s seed lines)
    : Type 0 where
  pub next : Next
  pub comes : Gives run.scene s (world_after s run.events) run.at (Some next)
  pub number : length run.events + 1 ≡ event_limit

-- What the lines mean

-- at the end the network runs to the scenario's end: the lines of all events are written, and then those
-- that sum up
abbrev pub SimCloses : Setting → ℕ → List (List ℕ) → List ℕ → Type 0
SimCloses s seed lines last =
    (run : Simulates s seed lines) × IsOver s seed lines run
    × (last ≡ sim_lines s run.events ++ sum_lines s run.events)

-- or an event has too great a number, and its line follows the lines of all events before it; or
-- memory runs out, and the lines of the first events are written
abbrev pub SimBreaks : Setting → ℕ → List (List ℕ) → Status → List ℕ → Type 0
SimBreaks s seed lines TooLarge last =
    (run : Simulates s seed lines) × Overruns s seed lines run
    × (last ≡ sim_lines s run.events ++ large_line (length run.events + 1))
SimBreaks s seed lines OutOfMemory last =
    (run : Simulates s seed lines) × (last ≡ sim_lines s run.events)
SimBreaks s seed lines _ last = ⊥

-- what the record lines of a simulation mean
abbrev pub simulation_of : Setting → ℕ → LineMeaning
simulation_of s seed = record {
  accepts = SimAccepts s;
  refuses = SimRefuses s;
  closes = SimCloses s seed;
  breaks_off = SimBreaks s seed;
}
