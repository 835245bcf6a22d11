-- What the reader of a scenario's lines stands for, and how a run by a scenario ends (this project's profile).
use Rattle.std.specs.Prelude.{◌≡◌, ◌⊎◌, ℕ, Option, List, ◌++◌}
use Rattle.wrp_network.specs.Network.{HasRanges}
use Rattle.wrp_scene.specs.EventLimit.{event_limit}
use Rattle.wrp_scene.specs.Scenario.{IsSceneOf}
use Rattle.wrp_records.specs.declared.status.Status.{Status}
use Rattle.wrp_records.specs.declared.status.Status.TheVariants.{OutOfMemory, TooLarge}
use Rattle.wrp_records.specs.Engine.{Finishes}
use Rattle.wrp_records.specs.Stream.{large_line}
use Rattle.wrp_scene_records.specs.declared.scenario.ScenarioLines.{ScenarioLines}
use Rattle.wrp_scene_records.specs.Scenarios.{SaysScene}

-- it can take a line: its scenario belongs to its network
pub record CanRead (held : ScenarioLines) : Type 0 where
  pub ranges : HasRanges held.net.now.cfg
  pub scene : IsSceneOf held.net.now.cfg held.scene

-- it holds the scenario that the lines say
abbrev pub SaysScenario : ScenarioLines → List (List ℕ) → Type 0
SaysScenario held lines = SaysScene held.net.now.cfg lines held.scene

-- the line that names an event whose number is too great is written after what waits, or a part of that is written;
-- or memory runs out
abbrev pub ClosesLarge : Status → Option (List ℕ) → Option (List ℕ) → List ℕ → Type 0
ClosesLarge status before now waiting =
    ((status ≡ OutOfMemory) × (now ≡ before))
    ⊎ Finishes TooLarge status before now (waiting ++ large_line event_limit)
