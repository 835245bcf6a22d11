-- What record lines that say a scenario mean (this project's profile).
use Rattle.std.specs.Prelude.{◌≡◌, ℕ, ◌+◌, Ok, Err, List, [], ◌∷◌, length}
use Rattle.wrp_network.specs.declared.configuration.NetCfg.{NetCfg}
use Rattle.wrp_base.specs.declared.fault.TraceFault.{TraceFault}
use Rattle.wrp_scene.specs.Scenario.{SceneAt, new_scene}
use Rattle.wrp_scene.specs.ScenarioLines.{scene_read}
use Rattle.wrp_course.specs.Setting.{Setting}
use Rattle.wrp_records.specs.declared.machine.Refusal.{Refusal}
use Rattle.wrp_records.specs.declared.machine.Refusal.TheVariants.{BadTrace, Broken}
use Rattle.wrp_records.specs.LineMeaning.{LineMeaning, bars_none, meaning_by}
use Rattle.wrp_records.specs.Refusals.{bad_trace_line}

-- By the numbers of a network

-- each line changes the scenario by what it says, starting from the first scenario, and the last
-- one is the result
abbrev pub Changes : NetCfg → SceneAt → List (List ℕ) → SceneAt → Type 0
Changes cfg scene [] last = last ≡ scene
Changes cfg scene (line ∷ lines) last =
    (next : SceneAt) × (scene_read cfg scene line ≡ Ok next) × Changes cfg next lines last

-- the lines are those of this scenario
abbrev pub SaysScene : NetCfg → List (List ℕ) → SceneAt → Type 0
SaysScene cfg lines scene = Changes cfg (new_scene cfg) lines scene

-- the lines are those of a scenario; nothing is written yet
abbrev pub AcceptsScene : NetCfg → List (List ℕ) → List ℕ → Type 0
AcceptsScene cfg lines text = (scene : SceneAt) × SaysScene cfg lines scene × (text ≡ [])

-- after the lines of a scenario comes a line that is not one; no premise can be broken
abbrev pub RefusesScene : NetCfg → List (List ℕ) → List ℕ → Refusal → List ℕ → Type 0
RefusesScene cfg lines line BadTrace last =
    (scene : SceneAt) × SaysScene cfg lines scene × (fault : TraceFault)
    × (scene_read cfg scene line ≡ Err fault) × (last ≡ bad_trace_line (length lines + 1) fault)
RefusesScene cfg lines line Broken last = ⊥

-- For a network

abbrev pub IsScenario : Setting → List (List ℕ) → SceneAt → Type 0
IsScenario s = SaysScene s.cfg

abbrev pub SimAccepts : Setting → List (List ℕ) → List ℕ → Type 0
SimAccepts s = AcceptsScene s.cfg

abbrev pub SimRefuses : Setting → List (List ℕ) → List ℕ → Refusal → List ℕ → Type 0
SimRefuses s = RefusesScene s.cfg

-- what the lines mean to a reader for which they say a scenario and no more: what is written after them is
-- specified elsewhere
abbrev pub scenario_of : Setting → LineMeaning
scenario_of s = meaning_by (SimAccepts s) (SimRefuses s) bars_none bars_none
