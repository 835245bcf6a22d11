-- What is asked of a network, and the task that it is there: a table with a row for each, and what its record lines mean (this
-- project's profile).
use Rattle.std.specs.Prelude.{◌≡◌, ℕ, ◌≤◌, Option, None, Some, List, length}
use Rattle.wrp_config.specs.Names.{node_named}
use Rattle.wrp_trace.specs.LineSetting.{LineSetting}
use Rattle.wrp_course.specs.Setting.{Setting}
use Rattle.wrp_network_world.specs.NetworkSetting.{IsSettingOf}
use Rattle.wrp_audit.specs.Audits.{audit_of, emission_of}
use Rattle.wrp_commands.specs.Request.{CommandLine, Networked, OnNetwork}
use Rattle.wrp_commands.specs.Request as requests
use Rattle.wrp_asked.specs.Input.{network_limit}
use Rattle.wrp_records.specs.LineMeaning.{LineMeaning}
use Rattle.wrp_replay.specs.Replays.{IsNetworkOf, meaning_of}
use Rattle.wrp_scene_records.specs.Scenarios.{scenario_of}
use Rattle.wrp_simulate.specs.Simulates.{simulation_of}

-- the replay of the node of a name, the audit of a network, the inputs of the node of a name in it, its simulation from a seed, or
-- its run over a link from a seed
pub data Task : Type 0 where
  Replay : (name : List ℕ) (site : LineSetting) → Task
  Audit : (setting : Setting) → Task
  Emit : (name : List ℕ) (setting : Setting) (node : ℕ) → Task
  Simulate : (setting : Setting) (seed : ℕ) → Task
  Loop : (setting : Setting) (seed : ℕ) → Task

-- What a task is: the command that asks for it, and which network texts describe its network, where a node is the first of its name.
pub record TaskRow : Type 1 where
  pub command : Networked
  pub IsIn : List ℕ → Type 0

-- the table
abbrev pub task_row : Task → TaskRow
task_row (Replay name site) = record {
  command = requests.Replay name;
  IsIn = λ text. IsNetworkOf text site × (node_named site.cfg name ≡ Some site.node);
}
task_row (Audit setting) = record {
  command = requests.Audit;
  IsIn = λ text. IsSettingOf text setting;
}
task_row (Emit name setting node) = record {
  command = requests.Emit name;
  IsIn = λ text. IsSettingOf text setting × (node_named setting.cfg name ≡ Some node);
}
task_row (Simulate setting seed) = record {
  command = requests.Simulate seed;
  IsIn = λ text. IsSettingOf text setting;
}
task_row (Loop setting seed) = record {
  command = requests.Loop seed;
  IsIn = λ text. IsSettingOf text setting;
}

-- what the record lines mean there, by themselves
abbrev pub meaning_at : Task → LineMeaning
meaning_at (Replay name site) = meaning_of site
meaning_at (Audit setting) = audit_of setting
meaning_at (Emit name setting node) = emission_of setting node
meaning_at (Simulate setting seed) = simulation_of setting seed
meaning_at (Loop setting seed) = scenario_of setting

-- the name of the node that a command needs, or none
abbrev pub node_of : Networked → Option (List ℕ)
node_of (requests.Replay name) = Some name
node_of (requests.Emit name) = Some name
node_of _ = None

-- a command line asks for a command on a network
abbrev pub IsOnNetwork : CommandLine → Networked → Type 0
IsOnNetwork asked command = asked.request ≡ Some (OnNetwork command)

-- for the replay of a node of this name
abbrev pub IsReplay : CommandLine → List ℕ → Type 0
IsReplay asked name = IsOnNetwork asked (requests.Replay name)

-- for an audit
abbrev pub IsAuditing : CommandLine → Type 0
IsAuditing asked = IsOnNetwork asked requests.Audit

-- for the inputs of a node of this name
abbrev pub IsEmission : CommandLine → List ℕ → Type 0
IsEmission asked name = IsOnNetwork asked (requests.Emit name)

-- for a simulation from this seed
abbrev pub IsSimulation : CommandLine → ℕ → Type 0
IsSimulation asked seed = IsOnNetwork asked (requests.Simulate seed)

-- for a run over a link from this seed
abbrev pub IsLooping : CommandLine → ℕ → Type 0
IsLooping asked seed = IsOnNetwork asked (requests.Loop seed)

-- for a task in the network that this text describes
abbrev pub AsksFor : CommandLine → List ℕ → Task → Type 0
AsksFor asked text task =
    (length text ≤ network_limit) × IsOnNetwork asked (task_row task).command × (task_row task).IsIn text
