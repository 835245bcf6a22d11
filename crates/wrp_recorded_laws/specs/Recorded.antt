-- Inputs that a world gives a node, as record lines: each line reads back as its input (this project's
-- profile).
use Rattle.std.specs.Prelude.{◌≡◌, ℕ, ◌<◌, ◌≤◌, ◌^◌, Ok, List, length}
use Rattle.std.specs.List.{AllByRecursion}
use Rattle.wrp_network.specs.declared.configuration.NetCfg.{NetCfg}
use Rattle.wrp_config.specs.Accepted.{IsAccepted}
use Rattle.wrp_node.specs.declared.interface.Input.{Input}
use Rattle.wrp_node.specs.NodeAt.{Taken}
use Rattle.wrp_trace.specs.Events.{event_read}
use Rattle.wrp_trace.specs.Inputs.{read_of}
use Rattle.wrp_trace.specs.Printing.{line_of}
use Rattle.wrp_trace.specs.LineSetting.{LineSetting, line_setting_in}
use Rattle.wrp_course.specs.Run.{AllAccepted, Happened, world_after}
use Rattle.wrp_course.specs.Setting.{Setting}

-- each event is one that a line says
abbrev pub AllSaidByLines : NetCfg → List Happened → Type 0
AllSaidByLines cfg events =
    AllByRecursion (λ (h : Happened). (line : List ℕ) × (event_read cfg line ≡ Ok h.event)) events

-- events of an accepted network, fewer than 2^32 and the newest first, that lines say; each of them kept
-- all premises when it came
pub record IsSaidRun (s : Setting) (events : List Happened) : Type 0 where
  pub network : IsAccepted s.cfg s.db
  pub said : AllSaidByLines s.cfg events
  pub accepted : AllAccepted s events
  pub few : length events < 2 ^ 32

-- the line of an input reads back as the input, and is no longer than a record line may be
pub record IsRecorded (site : LineSetting) (x : Input) : Type 0 where
  pub reads : read_of site (line_of site x) ≡ Ok x
  pub size : length (line_of site x) ≤ 8_192

-- in every such run, the line of each input that a node was given reads back as that input
abbrev pub InputsAreRecorded : Type 0
InputsAreRecorded =
    (s : Setting) (events : List Happened) (n : ℕ) → IsSaidRun s events →
    AllByRecursion (λ (t : Taken). IsRecorded (line_setting_in s n) t.input) ((world_after s events).inputs n)
