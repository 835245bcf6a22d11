-- What an emission prints of events is inputs alone: no line of it says an output of a node (this project's
-- profile).
use Rattle.std.specs.Prelude.{◌≡◌, ℕ, List, ◌∷◌}
use Rattle.std.specs.List.{AllByRecursion}
use Rattle.wrp_records.specs.declared.status.Status.{Status}
use Rattle.wrp_records.specs.Lines.{lines_of}
use Rattle.wrp_records.specs.Words.{line_of}
use Rattle.wrp_audit.specs.AuditText.{given_lines}
use Rattle.wrp_commands.specs.Request.{CommandLine}
use Rattle.wrp_asked.specs.EmitHeadline.{InputsOf}

-- the line is not NODE TICK KIND and more, unlike the line of each output of a node
abbrev pub TellsNoOutput : List ℕ → Type 0
TellsNoOutput line = (node tick kind : List ℕ) (more : List (List ℕ)) → line ≡ line_of (node ∷ tick ∷ kind ∷ more) → ⊥

-- this holds for each line that an emission prints of events
abbrev pub EmissionTellsNoOutput : Type 0
EmissionTellsNoOutput =
    (asked : CommandLine) (input : List ℕ) (status : Status) (octets : List ℕ) (inputs : InputsOf asked input status octets) →
    AllByRecursion TellsNoOutput (lines_of (given_lines inputs.setting inputs.node inputs.events))
