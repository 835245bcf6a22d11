-- In which state of the servo each step of a clock is printed, as a reader of the bytes can check it (this project's profile).
use Rattle.std.specs.Prelude.{◌≡◌, ◌⊎◌, ℕ, List, ◌++◌}
use Rattle.std.specs.List.{AllByRecursion, concat}
use Rattle.wrp_records.specs.Lines.{IsWhole}
use Rattle.wrp_commands.specs.Request.{CommandLine}
use Rattle.wrp_printed_laws.specs.Steps.{StepsAreSynced}
use Rattle.wrp_asked.specs.Tasks.{IsAuditing, IsLooping, IsSimulation}

-- an audit, a simulation or a run over a link is asked for
abbrev pub RunsNetwork : CommandLine → Type 0
RunsNetwork asked = IsAuditing asked ⊎ ((seed : ℕ) × (IsSimulation asked seed ⊎ IsLooping asked seed))

-- in the whole lines that these bytes begin with, each line NODE TICK step CYCLES comes while the node's last state
-- is sync-tai or sync-nsec; a line cut off by a failed write is not a whole line
abbrev pub StepsComeInSync : List ℕ → Type 0
StepsComeInSync octets =
    (lines : List (List ℕ)) (cut : List ℕ) → AllByRecursion IsWhole lines → octets ≡ concat lines ++ cut →
    StepsAreSynced lines
