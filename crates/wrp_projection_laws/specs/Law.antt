-- The law of projection: the replay of a node on the inputs that an audit gave it prints that node's
-- lines of the audit again (this project's profile).
use Rattle.std.specs.Prelude.{◌≡◌, ℕ, ◌<◌, ◌^◌, List, [], ◌++◌, length}
use Rattle.wrp_records.specs.declared.status.Status.TheVariants.{Done}
use Rattle.wrp_commands.specs.Request.{CommandLine}
use Rattle.wrp_asked.specs.Answer.{Answer}
use Rattle.wrp_asked.specs.Input.{Divides, network_text, behind_separator}
use Rattle.wrp_records.specs.Lines.{lines_of}
use Rattle.wrp_asked.specs.Tasks.{IsAuditing, IsEmission, IsReplay}
use Rattle.wrp_projection_laws.specs.Projection.{IsProjectionTo}

-- an input with the network text of another, and with these records
pub record HasRecords (input records replayed : List ℕ) : Type 0 where
  pub network : network_text replayed ≡ network_text input
  pub lines : behind_separator (lines_of replayed) ≡ lines_of records

-- the octets of an input up to its records, and then these records, are such an input
abbrev pub FrontWithRecords : Type 0
FrontWithRecords =
    (front back text records : List ℕ) → Divides front text → HasRecords (front ++ back) records (front ++ records)

-- If an audit, which calls no link, is expected to end with Done, and so are the inputs of a node in it, fewer than
-- 2^32, then the replay of that node on these inputs in the same network is expected to end with Done, and to write
-- the node's lines of the audit
abbrev pub ReplayOfEmittedInputs : Type 0
ReplayOfEmittedInputs =
    (auditing emitting replaying : CommandLine) (name input replayed audit records : List ℕ) →
    IsAuditing auditing → IsEmission emitting name → IsReplay replaying name →
    Answer auditing input [] Done audit → Answer emitting input [] Done records →
    length (lines_of records) < 2 ^ 32 → HasRecords input records replayed →
    (text : List ℕ) × Answer replaying replayed [] Done text
    × IsProjectionTo (network_text input) name audit text
