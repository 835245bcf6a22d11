-- The law of projection, if the node is listed (this project's profile).
use Rattle.std.specs.Prelude.{◌≡◌, ◌<◌, ◌^◌, ℕ, Some, Ok, List, [], length}
use Rattle.wrp_config.specs.declared.network.Network.{Network}
use Rattle.wrp_config.specs.Names.{node_named}
use Rattle.wrp_network_text.specs.Reading.{IsReadingOf}
use Rattle.wrp_projection_laws.specs.Law.{HasRecords}
use Rattle.wrp_projection_laws.specs.Projection.{IsProjectionTo}
use Rattle.wrp_records.specs.declared.status.Status.TheVariants.{Done}
use Rattle.wrp_records.specs.Lines.{lines_of}
use Rattle.wrp_commands.specs.Request.{CommandLine}
use Rattle.wrp_asked.specs.Answer.{Answer}
use Rattle.wrp_asked.specs.Input.{network_text}
use Rattle.wrp_asked.specs.Tasks.{IsAuditing, IsEmission, IsReplay}

-- the text describes a network that has a node with this name
pub record IsListed (text name : List ℕ) : Type 0 where
  pub net : Network
  pub reads : IsReadingOf text (Ok net)
  pub node : ℕ
  pub named : node_named net.cfg name ≡ Some node

-- the replay of a node on these records, after the network text of an input: if they are fewer than 2^32, the
-- replay is expected to end with Done, and to write the node's lines of the audit of the input
abbrev pub IsReplayedSo : CommandLine → (name input audit records : List ℕ) → Type 0
IsReplayedSo replaying name input audit records =
    (replayed : List ℕ) → length (lines_of records) < 2 ^ 32 → HasRecords input records replayed →
    (text : List ℕ) × Answer replaying replayed [] Done text × IsProjectionTo (network_text input) name audit text

-- if an audit, which calls no link, is expected to end with Done, and its network lists a node, then the inputs of
-- the node in it are expected to end with Done, and so is the replay of the node on these inputs, which writes the
-- node's lines of the audit
abbrev pub ReplayOfListedInputs : Type 0
ReplayOfListedInputs =
    (auditing emitting replaying : CommandLine) (name input audit : List ℕ) →
    IsAuditing auditing → IsEmission emitting name → IsReplay replaying name →
    Answer auditing input [] Done audit → IsListed (network_text input) name →
    (records : List ℕ) × Answer emitting input [] Done records × IsReplayedSo replaying name input audit records
