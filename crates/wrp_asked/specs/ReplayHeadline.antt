-- The aim of the project for what a replay wrote, for each status: it printed exactly the lines of what the node puts
-- out at the inputs that the records say (`PrintsTheOutputs`); and of these inputs a malformed or foreign frame changed
-- only a counter (`FramesOnlyCount`). This project's profile.
use Rattle.std.specs.Prelude.{◌≡◌, ◌⊎◌, ℕ, ◌+◌, Some, IfSome, List, [], ◌∷◌, ◌++◌, length, map}
use Rattle.std.specs.Io.KnownBytes.{Appends}
use Rattle.wrp_node.specs.declared.interface.Input.{Input}
use Rattle.wrp_node.specs.declared.interface.Input.TheVariants.{Frame}
use Rattle.wrp_node.specs.Laws.{reason_of}
use Rattle.wrp_node.specs.NodeAt.{Taken}
use Rattle.wrp_node.specs.NodeRun.{node_after, outputs_at}
use Rattle.wrp_node.specs.OneRun.{IsRun}
use Rattle.wrp_course.specs.Dropped.{with_count}
use Rattle.wrp_trace.specs.LineSetting.{LineSetting}
use Rattle.wrp_commands.specs.Request.{CommandLine}
use Rattle.wrp_records.specs.declared.machine.Refusal.TheVariants as refusals
use Rattle.wrp_records.specs.declared.status.Status.{Status}
use Rattle.wrp_records.specs.declared.status.Status.TheVariants.{Done, BadTrace, ReadFault, TooLarge, OutOfMemory}
use Rattle.wrp_records.specs.Lines.{lines_of, content_of}
use Rattle.wrp_records.specs.Stream.{IsTooLarge, large_line}
use Rattle.wrp_replay.specs.DownLaw.{law_at, node_setting_at}
use Rattle.wrp_replay.specs.NodeText.{Writes, node_counts}
use Rattle.wrp_replay.specs.Replays.{AreInputs, Refuses}
use Rattle.wrp_asked.specs.EmitHeadline.{LacksNode}
use Rattle.wrp_asked.specs.Ends.{Ends, Run}
use Rattle.wrp_asked.specs.Headline.{NextIs, Prints, ReachesNone}
use Rattle.wrp_asked.specs.Input.{network_text, behind_separator}
use Rattle.wrp_asked.specs.Tasks.{Replay, AsksFor, IsReplay}

-- Which inputs came

-- the replay of a node in the network that the text before the records describes is asked for, and the first lines of the records
-- say these inputs of the node, the newest first; with each frame is noted what its octets say, and with each measurement
-- what the law of the link above the node answers
pub record InputsCame (asked : CommandLine) (input : List ℕ) (site : LineSetting) (inputs : List Taken) : Type 0 where
  pub name : List ℕ
  pub asks : AsksFor asked (network_text input) (Replay name site)
  pub front : List (List ℕ)
  pub rest : List (List ℕ)
  pub divided : behind_separator (lines_of input) ≡ front ++ rest
  pub are : AreInputs site (map content_of front) inputs
  pub run : IsRun (law_at site) (node_setting_at site) inputs

-- The first part

-- what is written after the lines of these inputs, by the status: the counters that are not 0, and no record is left;
-- the line that names the next record as refused, or as too large; nothing, if the source failed or memory ran out
abbrev pub EndsInputs : Status → LineSetting → List Taken → (front rest : List (List ℕ)) → (last : List ℕ) → Type 0
EndsInputs Done site inputs front rest last =
    (rest ≡ []) × (last ≡ node_counts site (node_after (node_setting_at site) inputs))
EndsInputs BadTrace site inputs front rest last =
    NextIs rest (λ line. Refuses site (map content_of front) (content_of line) refusals.BadTrace last)
EndsInputs TooLarge site inputs front rest last =
    NextIs rest (λ line. IsTooLarge line (length front) × (last ≡ large_line (length front + 1)))
EndsInputs ReadFault site inputs front rest last = last ≡ []
EndsInputs OutOfMemory site inputs front rest last = last ≡ []
EndsInputs _ site inputs front rest last = ⊥

-- the lines of what the node puts out at inputs that came, and what is written after them
pub record OutputsOf (asked : CommandLine) (input : List ℕ) (status : Status) (octets : List ℕ) : Type 0 where
  pub site : LineSetting
  pub inputs : List Taken
  pub came : InputsCame asked input site inputs
  pub written : List ℕ
  pub writes : Writes site inputs written
  pub last : List ℕ
  pub ends : EndsInputs status site inputs came.front came.rest last
  pub is : octets ≡ written ++ last

-- a replay prints exactly what the node puts out
abbrev pub PrintsTheOutputs : CommandLine → List ℕ → Status → List ℕ → Type 0
PrintsTheOutputs asked input status octets =
    Prints
    (λ due text. LacksNode asked input due text ⊎ (ReachesNone input due text ⊎ OutputsOf asked input due text))
    status octets

-- The second part

-- an input after these: one counter of the node is one more, or stays at its greatest value, and nothing else of the node is
-- changed; and nothing is put out
pub record LeavesOneCount (site : LineSetting) (before : List Taken) (t : Taken) (p reason : ℕ) : Type 0 where
  pub node :
      node_after (node_setting_at site) (t ∷ before) ≡ with_count p reason (node_after (node_setting_at site) before)
  pub silent : outputs_at (node_setting_at site) before t ≡ []

-- so it is if the input is a frame that the node drops for one of the reasons 1 to 12
abbrev pub LeavesOneCountIf : LineSetting → List Taken → Taken → Input → Type 0
LeavesOneCountIf site before t (Frame p octets raw sample) =
    (reason : ℕ) → reason_of (node_setting_at site) (node_after (node_setting_at site) before) p t.says ≡ Some reason →
    LeavesOneCount site before t p reason
LeavesOneCountIf site before t _ = Unit {0}

-- so it is with each of these inputs
abbrev pub FramesOnlyCount : LineSetting → List Taken → Type 0
FramesOnlyCount site [] = Unit {0}
FramesOnlyCount site (t ∷ before) = LeavesOneCountIf site before t t.input × FramesOnlyCount site before

-- All parts

-- of a replay that ended with this status and wrote these octets
pub record ReplayHeadline (asked : CommandLine) (input : List ℕ) (status : Status) (octets : List ℕ) : Type 0 where
  pub prints : PrintsTheOutputs asked input status octets
  pub drops : (site : LineSetting) (inputs : List Taken) → InputsCame asked input site inputs → FramesOnlyCount site inputs

-- so it is for whatever a run wrote that was asked for a replay
abbrev pub ReplaysAreTold : Type 0
ReplaysAreTold =
    (run : Run) (status : Status) (name : List ℕ) → Ends run status → IsReplay run.asked name →
    IfSome run.source.before (λ input.
    (octets : List ℕ) × Appends run.sink.before run.sink.now octets × ReplayHeadline run.asked input status octets)
