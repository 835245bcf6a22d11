-- What is expected for what a command line asks, the octets of the input and the calls of a link that the run made, as
-- they were answered: one status and the octets that are written (this project's profile). The first refusal decides,
-- in this order: no command, the size of the network text, the network, the node's name, and then the records, one by
-- one. A command that stands alone has its own records and refusals.
use Rattle.std.specs.Prelude.{◌≡◌, ◌⊎◌, ℕ, ◌<◌, ◌≤◌, None, Some, Ok, List, [], ◌++◌, length, take}
use Rattle.wrp_config.specs.declared.network.Network.{Network}
use Rattle.wrp_config.specs.Names.{node_named}
use Rattle.wrp_network_text.specs.Reading.{IsReadingOf}
use Rattle.wrp_course.specs.Setting.{Setting}
use Rattle.wrp_io.specs.declared.link.LinkCall.{LinkCall}
use Rattle.wrp_records.specs.declared.status.Status.{Status}
use Rattle.wrp_records.specs.declared.status.Status.TheVariants.{Done, Usage, BadNetwork, TooLarge, OutOfMemory}
use Rattle.wrp_records.specs.Lines.{lines_of}
use Rattle.wrp_records.specs.RecordsAnswer.{BreaksOff, IsWholly, RecordsAnswer, StandsFirst}
use Rattle.wrp_records.specs.Refusals.{too_large_line}
use Rattle.wrp_records.specs.Stream.{CutHandled}
use Rattle.wrp_commands.specs.declared.alone.Alone.{Alone}
use Rattle.wrp_commands.specs.Request.{CommandLine, Networked, Request}
use Rattle.wrp_asked.specs.Alone.{IsAlone, alone_meaning}
use Rattle.wrp_asked.specs.Input.{network_text, behind_separator, network_limit, Divides, IsUndivided}
use Rattle.wrp_loop.specs.Loops.{loop_of}
use Rattle.wrp_replay.specs.Replays.{IsRefusedBy}
use Rattle.wrp_asked.specs.Tasks.{Task, Loop, AsksFor, IsOnNetwork, meaning_at, node_of}

-- what is asked for needs a node of this name
abbrev pub IsOfNode : CommandLine → List ℕ → Type 0
IsOfNode asked name = (command : Networked) × IsOnNetwork asked command × (node_of command ≡ Some name)

-- it is a command with a network text before its records
abbrev pub IsNetworked : CommandLine → Type 0
IsNetworked asked = (command : Networked) × IsOnNetwork asked command

-- it is a command
abbrev pub IsCommand : CommandLine → Type 0
IsCommand asked = (request : Request) × (asked.request ≡ Some request)

-- what is asked for needs a node, and the network that this text describes has none of that name
pub record AsksNone (asked : CommandLine) (text : List ℕ) : Type 0 where
  pub name : List ℕ
  pub asks : IsOfNode asked name
  pub within : length text ≤ network_limit
  pub net : Network
  pub reads : IsReadingOf text (Ok net)
  pub none : node_named net.cfg name ≡ None

-- what is expected, by the records alone, if a task on a network is asked for and its node is found: no link
-- is called
abbrev pub TaskAnswer : CommandLine → List ℕ → List LinkCall → Status → List ℕ → Type 0
TaskAnswer asked input calls status octets =
    (task : Task) × AsksFor asked (network_text input) task
    × RecordsAnswer (meaning_at task) (behind_separator (lines_of input)) status octets
    × (calls ≡ [])

-- after the records of a loop, which are all the records of a scenario: its link's calls decide what is expected
abbrev pub LoopDue : Setting → ℕ → List (List ℕ) → List LinkCall → Status → List ℕ → Type 0
LoopDue s seed lines calls Done octets = IsWholly (loop_of s seed calls) lines octets
LoopDue s seed lines calls TooLarge octets = BreaksOff (loop_of s seed calls) TooLarge lines octets
LoopDue s seed lines calls _ octets = ⊥

-- what is expected if a run over a link is asked for, and its records are the records of a scenario
abbrev pub LoopAnswer : CommandLine → List ℕ → List LinkCall → Status → List ℕ → Type 0
LoopAnswer asked input calls status octets =
    (s : Setting) × (seed : ℕ) × AsksFor asked (network_text input) (Loop s seed)
    × LoopDue s seed (behind_separator (lines_of input)) calls status octets

-- what is written if it breaks off with a status
abbrev pub LoopBroken : CommandLine → List ℕ → List LinkCall → Status → List ℕ → Type 0
LoopBroken asked input calls status octets =
    (s : Setting) × (seed : ℕ) × AsksFor asked (network_text input) (Loop s seed)
    × BreaksOff (loop_of s seed calls) status (behind_separator (lines_of input)) octets

-- what is expected if a command that stands alone is asked for
abbrev pub AloneAnswer : CommandLine → List ℕ → List LinkCall → Status → List ℕ → Type 0
AloneAnswer asked input calls status octets =
    (alone : Alone) × IsAlone asked alone × (alone_meaning alone).answers input calls status octets

-- what is expected if nothing is refused before the records
abbrev pub RecordsDue : CommandLine → List ℕ → List LinkCall → Status → List ℕ → Type 0
RecordsDue asked input calls status octets =
    TaskAnswer asked input calls status octets
    ⊎ (AloneAnswer asked input calls status octets ⊎ LoopAnswer asked input calls status octets)

-- what is expected for what is asked, an input and the calls of a link
abbrev pub Answer : CommandLine → List ℕ → List LinkCall → Status → List ℕ → Type 0
Answer asked input calls Usage octets =
    ((IsCommand asked → ⊥) ⊎ AsksNone asked (network_text input)) × (octets ≡ asked.usage)
    × (calls ≡ [])
Answer asked input calls BadNetwork octets =
    (IsNetworked asked × (length (network_text input) ≤ network_limit)
    × IsRefusedBy (network_text input) octets × (calls ≡ []))
    ⊎ AloneAnswer asked input calls BadNetwork octets
Answer asked input calls TooLarge octets =
    (IsNetworked asked × (network_limit < length (network_text input)) × (octets ≡ too_large_line)
    × (calls ≡ []))
    ⊎ RecordsDue asked input calls TooLarge octets
Answer asked input calls status octets = RecordsDue asked input calls status octets

-- the lines of the first records of an input, or of the first events of a simulation or of a loop; none, if
-- the records were not reached
abbrev pub FirstAnswer : CommandLine → List ℕ → List LinkCall → List ℕ → Type 0
FirstAnswer asked input calls octets =
    ((octets ≡ []) × (calls ≡ []))
    ⊎ (((task : Task) × AsksFor asked (network_text input) task
    × StandsFirst (meaning_at task) (behind_separator (lines_of input)) octets × (calls ≡ []))
    ⊎ (((alone : Alone) × IsAlone asked alone × (alone_meaning alone).first input calls octets)
    ⊎ LoopBroken asked input calls OutOfMemory octets))

-- the first octets of an answer, or of the lines of the first records or events
abbrev pub PartAnswer : CommandLine → List ℕ → List LinkCall → List ℕ → Type 0
PartAnswer asked input calls octets =
    (due : List ℕ) × (count : ℕ) × (octets ≡ take count due)
    × (((status : Status) × Answer asked input calls status due) ⊎ FirstAnswer asked input calls due)

-- the `---` line came, and of the octets after it the whole lines are handled
pub record CutTask (asked : CommandLine) (taken octets : List ℕ) : Type 0 where
  pub front : List ℕ
  pub back : List ℕ
  pub text : List ℕ
  pub task : Task
  pub all : taken ≡ front ++ back
  pub divides : Divides front text
  pub asks : AsksFor asked text task
  pub handled : CutHandled (meaning_at task).accepts back octets

-- what is written if the source failed after these octets: it has no refusal
abbrev pub CutAnswer : CommandLine → List ℕ → List ℕ → Type 0
CutAnswer asked taken octets =
    (IsNetworked asked × ((IsUndivided taken × (octets ≡ [])) ⊎ CutTask asked taken octets))
    ⊎ ((alone : Alone) × IsAlone asked alone × (alone_meaning alone).cut taken octets)
