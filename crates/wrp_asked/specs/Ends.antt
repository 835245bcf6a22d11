-- How a run ends, for each status: what is then written, and what was taken (this project's profile).
use Rattle.std.specs.Prelude.{◌≡◌, ◌⊎◌, ℕ, ◌≤◌, Option, Some, IfSome, List, [], ◌++◌, length}
use Rattle.std.specs.Io.KnownBytes.{Appends, Consumes, IsAtEnd}
use Rattle.wrp_io.specs.declared.link.LinkCall.{LinkCall}
use Rattle.wrp_loop.specs.Calls.{Grew}
use Rattle.wrp_records.specs.declared.machine.Refusal.{Refusal}
use Rattle.wrp_records.specs.declared.machine.Refusal.TheVariants as refusals
use Rattle.wrp_records.specs.declared.status.Status.{Status}
use Rattle.wrp_records.specs.declared.status.Status.TheVariants.{Done, Usage, BadTrace, Broken, ReadFault, WriteFault, LinkFault, OutOfMemory, BadCapture, BadCalib}
use Rattle.wrp_records.specs.Lines.{lines_of}
use Rattle.wrp_records.specs.Passages.{Failed, Passage}
use Rattle.wrp_records.specs.Reader.{piece_limit}
use Rattle.wrp_records.specs.RecordsAnswer.{IsRefused}
use Rattle.wrp_commands.specs.declared.alone.Alone.{Alone}
use Rattle.wrp_commands.specs.Request.{CommandLine}
use Rattle.wrp_asked.specs.Alone.{IsAlone, MayAnswer, alone_meaning}
use Rattle.wrp_asked.specs.Answer.{IsCommand, IsNetworked, IsOfNode, AsksNone, Answer, FirstAnswer, LoopBroken, PartAnswer, CutAnswer}
use Rattle.wrp_asked.specs.Input.{network_text, behind_separator}
use Rattle.wrp_asked.specs.Tasks.{Task, AsksFor, IsAuditing, IsEmission, IsLooping, meaning_at}

-- what a run was given and what passed in it between it and the outside: what was asked; what the source has left;
-- what the sink holds; the calls of the link; and how often each of the three had failed, before and after
pub record Run : Type 0 where
  pub asked : CommandLine
  pub source : Passage (List ℕ)
  pub sink : Passage (List ℕ)
  pub link : Passage (List LinkCall)

-- the run wrote these octets
abbrev pub Wrote : Run → List ℕ → Type 0
Wrote run octets = Appends run.sink.before run.sink.now octets

-- the run took these octets
abbrev pub Took : Run → List ℕ → Type 0
Took run octets = Consumes run.source.before run.source.now octets

-- the run added these calls, as they were answered, to the calls that the link reports
abbrev pub Called : Run → List LinkCall → Type 0
Called run calls = Grew run.link.before run.link.now calls

-- these calls decide what is expected: the calls that the run added, if the link reports them; or none, since what is
-- expected without a call is expected whatever was called
abbrev pub IsToldOf : Passage (List LinkCall) → List LinkCall → Type 0
IsToldOf link calls =
    (calls ≡ [])
    ⊎ ((told : List LinkCall) × (link.before ≡ Some told) × (link.now ≡ Some (told ++ calls)))

-- a command that stands alone is asked for, which may answer this
abbrev pub AsksAlone : CommandLine → Status → Type 0
AsksAlone asked status = (alone : Alone) × IsAlone asked alone × MayAnswer alone status

-- a command is asked for: one on a network, or one that stands alone and may answer this
abbrev pub AsksSome : CommandLine → Status → Type 0
AsksSome asked status = IsNetworked asked ⊎ AsksAlone asked status

-- a command is asked for, and what is expected for this status was written
abbrev pub Answered : Run → Status → Type 0
Answered run status =
    AsksSome run.asked status × (octets : List ℕ) × (calls : List LinkCall) × Wrote run octets × Called run calls
    × IfSome run.source.before (λ input. Answer run.asked input calls status octets)

-- after a network text the line of a refused record ends these octets
pub record EndsRefused (asked : CommandLine) (front : List ℕ) (refusal : Refusal) : Type 0 where
  pub task : Task
  pub octets : List ℕ
  pub asks : AsksFor asked (network_text front) task
  pub refused : IsRefused (meaning_at task) refusal (behind_separator (lines_of front)) octets
  pub last : refused.behind ≡ []

-- a refused record of a command that stands alone ends these octets
abbrev pub EndsRefusedAlone : CommandLine → List ℕ → Status → Type 0
EndsRefusedAlone asked front status =
    (alone : Alone) × IsAlone asked alone × (alone_meaning alone).refused status front

-- a record that is refused with this status ends these octets
abbrev pub EndsRefusedAs : CommandLine → List ℕ → Status → Type 0
EndsRefusedAs asked front BadTrace =
    EndsRefused asked front refusals.BadTrace ⊎ EndsRefusedAlone asked front BadTrace
EndsRefusedAs asked front Broken =
    EndsRefused asked front refusals.Broken ⊎ EndsRefusedAlone asked front Broken
EndsRefusedAs asked front status = EndsRefusedAlone asked front status

-- of an input the octets up to the end of a refused record were taken, and at most one piece after them
pub record TakesPiece (run : Run) (status : Status) (input : List ℕ) : Type 0 where
  pub front : List ℕ
  pub past : List ℕ
  pub left : List ℕ
  pub all : input ≡ front ++ (past ++ left)
  pub now : run.source.now ≡ Some left
  pub piece : length past ≤ piece_limit
  pub refused : EndsRefusedAs run.asked front status

-- an audit is asked for, or the inputs of a node in one
abbrev pub AsksEvents : CommandLine → Type 0
AsksEvents asked = IsAuditing asked ⊎ ((name : List ℕ) × IsEmission asked name)

-- how a run ends
abbrev pub Ends : Run → Status → Type 0
-- the input was read to its end, and what is expected is written
Ends run Done = Answered run Done × IsAtEnd run.source.now
-- the usage line is all that is written: no command is asked for, or one that needs a node whose name no node of the network has
Ends run Usage =
    Wrote run run.asked.usage
    × ((IsCommand run.asked → ⊥)
    ⊎ (((name : List ℕ) × IsOfNode run.asked name)
    × IfSome run.source.before (λ input. AsksNone run.asked (network_text input))))
    × Called run []
-- a record is refused: at most one piece after its line was taken
Ends run BadTrace =
    Answered run BadTrace × IfSome run.source.before (TakesPiece run BadTrace)
-- a record breaks a premise: the same, and only of a command whose records have premises
Ends run Broken =
    Answered run Broken × IfSome run.source.before (TakesPiece run Broken)
    × (AsksEvents run.asked ⊎ AsksAlone run.asked Broken)
-- a capture is refused: the same, and only if one is read
Ends run BadCapture =
    Answered run BadCapture × IfSome run.source.before (TakesPiece run BadCapture)
    × AsksAlone run.asked BadCapture
-- the records of a calibration as a whole give no answer: the input was read to its end
Ends run BadCalib =
    Answered run BadCalib × AsksAlone run.asked BadCalib × IsAtEnd run.source.now
-- the source failed: the lines of the whole records among what was taken are written, and no refusal
Ends run ReadFault =
    Failed run.source × (taken : List ℕ) × (octets : List ℕ)
    × Took run taken × Wrote run octets × CutAnswer run.asked taken octets × Called run []
-- the sink failed: the first octets of what is expected are written
Ends run WriteFault =
    Failed run.sink × (octets : List ℕ) × (calls : List LinkCall) × Wrote run octets × Called run calls
    × IfSome run.source.before (λ input. PartAnswer run.asked input calls octets)
-- memory ran out: the lines of the first records are written
Ends run OutOfMemory =
    (octets : List ℕ) × (calls : List LinkCall) × Wrote run octets × Called run calls
    × IfSome run.source.before (λ input. FirstAnswer run.asked input calls octets)
-- the link failed, which only a loop calls: the input was read to its end, and the lines of all events before the one
-- whose call failed are written
Ends run LinkFault =
    Failed run.link × ((seed : ℕ) × IsLooping run.asked seed) × IsAtEnd run.source.now
    × (octets : List ℕ) × (calls : List LinkCall) × Wrote run octets × Called run calls
    × IfSome run.source.before (λ input. LoopBroken run.asked input calls LinkFault octets)
-- the network or a size is refused, and its line is written after the lines of the records before it
Ends run status = Answered run status

-- so it ends, over this source and this sink, if it calls no link
abbrev pub EndsUnlinked : CommandLine → Passage (List ℕ) → Passage (List ℕ) → Status → Type 0
EndsUnlinked asked source sink status =
    (link : Passage (List LinkCall)) → link.now ≡ link.before
    → Ends (record { asked = asked; source = source; sink = sink; link = link }) status

-- the passage of an object that had more before some of it was taken
abbrev pub begun_at : {A : Type 0} → Option A → Passage A → Passage A
begun_at first p = record p { before = first }
