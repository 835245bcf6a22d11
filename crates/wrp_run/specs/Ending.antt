-- The statuses with which a run may end, by what its words ask for alone (this project's profile).
use Rattle.std.specs.Prelude.{◌⊎◌, ℕ, List}
use Rattle.wrp_records.specs.declared.status.Status.{Status}
use Rattle.wrp_records.specs.declared.status.Status.TheVariants.{Done, Usage, BadNetwork, BadTrace, Broken, ReadFault, WriteFault, LinkFault, TooLarge, OutOfMemory, BadCapture, BadCalib}
use Rattle.wrp_commands.specs.Request.{CommandLine}
use Rattle.wrp_asked.specs.Answer.{IsCommand, IsOfNode}
use Rattle.wrp_asked.specs.Ends.{AsksAlone, AsksEvents, AsksSome}
use Rattle.wrp_asked.specs.Tasks.{IsLooping}

-- words that are no command end with Usage, unless a write fails or memory runs out; and each other status needs a
-- command that may answer it
abbrev pub MayEnd : CommandLine → Status → Type 0
MayEnd asked Done = AsksSome asked Done
MayEnd asked Usage = (IsCommand asked → ⊥) ⊎ ((name : List ℕ) × IsOfNode asked name)
MayEnd asked BadNetwork = AsksSome asked BadNetwork
MayEnd asked BadTrace = AsksSome asked BadTrace
MayEnd asked Broken = AsksEvents asked ⊎ AsksAlone asked Broken
MayEnd asked ReadFault = IsCommand asked
MayEnd asked WriteFault = Unit {0}
MayEnd asked LinkFault = (seed : ℕ) × IsLooping asked seed
MayEnd asked TooLarge = AsksSome asked TooLarge
MayEnd asked OutOfMemory = Unit {0}
MayEnd asked BadCapture = AsksAlone asked BadCapture
MayEnd asked BadCalib = AsksAlone asked BadCalib
