-- That an answer is expected (this project's profile).
use Rattle.std.specs.Prelude.{ℕ, List, []}
use Rattle.wrp_records.specs.declared.status.Status.{Status}
use Rattle.wrp_records.specs.RecordsAnswer.{HasAnswer}
use Rattle.wrp_commands.specs.declared.alone.Alone.{Alone}
use Rattle.wrp_commands.specs.Request.{CommandLine}
use Rattle.wrp_asked.specs.Alone.{alone_meaning}
use Rattle.wrp_replay.specs.Replays.{meaning_of}
use Rattle.wrp_trace.specs.LineSetting.{LineSetting}
use Rattle.wrp_answer_laws.specs.LinkAnswers.{GivesFrames, HasAnswerOver, LinkAnswers}

-- for the record lines of each replay
abbrev pub EachReplayHasAnswer : Type 0
EachReplayHasAnswer = (site : LineSetting) (lines : List (List ℕ)) → HasAnswer (meaning_of site) lines

-- for the input of each command that stands alone, which calls no link
abbrev pub EachStandsAloneWithAnswer : Type 0
EachStandsAloneWithAnswer =
    (alone : Alone) (input : List ℕ) → (status : Status) × (octets : List ℕ)
    × (alone_meaning alone).answers input [] status octets

-- for what is asked, an input and a link a status and octets are expected, with the calls that are made
abbrev pub EachHasAnswer : Type 0
EachHasAnswer = (asked : CommandLine) (input : List ℕ) (link : LinkAnswers) → GivesFrames link → HasAnswerOver link asked input
