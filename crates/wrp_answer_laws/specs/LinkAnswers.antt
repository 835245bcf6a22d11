-- A link as its answers: the calls of a run are numbered from 1, in the order in which they are made, and each number has one
-- answer (this project's profile).
use Rattle.std.specs.Prelude.{◌≡◌, ◌⊎◌, ℕ, suc, ◌+◌, List, [], ◌∷◌, length, None, Some}
use Rattle.arrayvec.specs.ArrayVec.{ArrayVec}
use Rattle.wrp_io.specs.declared.link.LinkCall.{LinkCall}
use Rattle.wrp_io.specs.declared.link.LinkCall.TheVariants.{Receive}
use Rattle.wrp_loop.specs.Calls.{IsFrame}
use Rattle.wrp_records.specs.declared.status.Status.{Status}
use Rattle.wrp_records.specs.declared.status.Status.TheVariants.{LinkFault}
use Rattle.wrp_commands.specs.Request.{CommandLine}
use Rattle.wrp_asked.specs.Answer.{Answer, LoopBroken}

-- Answers

-- what a call answers
pub data CallAnswer : Type 0 where
  -- it succeeds, and a reception gives this frame
  Gives : (frame : ArrayVec ℕ) → CallAnswer
  -- it succeeds, and a reception gives no frame
  Nothing : CallAnswer
  -- it fails
  Fails : CallAnswer

-- by the number of the call
abbrev pub LinkAnswers : Type 0
LinkAnswers = ℕ → CallAnswer

-- what a reception gives is a frame: at most 256 octets
abbrev pub IsFrameGiven : CallAnswer → Type 0
IsFrameGiven (Gives frame) = IsFrame frame
IsFrameGiven _ = Unit {0}

abbrev pub GivesFrames : LinkAnswers → Type 0
GivesFrames link = (number : ℕ) → IsFrameGiven (link number)

-- Calls with these answers

-- a call that succeeded, with what it gave, had this answer
abbrev pub AnswersCall : CallAnswer → LinkCall → Type 0
AnswersCall (Gives frame) (Receive end given) = given ≡ Some frame
AnswersCall Nothing (Receive end given) = given ≡ None
AnswersCall Fails call = ⊥
AnswersCall _ call = Unit {0}

-- these calls had their answers, if the first of them has this number, and each next one the next number
abbrev pub FollowsFrom : LinkAnswers → ℕ → List LinkCall → Type 0
FollowsFrom link number [] = Unit {0}
FollowsFrom link number (call ∷ calls) = AnswersCall (link number) call × FollowsFrom link (suc number) calls

-- so had all calls of a run, the first one first
abbrev pub Follows : LinkAnswers → List LinkCall → Type 0
Follows link calls = FollowsFrom link 1 calls

-- the call after these fails
abbrev pub FailsNext : LinkAnswers → List LinkCall → Type 0
FailsNext link calls = link (length calls + 1) ≡ Fails

-- What is expected over a link

-- a run ends with LinkFault, because the call after these fails, and writes the lines of the events before
-- that call
pub record IsBroken (link : LinkAnswers) (asked : CommandLine) (input : List ℕ) (calls : List LinkCall) (status : Status)
    (octets : List ℕ) : Type 0 where
  pub is : status ≡ LinkFault
  pub fails : FailsNext link calls
  pub broken : LoopBroken asked input calls LinkFault octets

-- for these calls, which follow the link, this status and these octets are expected: an answer, or the next call fails
pub record HasAnswerOver (link : LinkAnswers) (asked : CommandLine) (input : List ℕ) : Type 0 where
  pub calls : List LinkCall
  pub status : Status
  pub octets : List ℕ
  pub follows : Follows link calls
  pub due : Answer asked input calls status octets ⊎ IsBroken link asked input calls status octets
