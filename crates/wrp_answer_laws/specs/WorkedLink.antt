-- A worked example of a link: its third call is answered with a frame of one octet, its fifth fails, and each other
-- call succeeds and gives no frame (this project's profile).
use Rattle.std.specs.Prelude.{◌==◌, ◌++◌, if◌then◌else◌, List, [], ◌∷◌, None, Some}
use Rattle.wrp_io.specs.declared.link.LinkCall.{LinkCall}
use Rattle.wrp_io.specs.declared.link.LinkCall.TheVariants.{Receive, Send, Start}
use Rattle.wrp_io.specs.Link.{frame_of}
use Rattle.wrp_answer_laws.specs.LinkAnswers.{Fails, FailsNext, Follows, Gives, LinkAnswers, Nothing}

abbrev pub worked_answers : LinkAnswers
worked_answers number = if number == 3 then Gives (frame_of (7 ∷ [])) else (if number == 5 then Fails else Nothing)

-- four calls with these answers
abbrev pub worked_calls : List LinkCall
worked_calls = Start 2 ∷ Send 0 (frame_of (7 ∷ [])) ∷ Receive 1 (Some (frame_of (7 ∷ []))) ∷ Receive 1 None ∷ []

-- the third call has no frame
abbrev pub unanswered_calls : List LinkCall
unanswered_calls = Start 2 ∷ Send 0 (frame_of (7 ∷ [])) ∷ Receive 1 None ∷ []

-- a fifth call succeeds
abbrev pub further_calls : List LinkCall
further_calls = worked_calls ++ Receive 1 None ∷ []

-- the four calls follow the link, and its next call fails; without the frame, or with one more call, they do not
-- follow it
pub record WorkedLink : Type 0 where
  pub follows : Follows worked_answers worked_calls
  pub fails : FailsNext worked_answers worked_calls
  pub unanswered : Follows worked_answers unanswered_calls → ⊥
  pub further : Follows worked_answers further_calls → ⊥
