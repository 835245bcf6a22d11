-- The sending of the last request: what is answered was sent, and which sending is kept.
use Rattle.std.proofs.Common.{◌≡◌, ℕ, Bool, true, false, ◌&&◌, ◌||◌, ◌==◌, List, [], ◌∷◌, Option, Some, None, refl}
use Rattle.std.specs.Option.{is_some, option_or}
use Rattle.wrp_exch.specs.Call.{Call, CallStart, CallClear, CallSample, CallSync, CallFollowUp, CallReqOut, CallReqSent, CallResp}
use Rattle.wrp_exch.specs.DelayPair.{first_sent, is_answered, usable_sent}

or_some : {A : Type 0} (o p : Option A) → is_some o ≡ true → is_some (option_or o p) ≡ true
or_some None p h = cc
or_some (Some x) p h = refl

right_of_or : (a b d : Bool) → ((a && d) || b) ≡ true → (b ≡ true → d ≡ true) → d ≡ true
right_of_or a b true h k = refl
right_of_or true true false h k = k refl
right_of_or true false false h k = h
right_of_or false true false h k = k refl
right_of_or false false false h k = h

-- what is answered was sent
pub sent-answered : (ring seq : ℕ) (calls : List Call) → is_answered ring seq calls ≡ true → is_some (first_sent ring calls) ≡ true
sent-answered ring seq [] h = h
sent-answered ring seq (CallStart first ∷ calls) h = h
sent-answered ring seq (CallClear ∷ calls) h = h
sent-answered ring seq (CallSample number phase ∷ calls) h = sent-answered ring seq calls h
sent-answered ring seq (CallSync id correction t2 tick ∷ calls) h = sent-answered ring seq calls h
sent-answered ring seq (CallFollowUp id precise ∷ calls) h = sent-answered ring seq calls h
sent-answered ring seq (CallReqOut id ∷ calls) h = h
sent-answered ring seq (CallReqSent id t3 tick ∷ calls) h = or_some (first_sent ring calls) (usable_sent ring calls id t3 tick) (sent-answered ring seq calls h)
sent-answered ring seq (CallResp id t4 ∷ calls) h = right_of_or (seq == id) (is_answered ring seq calls) (is_some (first_sent ring calls)) h (sent-answered ring seq calls)
