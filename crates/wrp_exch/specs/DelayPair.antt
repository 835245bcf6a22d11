-- The delay pair of a two-step exchange: a Delay_Req that was sent and its Delay_Resp, matched by
-- sequenceId (IEEE 1588-2019; which sending is kept is this project's profile).
use Rattle.std.specs.Prelude.{ℕ, ℤ, ◌==◌, ◌&&◌, ◌||◌, not, Bool, false, if◌then◌else◌, List, [], ◌∷◌, Option, None}
use Rattle.std.specs.Option.{is_some, option_map, option_or, option_and_then}
use Rattle.wrp_base.specs.declared.time.Stamp.{Stamp}
use Rattle.wrp_exch.specs.declared.delay.Sent.{Sent}
use Rattle.wrp_exch.specs.declared.delay.DelayPair.{DelayPair}
use Rattle.wrp_exch.specs.Call.{Call, CallStart, CallClear, CallReqOut, CallReqSent, CallResp}
use Rattle.wrp_exch.specs.Chain.{first_sample, latched_phase}

-- the id of the last Delay_Req that was put out in the chain
abbrev pub last_request : List Call → Option ℕ
last_request [] = None
last_request (CallStart first ∷ calls) = None
last_request (CallClear ∷ calls) = None
last_request (CallReqOut seq ∷ calls) = option_map (λ _. seq) (first_sample calls)
last_request (_ ∷ calls) = last_request calls

-- a Delay_Req's sending with the phase at the sample that its stamp latched
abbrev pub held_sent : Stamp → ℕ → ℤ → Sent
held_sent t3 tick phase = record { t3 = t3.value; u3 = phase; tick = tick }

-- the sending reported after these calls, if it belongs to the last request and its sample can be used
abbrev pub usable_sent : ℕ → List Call → ℕ → Stamp → ℕ → Option Sent
usable_sent ring calls seq t3 tick =
    option_and_then (λ id. if id == seq then option_map (held_sent t3 tick) (latched_phase ring calls t3.sample) else None) (last_request calls)

-- the sending of the last request: only the first one that can be used is kept
abbrev pub first_sent : ℕ → List Call → Option Sent
first_sent ring [] = None
first_sent ring (CallStart first ∷ calls) = None
first_sent ring (CallClear ∷ calls) = None
first_sent ring (CallReqOut seq ∷ calls) = None
first_sent ring (CallReqSent seq t3 tick ∷ calls) = option_or (first_sent ring calls) (usable_sent ring calls seq t3 tick)
first_sent ring (_ ∷ calls) = first_sent ring calls

-- the sending reported after these calls, if it is kept
abbrev pub kept_sent : ℕ → List Call → ℕ → Stamp → ℕ → Option Sent
kept_sent ring calls seq t3 tick = if is_some (first_sent ring calls) then None else usable_sent ring calls seq t3 tick

-- a Delay_Resp of this id came since the sending that was kept
abbrev pub is_answered : ℕ → ℕ → List Call → Bool
is_answered ring seq [] = false
is_answered ring seq (CallStart first ∷ calls) = false
is_answered ring seq (CallClear ∷ calls) = false
is_answered ring seq (CallReqOut id ∷ calls) = false
is_answered ring seq (CallResp id t4 ∷ calls) = ((seq == id) && is_some (first_sent ring calls)) || is_answered ring seq calls
is_answered ring seq (_ ∷ calls) = is_answered ring seq calls

-- the pair that a kept sending and its Delay_Resp make
abbrev pub pair_of_sent : ℤ → Sent → DelayPair
pair_of_sent t4 sent = record { t3 = sent.t3; t4 = t4; u3 = sent.u3; tick = sent.tick }

-- the pair that a Delay_Resp after these calls makes: its id is the id of the last request, whose
-- sending was kept, and no Delay_Resp of that id came since that sending
abbrev pub answered_pair : ℕ → List Call → ℕ → ℤ → Option DelayPair
answered_pair ring calls seq t4 =
    option_and_then (λ id. if (id == seq) && not (is_answered ring seq calls) then option_map (pair_of_sent t4) (first_sent ring calls) else None) (last_request calls)

-- the delay pair: the latest Delay_Resp of the chain that made one
abbrev pub delay_pair : ℕ → List Call → Option DelayPair
delay_pair ring [] = None
delay_pair ring (CallStart first ∷ calls) = None
delay_pair ring (CallClear ∷ calls) = None
delay_pair ring (CallResp seq t4 ∷ calls) = option_or (answered_pair ring calls seq t4) (delay_pair ring calls)
delay_pair ring (_ ∷ calls) = delay_pair ring calls
