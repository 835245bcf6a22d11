-- What an exchange keeps of Delay_Req and Delay_Resp, and what looking back finds in its place.
use Rattle.std.specs.Prelude.{ℕ, ℤ, ◌^◌, ◌<◌, ◌==◌, ◌&&◌, not, unsigned_abs, if◌then◌else◌, List, Option, Some, None, IfSome}
use Rattle.std.specs.Option.{is_some, option_map, option_and_then}
use Rattle.wrp_exch.specs.declared.delay.Sent.{Sent}
use Rattle.wrp_exch.specs.declared.delay.Request.{Request}
use Rattle.wrp_exch.specs.declared.delay.DelayPair.{DelayPair}
use Rattle.wrp_exch.specs.declared.delay.DelayHalf.{DelayHalf}
use Rattle.wrp_exch.specs.Call.{Call}
use Rattle.wrp_exch.specs.DelayPair.{last_request, first_sent, is_answered, delay_pair, pair_of_sent}

-- the last request, while its sending was not answered
abbrev pub open_request : ℕ → List Call → Option Request
open_request ring calls = option_and_then (λ id. if is_answered ring id calls then None else Some (record { seq = id; sent = first_sent ring calls })) (last_request calls)

-- what looking back finds
abbrev pub delay_half : ℕ → List Call → DelayHalf
delay_half ring calls = record { request = open_request ring calls; pair = delay_pair ring calls }

-- the half with the request of this id, if one is given, in place of the old one
abbrev pub asked : DelayHalf → Option ℕ → DelayHalf
asked half seq = record { request = option_map (λ id. record { seq = id; sent = None }) seq; pair = half.pair }

-- the request has this id and waits for its sending
abbrev pub awaits_sent : DelayHalf → ℕ → Option Request
awaits_sent half seq = option_and_then (λ r. if (r.seq == seq) && not (is_some r.sent) then Some r else None) half.request

-- the request, with the sending if it is of this id and waits for one
abbrev pub told_request : DelayHalf → ℕ → Option Sent → Option Request
told_request half seq sent = option_map (λ r. if (r.seq == seq) && not (is_some r.sent) then record { seq = r.seq; sent = sent } else r) half.request

-- the request, unless a Delay_Resp of this id answers it
abbrev pub left_request : DelayHalf → ℕ → Option Request
left_request half seq = option_and_then (λ r. if (r.seq == seq) && is_some r.sent then None else Some r) half.request

-- the pair that a Delay_Resp makes of the request
abbrev pub new_delay_pair : DelayHalf → ℕ → ℤ → Option DelayPair
new_delay_pair half seq t4 = option_and_then (λ r. if r.seq == seq then option_map (pair_of_sent t4) r.sent else None) half.request

-- the times are in their ranges
abbrev pub HasDelayTimes : DelayHalf → Type 0
HasDelayTimes half = IfSome half.request (λ r. IfSome r.sent (λ s. unsigned_abs s.t3 < 2 ^ 104)) × IfSome half.pair (λ p. (unsigned_abs p.t3 < 2 ^ 105) × (unsigned_abs p.t4 < 2 ^ 105))
