-- Two ends of a link with the messages between them: what each end was handed and when, the messages
-- that were sent, which events are refused, and the list of accepted events that a pair stands for
-- (this project's profile).
use Rattle.std.specs.Prelude.{◌≡◌, ℕ, pos, ◌+◌, ◌-◌, ◌==◌, ◌&&◌, ◌≤◌, ◌≤ℤ◌, not, Bool, true, false, if◌then◌else◌, nat_lt, unsigned_abs, List, [], ◌∷◌, ◌++◌, length, Option, None, Some, Result, Ok, Err}
use Rattle.std.specs.List.{slice_get}
use Rattle.std.specs.Option.{option_map, option_or}
use Rattle.wrp_l1sync.specs.declared.one_end.End.{End}
use Rattle.wrp_l1sync.specs.declared.event.Breach.{Breach}
use Rattle.wrp_l1sync.specs.declared.event.Handing.{Handing}
use Rattle.wrp_l1sync.specs.declared.event.L1Event.{L1Event}
use Rattle.wrp_l1sync.specs.declared.event.L1Event.TheVariants.{Pass, Tick, Enable, Disable, Own, Deliver}
use Rattle.wrp_l1sync.specs.declared.event.L1Refused.{L1Refused}
use Rattle.wrp_l1sync.specs.declared.event.L1Refused.TheVariants.{Broken, Memory}
use Rattle.wrp_l1sync.specs.declared.event.Limits.{Limits}
use Rattle.wrp_l1sync.specs.declared.event.Sent.{Sent}
use Rattle.wrp_l1sync.specs.declared.event.Side.{Side}
use Rattle.wrp_l1sync.specs.declared.event.Side.TheVariants.{A, B}
use Rattle.wrp_l1sync.specs.declared.interface.L1In.{L1In}
use Rattle.wrp_l1sync.specs.declared.interface.L1In.TheVariants as given
use Rattle.wrp_l1sync.specs.declared.interface.L1Out.{L1Out}
use Rattle.wrp_l1sync.specs.declared.message.L1Msg.{L1Msg}
use Rattle.wrp_l1sync.specs.Inputs.{is_enabled, ticks_of, send_of, out_of}
use Rattle.wrp_l1sync.specs.PortAt.{port_of, after, due_by, out_by}

-- ---- ends

-- the end of a number: a is 0, b is 1
abbrev pub side_of : ℕ → Side
side_of number = if number == 0 then A else B

abbrev pub other : Side → Side
other A = B
other B = A

abbrev pub is_side : Side → Side → Bool
is_side A A = true
is_side A B = false
is_side B A = false
is_side B B = true

-- an event that can come: its end is 0 or 1, and a Pass is at least 1
abbrev pub IsFit : L1Event → Type 0
IsFit (Pass dt) = pos 1 ≤ℤ dt
IsFit (Tick number) = number ≤ 1
IsFit (Enable number) = number ≤ 1
IsFit (Disable number) = number ≤ 1
IsFit (Own number message) = number ≤ 1
IsFit (Deliver number k) = number ≤ 1

-- ---- what was handed over, and what was sent

-- what an end was handed, and when
pub record Timed : Type 0 where
  pub at : ℕ
  pub input : L1In

abbrev pub inputs_of : List Timed → List L1In
inputs_of [] = []
inputs_of (timed ∷ before) = timed.input ∷ inputs_of before

-- whether an input begins the time until the next tick: a tick of an enabled end, or the Enable of a
-- disabled one
abbrev pub begins : Bool → L1In → Bool
begins enabled given.Tick = enabled
begins enabled given.Enable = not enabled
begins enabled _ = false

-- when the last tick or enabling was
abbrev pub last_of : List Timed → ℕ
last_of [] = 0
last_of (timed ∷ before) = if begins (is_enabled (inputs_of before)) timed.input then timed.at else last_of before

-- all that happened: the time since the start, what each end was handed, newest first, and the
-- messages that were sent, in the order of their numbers
pub record History : Type 0 where
  pub time : ℕ
  pub a : List Timed
  pub b : List Timed
  pub sent : List Sent

abbrev pub handed : Side → History → List Timed
handed A h = h.a
handed B h = h.b

-- the message with this number; the first has number 1
abbrev pub sent_at : List Sent → ℕ → Option Sent
sent_at sent k = if k == 0 then None else slice_get sent (k - 1)

abbrev pub handing_to : Side → L1In → Handing
handing_to side input = record { to = side; input = input }

abbrev pub delivery_to : Side → Sent → Handing
delivery_to side sent = handing_to side (given.Msg sent.msg)

-- what an event hands over, and to which end
abbrev pub handing_of : List Sent → L1Event → Option Handing
handing_of sent (Pass dt) = None
handing_of sent (Tick number) = Some (handing_to (side_of number) given.Tick)
handing_of sent (Enable number) = Some (handing_to (side_of number) given.Enable)
handing_of sent (Disable number) = Some (handing_to (side_of number) given.Disable)
handing_of sent (Own number message) = Some (handing_to (side_of number) (given.Own message))
handing_of sent (Deliver number k) = option_map (delivery_to (side_of number)) (sent_at sent k)

-- what of it is for this end
abbrev pub input_to : Side → Option Handing → Option L1In
input_to side None = None
input_to side (Some handing) = if is_side handing.to side then Some handing.input else None

abbrev pub with_input : ℕ → List Timed → Option L1In → List Timed
with_input now timed None = timed
with_input now timed (Some input) = record { at = now; input = input } ∷ timed

-- the time that an event takes
abbrev pub elapsed : L1Event → ℕ
elapsed (Pass dt) = unsigned_abs dt
elapsed _ = 0

abbrev pub sent_by : Side → ℕ → L1Msg → Sent
sent_by side now message = record { by = side; at = now; msg = message }

abbrev pub with_sent : List Sent → Option Sent → List Sent
with_sent sent None = sent
with_sent sent (Some one) = sent ++ (one ∷ [])

-- the message that an event makes an end send: at its tick, the one that is due then
abbrev pub new_sent : ℕ → History → L1Event → Option Sent
new_sent interval h (Tick number) =
    option_map (sent_by (side_of number) h.time) (send_of interval (inputs_of (handed (side_of number) h)) given.Tick)
new_sent interval h _ = None

-- what happened, with one more event
abbrev pub grown : ℕ → History → L1Event → History
grown interval h event =
    record {
      time = h.time + elapsed event;
      a = with_input h.time h.a (input_to A (handing_of h.sent event));
      b = with_input h.time h.b (input_to B (handing_of h.sent event));
      sent = with_sent h.sent (new_sent interval h event);
    }

-- what happened in these events, newest first
abbrev pub history : ℕ → List L1Event → History
history interval [] = record { time = 0; a = []; b = []; sent = [] }
history interval (event ∷ before) = grown interval (history interval before) event

-- ---- the premises

-- premise 1, TickLate, at one end: the time would be more than `dmax` past the last tick or enabling
-- of an enabled end
abbrev pub late_by : (dmax time : ℕ) → Bool → (last : ℕ) → Option Breach
late_by dmax time enabled last =
    if enabled && nat_lt dmax (time - last) then
    Some (record { premise = 1; shown = pos (time - last); bound = pos dmax })
    else None

-- premise 2, NotSent: the number was not given
abbrev pub not_sent : (k last : ℕ) → Breach
not_sent k last = record { premise = 2; shown = pos k; bound = pos last }

-- premise 3, TooOld: the message was sent more than `life` ago
abbrev pub too_old : (life age : ℕ) → Option Breach
too_old life age = if nat_lt life age then Some (record { premise = 3; shown = pos age; bound = pos life }) else None

-- premises 2 and 3 of a message: it was sent by the other end, and not too long ago
abbrev pub delivery_breach : (life now : ℕ) → Side → (k last : ℕ) → Option Sent → Option Breach
delivery_breach life now to k last None = Some (not_sent k last)
delivery_breach life now to k last (Some sent) =
    if is_side sent.by to then Some (not_sent k last) else too_old life (now - sent.at)

-- the premise that an event breaks, the least, by the state of both ends
abbrev pub breach_with :
    Limits → (now : ℕ) → (enabled_a : Bool) (last_a : ℕ) → (enabled_b : Bool) (last_b : ℕ) → List Sent → L1Event → Option Breach
breach_with limits now enabled_a last_a enabled_b last_b sent (Pass dt) =
    option_or (late_by limits.dmax (now + unsigned_abs dt) enabled_a last_a) (late_by limits.dmax (now + unsigned_abs dt) enabled_b last_b)
breach_with limits now enabled_a last_a enabled_b last_b sent (Deliver number k) =
    delivery_breach limits.life now (side_of number) k (length sent) (sent_at sent k)
breach_with limits now enabled_a last_a enabled_b last_b sent _ = None

-- the premise that an event breaks after what happened, the least
abbrev pub breach_of : Limits → History → L1Event → Option Breach
breach_of limits h event =
    breach_with limits h.time (is_enabled (inputs_of h.a)) (last_of h.a) (is_enabled (inputs_of h.b)) (last_of h.b) h.sent event

-- each event of the list was accepted in its turn: it broke no premise
abbrev pub AreAccepted : Limits → List L1Event → Type 0
AreAccepted limits [] = Unit {0}
AreAccepted limits (event ∷ before) =
    (breach_of limits (history limits.interval before) event ≡ None) × AreAccepted limits before

-- ---- what is answered

-- nothing is sent, and no state changes
abbrev pub no_out : L1Out
no_out = record { send = None; moved = None }

abbrev pub out_for : (timeout interval : ℕ) → History → Option Handing → L1Out
out_for timeout interval h None = no_out
out_for timeout interval h (Some handing) = out_of timeout interval (inputs_of (handed handing.to h)) handing.input

-- what an accepted event is answered
abbrev pub answer_of : Limits → History → L1Event → L1Out
answer_of limits h event = out_for limits.timeout limits.interval h (handing_of h.sent event)

-- the premise that an answer reports
abbrev pub told_breach : Result L1Out L1Refused → Option Breach
told_breach (Ok out) = None
told_breach (Err (Broken premise shown bound)) = Some (record { premise = premise; shown = shown; bound = bound })
told_breach (Err (Memory error)) = None

-- ---- the pair

-- what a pair keeps
pub record PairAt : Type 0 where
  pub limits : Limits
  pub time : ℕ
  pub count : ℕ
  pub a : End
  pub b : End
  pub sent : List Sent

-- the end that looking back over what it was handed finds
abbrev pub end_of : (timeout interval : ℕ) → List Timed → End
end_of timeout interval timed =
    record {
      port = port_of timeout interval (inputs_of timed);
      ticks = ticks_of (inputs_of timed);
      last = last_of timed;
    }

-- the pair after this many events, in which this happened
abbrev pub pair_at : Limits → ℕ → History → PairAt
pair_at limits count h =
    record {
      limits = limits;
      time = h.time;
      count = count;
      a = end_of limits.timeout limits.interval h.a;
      b = end_of limits.timeout limits.interval h.b;
      sent = h.sent;
    }

-- the pair stands for these accepted events, newest first
pub record StandsFor (pair : PairAt) (events : List L1Event) : Type 0 where
  pub is : pair ≡ pair_at pair.limits (length events) (history pair.limits.interval events)
  pub accepted : AreAccepted pair.limits events

-- ---- what each event makes of a pair

abbrev pub ticks_after : Bool → L1In → ℕ → ℕ
ticks_after enabled given.Tick ticks = if enabled then ticks + 1 else ticks
ticks_after enabled given.Enable ticks = if enabled then ticks else 0
ticks_after enabled _ ticks = ticks

abbrev pub end_after : ℕ → End → L1In → End
end_after now one input =
    record {
      port = after one.port input;
      ticks = ticks_after one.port.enabled input one.ticks;
      last = if begins one.port.enabled input then now else one.last;
    }

abbrev pub end_if : ℕ → End → Option L1In → End
end_if now one None = one
end_if now one (Some input) = end_after now one input

abbrev pub end_at : Side → PairAt → End
end_at A pair = pair.a
end_at B pair = pair.b

abbrev pub sends_of : PairAt → L1Event → Option Sent
sends_of pair (Tick number) =
    option_map (sent_by (side_of number) pair.time) (due_by (end_at (side_of number) pair).port)
sends_of pair _ = None

-- the pair with the message that an event makes an end send, and with the event counted
abbrev pub noted : PairAt → L1Event → PairAt
noted pair event = record pair { count = pair.count + 1; sent = with_sent pair.sent (sends_of pair event) }

-- the pair whose ends were handed this
abbrev pub handed_over : PairAt → Option Handing → PairAt
handed_over pair handing =
    record pair { a = end_if pair.time pair.a (input_to A handing); b = end_if pair.time pair.b (input_to B handing) }

abbrev pub out_at : PairAt → Option Handing → L1Out
out_at pair None = no_out
out_at pair (Some handing) = out_by (end_at handing.to pair).port handing.input

-- the pair after the rest of an event
abbrev pub changed : PairAt → L1Event → PairAt
changed pair event = record (handed_over pair (handing_of pair.sent event)) { time = pair.time + elapsed event }

abbrev pub breach_by : PairAt → L1Event → Option Breach
breach_by pair event =
    breach_with pair.limits pair.time pair.a.port.enabled pair.a.last pair.b.port.enabled pair.b.last pair.sent event
