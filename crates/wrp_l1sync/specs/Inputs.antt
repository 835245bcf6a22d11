-- What an end of a link is after the list of what it was handed, the newest first: each question
-- looks back over the whole list (after Annex L of IEEE 1588-2019; this project's profile).
use Rattle.std.specs.Prelude.{ℕ, ◌+◌, ◌%◌, ◌==◌, ◌&&◌, Bool, true, false, if◌then◌else◌, nat_lt, List, [], ◌∷◌, Option, None, Some}
use Rattle.wrp_l1sync.specs.declared.interface.L1In.{L1In}
use Rattle.wrp_l1sync.specs.declared.interface.L1In.TheVariants.{Enable, Disable, Own, Msg, Tick}
use Rattle.wrp_l1sync.specs.declared.interface.L1Out.{L1Out}
use Rattle.wrp_l1sync.specs.declared.interface.L1State.{L1State}
use Rattle.wrp_l1sync.specs.declared.interface.L1State.TheVariants.{Disabled, Idle, LinkAlive, ConfigMatch, Up}
use Rattle.wrp_l1sync.specs.declared.message.L1Msg.{L1Msg}
use Rattle.wrp_l1sync.specs.Message.{no_bits, meets}

-- an Enable comes after the last Disable
abbrev pub is_enabled : List L1In → Bool
is_enabled [] = false
is_enabled (Enable ∷ before) = true
is_enabled (Disable ∷ before) = false
is_enabled (_ ∷ before) = is_enabled before

-- the own message: the last one that was set, and none of its bits before
abbrev pub own_of : List L1In → L1Msg
own_of [] = no_bits
own_of (Own message ∷ before) = message
own_of (_ ∷ before) = own_of before

-- the last message since the Enable that ended the last disabled time
abbrev pub last_message : List L1In → Option L1Msg
last_message [] = None
last_message (Disable ∷ before) = None
last_message (Msg message ∷ before) = if is_enabled before then Some message else None
last_message (_ ∷ before) = last_message before

-- how many ticks follow the last message
abbrev pub ticks_since : List L1In → ℕ
ticks_since [] = 0
ticks_since (Msg message ∷ before) = 0
ticks_since (Tick ∷ before) = ticks_since before + 1
ticks_since (_ ∷ before) = ticks_since before

-- the last message, while fewer ticks than `timeout` follow it
abbrev pub live_message : ℕ → List L1In → Option L1Msg
live_message timeout inputs = if nat_lt (ticks_since inputs) timeout then last_message inputs else None

-- the state of an enabled port with this own message, by the message of its peer: none, another
-- requirement, a required bit that is missing at either end, or all
abbrev pub state_with : L1Msg → Option L1Msg → L1State
state_with own None = Idle
state_with own (Some message) =
    if message.req == own.req then
    if meets own.req own.is && meets own.req message.is then Up else ConfigMatch
    else LinkAlive

-- the state
abbrev pub state_of : ℕ → List L1In → L1State
state_of timeout inputs =
    if is_enabled inputs then state_with (own_of inputs) (live_message timeout inputs) else Disabled

-- the tick count: the ticks of an enabled port since the last Enable of a disabled one
abbrev pub ticks_of : List L1In → ℕ
ticks_of [] = 0
ticks_of (Tick ∷ before) = if is_enabled before then ticks_of before + 1 else ticks_of before
ticks_of (Enable ∷ before) = if is_enabled before then ticks_of before else 0
ticks_of (_ ∷ before) = ticks_of before

-- what an input makes the port send: its own message at a tick while it is enabled, if `interval` divides the tick
-- count
abbrev pub send_of : ℕ → List L1In → L1In → Option L1Msg
send_of interval before Tick =
    if is_enabled before && ((ticks_of before + 1) % interval == 0) then Some (own_of before) else None
send_of interval before _ = None

-- the rank of a state in the list of states
abbrev pub rank_of : L1State → ℕ
rank_of Disabled = 0
rank_of Idle = 1
rank_of LinkAlive = 2
rank_of ConfigMatch = 3
rank_of Up = 4

-- the second of two states, if it differs from the first
abbrev pub change_of : L1State → L1State → Option L1State
change_of from to = if rank_of from == rank_of to then None else Some to

-- what a port answers to an input after these
abbrev pub out_of : (timeout interval : ℕ) → List L1In → L1In → L1Out
out_of timeout interval before input =
    record {
      send = send_of interval before input;
      moved = change_of (state_of timeout before) (state_of timeout (input ∷ before));
    }
