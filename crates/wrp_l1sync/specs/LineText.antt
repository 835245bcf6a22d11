-- What `l1sync` writes for an event: the message that an end sends, and the state that it moves to (this project's
-- profile).
use Rattle.std.specs.Prelude.{ℕ, ◌==◌, if◌then◌else◌, Option, None, Some, List, [], ◌∷◌, ◌++◌, length, codes}
use Rattle.std.specs.Fmt.{decimal}
use Rattle.wrp_l1sync.specs.declared.event.Breach.{Breach}
use Rattle.wrp_l1sync.specs.declared.event.L1Event.{L1Event}
use Rattle.wrp_l1sync.specs.declared.event.L1Event.TheVariants.{Pass, Tick, Enable, Disable, Own, Deliver}
use Rattle.wrp_l1sync.specs.declared.event.Limits.{Limits}
use Rattle.wrp_l1sync.specs.declared.event.Side.{Side}
use Rattle.wrp_l1sync.specs.declared.event.Side.TheVariants.{A, B}
use Rattle.wrp_l1sync.specs.declared.interface.L1Out.{L1Out}
use Rattle.wrp_l1sync.specs.declared.interface.L1State.{L1State}
use Rattle.wrp_l1sync.specs.declared.interface.L1State.TheVariants.{Disabled, Idle, LinkAlive, ConfigMatch, Up}
use Rattle.wrp_l1sync.specs.declared.message.L1Msg.{L1Msg}
use Rattle.wrp_l1sync.specs.Inputs.{ticks_of}
use Rattle.wrp_l1sync.specs.Pair.{History, answer_of, handed, history, inputs_of, side_of}
use Rattle.wrp_records.specs.Refusals.{broken_words}
use Rattle.wrp_records.specs.Words.{line_of}

-- the word of an end
abbrev pub end_word : Side → List ℕ
end_word A = codes "a"
end_word B = codes "b"

-- the word of a state
abbrev pub state_word : L1State → List ℕ
state_word Disabled = codes "disabled"
state_word Idle = codes "idle"
state_word LinkAlive = codes "link-alive"
state_word ConfigMatch = codes "config-match"
state_word Up = codes "up"

-- `END TICK send K REQ IS`: an end sends the message of this number
abbrev pub send_line : Side → (tick number : ℕ) → L1Msg → List ℕ
send_line side tick number message =
    line_of
    (end_word side ∷ decimal tick ∷ codes "send" ∷ decimal number ∷ decimal message.req
    ∷ decimal message.is ∷ [])

-- `END TICK STATE`: an end moves to a state
abbrev pub state_line : Side → (tick : ℕ) → L1State → List ℕ
state_line side tick state = line_of (end_word side ∷ decimal tick ∷ state_word state ∷ [])

abbrev pub send_text : Side → (tick number : ℕ) → Option L1Msg → List ℕ
send_text side tick number None = []
send_text side tick number (Some message) = send_line side tick number message

abbrev pub state_text : Side → (tick : ℕ) → Option L1State → List ℕ
state_text side tick None = []
state_text side tick (Some state) = state_line side tick state

-- what an end answers: the message that it sends, and then its new state
abbrev pub out_text : Side → (tick number : ℕ) → L1Out → List ℕ
out_text side tick number out = send_text side tick number out.send ++ state_text side tick out.moved

-- the end that an event is of: a Pass is of none
abbrev pub end_of_event : L1Event → Option ℕ
end_of_event (Pass dt) = None
end_of_event (Tick number) = Some number
end_of_event (Enable number) = Some number
end_of_event (Disable number) = Some number
end_of_event (Own number message) = Some number
end_of_event (Deliver number k) = Some number

-- what an end answers to the last event of what happened: its tick count is the one that looking back over
-- what it was handed finds, and a message that it sends is the newest of all
abbrev pub text_at : Option ℕ → History → L1Out → List ℕ
text_at None h out = []
text_at (Some number) h out =
    out_text (side_of number) (ticks_of (inputs_of (handed (side_of number) h))) (length h.sent) out

-- what is written for an accepted event after the earlier ones, newest first
abbrev pub event_text : Limits → List L1Event → L1Event → List ℕ
event_text limits before event =
    text_at (end_of_event event) (history limits.interval (event ∷ before))
    (answer_of limits (history limits.interval before) event)

-- what is written for all these events, newest first
abbrev pub text_of : Limits → List L1Event → List ℕ
text_of limits [] = []
text_of limits (event ∷ before) = text_of limits before ++ event_text limits before event

-- the name of a premise, by its number
unfoldable pub premise_name : ℕ → List ℕ
premise_name premise =
    if premise == 1 then codes "TickLate"
    else if premise == 2 then codes "NotSent"
    else if premise == 3 then codes "TooOld"
    else []

-- the last line if a record, counted from 1, breaks a premise
abbrev pub breach_line : ℕ → Breach → List ℕ
breach_line number breach =
    broken_words number breach.premise (premise_name breach.premise) breach.shown breach.bound
