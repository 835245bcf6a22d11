-- The handshake table as a machine: what a link is after an input and after a list of them, what it sends, and what it
-- reports. The rows are in Rows; the counts are this project's profile.
use Rattle.std.specs.Prelude.{◌≡◌, ℕ, ◌+◌, ◌-◌, min, Bool, true, false, if◌then◌else◌, ◌==◌, List, [], ◌∷◌, Option, None, Some}
use Rattle.wrp_base.specs.declared.link.LinkState.{LinkState}
use Rattle.wrp_base.specs.declared.link.LinkState.TheVariants.{Idle, Present, SLock, MLock, Locked, Calibration, Calibrated, RespCalib, LinkOn}
use Rattle.wrp_base.specs.declared.link.LinkWord.{LinkWord}
use Rattle.wrp_base.specs.declared.link.LinkWord.TheVariants.{Down, Quiet, Ptp, In}
use Rattle.wrp_base.specs.declared.message.WrMsg.{WrMsg}
use Rattle.wrp_link.specs.declared.interface.LinkIn.{LinkIn}
use Rattle.wrp_link.specs.declared.interface.LinkIn.TheVariants.{Msg}
use Rattle.wrp_link.specs.LinkAt.{LinkAt, Waiting, new_link, wait_of, armed, entering, failed, with_carrier}
use Rattle.wrp_link.specs.Rows.{Row, NoRow, Stays, Moves, Keeps, Resends, Fails, Waits, Counts, CarrierComes, CarrierGoes, row_of}

-- one tick less on a timer
abbrev pub ticked : Option Waiting → Option Waiting
ticked None = None
ticked (Some w) = Some (record w { ticks = w.ticks - 1 })

-- one retry less, and the timer armed again with this many ticks
abbrev pub retried : Option Waiting → Option ℕ → Option Waiting
retried (Some w) ticks = armed ticks (w.retries - 1)
retried None ticks = None

-- the link after a tick that is counted: in IDLE the quiet time and the holdoff run, in WR_LINK_ON the ticks of that
-- state are counted, up to the end of their type
abbrev pub counted : LinkAt → LinkState → LinkAt
counted l Idle = record l { quiet = l.quiet - 1; holdoff = l.holdoff - 1 }
counted l LinkOn = record l { on_ticks = min (l.on_ticks + 1) 4_294_967_295 }
counted l _ = l

-- the link after a row
abbrev pub by_row : LinkAt → Row → LinkAt
by_row l NoRow = l
by_row l (Stays sends) = l
by_row l (Moves next sends) = entering l next
by_row l (Keeps tx rx next sends) = record (entering l next) { deltas = Some (tx, rx) }
by_row l (Resends sends) = record l { waiting = retried l.waiting (wait_of l.set l.state) }
by_row l Fails = failed l
by_row l Waits = record l { waiting = ticked l.waiting }
by_row l Counts = counted l l.state
by_row l (CarrierComes own_module) = with_carrier l own_module
by_row l CarrierGoes = new_link l.role l.set

-- the messages that a row sends, in their order
abbrev pub sent_by : Row → List WrMsg
sent_by (Stays sends) = sends
sent_by (Moves next sends) = sends
sent_by (Keeps tx rx next sends) = sends
sent_by (Resends sends) = sends
sent_by _ = []

-- the link after an input
abbrev pub after : LinkAt → LinkIn → LinkAt
after l input = by_row l (row_of l input)

-- the messages that an input sends
abbrev pub sends_of : LinkAt → LinkIn → List WrMsg
sends_of l input = sent_by (row_of l input)

-- a row that is there
abbrev pub is_row : Row → Bool
is_row NoRow = false
is_row _ = true

-- what a row answers to a message: None if there is none
abbrev pub answer_by : Row → Option (List WrMsg)
answer_by row = if is_row row then Some (sent_by row) else None

-- what an input answers: None for a message without a row
abbrev pub answer_to : LinkAt → LinkIn → Option (List WrMsg)
answer_to l (Msg message) = answer_by (row_of l (Msg message))
answer_to l input = Some (sends_of l input)

-- whether an input is used: only a message without a row is not
abbrev pub is_used : LinkAt → LinkIn → Bool
is_used l (Msg message) = is_row (row_of l (Msg message))
is_used l _ = true

-- the rank of a state in the list of states
abbrev pub rank_of : LinkState → ℕ
rank_of Idle = 0
rank_of Present = 1
rank_of SLock = 2
rank_of MLock = 3
rank_of Locked = 4
rank_of Calibration = 5
rank_of Calibrated = 6
rank_of RespCalib = 7
rank_of LinkOn = 8

-- whether two states are one
abbrev pub is_same : LinkState → LinkState → Bool
is_same a b = rank_of a == rank_of b

-- the second of two states, if it differs from the first
abbrev pub change_of : LinkState → LinkState → Option LinkState
change_of from to = if is_same from to then None else Some to

-- the state that an input moves the link to, if it differs from the one before
abbrev pub moved_by : LinkAt → LinkIn → Option LinkState
moved_by l input = change_of l.state (after l input).state

-- the link after a list of inputs, newest first
abbrev pub run_of : LinkAt → List LinkIn → LinkAt
run_of l [] = l
run_of l (input ∷ before) = after (run_of l before) input

-- the link is what these inputs, newest first, and no others, made of a new link of its role and set
abbrev pub StandsFor : LinkAt → List LinkIn → Type 0
StandsFor l inputs = l ≡ run_of (new_link l.role l.set) inputs

-- the word for a state with a carrier, by the quiet time that is left
abbrev pub word_in : LinkState → ℕ → LinkWord
word_in Idle quiet = if quiet == 0 then Ptp else Quiet
word_in state quiet = In state

-- the word that the port reports
abbrev pub word_of : LinkAt → LinkWord
word_of l = if l.carrier then word_in l.state l.quiet else Down

-- the peer's deltaTx and deltaRx of this handshake, in tau
abbrev pub deltas_of : LinkAt → Option (ℕ × ℕ)
deltas_of l = l.deltas
