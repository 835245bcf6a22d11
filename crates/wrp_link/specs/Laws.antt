-- What the handshake table ensures, in the field's words. This project's profile.
use Rattle.std.specs.Prelude.{◌≡◌, ◌≢◌, ℕ, Bool, ◌+◌, ◌*◌, ◌<◌, ◌≤◌, if◌then◌else◌, nat_lt, true, false, List, map, length, replicate, None, Some}
use Rattle.wrp_base.specs.declared.link.LinkState.{LinkState}
use Rattle.wrp_base.specs.declared.link.LinkState.TheVariants.{Idle, Calibrated, RespCalib, LinkOn}
use Rattle.wrp_base.specs.declared.link.LinkWord.TheVariants.{Quiet, Ptp}
use Rattle.wrp_base.specs.declared.link.Role.{Role}
use Rattle.wrp_base.specs.declared.link.Role.TheVariants.{Master, Slave}
use Rattle.wrp_base.specs.declared.message.WrMsg.TheVariants.{Calibrated as CALIBRATED, ModeOn as WR_MODE_ON}
use Rattle.wrp_link.specs.declared.interface.LinkIn.{LinkIn}
use Rattle.wrp_link.specs.declared.interface.LinkIn.TheVariants.{Msg, Tick}
use Rattle.wrp_link.specs.LinkAt.{LinkAt, Waiting, new_link, wait_of}
use Rattle.wrp_link.specs.Order.{order_of, up_to, passed_by}
use Rattle.wrp_link.specs.Table.{after, run_of, StandsFor, word_of}

-- a CALIBRATED, with whatever delays
abbrev pub TellsDeltas : LinkIn → Type 0
TellsDeltas input = (tx : ℕ) × ((rx : ℕ) × (input ≡ Msg (CALIBRATED tx rx)))

-- the message that turns a link on: WR_MODE_ON at a slave in CALIBRATED, CALIBRATED at a master in
-- RESP_CALIB_REQ
abbrev pub TurnsOn : Role → LinkState → LinkIn → Type 0
TurnsOn Slave state input = (state ≡ Calibrated) × (input ≡ Msg WR_MODE_ON)
TurnsOn Master state input = (state ≡ RespCalib) × TellsDeltas input

-- only the message of its role brings a port to WR_LINK_ON
abbrev pub OneMessageTurnsOn : Type 0
OneMessageTurnsOn =
    (l : LinkAt) (inputs : List LinkIn) (input : LinkIn) →
    StandsFor l inputs →
    l.state ≢ LinkOn → (after l input).state ≡ LinkOn → TurnsOn l.role l.state input

-- the states that a port passed since it was last in IDLE are the states of its role up to its own, each in its turn
abbrev pub EachStateInItsTurn : Type 0
EachStateInItsTurn =
    (l : LinkAt) (inputs : List LinkIn) →
    StandsFor l inputs →
    passed_by (new_link l.role l.set) inputs ≡ up_to l.state (order_of l.role)

-- a port in IDLE keeps no deltas of its peer
abbrev pub IdleKeepsNoDeltas : Type 0
IdleKeepsNoDeltas =
    (l : LinkAt) (inputs : List LinkIn) → StandsFor l inputs → l.state ≡ Idle → l.deltas ≡ None

-- quiet time lasts exactly the ticks that are left of it, whatever the lock detector says
abbrev pub QuietTimeLasts : Type 0
QuietTimeLasts =
    (l : LinkAt) (ticks : List Bool) →
    l.carrier ≡ true → l.state ≡ Idle →
    word_of (run_of l (map Tick ticks)) ≡ (if nat_lt (length ticks) l.quiet then Quiet else Ptp)

-- the ticks that a waiting state has left: those of its timer, and a whole wait for each retry
abbrev pub patience_of : ℕ → Waiting → ℕ
patience_of wait w = w.ticks + wait * w.retries

-- a port in a waiting state that is given only ticks, with the lock detector not locked, stays there for exactly the
-- ticks that it has left, less one, and fails at the last
abbrev pub UnheardFails : Type 0
UnheardFails =
    (l : LinkAt) (w : Waiting) (wait : ℕ) (ticks : ℕ) →
    l.carrier ≡ true →
    wait_of l.set l.state ≡ Some wait →
    l.waiting ≡ Some w →
    1 ≤ wait →
    1 ≤ w.ticks →
    (ticks < patience_of wait w → (run_of l (replicate ticks (Tick false))).state ≡ l.state)
    × (ticks ≡ patience_of wait w → (run_of l (replicate ticks (Tick false))).state ≡ Idle)
