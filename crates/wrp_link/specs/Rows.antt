-- The handshake table: for each role and state, what a message, an Announce or a tick leads to and which messages it
-- sends. The names of messages and states are the names of the White Rabbit Specification 2.0; the rows are this
-- project's profile.
use Rattle.std.specs.Prelude.{ℕ, ◌%◌, Bool, true, false, if◌then◌else◌, ◌&&◌, ◌==◌, nat_lt, nat_le, is_some, List, [], ◌∷◌, Option, None, Some}
use Rattle.wrp_base.specs.declared.link.LinkState.{LinkState}
use Rattle.wrp_base.specs.declared.link.LinkState.TheVariants.{Idle, Present, SLock, MLock, Locked, Calibration, Calibrated, RespCalib, LinkOn}
use Rattle.wrp_base.specs.declared.link.Module.{Module}
use Rattle.wrp_base.specs.declared.link.Role.{Role}
use Rattle.wrp_base.specs.declared.link.Role.TheVariants.{Master, Slave}
use Rattle.wrp_base.specs.declared.message.WrMsg.{WrMsg}
use Rattle.wrp_base.specs.declared.message.WrMsg.TheVariants.{Present as SLAVE_PRESENT, Lock as LOCK, Locked as LOCKED, Calibrate as CALIBRATE, Calibrated as CALIBRATED, ModeOn as WR_MODE_ON}
use Rattle.wrp_link.specs.declared.interface.LinkIn.{LinkIn}
use Rattle.wrp_link.specs.declared.interface.LinkIn.TheVariants.{Msg, Announce, Tick, CarrierDown, CarrierUp}
use Rattle.wrp_link.specs.LinkAt.{LinkAt, Waiting}

-- what a row says
pub data Row : Type 0 where
  -- there is none: nothing changes
  NoRow : Row
  -- the state stays, its timer runs on, and these messages are sent
  Stays : List WrMsg → Row
  -- this state is entered, and these messages are sent
  Moves : LinkState → List WrMsg → Row
  -- the same, and the peer's deltaTx and deltaRx are kept
  Keeps : ℕ → ℕ → LinkState → List WrMsg → Row
  -- the timer ended: it is armed again for one retry, and these messages are sent
  Resends : List WrMsg → Row
  -- the handshake failed
  Fails : Row
  -- the timer runs on
  Waits : Row
  -- the tick is counted by the counts of the state
  Counts : Row
  -- the carrier came, with this module
  CarrierComes : Option Module → Row
  -- the carrier went
  CarrierGoes : Row

-- a row that holds under a condition
abbrev pub under : Bool → Row → Row
under holds row = if holds then row else NoRow

-- the CALIBRATE that a port sends: calSendPattern, calRetry and calPeriod are 0
abbrev pub own_calibrate : WrMsg
own_calibrate = CALIBRATE 0 0 0

-- the CALIBRATED that a port sends: its own module's delays
abbrev pub own_calibrated : Option Module → WrMsg
own_calibrated (Some own_module) = CALIBRATED own_module.tx own_module.rx
own_calibrated None = CALIBRATED 0 0

-- a port may leave IDLE: quiet time is over, its module is listed, and the link is a White Rabbit link
abbrev pub may_leave_idle : LinkAt → Bool
may_leave_idle l = (l.quiet == 0) && (is_some l.own_module && l.set.wr)

-- the rows of a message at a slave
abbrev pub slave_row : LinkState → WrMsg → Row
slave_row Present LOCK = Moves SLock []
slave_row Locked (CALIBRATE _ _ _) = Moves RespCalib []
slave_row RespCalib (CALIBRATED tx rx) = Keeps tx rx Calibration (own_calibrate ∷ [])
slave_row Calibrated WR_MODE_ON = Moves LinkOn []
slave_row _ _ = NoRow

-- the rows of a message at a master
abbrev pub master_row : LinkAt → LinkState → WrMsg → Row
master_row l Idle SLAVE_PRESENT = under (may_leave_idle l) (Moves MLock (LOCK ∷ []))
master_row l MLock SLAVE_PRESENT = Stays (LOCK ∷ [])
master_row l MLock LOCKED = Moves Calibration (own_calibrate ∷ [])
master_row l Calibrated (CALIBRATE _ _ _) = Moves RespCalib []
master_row l RespCalib (CALIBRATED tx rx) = Keeps tx rx LinkOn (WR_MODE_ON ∷ [])
master_row l LinkOn (CALIBRATED _ _) = Stays (WR_MODE_ON ∷ [])
master_row l LinkOn SLAVE_PRESENT = under (nat_le l.set.quiet l.on_ticks) Fails
master_row l _ _ = NoRow

-- the rows of a message, by role
abbrev pub message_row : LinkAt → Role → WrMsg → Row
message_row l Slave message = slave_row l.state message
message_row l Master message = master_row l l.state message

-- wrFlags that offer White Rabbit: bit 0 is set
abbrev pub offers : Option ℕ → Bool
offers (Some flags) = (flags % 2) == 1
offers None = false

-- the row of an Announce: a slave in IDLE begins, after its holdoff is over too
abbrev pub announce_row : LinkAt → Role → LinkState → Option ℕ → Row
announce_row l Slave Idle suffix =
    under (offers suffix && ((l.holdoff == 0) && may_leave_idle l)) (Moves Present (SLAVE_PRESENT ∷ []))
announce_row l _ _ suffix = NoRow

-- what a state sends again when its timer ends
abbrev pub resent : LinkAt → LinkState → List WrMsg
resent l Present = SLAVE_PRESENT ∷ []
resent l MLock = LOCK ∷ []
resent l Locked = LOCKED ∷ []
resent l Calibrated = own_calibrate ∷ (own_calibrated l.own_module ∷ [])
resent l _ = []

-- the row of a tick in a waiting state: its timer runs on, or it ends, with a retry left or without
abbrev pub timer_row : LinkAt → Option Waiting → Row
timer_row l (Some w) =
    if w.ticks == 1 then (if nat_lt 0 w.retries then Resends (resent l l.state) else Fails) else Waits
timer_row l None = Waits

-- the rows of a tick, with the lock detector locked or not
abbrev pub tick_row : LinkAt → LinkState → Bool → Row
tick_row l Idle _ = Counts
tick_row l LinkOn _ = Counts
tick_row l SLock true = Moves Locked (LOCKED ∷ [])
tick_row l Calibration _ = Moves Calibrated (own_calibrated l.own_module ∷ [])
tick_row l _ _ = timer_row l l.waiting

-- the row of any input: without a carrier there is only the row of a carrier that comes
abbrev pub row_of : LinkAt → LinkIn → Row
row_of l (Msg message) = under l.carrier (message_row l l.role message)
row_of l (Announce suffix) = under l.carrier (announce_row l l.role l.state suffix)
row_of l (Tick locked) = under l.carrier (tick_row l l.state locked)
row_of l CarrierDown = under l.carrier CarrierGoes
row_of l (CarrierUp own_module) = CarrierComes own_module
