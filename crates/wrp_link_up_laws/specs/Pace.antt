-- What good delivery is: how soon each end of a link is given what it waits for. This project's profile.
use Rattle.std.specs.Prelude.{◌≡◌, ◌≢◌, ◌⊎◌, Option, ℕ, ◌+◌, ◌*◌, ◌<◌, max, ℤ, pos, ◌+ℤ◌, ◌≤ℤ◌, true, List, [], ◌∷◌}
use Rattle.wrp_base.specs.declared.link.LinkState.TheVariants.{Idle, SLock}
use Rattle.wrp_base.specs.declared.link.Role.{Role}
use Rattle.wrp_base.specs.declared.link.Role.TheVariants.{Slave}
use Rattle.wrp_base.specs.declared.message.WrMsg.{WrMsg}
use Rattle.wrp_base.specs.declared.message.WrMsg.TheVariants.{Calibrate as CALIBRATE, Calibrated as CALIBRATED}
use Rattle.wrp_base.specs.Link.{other_of}
use Rattle.wrp_link.specs.declared.interface.LinkIn.{LinkIn}
use Rattle.wrp_link.specs.declared.interface.LinkIn.TheVariants.{Msg, Announce, Tick, CarrierDown, CarrierUp}
use Rattle.wrp_link.specs.declared.interface.LinkSet.{LinkSet}
use Rattle.wrp_link.specs.LinkAt.{LinkAt}
use Rattle.wrp_link.specs.Rows.{offers, row_of}
use Rattle.wrp_link.specs.Table.{sent_by}
use Rattle.wrp_handshake_laws.specs.Ends.{Sending, Port, BothPorts, Change, Passes, Hears, Starts, Lights, end_of, IsAmong, stamped, ends_after}
use Rattle.wrp_handshake_laws.specs.Laws.{IsAwake}

-- the longest waits of a link, in tau
pub record Pace : Type 0 where
  -- from a tick of an end to its next
  pub dmax : ℕ
  -- from the sending of a message until the peer hears it for the first time, in whatever state the peer is
  pub delay : ℕ
  -- until the slave hears an Announce that offers White Rabbit, from each moment at which both ends are awake
  -- and the slave is in IDLE
  pub announce : ℕ
  -- until the slave has a tick with its lock detector locked, from each moment at which it is in S_LOCK
  pub lock : ℕ

-- the ticks that a waiting state lasts with all its retries
abbrev pub patience : (wait retries : ℕ) → ℕ
patience wait retries = wait + wait * retries

-- the timers of an end with its own counts, if its peer has others, outlast what the end waits for; its first tick may
-- come at once, so that n ticks are sure to last only n - 1 times dmin
pub record Outlasts (dmin : ℕ) (pace : Pace) (own peers : LinkSet) : Type 0 where
  -- what was sent as a state was entered is heard before the first retry
  pub retry : pace.delay + dmin < own.wait * dmin
  -- the longer of both first waits, a tick and two messages end before the last retry does
  pub waits : (max own.wait peers.wait + 1) * pace.dmax + 2 * pace.delay + dmin < patience own.wait own.retries * dmin
  -- so do the lock detector and two messages, in S_LOCK and in M_LOCK
  pub locks : pace.lock + 2 * pace.delay + dmin < patience own.lock_wait own.retries * dmin

-- the same if no CALIBRATED overtakes a CALIBRATE: no first wait has to end, and there may be no retries
pub record OutlastsInTurn (dmin : ℕ) (pace : Pace) (own : LinkSet) : Type 0 where
  pub waits : pace.dmax + 2 * pace.delay + dmin < patience own.wait own.retries * dmin
  pub locks : pace.lock + 2 * pace.delay + dmin < patience own.lock_wait own.retries * dmin

-- a thing has been owed since a time: it came due then, over a list of changes, the newest first, and no
-- change since has met it
abbrev pub IsOwed : (List Change → ℤ → Type 0) → (Change → Type 0) → List Change → ℤ → Type 0
IsOwed Begins Meets [] at = ⊥
IsOwed Begins Meets (change ∷ older) at =
    Begins (change ∷ older) at ⊎ (IsOwed Begins Meets older at × (Meets change → ⊥))

-- the port of a role sends a message in a change
abbrev pub IsSentBy : BothPorts → Role → Change → Sending → Type 0
IsSentBy ends role (Hears hearer input at) f =
    (hearer ≡ role) × IsAmong f (stamped ends.time (sent_by (row_of (end_of ends hearer).link input)) [])
IsSentBy ends role _ f = ⊥

-- it sends it in the newest of a list of changes
abbrev pub SendsNow : BothPorts → Role → WrMsg → List Change → ℤ → Type 0
SendsNow first role m [] at = ⊥
SendsNow first role m (change ∷ older) at = IsSentBy (ends_after first older) role change (m, at)

-- the port of a role is given a message that was sent at this time
abbrev pub IsHeard : Role → Sending → Change → Type 0
IsHeard role f (Hears hearer input at) = (hearer ≡ role) × ((input ≡ Msg f.0) × (at ≡ f.1))
IsHeard role f _ = ⊥

-- the peer of the port of a role sent a message at this time, since the carriers came, and the port has not heard it
-- yet; one hearing is enough, others may come later, and messages from before the carriers came are never owed
abbrev pub IsUnheard : BothPorts → Role → WrMsg → List Change → ℤ → Type 0
IsUnheard first role m changes at = IsOwed (SendsNow first (other_of role) m) (IsHeard role (m, at)) changes at

-- the ticks of rest that are left to a port in IDLE: the quiet time or the holdoff, whichever is longer
abbrev pub rest_of : LinkAt → ℕ
rest_of l = max l.quiet l.holdoff

-- a port that is awake, and whose holdoff is over too
pub record IsReady (port : Port) : Type 0 where
  pub awake : IsAwake port
  pub free : (port.link.state ≢ Idle) ⊎ (port.link.holdoff ≡ 0)

-- at this time both ends are awake, and the slave is in IDLE with its holdoff over
pub record AreAwake (first : BothPorts) (changes : List Change) (at : ℤ) : Type 0 where
  pub master : IsAwake (ends_after first changes).master
  pub slave : IsReady (ends_after first changes).slave
  pub idle : (ends_after first changes).slave.link.state ≡ Idle
  pub now : at ≡ (ends_after first changes).time

-- the slave is given an Announce that offers White Rabbit
abbrev pub IsOffered : Change → Type 0
IsOffered (Hears hearer input at) =
    (hearer ≡ Slave) × ((suffix : Option ℕ) × ((input ≡ Announce suffix) × (offers suffix ≡ true)))
IsOffered _ = ⊥

-- both ends were awake like this at a time, and no Announce has offered White Rabbit since
abbrev pub IsUnoffered : BothPorts → List Change → ℤ → Type 0
IsUnoffered first changes at = IsOwed (AreAwake first) IsOffered changes at

-- at this time the slave is in S_LOCK
pub record IsLocking (first : BothPorts) (changes : List Change) (at : ℤ) : Type 0 where
  pub locking : (ends_after first changes).slave.link.state ≡ SLock
  pub now : at ≡ (ends_after first changes).time

-- the slave is given a tick with its lock detector locked
abbrev pub IsLockedTick : Change → Type 0
IsLockedTick (Hears hearer input at) = (hearer ≡ Slave) × (input ≡ Tick true)
IsLockedTick _ = ⊥

-- the slave was in S_LOCK at a time, and has had no tick with its lock detector locked since
abbrev pub IsUnlocked : BothPorts → List Change → ℤ → Type 0
IsUnlocked first changes at = IsOwed (IsLocking first) IsLockedTick changes at

-- the time after a list of changes, the newest first
abbrev pub time_after : BothPorts → List Change → ℤ
time_after first changes = (ends_after first changes).time

-- at this moment nothing is owed for longer than the pace allows
pub record IsPrompt (pace : Pace) (first : BothPorts) (changes : List Change) : Type 0 where
  pub ticks : (role : Role) → time_after first changes ≤ℤ ((end_of (ends_after first changes) role).ticked +ℤ pos pace.dmax)
  pub hears : (role : Role) (m : WrMsg) (at : ℤ) → IsUnheard first role m changes at → time_after first changes ≤ℤ (at +ℤ pos pace.delay)
  pub offered : (at : ℤ) → IsUnoffered first changes at → time_after first changes ≤ℤ (at +ℤ pos pace.announce)
  pub locks : (at : ℤ) → IsUnlocked first changes at → time_after first changes ≤ℤ (at +ℤ pos pace.lock)

-- an input with which the carrier neither comes nor goes
abbrev pub LeavesCarrier : LinkIn → Type 0
LeavesCarrier CarrierDown = ⊥
LeavesCarrier (CarrierUp fitted) = ⊥
LeavesCarrier _ = Unit {0}

-- a slave that may begin hears an offer only while its master is awake: a master in quiet time sends nothing, and what
-- it sent before that is too old by then; in its own quiet time or holdoff a slave may hear any offer
abbrev pub OffersAwake : BothPorts → Role → LinkIn → Type 0
OffersAwake ends hearer input =
    hearer ≡ Slave →
    (suffix : Option ℕ) → input ≡ Announce suffix → offers suffix ≡ true →
    IsReady ends.slave →
    IsAwake ends.master

-- a change that leaves both carriers alone, starts no node, and brings no offer of a master that is not awake
abbrev pub IsSteady : BothPorts → Change → Type 0
IsSteady ends (Passes dt) = Unit {0}
IsSteady ends (Hears role input at) = LeavesCarrier input × OffersAwake ends role input
IsSteady ends (Starts role) = ⊥
IsSteady ends (Lights of_master of_slave) = ⊥

-- the delivery is good over a list of changes, the newest first: each is steady, and nothing is late after it
abbrev pub IsGood : Pace → BothPorts → List Change → Type 0
IsGood pace first [] = IsPrompt pace first []
IsGood pace first (change ∷ older) =
    IsSteady (ends_after first older) change × (IsPrompt pace first (change ∷ older) × IsGood pace first older)

-- in this change no CALIBRATED overtakes a CALIBRATE: a port hears a CALIBRATED only after it has heard each CALIBRATE
-- that its peer sent earlier or at the same time
abbrev pub InTurn : BothPorts → List Change → Change → Type 0
InTurn first older (Hears role input at) =
    (tx rx pattern retry period : ℕ) (sent : ℤ) → input ≡ Msg (CALIBRATED tx rx) → sent ≤ℤ at →
    IsUnheard first role (CALIBRATE pattern retry period) older sent → ⊥
InTurn first older _ = Unit {0}

-- this holds of each of a list of changes, the newest first
abbrev pub AllInTurn : BothPorts → List Change → Type 0
AllInTurn first [] = Unit {0}
AllInTurn first (change ∷ older) = InTurn first older change × AllInTurn first older

-- how long after the carriers came a link is up at the latest: the longer quiet time, an offer, the lock
-- detector, six messages, the two ticks that end CALIBRATION, and the first wait of each end, since its
-- CALIBRATED may overtake its CALIBRATE and is then sent again
abbrev pub time_to_up : Pace → (of_master of_slave : LinkSet) → ℕ
time_to_up pace of_master of_slave =
    (max of_master.quiet of_slave.quiet + of_master.wait + of_slave.wait + 2) * pace.dmax
    + pace.announce + pace.lock + 6 * pace.delay

-- the same if no CALIBRATED overtakes a CALIBRATE
abbrev pub time_in_turn : Pace → (of_master of_slave : LinkSet) → ℕ
time_in_turn pace of_master of_slave =
    (max of_master.quiet of_slave.quiet + 2) * pace.dmax + pace.announce + pace.lock + 6 * pace.delay
