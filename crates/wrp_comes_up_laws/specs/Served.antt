-- How a link of a world is served since its carriers came: how soon each end is given what it waits for (this project's profile).
use Rattle.std.specs.Prelude.{◌≡◌, ◌⊎◌, ℕ, ℤ, pos, ◌+ℤ◌, ◌≤ℤ◌, Bool, true, false, List, [], ◌∷◌, ◌++◌, Some}
use Rattle.wrp_base.specs.declared.link.LinkState.TheVariants.{SLock}
use Rattle.wrp_base.specs.declared.link.Role.{Role}
use Rattle.wrp_base.specs.declared.link.Role.TheVariants.{Master, Slave}
use Rattle.wrp_base.specs.declared.message.Body.{Body}
use Rattle.wrp_base.specs.declared.message.Body.TheVariants.{Announce}
use Rattle.wrp_base.specs.declared.message.WrMsg.{WrMsg}
use Rattle.wrp_base.specs.declared.message.WrMsg.TheVariants.{Calibrate as CALIBRATE, Calibrated as CALIBRATED}
use Rattle.wrp_network.specs.declared.network.LinkCfg.{LinkCfg}
use Rattle.wrp_base.specs.Link.{other_of}
use Rattle.wrp_handshake_laws.specs.Ends.{BothPorts}
use Rattle.wrp_link.specs.Rows.{offers}
use Rattle.wrp_node.specs.NodeAt.{locked_of}
use Rattle.wrp_node.specs.NodeStep.{servo_ticked}
use Rattle.wrp_course.specs.declared.event.Event.{Event}
use Rattle.wrp_course.specs.declared.event.Event.TheVariants.{Deliver, Tick}
use Rattle.wrp_course.specs.Given.{in_body}
use Rattle.wrp_course.specs.LinkEnds.{ends_at}
use Rattle.wrp_course.specs.Run.{Happened, world_after}
use Rattle.wrp_course.specs.Runs.{WasPutOut}
use Rattle.wrp_course.specs.Setting.{Setting, node_setting_of}
use Rattle.wrp_course.specs.WorldAt.{FrameAt, Sending, WorldAt, has_carrier}

-- a link of a network, the event from which it is followed, in which its carriers came or after which both its ends
-- rest, and all events before that one, the newest first
pub record Beginning : Type 0 where
  pub s : Setting
  pub k : ℕ
  pub link : LinkCfg
  pub event : Happened
  pub before : List Happened

-- all events, with the events since, the newest first
abbrev pub events_of : Beginning → List Happened → List Happened
events_of l since = since ++ l.event ∷ l.before

-- the world after them, and both ends of the link in it
abbrev pub world_of : Beginning → List Happened → WorldAt
world_of l since = world_after l.s (events_of l since)

abbrev pub ends_of : Beginning → List Happened → BothPorts
ends_of l since = ends_at l.s (world_of l since) l.k l.link

-- this held then, and after each event since
abbrev pub Throughout : (List Happened → Type 0) → List Happened → Type 0
Throughout Holds [] = Holds []
Throughout Holds (h ∷ since) = Holds (h ∷ since) × Throughout Holds since

-- a thing has been owed since a time: it came due then, in an event since the beginning, and no event after that one
-- has met it
abbrev pub IsOwed : (List Happened → ℤ → Type 0) → (List Happened → Event → Type 0) → List Happened → ℤ → Type 0
IsOwed Begins Meets [] at = ⊥
IsOwed Begins Meets (h ∷ since) at = Begins (h ∷ since) at ⊎ (IsOwed Begins Meets since at × (Meets since h.event → ⊥))

-- Messages

-- the end of this role put out a frame with this White Rabbit message, at this time, in the newest event
pub record PutsOut (l : Beginning) (role : Role) (m : WrMsg) (since : List Happened) (at : ℤ) : Type 0 where
  pub frame : Sending
  pub put : WasPutOut frame ((world_of l since).end_at l.k role).sent
  pub newest : frame.moment ≡ (world_of l since).count
  pub holds : in_body frame.message.body frame.at ≡ Some (m, at)

-- an event hands over, to the end of this role, a frame that the other end sent
pub record Hands (l : Beginning) (role : Role) (since : List Happened) (event : Event) : Type 0 where
  pub number : ℕ
  pub frame : FrameAt
  pub is : event ≡ Deliver number
  pub there : (world_of l since).frame number ≡ Some frame
  pub link : frame.link ≡ l.k
  pub by : frame.by ≡ other_of role

-- a frame with this White Rabbit message, which was put out at this time
abbrev pub HandsMessage : Beginning → Role → WrMsg → ℤ → List Happened → Event → Type 0
HandsMessage l role m at since event =
    (it : Hands l role since event) × (in_body it.frame.sending.message.body it.frame.sending.at ≡ Some (m, at))

-- the other end put out a message at this time, since the beginning, and the end of this role has not been handed it
-- since; once is enough, and messages from before the beginning are never owed
abbrev pub IsUnheard : Beginning → Role → WrMsg → List Happened → ℤ → Type 0
IsUnheard l role m since at = IsOwed (PutsOut l (other_of role) m) (HandsMessage l role m at) since at

-- Offers

-- an Announce that offers White Rabbit
abbrev pub offers_in : Body → Bool
offers_in (Announce origin utc p1 quality p2 gm steps source suffix) = offers suffix
offers_in _ = false

-- the master put out a frame with an offer, at this time, in the newest event
pub record PutsOffer (l : Beginning) (since : List Happened) (at : ℤ) : Type 0 where
  pub frame : Sending
  pub put : WasPutOut frame ((world_of l since).end_at l.k Master).sent
  pub newest : frame.moment ≡ (world_of l since).count
  pub offers : offers_in frame.message.body ≡ true
  pub time : frame.at ≡ at

-- an event hands the slave a frame with an offer
abbrev pub HandsOffer : Beginning → List Happened → Event → Type 0
HandsOffer l since event = (it : Hands l Slave since event) × (offers_in it.frame.sending.message.body ≡ true)

-- the master put out an offer at a time, and the slave has not been handed any since
abbrev pub IsOfferUnheard : Beginning → List Happened → ℤ → Type 0
IsOfferUnheard l since at = IsOwed (PutsOffer l) (HandsOffer l) since at

-- The lock detector

-- the slave's node ticks with its lock detector locked, once its servo was given the tick
abbrev pub TicksLocked : Beginning → List Happened → Event → Type 0
TicksLocked l since event =
    (event ≡ Tick l.link.lower)
    × (locked_of (node_setting_of l.s l.link.lower) (servo_ticked (node_setting_of l.s l.link.lower) ((world_of l since).node l.link.lower)).node ≡ true)

-- at this time the slave is in S_LOCK
pub record IsLocking (l : Beginning) (since : List Happened) (at : ℤ) : Type 0 where
  pub locking : (ends_of l since).slave.link.state ≡ SLock
  pub now : at ≡ (world_of l since).time

-- the slave was in S_LOCK at this time, and its node has not ticked with its lock detector locked since
abbrev pub IsUnlocked : Beginning → List Happened → ℤ → Type 0
IsUnlocked l since at = IsOwed (IsLocking l) (TicksLocked l) since at

-- All of it

-- the longest waits of a link, in tau
pub record LongestWaits : Type 0 where
  -- from the sending of a White Rabbit message, or of an offer, until it is handed over for the first time
  pub delay : ℕ
  -- until the slave's node ticks with its lock detector locked, from each moment at which the slave is in S_LOCK
  pub lock : ℕ

-- at this moment the link has its carrier, and nothing is owed for longer than its waits allow
pub record IsServed (waits : LongestWaits) (l : Beginning) (since : List Happened) : Type 0 where
  pub carried : has_carrier l.s (world_of l since) l.k ≡ true
  pub hears : (role : Role) (m : WrMsg) (at : ℤ) → IsUnheard l role m since at → (world_of l since).time ≤ℤ (at +ℤ pos waits.delay)
  pub offered : (at : ℤ) → IsOfferUnheard l since at → (world_of l since).time ≤ℤ (at +ℤ pos waits.delay)
  pub locks : (at : ℤ) → IsUnlocked l since at → (world_of l since).time ≤ℤ (at +ℤ pos waits.lock)

-- no CALIBRATED overtakes a CALIBRATE: an end is handed a CALIBRATED only after it was handed each CALIBRATE that its
-- peer put out earlier or at the same time
abbrev pub InTurn : Beginning → List Happened → Type 0
InTurn l [] = Unit {0}
InTurn l (h ∷ since) =
    (role : Role) (tx rx pattern retry period : ℕ) (sent at : ℤ) →
    HandsMessage l role (CALIBRATED tx rx) at since h.event → sent ≤ℤ at →
    IsUnheard l role (CALIBRATE pattern retry period) since sent → ⊥
