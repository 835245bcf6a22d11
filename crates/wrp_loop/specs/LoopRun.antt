-- Runs of a loop: the events and the forged datagrams that follow from what a link gave (this project's profile).
-- The simulator gives events; its arrivals make calls of the link, and what the link then gives is handled. Events
-- and turns are newest first, rounds and calls oldest first.
use Rattle.std.specs.Prelude.{◌≡◌, ℕ, ℤ, ◌+◌, ◌*◌, ◌<◌, ◌≤◌, ◌⊎◌, List, [], ◌∷◌, ◌++◌, length, Some, Result}
use Rattle.arrayvec.specs.ArrayVec.{ArrayVec}
use Rattle.wrp_base.specs.declared.message.PtpMsg.{PtpMsg}
use Rattle.wrp_base.specs.declared.time.Raw.{Raw}
use Rattle.wrp_frame.specs.declared.fault.FrameFault.{FrameFault}
use Rattle.wrp_io.specs.declared.link.LinkCall.{LinkCall}
use Rattle.wrp_io.specs.declared.link.LinkCall.TheVariants.{Start}
use Rattle.wrp_course.specs.declared.event.Event.{Event}
use Rattle.wrp_course.specs.declared.event.Event.TheVariants.{Arrive, Deliver, Noise}
use Rattle.wrp_course.specs.EventAt.{link_count}
use Rattle.wrp_course.specs.Run.{AllSaid, Happened, IsSaid, world_after}
use Rattle.wrp_course.specs.Setting.{Setting}
use Rattle.wrp_course.specs.WorldAt.{FrameAt, WorldAt}
use Rattle.wrp_sim.specs.Keeps.{Between, Comes, LeftOut, Turn, events_of}
use Rattle.wrp_scene.specs.EventLimit.{event_limit}
use Rattle.wrp_scene.specs.Scenario.{SceneAt}
use Rattle.wrp_sim.specs.SimAt.{SimAt, new_sim}
use Rattle.wrp_sim.specs.SimRun.{GivesEvent}
use Rattle.wrp_loop.specs.Calls.{arrival_calls, most_taken}
use Rattle.wrp_loop.specs.declared.fate.Fate.{Fate}
use Rattle.wrp_loop.specs.declared.fate.Fate.TheVariants.{Handed, Forged, Noisy}
use Rattle.wrp_loop.specs.Datagrams.{IsFate, IsWayOf, Way, receiving_end, sending_end}

-- what a loop runs by: a network, a scenario of it, and a seed
pub record Plan : Type 0 where
  pub setting : Setting
  pub scene : SceneAt
  pub seed : ℕ

-- what a loop has come to: the turns of the simulator and its world, what has been drawn and done, and how many datagrams were
-- forged
pub record LoopAt : Type 0 where
  pub turns : List Turn
  pub at : SimAt
  pub forged : ℕ

abbrev pub loop_start : Plan → LoopAt
loop_start x = record { turns = []; at = new_sim x.scene x.seed; forged = 0 }

abbrev pub events_at : LoopAt → List Happened
events_at l = events_of l.turns

abbrev pub world_at : Plan → LoopAt → WorldAt
world_at x l = world_after x.setting (events_at l)

-- Numbers of events

-- the next event has a number that is allowed, or it does not
abbrev pub HasRoom : LoopAt → Type 0
HasRoom l = length (events_at l) + 1 < event_limit

abbrev pub IsFull : LoopAt → Type 0
IsFull l = length (events_at l) + 1 ≡ event_limit

-- a loop goes on from here, or is over because the number of its next event is too great
pub data Going : Type 0 where
  On : (at : LoopAt) → Going
  Full : (at : LoopAt) → Going

abbrev pub place : Going → LoopAt
place (On l) = l
place (Full l) = l

-- One datagram

abbrev pub happened : Event → Result PtpMsg FrameFault → ℤ → Happened
happened e says answer = record { event = e; says = says; answer = answer }

-- an event came between the events of the simulator
abbrev pub with_between : Happened → LoopAt → LoopAt
with_between h l = record l { turns = Between h ∷ l.turns }

-- it comes, or its number is too great
abbrev pub ComesBetween : LoopAt → Event → Going → Type 0
ComesBetween l e next =
    (IsFull l × (next ≡ Full l))
    ⊎ (HasRoom l × (says : Result PtpMsg FrameFault) × (answer : ℤ) × IsSaid e says
    × (next ≡ On (with_between (happened e says answer) l)))

-- the raw stamp of octets that no port sent: both counters 1, and tag 0
abbrev pub noise_stamp : Raw
noise_stamp = record { rising = 1; falling = 1; tag = 0 }

-- what follows from a datagram with this fate
abbrev pub FollowsFate : Way → ArrayVec ℕ → LoopAt → Fate → Going → Type 0
FollowsFate way frame l (Handed i) next = ComesBetween l (Deliver i) next
FollowsFate way frame l Forged next = next ≡ On (record l { forged = l.forged + 1 })
FollowsFate way frame l Noisy next = ComesBetween l (Noise way.to.node way.to.port frame noise_stamp) next

-- what follows from a datagram that came this way
abbrev pub Handles : Plan → Way → ArrayVec ℕ → LoopAt → Going → Type 0
Handles x way frame l next =
    (fate : Fate) × IsFate x.setting (events_at l) way frame.items fate × FollowsFate way frame l fate next

-- and from the datagrams that are taken at an arrival, in the order in which they came
abbrev pub HandlesAll : Plan → Way → List (ArrayVec ℕ) → Going → Going → Type 0
HandlesAll x way [] now last = last ≡ now
HandlesAll x way (frame ∷ got) (Full l) last = last ≡ Full l
HandlesAll x way (frame ∷ got) (On l) last =
    (next : Going) × Handles x way frame l next × HandlesAll x way got next last

-- One event of the simulator

-- it gives this event, and after it so much has been drawn and done
abbrev pub GivesNext : Plan → LoopAt → Event → SimAt → Type 0
GivesNext x l e new = GivesEvent x.scene x.setting (world_at x l) l.at e new

-- an event that is not an arrival and hands no frame over
abbrev pub IsPlain : Event → Type 0
IsPlain (Arrive i raw) = ⊥
IsPlain (Deliver i) = ⊥
IsPlain _ = Unit {0}

-- an event by which the simulator hands a frame over has no number, because it is left out
abbrev pub IsCounted : Event → Type 0
IsCounted (Deliver i) = ⊥
IsCounted _ = Unit {0}

-- an event of the simulator came, or was left out
abbrev pub with_event : Happened → SimAt → LoopAt → LoopAt
with_event h new l = record { turns = Comes h ∷ l.turns; at = new; forged = l.forged }

abbrev pub without_frame : ℕ → SimAt → LoopAt → LoopAt
without_frame i new l = record { turns = LeftOut i ∷ l.turns; at = new; forged = l.forged }

-- an event that is not an arrival and hands no frame over comes
pub record PlainComes (x : Plan) (l : LoopAt) (next : Going) : Type 0 where
  pub newest : Happened
  pub new : SimAt
  pub gives : GivesNext x l newest.event new
  pub plain : IsPlain newest.event
  pub room : HasRoom l
  pub leads : next ≡ On (with_event newest new l)

-- an event that hands a frame over is left out
pub record FrameLeftOut (x : Plan) (l : LoopAt) (next : Going) : Type 0 where
  pub number : ℕ
  pub new : SimAt
  pub gives : GivesNext x l (Deliver number) new
  pub leads : next ≡ On (without_frame number new l)

-- a frame with this number arrives by this way, and has these octets
pub record FrameArrives (x : Plan) (l : LoopAt) (number : ℕ) (way : Way) (octets : List ℕ) : Type 0 where
  pub raw : Raw
  pub new : SimAt
  pub gives : GivesNext x l (Arrive number raw) new
  pub room : HasRoom l
  pub frame : FrameAt
  pub is : (world_at x l).frame number ≡ Some frame
  pub way_is : IsWayOf x.setting frame way octets

-- a frame arrives; its octets are sent at the end that sent it, datagrams are taken at the other end, and then
-- these datagrams are handled
pub record FrameCarried (x : Plan) (l : LoopAt) (calls : List LinkCall) (next : Going) : Type 0 where
  pub number : ℕ
  pub way : Way
  pub octets : List ℕ
  pub arrives : FrameArrives x l number way octets
  pub got : List (ArrayVec ℕ)
  pub few : length got ≤ most_taken
  pub made : calls ≡ arrival_calls (sending_end way) (receiving_end way) octets got
  pub says : Result PtpMsg FrameFault
  pub answer : ℤ
  pub handled : HandlesAll x way got (On (with_event (happened (Arrive number arrives.raw) says answer) arrives.new l)) next

-- what is done for an event of the simulator
pub data Round : Type 0 where
  Plain : Round
  Dropped : Round
  Carried : Round

-- a round that made these calls and led there
abbrev pub IsRound : Plan → LoopAt → Round → List LinkCall → Going → Type 0
IsRound x l Plain calls next = (calls ≡ []) × PlainComes x l next
IsRound x l Dropped calls next = (calls ≡ []) × FrameLeftOut x l next
IsRound x l Carried calls next = FrameCarried x l calls next

-- All of them

-- the first of these rounds made the first of these calls, and the other rounds go on from where it
-- led
abbrev pub Goes : Plan → Going → List Round → List LinkCall → Going → Type 0
Goes x now [] calls last = (calls ≡ []) × (last ≡ now)
Goes x (Full l) (r ∷ rounds) calls last = ⊥
Goes x (On l) (r ∷ rounds) calls last =
    (next : Going) × (made : List LinkCall) × (later : List LinkCall) × IsRound x l r made next
    × (calls ≡ made ++ later) × Goes x next rounds later last

-- a loop, from its start, whose link showed these calls; octets are read as they say
pub record Loops (x : Plan) (calls : List LinkCall) (last : Going) : Type 0 where
  pub rounds : List Round
  pub later : List LinkCall
  pub told : calls ≡ Start (2 * link_count x.setting.cfg) ∷ later
  pub goes : Goes x (On (loop_start x)) rounds later last
  pub said : AllSaid (events_at (place last))
