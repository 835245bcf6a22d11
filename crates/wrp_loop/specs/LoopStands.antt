-- What the code of a loop stands for as the loop goes on (this project's profile).
use Rattle.std.specs.Prelude.{◌≡◌, ◌<◌, ◌≤◌, ℕ, ℤ, Bool, true, false, Option, None, Some, List, ◌∷◌, ◌++◌, length, Result}
use Rattle.std.specs.List.{AllByRecursion, concat, flat_map}
use Rattle.arrayvec.specs.ArrayVec.{ArrayVec}
use Rattle.wrp_base.specs.declared.message.PtpMsg.{PtpMsg}
use Rattle.wrp_base.specs.declared.time.Raw.{Raw}
use Rattle.wrp_network.specs.Network.{End}
use Rattle.wrp_base.specs.Link.{other_of}
use Rattle.wrp_frame.specs.declared.fault.FrameFault.{FrameFault}
use Rattle.wrp_frame.specs.SentOctets.{octets_of}
use Rattle.wrp_io.specs.declared.link.LinkCall.{LinkCall}
use Rattle.wrp_node.specs.NodeAt.{port_of}
use Rattle.wrp_course.specs.declared.event.Event.{Event}
use Rattle.wrp_course.specs.declared.event.Event.TheVariants.{Arrive}
use Rattle.wrp_course.specs.Given.{event_steps, world_step}
use Rattle.wrp_course.specs.Premises.{Accepts}
use Rattle.wrp_course.specs.Run.{AllSaid, IsSaid}
use Rattle.wrp_course.specs.Runs.{IsNetwork}
use Rattle.wrp_course.specs.Setting.{Setting, end_at}
use Rattle.wrp_course.specs.WorldAt.{FrameAt, WorldAt, has_carrier, is_on_fibre}
use Rattle.wrp_sim.specs.Keeps.{IsDriven}
use Rattle.wrp_scene.specs.Scenario.{IsSceneOf}
use Rattle.wrp_sim.specs.Sim.{FitsSim, SimIs}
use Rattle.wrp_sim.specs.SimAt.{SimAt}
use Rattle.wrp_world.specs.StandsFor.{IsValid, StandsFor, WorldOf}
use Rattle.wrp_loop.specs.declared.network.LoopCourse.{LoopCourse}
use Rattle.wrp_loop.specs.declared.network.LoopedNetwork.{LoopedNetwork}
use Rattle.wrp_loop.specs.declared.routes.Route.{Route}
use Rattle.wrp_loop.specs.Calls.{Grew, AreCutCalls, IsFrame, IsFrameCall, arrival_calls}
use Rattle.wrp_loop.specs.Datagrams.{IsOfPeer, IsSuch, Way, end_number, receiving_end, sending_end}
use Rattle.wrp_loop.specs.Index.{IsIndex}
use Rattle.wrp_loop.specs.LoopRun.{ComesBetween, FrameArrives, GivesNext, Going, On, Full, Handles, HandlesAll, IsRound, LoopAt, Plan, PlainComes, Round, events_at, happened, with_event, world_at}
use Rattle.wrp_scene.specs.EventLimit.{event_limit}
use Rattle.wrp_loop.specs.LoopText.{loop_text, marked_line, step_lines}

-- Events

-- an event that the world can take: in some state that the world stands for, the event keeps all
-- premises
pub record CanHappen {F : Type 0} (post : F → ℤ → ℤ → Type 0) (world : WorldOf F) (e : Event) : Type 0 where
  pub setting : Setting
  pub state : WorldAt
  pub stands : StandsFor post setting state world
  pub accepted : (says : Result PtpMsg FrameFault) → IsSaid e says → Accepts setting state says e

-- the octets of the line of an event, and of the lines of its steps
abbrev pub event_octets : Setting → Result PtpMsg FrameFault → ℤ → WorldAt → Event → List ℕ
event_octets s says answer w e =
    concat
    (marked_line s.cfg e ∷ flat_map (step_lines s (world_step s says answer w e)) (event_steps s says answer w e))

-- an event was taken, and its lines were appended
pub record Happens {F : Type 0} (post : F → ℤ → ℤ → Type 0) (e : Event) (old new : WorldOf F) (before text : List ℕ)
    : Type 0 where
  pub says : Result PtpMsg FrameFault
  pub answer : ℤ
  pub said : IsSaid e says
  pub stands : (s : Setting) (w : WorldAt) → StandsFor post s w old → StandsFor post s (world_step s says answer w e) new
  pub wrote :
      (s : Setting) (w : WorldAt) → StandsFor post s w old → text ≡ before ++ event_octets s says answer w e

-- The code's parts

-- it can take an event: its world was made by calls of the world
abbrev pub CanLoop : {F : Type 0} → (F → ℤ → Type 0) → (F → ℤ → ℤ → Type 0) → LoopedNetwork F → Type 0
CanLoop pre post network = IsValid pre post network.world

-- what makes the events of this network, with the count of these events
pub record FitsCourse {F : Type 0} (network : LoopedNetwork F) (course : LoopCourse) : Type 0 where
  pub sim : FitsSim network.world.plant.net.cfg course.sim
  pub count : network.world.plant.events ≡ course.events
  pub below : course.events < event_limit

-- a loop has come this far; what makes its next events is not part of this
pub record HasLooped {F : Type 0} (post : F → ℤ → ℤ → Type 0) (x : Plan) (network : LoopedNetwork F)
    (course : LoopCourse) (l : LoopAt) : Type 0 where
  pub net : IsNetwork x.setting
  pub fits : IsSceneOf x.setting.cfg x.scene
  pub stands : StandsFor post x.setting (world_at x l) network.world
  pub driven : IsDriven x.scene x.setting x.seed l.turns l.at
  pub said : AllSaid (events_at l)
  pub count : course.events ≡ length (events_at l)
  pub forged : course.forged ≡ l.forged
  pub index : IsIndex x.setting (events_at l) course.index.came.items course.index.handed.items

-- and what makes its next events stands for what has been drawn and done
pub record SimOf (x : Plan) (course : LoopCourse) (at : SimAt) : Type 0 where
  pub is : SimIs at course.sim
  pub scene : course.sim.scene ≡ x.scene

abbrev pub StandsAt : {F : Type 0} → (F → ℤ → ℤ → Type 0) → Plan → LoopedNetwork F → LoopCourse → LoopAt → Type 0
StandsAt post x network course l = HasLooped post x network course l × SimOf x course l.at

-- some loop has come this far
abbrev pub IsInLoop : {F : Type 0} → (F → ℤ → ℤ → Type 0) → LoopedNetwork F → LoopCourse → Type 0
IsInLoop post network course = (x : Plan) × (l : LoopAt) × StandsAt post x network course l

-- the simulator gave this event, which comes next
pub record HasNext {F : Type 0} (post : F → ℤ → ℤ → Type 0) (x : Plan) (network : LoopedNetwork F)
    (course : LoopCourse) (l : LoopAt) (e : Event) : Type 0 where
  pub has : HasLooped post x network course l
  pub new : SimAt
  pub gives : GivesNext x l e new
  pub sim : SimOf x course new

abbrev pub IsNext : {F : Type 0} → (F → ℤ → ℤ → Type 0) → LoopedNetwork F → LoopCourse → Event → Type 0
IsNext post network course e = (x : Plan) × (l : LoopAt) × HasNext post x network course l e

-- a text grew by the lines of the events that came
pub record Grows (x : Plan) (l now : LoopAt) (old new : List ℕ) : Type 0 where
  pub added : List ℕ
  pub text : new ≡ old ++ added
  pub lines : loop_text x.setting (events_at now) ≡ loop_text x.setting (events_at l) ++ added

-- Ways

-- a frame is on its fibre, and its link has its carrier
pub record Flies (w : WorldAt) (s : Setting) (i : ℕ) (f : FrameAt) : Type 0 where
  pub is : w.frame i ≡ Some f
  pub on : is_on_fibre (Some f) ≡ true
  pub lit : has_carrier s w f.link ≡ true

abbrev pub SomeFlies : {F : Type 0} → (F → ℤ → ℤ → Type 0) → WorldOf F → ℕ → Type 0
SomeFlies post world i =
    (s : Setting) × (w : WorldAt) × (f : FrameAt) × StandsFor post s w world × IsNetwork s × Flies w s i f

-- the port that a route leads to
abbrev pub port_of_route : Route → End
port_of_route route = record { node = route.node; port = route.port }

-- a route is the route of a frame: the numbers of the ends, the port that the frame comes to, and the peer of that
-- port
pub record IsRouteOf (s : Setting) (f : FrameAt) (route : Route) : Type 0 where
  pub from_is : route.from ≡ end_number f.link f.by
  pub to_is : route.to ≡ end_number f.link (other_of f.by)
  pub port_is : end_at s f.link (other_of f.by) ≡ Some (port_of_route route)
  pub peer_is : (port_of (s.set route.node) route.port).peer ≡ route.peer

abbrev pub RoutesFrame : Setting → FrameAt → Option Route → Type 0
RoutesFrame s f None = ⊥
RoutesFrame s f (Some route) = IsRouteOf s f route

-- the way of a frame by its route
abbrev pub way_by : FrameAt → Route → Way
way_by f route = record { link = f.link; by = f.by; to = port_of_route route }

-- the calls that were made for a frame with this route
pub record Exchanged (s : Setting) (f : FrameAt) (route : Route) (got : List (ArrayVec ℕ)) (before told : Option (List LinkCall))
    : Type 0 where
  pub routes : IsRouteOf s f route
  pub calls :
      Grew before told
      (arrival_calls (end_number f.link f.by) (end_number f.link (other_of f.by)) (octets_of f.sending.message) got)
  pub frames : AllByRecursion IsFrame got

-- and the calls that were cut off by one that failed
pub record CutOff (f : FrameAt) (before told : Option (List LinkCall)) : Type 0 where
  pub calls : List LinkCall
  pub adds : Grew before told calls
  pub cut :
      AreCutCalls (end_number f.link f.by) (end_number f.link (other_of f.by)) (octets_of f.sending.message) calls
  pub frames : AllByRecursion IsFrameCall calls

-- whichever frame the world has on its fibre under this number
abbrev pub ExchangedBy : {F : Type 0} → (F → ℤ → ℤ → Type 0) → WorldOf F → ℕ → Route → List (ArrayVec ℕ)
    → (before told : Option (List LinkCall)) → Type 0
ExchangedBy post world number route got before told =
    (s : Setting) (w : WorldAt) (f : FrameAt) → StandsFor post s w world → IsNetwork s → Flies w s number f →
    Exchanged s f route got before told

abbrev pub CutOffBy : {F : Type 0} → (F → ℤ → ℤ → Type 0) → WorldOf F → ℕ → (before told : Option (List LinkCall)) → Type 0
CutOffBy post world number before told =
    (s : Setting) (w : WorldAt) (f : FrameAt) → StandsFor post s w world → IsNetwork s → Flies w s number f →
    CutOff f before told

-- Datagrams

-- a loop has come to a point where it handles datagrams that came this way, by this route, over a link that has its
-- carrier
pub record Carries {F : Type 0} (post : F → ℤ → ℤ → Type 0) (x : Plan) (network : LoopedNetwork F) (course : LoopCourse)
    (l : LoopAt) (way : Way) (route : Route) : Type 0 where
  pub at : StandsAt post x network course l
  pub from_is : route.from ≡ end_number way.link way.by
  pub port_is : way.to ≡ port_of_route route
  pub to_is : end_at x.setting way.link (other_of way.by) ≡ Some way.to
  pub peer_is : (port_of (x.setting.set route.node) route.port).peer ≡ route.peer
  pub lit : has_carrier x.setting (world_at x l) way.link ≡ true

abbrev pub IsCarried : {F : Type 0} → (F → ℤ → ℤ → Type 0) → LoopedNetwork F → LoopCourse → Route → Type 0
IsCarried post network course route =
    (x : Plan) × (l : LoopAt) × (way : Way) × Carries post x network course l way route

-- a loop goes on from here, or is over here because the next number is too great
abbrev pub going : Bool → LoopAt → Going
going true l = On l
going false l = Full l

-- a frame may be handed over: a datagram that came this way may be this frame
abbrev pub CanDeliver : {F : Type 0} → (F → ℤ → ℤ → Type 0) → LoopedNetwork F → LoopCourse → Route → ℕ → Type 0
CanDeliver post network course route number =
    (x : Plan) × (l : LoopAt) × (way : Way) × (octets : List ℕ) × Carries post x network course l way route
    × IsSuch x.setting (world_at x l) way octets number

-- octets may come as noise: they say no message of the peer
abbrev pub CanSound : {F : Type 0} → (F → ℤ → ℤ → Type 0) → LoopedNetwork F → LoopCourse → Route → List ℕ → Type 0
CanSound post network course route octets =
    (x : Plan) × (l : LoopAt) × (way : Way) × Carries post x network course l way route
    × (IsOfPeer x.setting way.to octets → ⊥)

-- an event of a datagram came, or has too great a number
pub record CameOne {F : Type 0} (post : F → ℤ → ℤ → Type 0) (x : Plan) (network : LoopedNetwork F) (course : LoopCourse)
    (l : LoopAt) (way : Way) (route : Route) (e : Event) (goes : Bool) (old new : List ℕ) : Type 0 where
  pub now : LoopAt
  pub carries : Carries post x network course now way route
  pub comes : ComesBetween l e (going goes now)
  pub grows : Grows x l now old new

-- one datagram was handled
pub record HandledOne {F : Type 0} (post : F → ℤ → ℤ → Type 0) (x : Plan) (network : LoopedNetwork F) (course : LoopCourse)
    (l : LoopAt) (way : Way) (route : Route) (frame : ArrayVec ℕ) (goes : Bool) (old new : List ℕ) : Type 0 where
  pub now : LoopAt
  pub carries : Carries post x network course now way route
  pub handles : Handles x way frame l (going goes now)
  pub grows : Grows x l now old new

-- and all of them were handled
pub record HandledAll {F : Type 0} (post : F → ℤ → ℤ → Type 0) (x : Plan) (network : LoopedNetwork F) (course : LoopCourse)
    (l : LoopAt) (way : Way) (route : Route) (got : List (ArrayVec ℕ)) (goes : Bool) (old new : List ℕ) : Type 0 where
  pub now : LoopAt
  pub carries : Carries post x network course now way route
  pub handles : HandlesAll x way got (On l) (going goes now)
  pub grows : Grows x l now old new

-- Rounds

abbrev pub IsArrivalOf : ℕ → Event → Type 0
IsArrivalOf number e = (raw : Raw) × (e ≡ Arrive number raw)

-- the simulator gave the arrival of a frame with this route
pub record NextArrives {F : Type 0} (post : F → ℤ → ℤ → Type 0) (x : Plan) (network : LoopedNetwork F)
    (course : LoopCourse) (l : LoopAt) (e : Event) (number : ℕ) (f : FrameAt) (route : Route) : Type 0 where
  pub next : HasNext post x network course l e
  pub flies : Flies (world_at x l) x.setting number f
  pub routes : IsRouteOf x.setting f route

abbrev pub RoutesNext : {F : Type 0} → (F → ℤ → ℤ → Type 0) → LoopedNetwork F → LoopCourse → Event → ℕ → Route → Type 0
RoutesNext post network course e number route =
    (x : Plan) × (l : LoopAt) × (f : FrameAt) × NextArrives post x network course l e number f route

-- it arrived, and the datagrams were handled
pub record CarriedOn {F : Type 0} (post : F → ℤ → ℤ → Type 0) (x : Plan) (network : LoopedNetwork F) (course : LoopCourse)
    (l : LoopAt) (way : Way) (e : Event) (new : SimAt) (got : List (ArrayVec ℕ)) (goes : Bool) (old text : List ℕ) : Type 0 where
  pub says : Result PtpMsg FrameFault
  pub answer : ℤ
  pub now : LoopAt
  pub at : StandsAt post x network course now
  pub handled : HandlesAll x way got (On (with_event (happened e says answer) new l)) (going goes now)
  pub grows : Grows x l now old text

-- a round came, and led there
pub record RoundCame {F : Type 0} (post : F → ℤ → ℤ → Type 0) (x : Plan) (network : LoopedNetwork F) (course : LoopCourse)
    (l : LoopAt) (goes : Bool) (before told : Option (List LinkCall)) (old new : List ℕ) : Type 0 where
  pub now : LoopAt
  pub at : StandsAt post x network course now
  pub round : Round
  pub calls : List LinkCall
  pub is : IsRound x l round calls (going goes now)
  pub adds : Grew before told calls
  pub frames : AllByRecursion IsFrameCall calls
  pub grows : Grows x l now old new

-- the calls of an arrival
pub record ArrivalCalls (x : Plan) (l : LoopAt) (calls : List LinkCall) : Type 0 where
  pub number : ℕ
  pub way : Way
  pub octets : List ℕ
  pub arrives : FrameArrives x l number way octets
  pub got : List (ArrayVec ℕ)
  pub few : length got ≤ 16
  pub are : calls ≡ arrival_calls (sending_end way) (receiving_end way) octets got

-- an arrival came to nothing, because a call failed
pub record ArrivalFails (x : Plan) (l : LoopAt) (before told : Option (List LinkCall)) : Type 0 where
  pub number : ℕ
  pub way : Way
  pub octets : List ℕ
  pub arrives : FrameArrives x l number way octets
  pub calls : List LinkCall
  pub adds : Grew before told calls
  pub cut : AreCutCalls (sending_end way) (receiving_end way) octets calls
  pub frames : AllByRecursion IsFrameCall calls

-- an event that is not an arrival came
pub record CamePlain {F : Type 0} (post : F → ℤ → ℤ → Type 0) (x : Plan) (network : LoopedNetwork F) (course : LoopCourse)
    (l : LoopAt) (old new : List ℕ) : Type 0 where
  pub now : LoopAt
  pub at : StandsAt post x network course now
  pub comes : PlainComes x l (On now)
  pub grows : Grows x l now old new
