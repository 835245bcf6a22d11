-- The frame that arrives next is carried: its datagrams go over the link, and are handled after its arrival.
use Rattle.std.proofs.Common.{◌≡◌, ◌≤◌, ◌<◌, ◌+◌, subst, ℕ, ℤ, Bool, List, [], ◌∷◌, ◌++◌, length, inr, Option, Result, Ok, Err, IfOk}
use Rattle.arrayvec.specs.ArrayVec.{ArrayVec}
use Rattle.wrp_io.specs.declared.link.LinkCall.{LinkCall}
use Rattle.wrp_course.specs.declared.event.Event.{Event}
use Rattle.wrp_course.specs.WorldAt.{FrameAt}
use Rattle.wrp_sim.specs.Keeps.{EventsAreAccepted}
use Rattle.wrp_loop.specs.declared.network.LoopCourse.{LoopCourse}
use Rattle.wrp_loop.specs.declared.network.LoopedNetwork.{LoopedNetwork}
use Rattle.wrp_loop.specs.declared.routes.Route.{Route}
use Rattle.wrp_loop.specs.Datagrams.{Way}
use Rattle.wrp_loop.specs.Index.{Forgets, came_at}
use Rattle.wrp_loop.specs.LoopRun.{LoopAt, Plan, happened, with_event}
use Rattle.wrp_scene.specs.EventLimit.{event_limit}
use Rattle.wrp_loop.specs.LoopStands.{ArrivalFails, Carries, CarriedOn, CutOffBy, ExchangedBy, HandledAll, Happens, HasNext, IsArrivalOf, IsCarried, IsNext, NextArrives, RoundCame, RoutesNext, SomeFlies, way_by}
use Rattle.wrp_loop.specs.SoFar.{RoundLacks}
use Rattle.wrp_loop.proofs.Arrivals.{carried_on, carried_round, carried_start, failing_round, forgets_next, lacking_round, routes_next, some_flies}

-- it comes next
pub routed_next : {F : Type 0} (post : F → ℤ → ℤ → Type 0) (network : LoopedNetwork F) (course : LoopCourse) (e : Event) (number : ℕ) (route : Route) → RoutesNext post network course e number route → IsNext post network course e
routed_next post network course e number route h = (h.0, h.1, h.3.next)

-- The datagrams are handled when the frame has arrived

pub starts_carried : {F : Type 0} (post : F → ℤ → ℤ → Type 0) → EventsAreAccepted → (old new : LoopedNetwork F) (course next : LoopCourse) (e : Event) (number : ℕ) (route : Route) (before text : List ℕ) → IsArrivalOf number e → RoutesNext post old course e number route →
    Happens post e old.world new.world before text → next.events ≡ course.events + 1 → next.forged ≡ course.forged → next.sim ≡ course.sim →
    next.index.came.items ≡ course.index.came.items ++ came_at number route.from ∷ [] → next.index.handed ≡ course.index.handed → IsCarried post new next route
starts_carried post sim old new course next e number route before text same r h count forged kept came handed = (
  r.0,
  with_event (happened e h.says h.answer) r.3.next.new r.1,
  way_by r.2 route,
  carried_start post sim r.0 old new course next r.1 e number same.0 r.2 route before text same.1 r.3 h count forged kept came handed,
)

pub carries_on : {F E : Type 0} (post : F → ℤ → ℤ → Type 0) → EventsAreAccepted → (old mid new : LoopedNetwork F) (course next last : LoopCourse) (e : Event) (number : ℕ) (route : Route) (got : List (ArrayVec ℕ)) (before between text : List ℕ) (r : Result Bool E) →
    IsArrivalOf number e → Happens post e old.world mid.world before between → next.events ≡ course.events + 1 → next.forged ≡ course.forged → next.sim ≡ course.sim →
    next.index.came.items ≡ course.index.came.items ++ came_at number route.from ∷ [] → next.index.handed ≡ course.index.handed →
    IfOk r (λ goes. (x : Plan) (l : LoopAt) (way : Way) → Carries post x mid next l way route → HandledAll post x new last l way route got goes between text) →
    IfOk r (λ goes. (x : Plan) (l : LoopAt) (f : FrameAt) (n : NextArrives post x old course l e number f route) → CarriedOn post x new last l (way_by f route) e n.next.new got goes before text)
carries_on post sim old mid new course next last e number route got before between text (Ok goes) same h count forged kept came handed all = λ x l f n.
    carried_on post x old mid new course last l e number f route got goes before between text n h
    (all x (with_event (happened e h.says h.answer) n.next.new l) (way_by f route) (carried_start post sim x old mid course next l e number same.0 f route before between same.1 n h count forged kept came handed))
carries_on post sim old mid new course next last e number route got before between text (Err error) same h count forged kept came handed all = tt

-- Before it arrives

pub flies_next : {F : Type 0} (post : F → ℤ → ℤ → Type 0) → EventsAreAccepted → (network : LoopedNetwork F) (course : LoopCourse) (e : Event) (number : ℕ) → IsArrivalOf number e → IsNext post network course e → SomeFlies post network.world number
flies_next post sim network course e number same h = some_flies post sim h.0 network course h.1 e number same.0 same.1 h.2

pub forgets_so : {F : Type 0} (post : F → ℤ → ℤ → Type 0) (network : LoopedNetwork F) (course next : LoopCourse) (e : Event) → Forgets post network.world course.index.came.items next.index.came.items → Forgets post network.world course.index.handed.items next.index.handed.items →
    next.sim ≡ course.sim → next.events ≡ course.events → next.forged ≡ course.forged → (x : Plan) (l : LoopAt) → HasNext post x network course l e → HasNext post x network next l e
forgets_so post network course next e came handed sim events forged x l n = forgets_next post x network course next l e came handed sim events forged n

pub routes_so : {F : Type 0} (post : F → ℤ → ℤ → Type 0) → EventsAreAccepted → (network : LoopedNetwork F) (course next : LoopCourse) (e : Event) (number : ℕ) (route : Route) (got : List (ArrayVec ℕ)) (before told : Option (List LinkCall)) → IsArrivalOf number e → IsNext post network course e →
    ((x : Plan) (l : LoopAt) → HasNext post x network course l e → HasNext post x network next l e) → ExchangedBy post network.world number route got before told → RoutesNext post network next e number route
routes_so post sim network course next e number route got before told same h keeps exchanged = routes_next post sim h.0 network next h.1 e number same.0 route got before told same.1 (keeps h.0 h.1 h.2) exchanged

pub lacks_so : {F : Type 0} (post : F → ℤ → ℤ → Type 0) → EventsAreAccepted → (x : Plan) (old : LoopedNetwork F) (kept : LoopCourse) (l : LoopAt) (e : Event) (number : ℕ) (route : Route) (got : List (ArrayVec ℕ)) (before told : Option (List LinkCall)) → IsArrivalOf number e →
    kept.events + 1 < event_limit → length got ≤ 16 → HasNext post x old kept l e → ExchangedBy post old.world number route got before told → RoundLacks x l before told
lacks_so post sim x old kept l e number route got before told same room few n exchanged =
    let it = lacking_round post sim x old kept l e number same.0 route got before told same.1 room few n exchanged in
    record { calls = it.0; adds = it.1; which = inr it.2; frames = it.3 }

-- What becomes of the round

pub round_so : {F : Type 0} (post : F → ℤ → ℤ → Type 0) → EventsAreAccepted → (x : Plan) (old new : LoopedNetwork F) (kept next : LoopCourse) (l : LoopAt) (e : Event) (number : ℕ) (route : Route) (lent got : List (ArrayVec ℕ)) (goes : Bool) (before told : Option (List LinkCall)) (start text : List ℕ) →
    IsArrivalOf number e → kept.events + 1 < event_limit → length got ≤ 16 → lent ≡ got → HasNext post x old kept l e → ExchangedBy post old.world number route got before told →
    ((x : Plan) (l : LoopAt) (f : FrameAt) (n : NextArrives post x old kept l e number f route) → CarriedOn post x new next l (way_by f route) e n.next.new lent goes start text) → RoundCame post x new next l goes before told start text
round_so post sim x old new kept next l e number route lent got goes before told start text same room few is n exchanged on =
    carried_round post sim x old new kept next l e number same.0 route got goes before told start text same.1 room few n exchanged
    (λ y k f m. subst (λ (taken : List (ArrayVec ℕ)). CarriedOn post y new next k (way_by f route) e m.next.new taken goes start text) is (on y k f m))

pub fails_so : {F : Type 0} (post : F → ℤ → ℤ → Type 0) → EventsAreAccepted → (x : Plan) (network : LoopedNetwork F) (course : LoopCourse) (l : LoopAt) (e : Event) (number : ℕ) (before told : Option (List LinkCall)) → IsArrivalOf number e → course.events + 1 < event_limit → HasNext post x network course l e →
    CutOffBy post network.world number before told → ArrivalFails x l before told
fails_so post sim x network course l e number before told same room n cut = failing_round post sim x network course l e number same.0 before told same.1 room n cut
