-- What becomes of the datagrams that were taken, one after the other.
use Rattle.std.proofs.lemmas.List.{drop_all}
use Rattle.std.proofs.Common.{◌≡◌, ◌∙◌, refl, ap, sym, subst, ℕ, suc, ℤ, ◌+◌, ◌<◌, ◌≤◌, Bool, true, false, List, [], ◌∷◌, length, drop, drop-cons, get_or, Option, Result, Ok, Err, IfOk}
use Rattle.arrayvec.specs.ArrayVec.{ArrayVec}
use Rattle.wrp_network.specs.Network.{End}
use Rattle.wrp_course.specs.declared.event.Event.TheVariants.{Deliver, Noise}
use Rattle.wrp_sim.specs.Sim.{SimIs}
use Rattle.wrp_loop.specs.declared.fate.Fate.TheVariants.{Handed, Forged, Noisy}
use Rattle.wrp_loop.specs.declared.network.LoopCourse.{LoopCourse}
use Rattle.wrp_loop.specs.declared.network.LoopedNetwork.{LoopedNetwork}
use Rattle.wrp_loop.specs.declared.routes.Route.{Route}
use Rattle.wrp_loop.specs.Datagrams.{IsBy, IsFate, IsFrameOf, IsOfPeer, IsSuch, Way}
use Rattle.wrp_loop.specs.Index.{IsIndex, chosen, fits, has_number, no_choice, with_all}
use Rattle.wrp_loop.specs.LoopRun.{ComesBetween, Full, Going, Handles, HandlesAll, LoopAt, On, Plan, events_at, noise_stamp, world_at}
use Rattle.wrp_loop.specs.LoopStands.{CameOne, Carries, Grows, HandledAll, HandledOne, going, port_of_route}
use Rattle.wrp_loop.proofs.Growing.{grows_more, grows_none}
use Rattle.wrp_loop.proofs.Searching.{finds}

-- What is found is the frame that the rule names

pub found_is : {F : Type 0} (post : F → ℤ → ℤ → Type 0) (x : Plan) (network : LoopedNetwork F) (course : LoopCourse) (l : LoopAt) (way : Way) (route : Route) (octets : List ℕ) (found : Option ℕ) → Carries post x network course l way route →
    found ≡ chosen (with_all (fits x.setting (world_at x l) route.from octets) (has_number course.index.handed.items) course.index.came.items no_choice) → IsFrameOf x.setting (events_at l) way octets found
found_is post x network course l way route octets found c is =
    subst (IsFrameOf x.setting (events_at l) way octets) (sym is)
    (finds x.setting (events_at l) way route.from octets course.index.came.items course.index.handed.items c.from_is c.at.0.index)

-- the peer of the port is the peer of the route
pub of_peer : {F : Type 0} (post : F → ℤ → ℤ → Type 0) (x : Plan) (network : LoopedNetwork F) (course : LoopCourse) (l : LoopAt) (way : Way) (route : Route) (octets : List ℕ) → Carries post x network course l way route → IsBy route.peer octets → IsOfPeer x.setting way.to octets
of_peer post x network course l way route octets c by =
    subst (λ (end : End). IsOfPeer x.setting end octets) (sym c.port_is) (subst (λ p. IsBy p octets) (sym c.peer_is) by)

pub by_route : {F : Type 0} (post : F → ℤ → ℤ → Type 0) (x : Plan) (network : LoopedNetwork F) (course : LoopCourse) (l : LoopAt) (way : Way) (route : Route) (octets : List ℕ) → Carries post x network course l way route → IsOfPeer x.setting way.to octets → IsBy route.peer octets
by_route post x network course l way route octets c of =
    subst (λ p. IsBy p octets) c.peer_is (subst (λ (end : End). IsOfPeer x.setting end octets) c.port_is of)

-- One datagram

pub handed_one : {F : Type 0} (post : F → ℤ → ℤ → Type 0) (x : Plan) (network : LoopedNetwork F) (course : LoopCourse) (l : LoopAt) (way : Way) (route : Route) (frame : ArrayVec ℕ) (i : ℕ) (goes : Bool) (old text : List ℕ) → IsFate x.setting (events_at l) way frame.items (Handed i) →
    CameOne post x network course l way route (Deliver i) goes old text → HandledOne post x network course l way route frame goes old text
handed_one post x network course l way route frame i goes old text is came = record {
  now = came.now;
  carries = came.carries;
  handles = (Handed i, is, came.comes);
  grows = came.grows;
}

pub noisy_one : {F : Type 0} (post : F → ℤ → ℤ → Type 0) (x : Plan) (network : LoopedNetwork F) (course : LoopCourse) (l : LoopAt) (way : Way) (route : Route) (frame : ArrayVec ℕ) (goes : Bool) (old text : List ℕ) → way.to ≡ port_of_route route → IsFate x.setting (events_at l) way frame.items Noisy →
    CameOne post x network course l way route (Noise route.node route.port frame noise_stamp) goes old text → HandledOne post x network course l way route frame goes old text
noisy_one post x network course l way route frame goes old text port is came = record {
  now = came.now;
  carries = came.carries;
  handles = (Noisy, is, subst (λ (end : End). ComesBetween l (Noise end.node end.port frame noise_stamp) (going goes came.now)) (sym port) came.comes);
  grows = came.grows;
}

pub forged_one : {F : Type 0} (post : F → ℤ → ℤ → Type 0) (x : Plan) (network : LoopedNetwork F) (course next : LoopCourse) (l : LoopAt) (way : Way) (route : Route) (frame : ArrayVec ℕ) (text : List ℕ) → Carries post x network course l way route → IsFate x.setting (events_at l) way frame.items Forged →
    next.forged ≡ course.forged + 1 → next.events ≡ course.events → next.sim ≡ course.sim → next.index ≡ course.index → HandledOne post x network next l way route frame true text text
forged_one post x network course next l way route frame text c is forged events sim index = record {
  now = record l { forged = l.forged + 1 };
  carries = record {
    at = (
      record {
        net = c.at.0.net;
        fits = c.at.0.fits;
        stands = c.at.0.stands;
        driven = c.at.0.driven;
        said = c.at.0.said;
        count = events ∙ c.at.0.count;
        forged = forged ∙ ap (λ n. n + 1) c.at.0.forged;
        index = subst (λ k. IsIndex x.setting (events_at l) k.came.items k.handed.items) (sym index) c.at.0.index;
      },
      record { is = subst (SimIs l.at) (sym sim) c.at.1.is; scene = ap (λ k. k.scene) sim ∙ c.at.1.scene },
    );
    from_is = c.from_is;
    port_is = c.port_is;
    to_is = c.to_is;
    peer_is = c.peer_is;
    lit = c.lit;
  };
  handles = (Forged, is, refl);
  grows = grows_none x l (record l { forged = l.forged + 1 }) text refl;
}

-- All of them

-- this many were handled
pub record HandledFirst {F : Type 0} (post : F → ℤ → ℤ → Type 0) (x : Plan) (network : LoopedNetwork F) (course : LoopCourse) (l : LoopAt) (way : Way) (route : Route) (got : List (ArrayVec ℕ)) (i : ℕ) (old new : List ℕ) : Type 0 where
  pub now : LoopAt
  pub carries : Carries post x network course now way route
  pub leads : (last : Going) → HandlesAll x way (drop i got) (On now) last → HandlesAll x way got (On l) last
  pub grows : Grows x l now old new

pub none_first : {F : Type 0} (post : F → ℤ → ℤ → Type 0) (x : Plan) (network : LoopedNetwork F) (course : LoopCourse) (l : LoopAt) (way : Way) (route : Route) (got : List (ArrayVec ℕ)) (text : List ℕ) → Carries post x network course l way route →
    HandledFirst post x network course l way route got 0 text text
none_first post x network course l way route got text c = record { now = l; carries = c; leads = λ last h. h; grows = grows_none x l l text refl }

full_stays : (x : Plan) (way : Way) (got : List (ArrayVec ℕ)) (l : LoopAt) → HandlesAll x way got (Full l) (Full l)
full_stays x way [] l = refl
full_stays x way (frame ∷ got) l = refl

-- the next one
next_leads : (x : Plan) (way : Way) (got : List (ArrayVec ℕ)) (i : ℕ) (frame : ArrayVec ℕ) (now : LoopAt) (next last : Going) → i < length got → frame ≡ get_or got i frame → Handles x way frame now next → HandlesAll x way (drop (suc i) got) next last →
    HandlesAll x way (drop i got) (On now) last
next_leads x way got i frame now next last few is h rest =
    subst (λ (k : List (ArrayVec ℕ)). HandlesAll x way k (On now) last) (ap (λ (f : ArrayVec ℕ). f ∷ drop (suc i) got) is ∙ sym (drop-cons got i frame few)) (next, h, rest)

pub more_first : {F : Type 0} (post : F → ℤ → ℤ → Type 0) (x : Plan) (network after : LoopedNetwork F) (course next : LoopCourse) (l : LoopAt) (way : Way) (route : Route) (got : List (ArrayVec ℕ)) (i : ℕ) (frame : ArrayVec ℕ) (old mid new : List ℕ) → i < length got →
    frame ≡ get_or got i frame → (h : HandledFirst post x network course l way route got i old mid) → HandledOne post x after next h.now way route frame true mid new → HandledFirst post x after next l way route got (suc i) old new
more_first post x network after course next l way route got i frame old mid new few is h one = record {
  now = one.now;
  carries = one.carries;
  leads = λ last rest. h.leads last (next_leads x way got i frame h.now (On one.now) last few is one.handles rest);
  grows = grows_more x l h.now one.now old mid new h.grows one.grows;
}

pub first_at : {F : Type 0} (post : F → ℤ → ℤ → Type 0) (x : Plan) (network : LoopedNetwork F) (course : LoopCourse) (l : LoopAt) (way : Way) (route : Route) (got : List (ArrayVec ℕ)) (i j : ℕ) (old new : List ℕ) → i ≡ j →
    HandledFirst post x network course l way route got i old new → HandledFirst post x network course l way route got j old new
first_at post x network course l way route got i j old new same h = subst (λ (n : ℕ). HandledFirst post x network course l way route got n old new) same h

-- the loop is over at this one
pub full_first : {F : Type 0} (post : F → ℤ → ℤ → Type 0) (x : Plan) (network after : LoopedNetwork F) (course next : LoopCourse) (l : LoopAt) (way : Way) (route : Route) (got : List (ArrayVec ℕ)) (i : ℕ) (frame : ArrayVec ℕ) (old mid new : List ℕ) → i < length got →
    frame ≡ get_or got i frame → (h : HandledFirst post x network course l way route got i old mid) → HandledOne post x after next h.now way route frame false mid new → HandledAll post x after next l way route got false old new
full_first post x network after course next l way route got i frame old mid new few is h one = record {
  now = one.now;
  carries = one.carries;
  handles = h.leads (Full one.now) (next_leads x way got i frame h.now (Full one.now) (Full one.now) few is one.handles (full_stays x way (drop (suc i) got) one.now));
  grows = grows_more x l h.now one.now old mid new h.grows one.grows;
}

drop_none : {A : Type 0} (xs : List A) (i : ℕ) → length xs ≤ i → drop i xs ≡ []
drop_none xs i h = drop_all i xs h

-- all were handled
pub all_first : {F : Type 0} (post : F → ℤ → ℤ → Type 0) (x : Plan) (network : LoopedNetwork F) (course : LoopCourse) (l : LoopAt) (way : Way) (route : Route) (got : List (ArrayVec ℕ)) (i : ℕ) (old new : List ℕ) → length got ≤ i →
    HandledFirst post x network course l way route got i old new → HandledAll post x network course l way route got true old new
all_first post x network course l way route got i old new many h = record {
  now = h.now;
  carries = h.carries;
  handles = h.leads (On h.now) (subst (λ (k : List (ArrayVec ℕ)). HandlesAll x way k (On h.now) (On h.now)) (sym (drop_none got i many)) refl);
  grows = h.grows;
}

-- What the calls answer for one datagram

pub by_delivery : {F E : Type 0} (post : F → ℤ → ℤ → Type 0) (old new : LoopedNetwork F) (course next : LoopCourse) (route : Route) (frame : ArrayVec ℕ) (i : ℕ) (before text : List ℕ) (r : Result Bool E) →
    IfOk r (λ goes. (x : Plan) (l : LoopAt) (way : Way) (octets : List ℕ) → Carries post x old course l way route → IsSuch x.setting (world_at x l) way octets i → CameOne post x new next l way route (Deliver i) goes before text) →
    ((x : Plan) (l : LoopAt) (way : Way) → Carries post x old course l way route → IsFate x.setting (events_at l) way frame.items (Handed i)) →
    IfOk r (λ goes. (x : Plan) (l : LoopAt) (way : Way) → Carries post x old course l way route → HandledOne post x new next l way route frame goes before text)
by_delivery post old new course next route frame i before text (Ok goes) came fate =
    λ x l way c. handed_one post x new next l way route frame i goes before text (fate x l way c) (came x l way frame.items c (fate x l way c).such)
by_delivery post old new course next route frame i before text (Err error) came fate = tt

pub by_noise : {F E : Type 0} (post : F → ℤ → ℤ → Type 0) (old new : LoopedNetwork F) (course next : LoopCourse) (route : Route) (frame : ArrayVec ℕ) (before text : List ℕ) (r : Result Bool E) →
    IfOk r (λ goes. (x : Plan) (l : LoopAt) (way : Way) → Carries post x old course l way route → (IsOfPeer x.setting way.to frame.items → ⊥) → CameOne post x new next l way route (Noise route.node route.port frame noise_stamp) goes before text) →
    ((x : Plan) (l : LoopAt) (way : Way) → Carries post x old course l way route → IsFate x.setting (events_at l) way frame.items Noisy) →
    IfOk r (λ goes. (x : Plan) (l : LoopAt) (way : Way) → Carries post x old course l way route → HandledOne post x new next l way route frame goes before text)
by_noise post old new course next route frame before text (Ok goes) came fate =
    λ x l way c. noisy_one post x new next l way route frame goes before text c.port_is (fate x l way c) (came x l way c (fate x l way c).1)
by_noise post old new course next route frame before text (Err error) came fate = tt
