-- One arrival: the frame is on its fibre, its octets go over the link, it arrives, and the datagrams are handled.
use Rattle.std.proofs.Common.{◌≡◌, ◌∙◌, refl, ap, sym, subst, ℕ, ℤ, ◌+◌, ◌<◌, ◌≤◌, Bool, List, [], ◌∷◌, ◌++◌, length, Option, option_map, Err}
use Rattle.std.specs.List.{AllByRecursion}
use Rattle.arrayvec.specs.ArrayVec.{ArrayVec}
use Rattle.wrp_base.specs.declared.time.Raw.{Raw}
use Rattle.wrp_base.specs.Link.{other_of}
use Rattle.wrp_frame.specs.declared.fault.FrameFault.TheVariants.{Short}
use Rattle.wrp_frame.specs.SentOctets.{octets_of}
use Rattle.wrp_io.specs.declared.link.LinkCall.{LinkCall}
use Rattle.wrp_course.specs.declared.event.Event.{Event}
use Rattle.wrp_course.specs.declared.event.Event.TheVariants.{Arrive}
use Rattle.wrp_course.specs.Setting.{Setting, end_of}
use Rattle.wrp_course.specs.WorldAt.{FrameAt}
use Rattle.wrp_sim.specs.Keeps.{EventsAreAccepted}
use Rattle.wrp_sim.specs.Sim.{FitsSim, SimIs}
use Rattle.wrp_loop.specs.declared.network.LoopCourse.{LoopCourse}
use Rattle.wrp_loop.specs.declared.network.LoopedNetwork.{LoopedNetwork}
use Rattle.wrp_loop.specs.declared.routes.Route.{Route}
use Rattle.wrp_loop.specs.Calls.{Grew, AreCutCalls, IsFrame, IsFrameCall, arrival_calls}
use Rattle.wrp_loop.specs.Datagrams.{IsWayOf, Way, end_number, receiving_end, sending_end}
use Rattle.wrp_loop.specs.Index.{Forgets, IsIndex, came_at}
use Rattle.wrp_loop.specs.LoopRun.{Carried, FrameArrives, GivesNext, HandlesAll, LoopAt, On, Plan, events_at, happened, with_event, world_at}
use Rattle.wrp_scene.specs.EventLimit.{event_limit}
use Rattle.wrp_loop.specs.LoopStands.{ArrivalCalls, ArrivalFails, Carries, CarriedOn, CutOff, CutOffBy, Exchanged, ExchangedBy, FitsCourse, Flies, HandledAll, Happens, HasNext, IsRouteOf, NextArrives, RoundCame, RoutesNext, SomeFlies, going, way_by}
use Rattle.wrp_loop.proofs.Adding.{all_received}
use Rattle.wrp_loop.proofs.Accepting.{IsStill, arriving, still_carrier}
use Rattle.wrp_loop.proofs.Growing.{grows_more}
use Rattle.wrp_loop.proofs.Listing.{forgotten}
use Rattle.wrp_loop.proofs.Standing.{arrival_listed, event_came, event_grows, has_room, next_is}
use Rattle.wrp_loop.proofs.Ways.{lit_link, way_of}

-- The frame that arrives next is on its fibre

pub record NextFlies (x : Plan) (l : LoopAt) (number : ℕ) : Type 0 where
  pub frame : FrameAt
  pub flies : Flies (world_at x l) x.setting number frame

pub next_flies : {F : Type 0} (post : F → ℤ → ℤ → Type 0) → EventsAreAccepted → (x : Plan) (network : LoopedNetwork F) (course : LoopCourse) (l : LoopAt) (e : Event) (number : ℕ) (raw : Raw) → e ≡ Arrive number raw → HasNext post x network course l e → NextFlies x l number
next_flies post sim x network course l e number raw same n =
    let own : HasNext post x network course l (Arrive number raw) = subst (HasNext post x network course l) same n in
    let it = arriving x.setting (world_at x l) number raw (Err Short) ((next_is post sim x network course l (Arrive number raw) own).accepted (Err Short)) in
    record { frame = it.frame; flies = record { is = it.is; on = it.on; lit = it.lit } }

pub some_flies : {F : Type 0} (post : F → ℤ → ℤ → Type 0) → EventsAreAccepted → (x : Plan) (network : LoopedNetwork F) (course : LoopCourse) (l : LoopAt) (e : Event) (number : ℕ) (raw : Raw) → e ≡ Arrive number raw → HasNext post x network course l e → SomeFlies post network.world number
some_flies post sim x network course l e number raw same n =
    let it : NextFlies x l number = next_flies post sim x network course l e number raw same n in
    (x.setting, world_at x l, it.frame, n.has.stands, n.has.net, it.flies)

-- Frames are forgotten

pub forgets_next : {F : Type 0} (post : F → ℤ → ℤ → Type 0) (x : Plan) (network : LoopedNetwork F) (course next : LoopCourse) (l : LoopAt) (e : Event) → Forgets post network.world course.index.came.items next.index.came.items →
    Forgets post network.world course.index.handed.items next.index.handed.items → next.sim ≡ course.sim → next.events ≡ course.events → next.forged ≡ course.forged → HasNext post x network course l e → HasNext post x network next l e
forgets_next post x network course next l e came handed sim events forged n = record {
  has = record {
    net = n.has.net;
    fits = n.has.fits;
    stands = n.has.stands;
    driven = n.has.driven;
    said = n.has.said;
    count = events ∙ n.has.count;
    forged = forged ∙ n.has.forged;
    index = forgotten x.setting (events_at l) course.index.came.items course.index.handed.items came.first handed.first next.index.came.items next.index.handed.items came.are handed.are
        (came.none_kept x.setting (world_at x l) n.has.stands) (handed.none_kept x.setting (world_at x l) n.has.stands) n.has.index;
  };
  new = n.new;
  gives = n.gives;
  sim = record { is = subst (SimIs n.new) (sym sim) n.sim.is; scene = ap (λ k. k.scene) sim ∙ n.sim.scene };
}

-- It arrives

pub carried_start : {F : Type 0} (post : F → ℤ → ℤ → Type 0) → EventsAreAccepted → (x : Plan) (old new : LoopedNetwork F) (course next : LoopCourse) (l : LoopAt) (e : Event) (number : ℕ) (raw : Raw) (f : FrameAt) (route : Route) (before text : List ℕ) → e ≡ Arrive number raw →
    (n : NextArrives post x old course l e number f route) (h : Happens post e old.world new.world before text) → next.events ≡ course.events + 1 → next.forged ≡ course.forged → next.sim ≡ course.sim →
    next.index.came.items ≡ course.index.came.items ++ came_at number route.from ∷ [] → next.index.handed ≡ course.index.handed →
    Carries post x new next (with_event (happened e h.says h.answer) n.next.new l) (way_by f route) route
carried_start post sim x old new course next l e number raw f route before text same n h count forged kept came handed =
    let own : HasNext post x old course l (Arrive number raw) = subst (HasNext post x old course l) same n.next in
    let listed : IsIndex x.setting (happened e h.says h.answer ∷ events_at l) (course.index.came.items ++ came_at number route.from ∷ []) course.index.handed.items =
    subst (λ k. IsIndex x.setting (happened k h.says h.answer ∷ events_at l) (course.index.came.items ++ came_at number route.from ∷ []) course.index.handed.items) (sym same)
    (arrival_listed post sim x old course l number route.from raw h.says h.answer f own n.flies.is n.flies.on n.routes.from_is) in
    let index : IsIndex x.setting (happened e h.says h.answer ∷ events_at l) next.index.came.items next.index.handed.items =
    subst (λ k. IsIndex x.setting (happened e h.says h.answer ∷ events_at l) next.index.came.items k.items) (sym handed)
    (subst (λ k. IsIndex x.setting (happened e h.says h.answer ∷ events_at l) k course.index.handed.items) (sym came) listed) in
    record {
      at = event_came post x old new course next l e before text n.next h count forged kept index;
      from_is = n.routes.from_is;
      port_is = refl;
      to_is = n.routes.port_is;
      peer_is = n.routes.peer_is;
      lit = still_carrier x.setting h.says h.answer (world_at x l) e f.link (subst IsStill (sym same) tt) ∙ n.flies.lit;
    }

pub carried_on : {F : Type 0} (post : F → ℤ → ℤ → Type 0) (x : Plan) (old mid new : LoopedNetwork F) (course next : LoopCourse) (l : LoopAt) (e : Event) (number : ℕ) (f : FrameAt) (route : Route) (got : List (ArrayVec ℕ)) (goes : Bool) (before between text : List ℕ) →
    (n : NextArrives post x old course l e number f route) (h : Happens post e old.world mid.world before between) →
    HandledAll post x new next (with_event (happened e h.says h.answer) n.next.new l) (way_by f route) route got goes between text → CarriedOn post x new next l (way_by f route) e n.next.new got goes before text
carried_on post x old mid new course next l e number f route got goes before between text n h all = record {
  says = h.says;
  answer = h.answer;
  now = all.now;
  at = all.carries.at;
  handled = all.handles;
  grows = grows_more x l (with_event (happened e h.says h.answer) n.next.new l) all.now before between text (event_grows post x old mid course l e before between n.next h) all.grows;
}

-- The round

arrives : {F : Type 0} (post : F → ℤ → ℤ → Type 0) (x : Plan) (network : LoopedNetwork F) (course : LoopCourse) (l : LoopAt) (e : Event) (number : ℕ) (raw : Raw) (f : FrameAt) (way : Way) (octets : List ℕ) → e ≡ Arrive number raw → course.events + 1 < event_limit →
    HasNext post x network course l e → Flies (world_at x l) x.setting number f → IsWayOf x.setting f way octets → FrameArrives x l number way octets
arrives post x network course l e number raw f way octets same room n flies way_is = record {
  raw = raw;
  new = n.new;
  gives = subst (λ k. GivesNext x l k n.new) same n.gives;
  room = has_room post x network course l n.has room;
  frame = f;
  is = flies.is;
  way_is = way_is;
}

pub round_came : {F : Type 0} (post : F → ℤ → ℤ → Type 0) (x : Plan) (old new : LoopedNetwork F) (course next : LoopCourse) (l : LoopAt) (e : Event) (number : ℕ) (raw : Raw) (f : FrameAt) (route : Route) (got : List (ArrayVec ℕ)) (goes : Bool) (before told : Option (List LinkCall)) (start text : List ℕ) →
    e ≡ Arrive number raw → course.events + 1 < event_limit → length got ≤ 16 → (n : HasNext post x old course l e) → Flies (world_at x l) x.setting number f → Exchanged x.setting f route got before told →
    CarriedOn post x new next l (way_by f route) e n.new got goes start text → RoundCame post x new next l goes before told start text
unfolding arrives
round_came post x old new course next l e number raw f route got goes before told start text same room few n flies ex on = record {
  now = on.now;
  at = on.at;
  round = Carried;
  calls = arrival_calls (sending_end (way_by f route)) (receiving_end (way_by f route)) (octets_of f.sending.message) got;
  is = record {
    number = number;
    way = way_by f route;
    octets = octets_of f.sending.message;
    arrives = arrives post x old course l e number raw f (way_by f route) (octets_of f.sending.message) same room n flies (way_of x.setting f route ex.routes);
    got = got;
    few = few;
    made = refl;
    says = on.says;
    answer = on.answer;
    handled = subst (λ k. HandlesAll x (way_by f route) got (On (with_event (happened k on.says on.answer) n.new l)) (going goes on.now)) same on.handled;
  };
  adds = ex.calls;
  frames = (tt, all_received (receiving_end (way_by f route)) 16 got ex.frames);
  grows = on.grows;
}

-- if memory ran out
pub calls_made : {F : Type 0} (post : F → ℤ → ℤ → Type 0) (x : Plan) (old : LoopedNetwork F) (course : LoopCourse) (l : LoopAt) (e : Event) (number : ℕ) (raw : Raw) (f : FrameAt) (route : Route) (got : List (ArrayVec ℕ)) (before told : Option (List LinkCall)) →
    e ≡ Arrive number raw → course.events + 1 < event_limit → length got ≤ 16 → HasNext post x old course l e → Flies (world_at x l) x.setting number f → Exchanged x.setting f route got before told →
    (calls : List LinkCall) × Grew before told calls × ArrivalCalls x l calls × AllByRecursion IsFrameCall calls
calls_made post x old course l e number raw f route got before told same room few n flies ex = (
  arrival_calls (sending_end (way_by f route)) (receiving_end (way_by f route)) (octets_of f.sending.message) got,
  ex.calls,
  record {
    number = number;
    way = way_by f route;
    octets = octets_of f.sending.message;
    arrives = arrives post x old course l e number raw f (way_by f route) (octets_of f.sending.message) same room n flies (way_of x.setting f route ex.routes);
    got = got;
    few = few;
    are = refl;
  },
  (tt, all_received (receiving_end (way_by f route)) 16 got ex.frames),
)

-- a call failed
pub call_failed : {F : Type 0} (post : F → ℤ → ℤ → Type 0) (x : Plan) (old : LoopedNetwork F) (course : LoopCourse) (l : LoopAt) (e : Event) (number : ℕ) (raw : Raw) (f : FrameAt) (before told : Option (List LinkCall)) →
    e ≡ Arrive number raw → course.events + 1 < event_limit → HasNext post x old course l e → Flies (world_at x l) x.setting number f → CutOff f before told → ArrivalFails x l before told
call_failed post x old course l e number raw f before told same room n flies cut =
    let link = lit_link x.setting (world_at x l) f.link flies.lit in
    let way : Way = record { link = f.link; by = f.by; to = end_of (other_of f.by) link.0 } in
    record {
      number = number;
      way = way;
      octets = octets_of f.sending.message;
      arrives = arrives post x old course l e number raw f way (octets_of f.sending.message) same room n flies
          (record { link_is = refl; by_is = refl; to_is = ap (option_map (end_of (other_of f.by))) link.1; octets_are = refl });
      calls = cut.calls;
      adds = cut.adds;
      cut = cut.cut;
      frames = cut.frames;
    }

-- The calls of an arrival, by what the code has of its way

pub exchanged_so : (s : Setting) (f : FrameAt) (route : Route) (octets : List ℕ) (got : List (ArrayVec ℕ)) (before told : Option (List LinkCall)) → IsRouteOf s f route → octets ≡ octets_of f.sending.message → Grew before told (arrival_calls route.from route.to octets got) →
    AllByRecursion IsFrame got → Exchanged s f route got before told
exchanged_so s f route octets got before told routes same adds frames = record {
  routes = routes;
  frames = frames;
  calls = subst (Grew before told) (λ i. arrival_calls (routes.from_is i) (routes.to_is i) (same i) got) adds;
}

pub cut_off_so : (s : Setting) (f : FrameAt) (route : Route) (octets : List ℕ) (before told : Option (List LinkCall)) → IsRouteOf s f route → octets ≡ octets_of f.sending.message →
    (calls : List LinkCall) × Grew before told calls × AreCutCalls route.from route.to octets calls × AllByRecursion IsFrameCall calls → CutOff f before told
cut_off_so s f route octets before told routes same it = record {
  calls = it.0;
  adds = it.1;
  frames = it.3;
  cut = subst (λ (o : List ℕ). AreCutCalls (end_number f.link f.by) (end_number f.link (other_of f.by)) o it.0) same
      (subst (λ (k : ℕ). AreCutCalls (end_number f.link f.by) k octets it.0) routes.to_is (subst (λ (k : ℕ). AreCutCalls k route.to octets it.0) routes.from_is it.2));
}

-- The next event is an arrival, by what was exchanged

pub fits_same : {F : Type 0} (network : LoopedNetwork F) (course next : LoopCourse) → FitsCourse network course → next.sim ≡ course.sim → next.events ≡ course.events → FitsCourse network next
fits_same network course next h sim events = record {
  sim = subst (FitsSim network.world.plant.net.cfg) (sym sim) h.sim;
  count = h.count ∙ sym events;
  below = subst (λ k. k < event_limit) (sym events) h.below;
}

pub routes_next : {F : Type 0} (post : F → ℤ → ℤ → Type 0) → EventsAreAccepted → (x : Plan) (network : LoopedNetwork F) (course : LoopCourse) (l : LoopAt) (e : Event) (number : ℕ) (raw : Raw) (route : Route) (got : List (ArrayVec ℕ)) (before told : Option (List LinkCall)) →
    e ≡ Arrive number raw → HasNext post x network course l e → ExchangedBy post network.world number route got before told → RoutesNext post network course e number route
routes_next post sim x network course l e number raw route got before told same n exchanged =
    let it : NextFlies x l number = next_flies post sim x network course l e number raw same n in
    let ex : Exchanged x.setting it.frame route got before told = exchanged x.setting (world_at x l) it.frame n.has.stands n.has.net it.flies in
    (x, l, it.frame, record { next = n; flies = it.flies; routes = ex.routes })

pub carried_round : {F : Type 0} (post : F → ℤ → ℤ → Type 0) → EventsAreAccepted → (x : Plan) (old new : LoopedNetwork F) (kept next : LoopCourse) (l : LoopAt) (e : Event) (number : ℕ) (raw : Raw) (route : Route) (got : List (ArrayVec ℕ)) (goes : Bool) (before told : Option (List LinkCall)) (start text : List ℕ) →
    e ≡ Arrive number raw → kept.events + 1 < event_limit → length got ≤ 16 → HasNext post x old kept l e → ExchangedBy post old.world number route got before told →
    ((x : Plan) (l : LoopAt) (f : FrameAt) → (n : NextArrives post x old kept l e number f route) → CarriedOn post x new next l (way_by f route) e n.next.new got goes start text) → RoundCame post x new next l goes before told start text
carried_round post sim x old new kept next l e number raw route got goes before told start text same room few n exchanged on =
    let it : NextFlies x l number = next_flies post sim x old kept l e number raw same n in
    let ex : Exchanged x.setting it.frame route got before told = exchanged x.setting (world_at x l) it.frame n.has.stands n.has.net it.flies in
    round_came post x old new kept next l e number raw it.frame route got goes before told start text same room few n it.flies ex (on x l it.frame (record { next = n; flies = it.flies; routes = ex.routes }))

pub lacking_round : {F : Type 0} (post : F → ℤ → ℤ → Type 0) → EventsAreAccepted → (x : Plan) (old : LoopedNetwork F) (kept : LoopCourse) (l : LoopAt) (e : Event) (number : ℕ) (raw : Raw) (route : Route) (got : List (ArrayVec ℕ)) (before told : Option (List LinkCall)) →
    e ≡ Arrive number raw → kept.events + 1 < event_limit → length got ≤ 16 → HasNext post x old kept l e → ExchangedBy post old.world number route got before told →
    (calls : List LinkCall) × Grew before told calls × ArrivalCalls x l calls × AllByRecursion IsFrameCall calls
lacking_round post sim x old kept l e number raw route got before told same room few n exchanged =
    let it : NextFlies x l number = next_flies post sim x old kept l e number raw same n in
    calls_made post x old kept l e number raw it.frame route got before told same room few n it.flies (exchanged x.setting (world_at x l) it.frame n.has.stands n.has.net it.flies)

pub failing_round : {F : Type 0} (post : F → ℤ → ℤ → Type 0) → EventsAreAccepted → (x : Plan) (old : LoopedNetwork F) (kept : LoopCourse) (l : LoopAt) (e : Event) (number : ℕ) (raw : Raw) (before told : Option (List LinkCall)) →
    e ≡ Arrive number raw → kept.events + 1 < event_limit → HasNext post x old kept l e → CutOffBy post old.world number before told → ArrivalFails x l before told
failing_round post sim x old kept l e number raw before told same room n cut =
    let it : NextFlies x l number = next_flies post sim x old kept l e number raw same n in
    call_failed post x old kept l e number raw it.frame before told same room n it.flies (cut x.setting (world_at x l) it.frame n.has.stands n.has.net it.flies)
