-- What a loop stands for as events come, of the simulator or in between.
use Rattle.std.proofs.Common.{◌≡◌, ◌∙◌, inl, inr, refl, ap, sym, subst, ℕ, zero, suc, ℤ, ◌+◌, ◌<◌, ◌≤◌, Bool, true, false, if◌then◌else◌, List, [], ◌∷◌, ◌++◌, length, Some, option_map, Result, Err, arith}
use Rattle.std.proofs.lemmas.Option.{same_Some}
use Rattle.std.specs.Option.{is_some}
use Rattle.arrayvec.specs.ArrayVec.{ArrayVec}
use Rattle.wrp_network.specs.declared.configuration.NetCfg.{NetCfg}
use Rattle.wrp_base.specs.declared.message.PtpMsg.{PtpMsg}
use Rattle.wrp_base.specs.declared.time.Raw.{Raw}
use Rattle.wrp_network.specs.Network.{End}
use Rattle.wrp_base.specs.Link.{other_of}
use Rattle.wrp_frame.specs.declared.fault.FrameFault.{FrameFault}
use Rattle.wrp_frame.specs.declared.fault.FrameFault.TheVariants.{Short}
use Rattle.wrp_flights.specs.Frames.{sent_at}
use Rattle.wrp_plant.proofs.EachLists.{at_place}
use Rattle.wrp_course.specs.declared.event.Event.{Event}
use Rattle.wrp_course.specs.declared.event.Event.TheVariants.{Pass, Tick, Sample, Depart, Arrive, Deliver, Noise, Down, Up, Cut, Join}
use Rattle.wrp_course.specs.EventAt.{IsEventOf}
use Rattle.wrp_course.specs.Premises.{Accepts}
use Rattle.wrp_course.specs.Run.{IsSaid}
use Rattle.wrp_course.specs.Runs.{IsNetwork}
use Rattle.wrp_course.specs.Setting.{Setting, end_at}
use Rattle.wrp_course.specs.WorldAt.{FrameAt, WorldAt, has_carrier, is_on_fibre}
use Rattle.wrp_sim.specs.Keeps.{EventsAreAccepted, MayBeBetween}
use Rattle.wrp_sim.specs.Sim.{FitsSim, SimIs}
use Rattle.wrp_world.specs.StandsFor.{StandsFor, WorldOf}
use Rattle.wrp_world.specs.Step.{MayCome}
use Rattle.wrp_loop.specs.declared.network.LoopCourse.{LoopCourse}
use Rattle.wrp_loop.specs.declared.network.LoopedNetwork.{LoopedNetwork}
use Rattle.wrp_loop.specs.declared.routes.Route.{Route}
use Rattle.wrp_loop.specs.Datagrams.{IsOfPeer, IsSuch, Way, end_number, hands}
use Rattle.wrp_loop.specs.Index.{HasArrived, IsIndex, came_at}
use Rattle.wrp_loop.specs.LoopRun.{HasRoom, IsPlain, LoopAt, Plan, events_at, happened, noise_stamp, with_between, with_event, world_at}
use Rattle.wrp_scene.specs.EventLimit.{event_limit}
use Rattle.wrp_loop.specs.LoopStands.{CameOne, CamePlain, CanHappen, Carries, FitsCourse, Grows, Happens, HasLooped, HasNext, StandsAt, port_of_route}
use Rattle.wrp_loop.proofs.Accepting.{IsStill, deliver_accepted, noise_accepted, noise_is_event, still_carrier}
use Rattle.wrp_loop.proofs.Frames.{IsArrivalAt}
use Rattle.wrp_loop.proofs.Growing.{grows_none, grows_one}
use Rattle.wrp_loop.proofs.Listing.{arrival_event, delivery_event, other_event}

-- Numbers of frames

sent_number : (i : ℕ) (sent : List ℤ) (t : ℤ) → sent_at i sent ≡ Some t → i ≤ length sent
sent_number zero sent t h = omega arith
sent_number (suc i) sent t h = let less = at_place sent i t h in omega (arith, less)

pub numbered : {F : Type 0} (post : F → ℤ → ℤ → Type 0) (s : Setting) (w : WorldAt) (world : WorldOf F) (i : ℕ) (f : FrameAt) → StandsFor post s w world → w.frame i ≡ Some f → i ≤ w.departed
numbered post s w world i f stands is =
    let frames = stands.plant.frames in
    let most = sent_number i world.plant.frames.sent f.sending.at (frames.sent i ∙ ap (option_map (λ (g : FrameAt). g.sending.at)) is) in
    let count = frames.count in
    omega (arith, most, count)

-- The course

pub counted_on : {F : Type 0} (old new : LoopedNetwork F) (course next : LoopCourse) → FitsCourse old course → new.world.plant.net ≡ old.world.plant.net → new.world.plant.events ≡ old.world.plant.events + 1 → next.events ≡ course.events + 1 →
    course.events + 1 < event_limit → next.sim ≡ course.sim → FitsCourse new next
counted_on old new course next fits net events count room sim = record {
  sim = subst (λ k. FitsSim new.world.plant.net.cfg k) (sym sim) (subst (λ k. FitsSim k.cfg course.sim) (sym net) fits.sim);
  count = let own = fits.count in omega (arith, events, count, own);
  below = omega (arith, count, room);
}

-- The next event of the simulator

pub record NextIs (x : Plan) (l : LoopAt) (e : Event) : Type 0 where
  pub event : IsEventOf x.setting.cfg e
  pub accepted : (says : Result PtpMsg FrameFault) → Accepts x.setting (world_at x l) says e

pub next_is : {F : Type 0} (post : F → ℤ → ℤ → Type 0) → EventsAreAccepted → (x : Plan) (network : LoopedNetwork F) (course : LoopCourse) (l : LoopAt) (e : Event) → HasNext post x network course l e → NextIs x l e
next_is post sim x network course l e n =
    let by : (says : Result PtpMsg FrameFault) → IsEventOf x.setting.cfg e × Accepts x.setting (world_at x l) says e = λ says. sim x.scene x.setting x.seed l.turns l.at n.new e says n.has.net n.has.fits n.has.driven n.gives in
    record { event = (by (Err Short)).0; accepted = λ says. (by says).1 }

pub next_may_come : {F : Type 0} (post : F → ℤ → ℤ → Type 0) (x : Plan) (network : LoopedNetwork F) (course : LoopCourse) (l : LoopAt) (e : Event) → HasLooped post x network course l → FitsCourse network course → IsEventOf x.setting.cfg e → MayCome network.world e
next_may_come post x network course l e has fits event =
    let same = fits.count in
    let below = fits.below in
    record { event = subst (λ (k : NetCfg). IsEventOf k e) (sym has.stands.plant.cfg) event; room = omega (arith, same, below) }

pub can_happen : {F : Type 0} (post : F → ℤ → ℤ → Type 0) (x : Plan) (network : LoopedNetwork F) (course : LoopCourse) (l : LoopAt) (e : Event) → HasLooped post x network course l →
    ((says : Result PtpMsg FrameFault) → IsSaid e says → Accepts x.setting (world_at x l) says e) → CanHappen post network.world e
can_happen post x network course l e has accepted = record { setting = x.setting; state = world_at x l; stands = has.stands; accepted = accepted }

-- it came
pub event_came : {F : Type 0} (post : F → ℤ → ℤ → Type 0) (x : Plan) (old new : LoopedNetwork F) (course next : LoopCourse) (l : LoopAt) (e : Event) (before text : List ℕ) (n : HasNext post x old course l e) (h : Happens post e old.world new.world before text) →
    next.events ≡ course.events + 1 → next.forged ≡ course.forged → next.sim ≡ course.sim → IsIndex x.setting (happened e h.says h.answer ∷ events_at l) next.index.came.items next.index.handed.items →
    StandsAt post x new next (with_event (happened e h.says h.answer) n.new l)
event_came post x old new course next l e before text n h count forged sim index = (
  record {
    net = n.has.net;
    fits = n.has.fits;
    stands = h.stands x.setting (world_at x l) n.has.stands;
    driven = (l.at, n.has.driven, n.gives);
    said = (h.said, n.has.said);
    count = let own = n.has.count in omega (arith, count, own);
    forged = forged ∙ n.has.forged;
    index = index;
  },
  record {
    is = subst (SimIs n.new) (sym sim) n.sim.is;
    scene = ap (λ k. k.scene) sim ∙ n.sim.scene;
  },
)

pub event_grows : {F : Type 0} (post : F → ℤ → ℤ → Type 0) (x : Plan) (old new : LoopedNetwork F) (course : LoopCourse) (l : LoopAt) (e : Event) (before text : List ℕ) (n : HasNext post x old course l e) (h : Happens post e old.world new.world before text) →
    Grows x l (with_event (happened e h.says h.answer) n.new l) before text
event_grows post x old new course l e before text n h =
    grows_one x l (with_event (happened e h.says h.answer) n.new l) (happened e h.says h.answer) before text refl (h.wrote x.setting (world_at x l) n.has.stands)

plain_none : (e : Event) → IsPlain e → (i : ℕ) → IsArrivalAt e i → ⊥
plain_none (Arrive j raw) plain i h = plain
plain_none (Deliver j) plain i h = plain
plain_none (Pass dt drifts fibres) plain i h = h
plain_none (Tick n) plain i h = h
plain_none (Sample n base bits) plain i h = h
plain_none (Depart n p stamp) plain i h = h
plain_none (Noise n p octets raw) plain i h = h
plain_none (Down n) plain i h = h
plain_none (Up n off swaps) plain i h = h
plain_none (Cut k) plain i h = h
plain_none (Join k ms sm) plain i h = h

plain_hands : (e : Event) → IsPlain e → (i : ℕ) → hands i e ≡ false
plain_hands (Arrive j raw) plain i = absurd plain
plain_hands (Deliver j) plain i = absurd plain
plain_hands (Pass dt drifts fibres) plain i = refl
plain_hands (Tick n) plain i = refl
plain_hands (Sample n base bits) plain i = refl
plain_hands (Depart n p stamp) plain i = refl
plain_hands (Noise n p octets raw) plain i = refl
plain_hands (Down n) plain i = refl
plain_hands (Up n off swaps) plain i = refl
plain_hands (Cut k) plain i = refl
plain_hands (Join k ms sm) plain i = refl

pub has_room : {F : Type 0} (post : F → ℤ → ℤ → Type 0) (x : Plan) (network : LoopedNetwork F) (course : LoopCourse) (l : LoopAt) → HasLooped post x network course l → course.events + 1 < event_limit → HasRoom l
has_room post x network course l has room = let own = has.count in omega (arith, own, room)

-- an event that is not an arrival and hands nothing over
pub plain_came : {F : Type 0} (post : F → ℤ → ℤ → Type 0) → EventsAreAccepted → (x : Plan) (old new : LoopedNetwork F) (course next : LoopCourse) (l : LoopAt) (e : Event) (before text : List ℕ) → IsPlain e → course.events + 1 < event_limit →
    HasNext post x old course l e → Happens post e old.world new.world before text → next.events ≡ course.events + 1 → next.forged ≡ course.forged → next.sim ≡ course.sim → next.index ≡ course.index → CamePlain post x new next l before text
plain_came post sim x old new course next l e before text plain room n h count forged same index =
    let it : NextIs x l e = next_is post sim x old course l e n in
    let listed : IsIndex x.setting (happened e h.says h.answer ∷ events_at l) next.index.came.items next.index.handed.items =
    subst (λ k. IsIndex x.setting (happened e h.says h.answer ∷ events_at l) k.came.items k.handed.items) (sym index)
    (other_event x.setting (events_at l) e h.says h.answer course.index.came.items course.index.handed.items it.event (plain_none e plain) (plain_hands e plain) n.has.index) in
    record {
      now = with_event (happened e h.says h.answer) n.new l;
      at = event_came post x old new course next l e before text n h count forged same listed;
      comes = record { newest = happened e h.says h.answer; new = n.new; gives = n.gives; plain = plain; room = has_room post x old course l n.has room; leads = refl };
      grows = event_grows post x old new course l e before text n h;
    }

off_fibre : (f : FrameAt) → is_on_fibre (Some f) ≡ true → is_some f.arrival ≡ false
off_fibre f on = go f.gone (is_some f.arrival) refl on
  where
    go : (g a : Bool) → is_some f.arrival ≡ a → (if g then false else (if a then false else true)) ≡ true → is_some f.arrival ≡ false
    go true a is h = absurd (let e : false ≡ true = h in cc)
    go false true is h = absurd (let e : false ≡ true = h in cc)
    go false false is h = is

-- a frame arrived, and is listed
pub arrival_listed : {F : Type 0} (post : F → ℤ → ℤ → Type 0) → EventsAreAccepted → (x : Plan) (old : LoopedNetwork F) (course : LoopCourse) (l : LoopAt) (j from : ℕ) (raw : Raw) (says : Result PtpMsg FrameFault) (answer : ℤ) (f : FrameAt) →
    HasNext post x old course l (Arrive j raw) → (world_at x l).frame j ≡ Some f → is_on_fibre (Some f) ≡ true → from ≡ end_number f.link f.by →
    IsIndex x.setting (happened (Arrive j raw) says answer ∷ events_at l) (course.index.came.items ++ came_at j from ∷ []) course.index.handed.items
arrival_listed post sim x old course l j from raw says answer f n is on sent =
    arrival_event x.setting (events_at l) j from raw says answer f course.index.came.items course.index.handed.items (next_is post sim x old course l (Arrive j raw) n).event
    (numbered post x.setting (world_at x l) old.world j f n.has.stands is) is (off_fibre f on) sent n.has.index

-- Between the events of the simulator

-- an event in between came
pub between_came : {F : Type 0} (post : F → ℤ → ℤ → Type 0) (x : Plan) (old new : LoopedNetwork F) (course next : LoopCourse) (l : LoopAt) (way : Way) (route : Route) (e : Event) (before text : List ℕ) → MayBeBetween e → IsStill e →
    IsEventOf x.setting.cfg e → ((says : Result PtpMsg FrameFault) → IsSaid e says → Accepts x.setting (world_at x l) says e) → course.events + 1 < event_limit →
    Carries post x old course l way route → (h : Happens post e old.world new.world before text) →
    next.events ≡ course.events + 1 → next.forged ≡ course.forged → next.sim ≡ course.sim → IsIndex x.setting (happened e h.says h.answer ∷ events_at l) next.index.came.items next.index.handed.items →
    CameOne post x new next l way route e true before text
between_came post x old new course next l way route e before text may still event accepted room c h count forged sim index =
    let has = c.at.0 in
    record {
      now = with_between (happened e h.says h.answer) l;
      carries = record {
        at = (
          record {
            net = has.net;
            fits = has.fits;
            stands = h.stands x.setting (world_at x l) has.stands;
            driven = (has.driven, may, (event, accepted h.says h.said));
            said = (h.said, has.said);
            count = let own = has.count in omega (arith, count, own);
            forged = forged ∙ has.forged;
            index = index;
          },
          record { is = subst (SimIs l.at) (sym sim) c.at.1.is; scene = ap (λ k. k.scene) sim ∙ c.at.1.scene },
        );
        from_is = c.from_is;
        port_is = c.port_is;
        to_is = c.to_is;
        peer_is = c.peer_is;
        lit = still_carrier x.setting h.says h.answer (world_at x l) e way.link still ∙ c.lit;
      };
      comes = inr (has_room post x old course l has room, h.says, h.answer, h.said, refl);
      grows = grows_one x l (with_between (happened e h.says h.answer) l) (happened e h.says h.answer) before text refl (h.wrote x.setting (world_at x l) has.stands);
    }

-- its number is too great
pub between_full : {F : Type 0} (post : F → ℤ → ℤ → Type 0) (x : Plan) (network : LoopedNetwork F) (course : LoopCourse) (l : LoopAt) (way : Way) (route : Route) (e : Event) (text : List ℕ) → course.events + 1 ≡ event_limit →
    Carries post x network course l way route → CameOne post x network course l way route e false text text
between_full post x network course l way route e text full c = record {
  now = l;
  carries = c;
  comes = inl (let own = c.at.0.count in omega (arith, own, full), refl);
  grows = grows_none x l l text refl;
}

such_arrived : {F : Type 0} (post : F → ℤ → ℤ → Type 0) (x : Plan) (network : LoopedNetwork F) (course : LoopCourse) (l : LoopAt) (way : Way) (route : Route) (octets : List ℕ) (i : ℕ) → Carries post x network course l way route →
    IsSuch x.setting (world_at x l) way octets i → HasArrived (world_at x l) i
such_arrived post x network course l way route octets i c such = record {
  given = numbered post x.setting (world_at x l) network.world i such.frame c.at.0.stands such.is;
  arrived = λ f is. ap (λ (k : FrameAt). is_some k.arrival) (sym (same_Some such.frame f (sym such.is ∙ is))) ∙ such.arrived;
}

-- a frame is handed over
pub delivery_came : {F : Type 0} (post : F → ℤ → ℤ → Type 0) (x : Plan) (old new : LoopedNetwork F) (course next : LoopCourse) (l : LoopAt) (way : Way) (route : Route) (octets : List ℕ) (i from : ℕ) (before text : List ℕ) → course.events + 1 < event_limit →
    Carries post x old course l way route → IsSuch x.setting (world_at x l) way octets i → Happens post (Deliver i) old.world new.world before text →
    next.events ≡ course.events + 1 → next.forged ≡ course.forged → next.sim ≡ course.sim → next.index.came ≡ course.index.came → next.index.handed.items ≡ course.index.handed.items ++ came_at i from ∷ [] →
    CameOne post x new next l way route (Deliver i) true before text
delivery_came post x old new course next l way route octets i from before text room c such h count forged sim came handed =
    between_came post x old new course next l way route (Deliver i) before text tt tt tt (λ says said. deliver_accepted x.setting (world_at x l) way octets i says such c.lit) room c h count forged sim
    (subst (λ k. IsIndex x.setting (happened (Deliver i) h.says h.answer ∷ events_at l) k.items next.index.handed.items) (sym came)
    (subst (IsIndex x.setting (happened (Deliver i) h.says h.answer ∷ events_at l) course.index.came.items) (sym handed)
    (delivery_event x.setting (events_at l) i from h.says h.answer course.index.came.items course.index.handed.items (such_arrived post x old course l way route octets i c such) c.at.0.index)))

-- octets come that the peer did not send
pub noise_event : (x : Plan) (l : LoopAt) (way : Way) (route : Route) (frame : ArrayVec ℕ) → IsNetwork x.setting → way.to ≡ port_of_route route → end_at x.setting way.link (other_of way.by) ≡ Some way.to →
    IsEventOf x.setting.cfg (Noise route.node route.port frame noise_stamp)
noise_event x l way route frame net port to =
    subst (λ (end : End). IsEventOf x.setting.cfg (Noise end.node end.port frame noise_stamp)) port (noise_is_event x.setting net way.link (other_of way.by) way.to frame to)

pub noise_keeps : (x : Plan) (l : LoopAt) (way : Way) (route : Route) (frame : ArrayVec ℕ) → IsNetwork x.setting → way.to ≡ port_of_route route → end_at x.setting way.link (other_of way.by) ≡ Some way.to →
    (IsOfPeer x.setting way.to frame.items → ⊥) → has_carrier x.setting (world_at x l) way.link ≡ true → (says : Result PtpMsg FrameFault) → IsSaid (Noise route.node route.port frame noise_stamp) says →
    Accepts x.setting (world_at x l) says (Noise route.node route.port frame noise_stamp)
noise_keeps x l way route frame net port to never lit says said =
    subst (λ (end : End). Accepts x.setting (world_at x l) says (Noise end.node end.port frame noise_stamp)) port
    (noise_accepted x.setting net (world_at x l) way.link (other_of way.by) way.to frame noise_stamp says to said never lit)

pub noise_came : {F : Type 0} (post : F → ℤ → ℤ → Type 0) (x : Plan) (old new : LoopedNetwork F) (course next : LoopCourse) (l : LoopAt) (way : Way) (route : Route) (frame : ArrayVec ℕ) (before text : List ℕ) → course.events + 1 < event_limit →
    Carries post x old course l way route → (IsOfPeer x.setting way.to frame.items → ⊥) → Happens post (Noise route.node route.port frame noise_stamp) old.world new.world before text →
    next.events ≡ course.events + 1 → next.forged ≡ course.forged → next.sim ≡ course.sim → next.index ≡ course.index →
    CameOne post x new next l way route (Noise route.node route.port frame noise_stamp) true before text
noise_came post x old new course next l way route frame before text room c never h count forged sim index =
    let e : Event = Noise route.node route.port frame noise_stamp in
    let net = c.at.0.net in
    between_came post x old new course next l way route e before text tt tt (noise_event x l way route frame net c.port_is c.to_is)
    (noise_keeps x l way route frame net c.port_is c.to_is never c.lit) room c h count forged sim
    (subst (λ k. IsIndex x.setting (happened e h.says h.answer ∷ events_at l) k.came.items k.handed.items) (sym index)
    (other_event x.setting (events_at l) e h.says h.answer course.index.came.items course.index.handed.items (noise_event x l way route frame net c.port_is c.to_is) (λ i a. a) (λ i. refl) c.at.0.index))
