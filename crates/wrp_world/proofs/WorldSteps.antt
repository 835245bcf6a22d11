-- An event is taken: it keeps all premises, it makes its own change to the world, and the nodes take its inputs.
use Rattle.std.proofs.Common.{◌≡◌, ◌∙◌, refl, ap, sym, subst, ℕ, ◌+◌, ◌≤◌, ℤ, Bool, true, false, if◌then◌else◌, List, [], ◌∷◌, ◌++◌, flat_map, Option, None, Some, option_map, ◌≢◌, Result, Err, IfErr, arith}
use Rattle.std.proofs.lemmas.Bool.{true≢false}
use Rattle.std.specs.List.{AllByRecursion, AllZip}
use Rattle.std.specs.Option.{option_map_or}
use Rattle.std.specs.declared.alloc.AllocError.{AllocError}
use Rattle.wrp_base.specs.declared.link.Module.{Module}
use Rattle.wrp_base.specs.declared.link.Role.{Role}
use Rattle.wrp_base.specs.declared.link.Role.TheVariants.{Master}
use Rattle.wrp_base.specs.declared.message.Body.{Body}
use Rattle.wrp_base.specs.declared.message.Body.TheVariants.{Sync, DelayReq, FollowUp, DelayResp, Announce, Signal}
use Rattle.wrp_base.specs.declared.message.PtpMsg.{PtpMsg}
use Rattle.wrp_base.specs.declared.time.Raw.{Raw}
use Rattle.wrp_network.specs.Network.{End, node_count}
use Rattle.wrp_base.specs.Link.{other_of}
use Rattle.wrp_config.specs.declared.network.Network.{Network}
use Rattle.wrp_frame.specs.declared.fault.FrameFault.{FrameFault}
use Rattle.wrp_node.specs.declared.interface.Input.TheVariants.{Carrier}
use Rattle.wrp_node.specs.NodeAt.{numbers_of}
use Rattle.wrp_node.specs.StandsFor.{NodeOf}
use Rattle.wrp_changes.specs.Begins.{ListsGifts, MovesBy, StaysAsWas}
use Rattle.wrp_changes.specs.Changes.{MayMove, MayStepAfter}
use Rattle.wrp_course.specs.Checks.{AllHold, Check, breach_of, first_broken, told_of}
use Rattle.wrp_course.specs.declared.breach.Breach.{Breach}
use Rattle.wrp_course.specs.declared.event.Event.{Event}
use Rattle.wrp_course.specs.declared.event.Event.TheVariants.{Pass, Tick, Sample, Depart, Arrive, Deliver, Noise, Down, Up, Cut, Join}
use Rattle.wrp_course.specs.declared.node_out.NodeOut.{NodeOut}
use Rattle.wrp_course.specs.declared.place.Place.{Place}
use Rattle.wrp_plant.specs.declared.plant.Plant.{Plant}
use Rattle.wrp_world.specs.declared.outcome.Refused.{Refused}
use Rattle.wrp_world.specs.declared.outcome.Refused.TheVariants.{Broken, Memory}
use Rattle.wrp_changes.specs.Gifts.{AreGifts, GiftIs}
use Rattle.wrp_course.specs.Given.{Given, comes_at, comes_from, delivered, delivered_by, delivered_to, given_by, given_plain, goes_at, goes_from, if_carried, sent_oldest, told_sending}
use Rattle.wrp_course.specs.Moved.{moved, waiting_at}
use Rattle.wrp_plant.specs.Plant.{Each, FitsPlant}
use Rattle.wrp_changes.specs.PlantTold.{NoneStepped}
use Rattle.wrp_course.specs.Premises.{Accepts, arrive_checks, checks_of}
use Rattle.wrp_course.specs.Run.{IsSaid}
use Rattle.wrp_course.specs.Setting.{Setting, end_at, entry_at, place_of}
use Rattle.wrp_world.specs.StandsFor.{IsValid, NodeIs, StandsFor, WorldOf}
use Rattle.wrp_world.specs.Step.{IsRefusal, StaysSo, Stepped}
use Rattle.wrp_world.specs.Take.{CanHappenSo, TakenSo, Takes}
use Rattle.wrp_world.specs.Taking.{Asks, FirstAsks, GaveAll, HasTicks, is_plain}
use Rattle.wrp_world.specs.Step.{TellsBreach}
use Rattle.wrp_course.specs.WorldAt.{Arrival, FrameAt, Sending, WorldAt, has_carrier, is_on_fibre}
use Rattle.wrp_world.proofs.AllTake.{plain_asks}
use Rattle.wrp_world.proofs.Inside.{world_of}
use Rattle.wrp_course.proofs.Unbroken.{accepted_is_unbroken, none_is}

-- No check is the first that fails

untold : (o : Option Check) → None ≡ option_map breach_of o → o ≡ None
untold None e = refl
untold (Some check) e = absurd (none_is (sym e))

pub accepted_of : (s : Setting) (w : WorldAt) (says : Result PtpMsg FrameFault) (e : Event) → None ≡ told_of (checks_of s w says e) → Accepts s w says e
accepted_of s w says e h = (accepted_is_unbroken s w says e).1 (untold (first_broken (checks_of s w says e)) h)

-- Of the inputs of an event, only the first is a tick or a frame

abbrev ArePlain : List Given → Type 0
ArePlain gs = AllByRecursion (λ (g : Given). is_plain g.input ≡ true) gs

both : (xs ys : List Given) → ArePlain xs → ArePlain ys → ArePlain (xs ++ ys)
both [] ys h k = k
both (x ∷ xs) ys h k = (h.0, both xs ys h.1 k)

goes_in : (o : Option End) → ArePlain (option_map_or (λ (end : End). given_plain end.node (Carrier end.port false None) ∷ []) o [])
goes_in None = tt
goes_in (Some end) = (refl, tt)

goes_plain : (s : Setting) (k : ℕ) (r : Role) → ArePlain (goes_at s k r)
goes_plain s k r = goes_in (end_at s k r)

comes_in : (entry : Option Module) (o : Option End) → ArePlain (option_map_or (λ (end : End). given_plain end.node (Carrier end.port true entry) ∷ []) o [])
comes_in entry None = tt
comes_in entry (Some end) = (refl, tt)

comes_plain : (s : Setting) (w : WorldAt) (k : ℕ) (r : Role) → ArePlain (comes_at s w k r)
comes_plain s w k r = comes_in (entry_at s k r (w.end_at k r).name) (end_at s k r)

goes_from_plain : (s : Setting) (k : ℕ) (r : Role) → ArePlain (goes_from s k r)
goes_from_plain s k r = both (goes_at s k r) (goes_at s k (other_of r)) (goes_plain s k r) (goes_plain s k (other_of r))

comes_from_plain : (s : Setting) (w : WorldAt) (k : ℕ) (r : Role) → ArePlain (comes_from s w k r)
comes_from_plain s w k r =
    both (comes_at s w k r) (comes_at s w k (other_of r)) (comes_plain s w k r) (comes_plain s w k (other_of r))

plain_if : (b : Bool) (gs : List Given) → ArePlain gs → ArePlain (if b then gs else [])
plain_if true gs h = h
plain_if false gs h = tt

carried_plain : (s : Setting) (w : WorldAt) (f : ℕ → Role → List Given) (o : Option Place) → ((k : ℕ) (r : Role) → ArePlain (f k r)) → ArePlain (if_carried s w f o)
carried_plain s w f None h = tt
carried_plain s w f (Some place) h = plain_if (has_carrier s w place.link) (f place.link place.role) (h place.link place.role)

ports_plain : (s : Setting) (w : WorldAt) (f : ℕ → Role → List Given) (n : ℕ) (ps : List ℕ) → ((k : ℕ) (r : Role) → ArePlain (f k r)) →
    ArePlain (flat_map (λ p. if_carried s w f (place_of s n p)) ps)
ports_plain s w f n [] h = tt
ports_plain s w f n (p ∷ ps) h =
    both (if_carried s w f (place_of s n p)) (flat_map (λ p. if_carried s w f (place_of s n p)) ps) (carried_plain s w f (place_of s n p) h) (ports_plain s w f n ps h)

told_plain : (n p seq : ℕ) (stamp : ℤ) (samples : ℕ) (body : Body) → ArePlain (told_sending n p seq stamp samples body)
told_plain n p seq stamp samples (Sync origin) = (refl, tt)
told_plain n p seq stamp samples (DelayReq origin) = (refl, tt)
told_plain n p seq stamp samples (FollowUp precise) = tt
told_plain n p seq stamp samples (DelayResp receive requesting) = tt
told_plain n p seq stamp samples (Announce origin utc p1 quality p2 gm steps source wr) = tt
told_plain n p seq stamp samples (Signal target wr) = tt

sent_plain : (n p : ℕ) (stamp : ℤ) (samples : ℕ) (waiting : List Sending) → ArePlain (sent_oldest n p stamp samples waiting)
sent_plain n p stamp samples [] = tt
sent_plain n p stamp samples (oldest ∷ rest) = told_plain n p oldest.message.head.seq stamp samples oldest.message.body

-- what the first input requires, if the others are plain
abbrev Opens : {F : Type 0} → WorldOf F → List Given → Type 0
Opens world [] = Unit {0}
Opens world (g ∷ gs) = Asks world g.input × ArePlain gs

plain_opens : {F : Type 0} (world : WorldOf F) (gs : List Given) → ArePlain gs → Opens world gs
plain_opens world [] h = tt
plain_opens world (g ∷ gs) h = (plain_asks world g.input h.0, h.1)

handed_in : {F : Type 0} (world : WorldOf F) (f : FrameAt) (a : Arrival) (o : Option End) → NoneStepped world.plant →
    Opens world (option_map_or (λ (end : End). delivered_to f a end.node end.port) o [])
handed_in world f a None h = tt
handed_in world f a (Some end) h = (h, tt)

delivered_opens : {F : Type 0} (world : WorldOf F) (s : Setting) (f : FrameAt) (a : Option Arrival) → NoneStepped world.plant → Opens world (delivered_by s f a)
delivered_opens world s f None h = tt
delivered_opens world s f (Some a) h = handed_in world f a (end_at s f.link (other_of f.by)) h

handed_opens : {F : Type 0} (world : WorldOf F) (s : Setting) (o : Option FrameAt) → NoneStepped world.plant → Opens world (delivered s o)
handed_opens world s None h = tt
handed_opens world s (Some f) h = delivered_opens world s f f.arrival h

given_opens : {F : Type 0} (world : WorldOf F) (s : Setting) (w v : WorldAt) (says : Result PtpMsg FrameFault) (e : Event) → HasTicks world → MayStepAfter e world.plant →
    Opens world (given_by s w v says e)
given_opens world s w v says (Pass dt drifts fibres) t h = tt
given_opens world s w v says (Tick n) t h = (t, tt)
given_opens world s w v says (Sample n base bits) t h = (tt, tt)
given_opens world s w v says (Depart n p stamp) t h =
    plain_opens world (given_by s w v says (Depart n p stamp)) (sent_plain n p stamp (w.clock n).samples (waiting_at w (place_of s n p)))
given_opens world s w v says (Arrive i raw) t h = tt
given_opens world s w v says (Deliver i) t h = handed_opens world s (w.frame i) h
given_opens world s w v says (Noise n p octets raw) t h = (h, tt)
given_opens world s w v says (Down n) t h =
    plain_opens world (given_by s w v says (Down n)) (ports_plain s w (goes_from s) n (numbers_of (s.set n)) (goes_from_plain s))
given_opens world s w v says (Up n off swaps) t h = (tt, ports_plain s v (comes_from s v) n (numbers_of (s.set n)) (comes_from_plain s v))
given_opens world s w v says (Cut k) t h =
    plain_opens world (given_by s w v says (Cut k)) (plain_if (has_carrier s w k) (goes_from s k Master) (goes_from_plain s k Master))
given_opens world s w v says (Join k ms sm) t h =
    plain_opens world (given_by s w v says (Join k ms sm)) (plain_if (has_carrier s v k) (comes_from s v k Master) (comes_from_plain s v k Master))

-- the same for the inputs as they are listed
plain_listed : (put : ℤ) (gs : List Given) (outs : List NodeOut) → AllZip (GiftIs put) gs outs → ArePlain gs → AllByRecursion (λ (o : NodeOut). is_plain o.input ≡ true) outs
plain_listed put [] [] z h = tt
plain_listed put [] (o ∷ outs) z h = absurd z
plain_listed put (g ∷ gs) [] z h = absurd z
plain_listed put (g ∷ gs) (o ∷ outs) z h = (ap is_plain z.0.input ∙ h.0, plain_listed put gs outs z.1 h.1)

opens_listed : {F : Type 0} (world : WorldOf F) (put : ℤ) (gs : List Given) (outs : List NodeOut) → AllZip (GiftIs put) gs outs → Opens world gs → FirstAsks world outs
opens_listed world put [] [] z h = tt
opens_listed world put [] (o ∷ outs) z h = absurd z
opens_listed world put (g ∷ gs) [] z h = absurd z
opens_listed world put (g ∷ gs) (o ∷ outs) z h = (subst (Asks world) (sym z.0.input) h.0, plain_listed put gs outs z.1 h.1)

-- The event has begun

-- what is known before the nodes take their inputs
pub record Begun {F : Type 0} (pre : F → ℤ → Type 0) (post : F → ℤ → ℤ → Type 0) (e : Event) (put : ℤ) (old : WorldOf F) (plant : Plant) (outs : List NodeOut) : Type 0 where
  pub valid : IsValid pre post old
  pub can : CanHappenSo post old e
  pub gifts : ListsGifts old.plant e put outs
  pub is : MovesBy e old.plant plant
  pub events : plant.events ≡ old.plant.events + 1
  pub net : plant.net ≡ old.plant.net
  pub fits : FitsPlant plant
  pub still : MayStepAfter e plant

one_later : (t e f : ℕ) → f ≡ e + 1 → t ≤ e → t + 1 ≤ f
one_later t e f h k = omega (arith, h, k)

no_sooner : (t e f : ℕ) → f ≡ e + 1 → t ≤ e → t ≤ f
no_sooner t e f h k = omega (arith, h, k)

-- if all checks of a frame's arrival hold, it is on a fibre
arrives_on : (s : Setting) (w : WorldAt) (i : ℕ) (raw : Raw) (on : Bool) (o : Option FrameAt) → AllHold (arrive_checks s w i raw on o) → on ≡ true
arrives_on s w i raw true o h = refl
arrives_on s w i raw false o h = absurd (true≢false h.0)

-- an accepted event may move the frames
pub may_move : (s : Setting) (w : WorldAt) (says : Result PtpMsg FrameFault) (e : Event) → Accepts s w says e → MayMove w e
may_move s w says (Pass dt drifts fibres) h = tt
may_move s w says (Tick n) h = tt
may_move s w says (Sample n base bits) h = tt
may_move s w says (Depart n p stamp) h = tt
may_move s w says (Arrive i raw) h = arrives_on s w i raw (is_on_fibre (w.frame i)) (w.frame i) h
may_move s w says (Deliver i) h = tt
may_move s w says (Noise n p octets raw) h = tt
may_move s w says (Down n) h = tt
may_move s w says (Up n off swaps) h = tt
may_move s w says (Cut k) h = tt
may_move s w says (Join k ms sm) h = tt

pub begun_stands : {F : Type 0} (post : F → ℤ → ℤ → Type 0) (e : Event) (says : Result PtpMsg FrameFault) (old : WorldOf F) (plant : Plant) → MovesBy e old.plant plant →
    (s : Setting) (w : WorldAt) → Accepts s w says e → StandsFor post s w old → StandsFor post s (moved s w e) (world_of plant old.nodes)
begun_stands post e says old plant is s w accepted st = record {
  set = st.set;
  plant = is s w (may_move s w says e accepted) st.plant;
  nodes = λ n x at. let k : NodeIs post s w n x = st.nodes n x at in record { at = k.at; stands = k.stands };
}

pub begun_valid : {F : Type 0} (pre : F → ℤ → Type 0) (post : F → ℤ → ℤ → Type 0) (e : Event) (put : ℤ) (old : WorldOf F) (plant : Plant) (outs : List NodeOut) →
    Begun pre post e put old plant outs → IsValid pre post (world_of plant old.nodes)
begun_valid pre post e put old plant outs h = record {
  plant = h.fits;
  node_count = h.valid.node_count ∙ ap (λ (n : Network). node_count n.cfg) (sym h.net);
  nodes = h.valid.nodes;
  ticks = λ n x at. no_sooner x.parts.ticks old.plant.events plant.events h.events (h.valid.ticks n x at);
  setting = h.can.setting;
  state = moved h.can.setting h.can.state e;
  stands = begun_stands post e h.can.says old plant h.is h.can.setting h.can.state h.can.accepted h.can.stands;
}

listed_at : {F : Type 0} (pre : F → ℤ → Type 0) (post : F → ℤ → ℤ → Type 0) (e : Event) (put : ℤ) (says : Result PtpMsg FrameFault) (old : WorldOf F) (plant : Plant) (outs : List NodeOut) →
    Begun pre post e put old plant outs → IsSaid e says → (s : Setting) (w : WorldAt) → Accepts s w says e → StandsFor post s w old → AreGifts s w says e put outs
listed_at pre post e put says old plant outs h said s w accepted st = h.gifts s w says st.set st.plant said accepted

pub begun_asks : {F : Type 0} (pre : F → ℤ → Type 0) (post : F → ℤ → ℤ → Type 0) (e : Event) (put : ℤ) (old : WorldOf F) (plant : Plant) (outs : List NodeOut) →
    Begun pre post e put old plant outs → FirstAsks (world_of plant old.nodes) outs
begun_asks {F} pre post e put old plant outs h =
    let s : Setting = h.can.setting in
    let w : WorldAt = h.can.state in
    let ticks : HasTicks (world_of plant old.nodes) = λ n (x : NodeOf F) at. one_later x.parts.ticks old.plant.events plant.events h.events (h.valid.ticks n x at) in
    opens_listed (world_of plant old.nodes) put (given_by s w (moved s w e) h.can.says e) outs
    (listed_at pre post e put h.can.says old plant outs h h.can.said s w h.can.accepted h.can.stands)
    (given_opens (world_of plant old.nodes) s w (moved s w e) h.can.says e ticks h.still)

-- the nodes have taken their inputs
pub event_taken : {F : Type 0} (pre : F → ℤ → Type 0) (post : F → ℤ → ℤ → Type 0) (e : Event) (put : ℤ) (old : WorldOf F) (plant : Plant) (outs made : List NodeOut) (new : WorldOf F) →
    Begun pre post e put old plant outs → GaveAll post put (world_of plant old.nodes) new outs made → TakenSo post e old new made
event_taken pre post e put old plant outs made new h g = (
  g.0,
  λ says said.
      record {
        said = said;
        seen = λ s w st accepted.
            g.1.seen s (moved s w e) (given_by s w (moved s w e) says e) (begun_stands post e says old plant h.is s w accepted st)
            (listed_at pre post e put says old plant outs h said s w accepted st);
        stands = λ s w st accepted.
            g.1.stands s (moved s w e) (given_by s w (moved s w e) says e) (begun_stands post e says old plant h.is s w accepted st)
            (listed_at pre post e put says old plant outs h said s w accepted st);
      },
)

-- Nothing was changed

pub world_stays : {F : Type 0} (post : F → ℤ → ℤ → Type 0) (old : WorldOf F) (plant : Plant) → StaysAsWas old.plant plant → StaysSo post old (world_of plant old.nodes)
world_stays post old plant h s w st = record { set = st.set; plant = h s w st.plant; nodes = st.nodes }

pub stays_valid : {F : Type 0} (pre : F → ℤ → Type 0) (post : F → ℤ → ℤ → Type 0) (old : WorldOf F) (plant : Plant) → StaysAsWas old.plant plant → FitsPlant plant → plant.net ≡ old.plant.net → plant.events ≡ old.plant.events →
    IsValid pre post old → IsValid pre post (world_of plant old.nodes)
stays_valid {F} pre post old plant h f n e v = record {
  plant = f;
  node_count = v.node_count ∙ ap (λ (k : Network). node_count k.cfg) (sym n);
  nodes = v.nodes;
  ticks = subst (λ k. Each (λ i (x : NodeOf F). x.parts.ticks ≤ k) old.nodes) (sym e) v.ticks;
  setting = v.setting;
  state = v.state;
  stands = world_stays post old plant h v.setting v.state v.stands;
}

-- As the code has it: the world is its plant and its nodes

pub none_left : {A : Type 0} (o : Option A) → ((x : A) → o ≢ Some x) → o ≡ None
none_left None h = refl
none_left (Some x) h = absurd (h x refl)

pub breach_refused : {F : Type 0} (post : F → ℤ → ℤ → Type 0) (e : Event) (world : WorldOf F) (breach : Breach) (o : Option Breach) (r : Refused) → TellsBreach post e world o → o ≡ Some breach →
    r ≡ Broken breach.premise breach.shown breach.bound → IsRefusal post e world r
breach_refused post e world breach o r t h is = subst (IsRefusal post e world) (sym is) (t.0, t.1, λ s w st. sym (t.2 s w st) ∙ h)

pub memory_refused : {F A : Type 0} (post : F → ℤ → ℤ → Type 0) (e : Event) (world : WorldOf F) (o : Option Breach) (r : Result A Refused) (y : Refused) (fault : AllocError) → TellsBreach post e world o → o ≡ None →
    r ≡ Err y → y ≡ Memory fault → IfErr r (IsRefusal post e world)
memory_refused {F} {A} post e world o r y fault t h is memory =
    let refusal : IsRefusal post e world (Memory fault) = (t.0, t.1, λ s w st. accepted_of s w t.0 e (sym h ∙ t.2 s w st)) in
    subst (λ (k : Result A Refused). IfErr k (IsRefusal post e world)) (sym is) (subst (IsRefusal post e world) (sym memory) refusal)

-- if no premise is broken, all are kept
pub kept_so : {F : Type 0} (pre : F → ℤ → Type 0) (post : F → ℤ → ℤ → Type 0) (e : Event) (world : WorldOf F) (o : Option Breach) →
    TellsBreach post e world o → o ≡ None → IsValid pre post world → CanHappenSo post world e
kept_so pre post e world o t none v = record {
  says = t.0;
  said = t.1;
  setting = v.setting;
  state = v.state;
  stands = v.stands;
  accepted = accepted_of v.setting v.state t.0 e (sym none ∙ t.2 v.setting v.state v.stands);
}

-- and the same in each state that the world stands for
pub stepped_so : {F : Type 0} (post : F → ℤ → ℤ → Type 0) (e : Event) (old new : WorldOf F) (outs : List NodeOut) (o : Option Breach) →
    TellsBreach post e old o → o ≡ None → TakenSo post e old new outs → Stepped post e old new outs
stepped_so post e old new outs o t none taken =
    let accepted : (s : Setting) (w : WorldAt) → StandsFor post s w old → Accepts s w t.0 e = λ s w st. accepted_of s w t.0 e (sym none ∙ t.2 s w st) in
    let takes : Takes post e t.0 taken.0 old new outs = taken.1 t.0 t.1 in (
      t.0,
      taken.0,
      record {
        said = t.1;
        accepted = accepted;
        seen = λ s w st. takes.seen s w st (accepted s w st);
        stands = λ s w st. takes.stands s w st (accepted s w st);
      },
    )

pub begun_of : {F : Type 0} (pre : F → ℤ → Type 0) (post : F → ℤ → ℤ → Type 0) (e : Event) (put : ℤ) (world : WorldOf F) (first plant : Plant) (nodes : List (NodeOf F)) (outs : List NodeOut) →
    world_of first nodes ≡ world → IsValid pre post world → CanHappenSo post world e → ListsGifts first e put outs → MovesBy e first plant → plant.events ≡ first.events + 1 → plant.net ≡ first.net → FitsPlant plant →
    MayStepAfter e plant → Begun pre post e put (world_of first nodes) plant outs
begun_of {F} pre post e put world first plant nodes outs view v can gifts is events net fits still = record {
  valid = subst (λ (w : WorldOf F). IsValid pre post w) (sym view) v;
  can = subst (λ (w : WorldOf F). CanHappenSo post w e) (sym view) can;
  gifts = gifts;
  is = is;
  events = events;
  net = net;
  fits = fits;
  still = still;
}

pub lists_read : (plant : Plant) (e : Event) (put read : ℤ) (outs : List NodeOut) → read ≡ put → ListsGifts plant e put outs → ListsGifts plant e read outs
lists_read plant e put read outs h = subst (λ z. ListsGifts plant e z outs) (sym h)
