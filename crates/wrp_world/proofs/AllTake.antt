-- The nodes take the inputs of an event one after another: what was taken so far, and what one more input does.
use Rattle.std.proofs.Common.{◌≡◌, ◌∙◌, refl, ap, ap₂, sym, subst, ℕ, zero, suc, ◌+◌, ◌<◌, ◌≤◌, ℤ, pos, true, List, [], ◌∷◌, ◌++◌, length, map, take, Some, slice_get, slice_set, slice_index_or, FitsSigned, to_z, of_z, arith}
use Rattle.std.proofs.lemmas.Int.{to_z-of_z}
use Rattle.std.proofs.lemmas.List.{take_all}
use Rattle.std.proofs.lemmas.Option.{slice_get-get_or, none-some, same_Some}
use Rattle.std.specs.Int.{w128}
use Rattle.std.specs.List.{AllByRecursion, AllZip}
use Rattle.wrp_network.specs.declared.configuration.NetCfg.{NetCfg}
use Rattle.wrp_network.specs.Network.{node_count}
use Rattle.wrp_config.specs.declared.network.Network.{Network}
use Rattle.wrp_node.specs.declared.interface.Input.{Input}
use Rattle.wrp_node.specs.declared.interface.Input.TheVariants.{Tick, Sample, Frame, Sent, Carrier, Reset}
use Rattle.wrp_node.specs.StepLaws.{is_frame}
use Rattle.wrp_plant.specs.declared.ends.EndState.{EndState}
use Rattle.wrp_course.specs.declared.node_out.NodeOut.{NodeOut}
use Rattle.wrp_plant.specs.declared.plant.Plant.{Plant}
use Rattle.wrp_changes.specs.FitsGifts.{FitsGift}
use Rattle.wrp_changes.specs.Gifts.{GiftIs}
use Rattle.wrp_course.specs.Given.{Given, NodeStepAt, gives, gives_all, node_step_of, steps_of}
use Rattle.wrp_plant.specs.EndRoom.{HasEndRoom, HasSpanRoom}
use Rattle.wrp_changes.specs.Room.{HasRoom}
use Rattle.wrp_course.specs.Setting.{Setting}
use Rattle.wrp_world.specs.StandsFor.{IsValid, StandsFor, WorldOf}
use Rattle.wrp_world.specs.Step.{step_seen}
use Rattle.wrp_world.specs.Taking.{AreOfNodes, Asks, FirstAsks, Gave, GaveAll, Gives, is_plain, laws_of}
use Rattle.wrp_course.specs.WorldAt.{WorldAt}
use Rattle.wrp_changes.proofs.Turned.{length_put, put_else}

-- Lists, as far as a loop has come

-- each element of one list has its partner at the same place in the other
zip_at : {A B : Type 0} (R : A → B → Type 0) (xs : List A) (ys : List B) (k : ℕ) (y : B) → AllZip R xs ys → slice_get ys k ≡ Some y →
    (x : A) × (slice_get xs k ≡ Some x) × R x y
zip_at R [] [] k y h e = absurd (none-some y e)
zip_at R [] (z ∷ ys) k y h e = absurd h
zip_at R (x ∷ xs) [] k y h e = absurd h
zip_at R (x ∷ xs) (z ∷ ys) zero y h e = (x, refl, subst (R x) (same_Some z y e) h.0)
zip_at R (x ∷ xs) (z ∷ ys) (suc k) y h e = zip_at R xs ys k y h.1 e

zip_length : {A B : Type 0} (R : A → B → Type 0) (xs : List A) (ys : List B) → AllZip R xs ys → length xs ≡ length ys
zip_length R [] [] h = refl
zip_length R [] (y ∷ ys) h = absurd h
zip_length R (x ∷ xs) [] h = absurd h
zip_length R (x ∷ xs) (y ∷ ys) h = ap suc (zip_length R xs ys h.1)

-- one more input is taken
given_next : (s : Setting) (y : ℤ) (v : WorldAt) (gs : List Given) (k : ℕ) (g : Given) → slice_get gs k ≡ Some g →
    gives_all s y v (take (suc k) gs) ≡ gives s y (gives_all s y v (take k gs)) g
given_next s y v [] k g e = absurd (none-some g e)
given_next s y v (x ∷ gs) zero g e = ap (gives s y v) (same_Some x g e)
given_next s y v (x ∷ gs) (suc k) g e = given_next s y (gives s y v x) gs k g e

steps_next : (s : Setting) (y : ℤ) (v : WorldAt) (gs : List Given) (k : ℕ) (g : Given) → slice_get gs k ≡ Some g →
    steps_of s y v (take (suc k) gs) ≡ steps_of s y v (take k gs) ++ (node_step_of s y (gives_all s y v (take k gs)) g ∷ [])
steps_next s y v [] k g e = absurd (none-some g e)
steps_next s y v (x ∷ gs) zero g e = ap (λ z. node_step_of s y v z ∷ []) (same_Some x g e)
steps_next s y v (x ∷ gs) (suc k) g e = ap (λ rest. node_step_of s y v x ∷ rest) (steps_next s y (gives s y v x) gs k g e)

seen_next : {A B : Type 0} (f : A → B) (xs : List A) (k : ℕ) (x : A) → k < length xs →
    map f (take (suc k) (slice_set xs k x)) ≡ map f (take k xs) ++ (f x ∷ [])
seen_next f [] k x h = absurd (omega arith)
seen_next f (z ∷ xs) zero x h = refl
seen_next f (z ∷ xs) (suc k) x h = ap (λ rest. f z ∷ rest) (seen_next f xs k x (omega arith))

pub all_at : {A : Type 0} (P : A → Type 0) (xs : List A) (k : ℕ) (x : A) → AllByRecursion P xs → slice_get xs k ≡ Some x → P x
all_at P [] k x h e = absurd (none-some x e)
all_at P (z ∷ xs) zero x h e = subst P (same_Some z x e) h.0
all_at P (z ∷ xs) (suc k) x h e = all_at P xs k x h.1 e

-- What was taken so far

-- with this answer, the first k inputs made the world what it is now
pub record GivesFirst {F : Type 0} (post : F → ℤ → ℤ → Type 0) (put y : ℤ) (k : ℕ) (old now : WorldOf F) (before after : List NodeOut) : Type 0 where
  pub stands :
      (s : Setting) (v : WorldAt) (gs : List Given) → StandsFor post s v old → AllZip (GiftIs put) gs before →
      StandsFor post s (gives_all s y v (take k gs)) now
  pub seen :
      (s : Setting) (v : WorldAt) (gs : List Given) → StandsFor post s v old → AllZip (GiftIs put) gs before →
      map step_seen (take k after) ≡ steps_of s y v (take k gs)

first_next : {F : Type 0} (post : F → ℤ → ℤ → Type 0) (put y : ℤ) (k : ℕ) (old now new : WorldOf F) (before after : List NodeOut) (out made : NodeOut) →
    slice_get before k ≡ Some out → k < length after → GivesFirst post put y k old now before after → Gives post put y now new out made →
    GivesFirst post put y (suc k) old new before (slice_set after k made)
first_next post put y k old now new before after out made at within h g = record {
  stands = λ s v gs st z.
      let i = zip_at (GiftIs put) gs before k out z at in
      subst (λ (u : WorldAt). StandsFor post s u new) (sym (given_next s y v gs k i.0 i.1))
      (g.stands s (gives_all s y v (take k gs)) i.0 (h.stands s v gs st z) i.2);
  seen = λ s v gs st z.
      let i = zip_at (GiftIs put) gs before k out z at in
      seen_next step_seen after k made within
      ∙ ap₂ (λ (xs : List NodeStepAt) (x : NodeStepAt). xs ++ (x ∷ [])) (h.seen s v gs st z) (g.seen s (gives_all s y v (take k gs)) i.0 (h.stands s v gs st z) i.2)
      ∙ sym (steps_next s y v gs k i.0 i.1);
}

-- before any input was taken, any answer will do
any_answer : {F : Type 0} (post : F → ℤ → ℤ → Type 0) (put y z : ℤ) (old now : WorldOf F) (before after : List NodeOut) →
    GivesFirst post put y 0 old now before after → GivesFirst post put z 0 old now before after
any_answer post put y z old now before after h = record {
  stands = λ s v gs st i. h.stands s v gs st i;
  seen = λ s v gs st i. refl;
}

pub plain_asks : {F : Type 0} (world : WorldOf F) (input : Input) → is_plain input ≡ true → Asks world input
plain_asks world Tick e = absurd (grind (arith, e))
plain_asks world (Frame p octets raw sample) e = absurd (grind (arith, e))
plain_asks world (Sample n base bits) e = tt
plain_asks world (Sent p seq delay stamp) e = tt
plain_asks world (Carrier p up m) e = tt
plain_asks world Reset e = tt

plain_is_no_frame : (input : Input) → is_plain input ≡ true → is_frame input ≡ true → ⊥
plain_is_no_frame Tick e f = grind (arith, f)
plain_is_no_frame (Frame p octets raw sample) e f = grind (arith, e)
plain_is_no_frame (Sample n base bits) e f = grind (arith, f)
plain_is_no_frame (Sent p seq delay stamp) e f = grind (arith, f)
plain_is_no_frame (Carrier p up m) e f = grind (arith, f)
plain_is_no_frame Reset e f = grind (arith, f)

-- an input after the first is plain
later_plain : {F : Type 0} (world : WorldOf F) (outs : List NodeOut) (k : ℕ) (out : NodeOut) → FirstAsks world outs → slice_get outs (suc k) ≡ Some out → is_plain out.input ≡ true
later_plain world [] k out h e = absurd (none-some out e)
later_plain world (first ∷ outs) k out h e = all_at (λ (o : NodeOut). is_plain o.input ≡ true) outs k out h.1 e

first_asks : {F : Type 0} (world : WorldOf F) (outs : List NodeOut) (out : NodeOut) → FirstAsks world outs → slice_get outs 0 ≡ Some out → Asks world out.input
first_asks world [] out h e = absurd (none-some out e)
first_asks world (first ∷ outs) out h e = subst (λ (o : NodeOut). Asks world o.input) (same_Some first out e) h.0

-- the first input's answer serves the later ones too, since they need none
gave_next : {F : Type 0} (post : F → ℤ → ℤ → Type 0) (put : ℤ) (k : ℕ) (old now new : WorldOf F) (before after : List NodeOut) (out made : NodeOut) → FirstAsks old before →
    slice_get before k ≡ Some out → k < length after → (y : ℤ) × GivesFirst post put y k old now before after → Gave post put now new out made →
    (y : ℤ) × GivesFirst post put y (suc k) old new before (slice_set after k made)
gave_next post put zero old now new before after out made f at within h g =
    (g.0, first_next post put g.0 zero old now new before after out made at within (any_answer post put h.0 g.0 old now before after h.1) (g.1 g.0 (λ e. refl)))
gave_next post put (suc k) old now new before after out made f at within h g =
    (h.0, first_next post put h.0 (suc k) old now new before after out made at within h.1 (g.1 h.0 (λ e. absurd (plain_is_no_frame out.input (later_plain old before k out f at) e))))

-- A loop has come to place k

pub record TakenTo {F : Type 0} (pre : F → ℤ → Type 0) (post : F → ℤ → ℤ → Type 0) (put : ℤ) (old now : WorldOf F) (before after : List NodeOut) (k : ℕ) : Type 0 where
  pub valid : IsValid pre post now
  pub net : now.plant.net ≡ old.plant.net
  pub events : now.plant.events ≡ old.plant.events
  pub laws : laws_of now ≡ laws_of old
  pub room : (n : ℕ) → n + k ≡ length before → HasRoom n now.plant
  pub first : k ≡ 0 → now ≡ old
  pub count : length after ≡ length before
  pub left : (n : ℕ) → k ≤ n → slice_get after n ≡ slice_get before n
  pub gave : (y : ℤ) × GivesFirst post put y k old now before after
  pub nodes : AreOfNodes old.plant.net.cfg after

-- what each input requires
pub record AllMay {F : Type 0} (old : WorldOf F) (outs : List NodeOut) : Type 0 where
  pub gifts : AllByRecursion (FitsGift old.plant.net.cfg) outs
  pub asks : FirstAsks old outs
  pub room : HasRoom (length outs) old.plant

nodes_of : (cfg : NetCfg) (outs : List NodeOut) → AllByRecursion (FitsGift cfg) outs → AreOfNodes cfg outs
nodes_of cfg [] h = tt
nodes_of cfg (out ∷ outs) h = (h.0.node, nodes_of cfg outs h.1)

pub all_put : {A : Type 0} (P : A → Type 0) (xs : List A) (k : ℕ) (v : A) → P v → AllByRecursion P xs → AllByRecursion P (slice_set xs k v)
all_put P [] k v h all = tt
all_put P (x ∷ xs) zero v h all = (h, all.1)
all_put P (x ∷ xs) (suc k) v h all = (all.0, all_put P xs k v h all.1)

pub taken_none : {F : Type 0} (pre : F → ℤ → Type 0) (post : F → ℤ → ℤ → Type 0) (put : ℤ) (old : WorldOf F) (outs : List NodeOut) → IsValid pre post old → AllMay old outs →
    TakenTo pre post put old old outs outs 0
taken_none pre post put old outs v h = record {
  valid = v;
  net = refl;
  events = refl;
  laws = refl;
  room = λ n e. let q : n ≡ length outs = omega (arith, e) in subst (λ j. HasRoom j old.plant) (sym q) h.room;
  first = λ e. refl;
  count = refl;
  left = λ n e. refl;
  gave = (pos 0, record { stands = λ s v gs st i. st; seen = λ s v gs st i. refl });
  nodes = nodes_of old.plant.net.cfg outs h.gifts;
}

-- the input at the place to which the loop has come
pub at_hand : {F : Type 0} (pre : F → ℤ → Type 0) (post : F → ℤ → ℤ → Type 0) (put : ℤ) (old now : WorldOf F) (before after : List NodeOut) (k : ℕ) (out : NodeOut) → k < length after → out ≡ slice_index_or after k out →
    TakenTo pre post put old now before after k → slice_get before k ≡ Some out
at_hand pre post put old now before after k out l e t = sym (t.left k (omega arith)) ∙ slice_get-get_or after k out l ∙ ap (λ (o : NodeOut). Some o) (sym e)

pub gift_at : {F : Type 0} (pre : F → ℤ → Type 0) (post : F → ℤ → ℤ → Type 0) (put : ℤ) (old now : WorldOf F) (before after : List NodeOut) (k : ℕ) (out : NodeOut) → slice_get before k ≡ Some out → AllMay old before →
    TakenTo pre post put old now before after k → FitsGift now.plant.net.cfg out
gift_at pre post put old now before after k out at h t =
    subst (λ (n : Network). FitsGift n.cfg out) (sym t.net) (all_at (FitsGift old.plant.net.cfg) before k out h.gifts at)

pub asks_at : {F : Type 0} (pre : F → ℤ → Type 0) (post : F → ℤ → ℤ → Type 0) (put : ℤ) (old now : WorldOf F) (before after : List NodeOut) (k : ℕ) (out : NodeOut) → slice_get before k ≡ Some out → AllMay old before →
    TakenTo pre post put old now before after k → Asks now out.input
asks_at pre post put old now before after zero out at h t = subst (λ w. Asks w out.input) (sym (t.first refl)) (first_asks old before out h.asks at)
asks_at pre post put old now before after (suc k) out at h t = plain_asks now out.input (later_plain old before k out h.asks at)

-- how many more than a number
less : (k n : ℕ) → k < n → (m : ℕ) × ((m + 1) + k ≡ n)
less zero zero h = absurd (omega arith)
less zero (suc n) h = (n, omega arith)
less (suc k) zero h = absurd (omega arith)
less (suc k) (suc n) h = let r : (m : ℕ) × ((m + 1) + k ≡ n) = less k n (omega arith) in (r.0, omega (arith, r.1))

one_end : (m : ℕ) (end : EndState) → HasEndRoom (m + 1) end → HasEndRoom 1 end
one_end m end h = record { waiting = omega (arith, h.waiting); marks = omega (arith, h.marks) }

one_of_more : (plant : Plant) (m : ℕ) → HasRoom (m + 1) plant → HasRoom 1 plant
one_of_more plant m h k x e =
    let r : HasSpanRoom (m + 1) x = h k x e in
    record { master = one_end m x.master r.master; slave = one_end m x.slave r.slave }

pub room_at : {F : Type 0} (pre : F → ℤ → Type 0) (post : F → ℤ → ℤ → Type 0) (put : ℤ) (old now : WorldOf F) (before after : List NodeOut) (k : ℕ) → k < length after →
    TakenTo pre post put old now before after k → HasRoom 1 now.plant
room_at pre post put old now before after k l t =
    let r : (m : ℕ) × ((m + 1) + k ≡ length before) = less k (length before) (subst (λ n. k < n) t.count l) in
    one_of_more now.plant r.0 (t.room (r.0 + 1) r.1)

-- what one more input did
pub record TookNext {F : Type 0} (pre : F → ℤ → Type 0) (post : F → ℤ → ℤ → Type 0) (put : ℤ) (now new : WorldOf F) (out made : NodeOut) : Type 0 where
  pub valid : IsValid pre post new
  pub gave : Gave post put now new out made
  pub node : made.node ≡ out.node
  pub room : (k : ℕ) → HasRoom (k + 1) now.plant → HasRoom k new.plant
  pub net : new.plant.net ≡ now.plant.net
  pub events : new.plant.events ≡ now.plant.events
  pub laws : laws_of new ≡ laws_of now

not_zero : (k : ℕ) → k + 1 ≡ 0 → ⊥
not_zero k e = omega (arith, e)

pub taken_next : {F : Type 0} (pre : F → ℤ → Type 0) (post : F → ℤ → ℤ → Type 0) (put : ℤ) (old now new : WorldOf F) (before after : List NodeOut) (k : ℕ) (out made : NodeOut) → slice_get before k ≡ Some out → k < length after →
    AllMay old before → TakenTo pre post put old now before after k → TookNext pre post put now new out made → TakenTo pre post put old new before (slice_set after k made) (k + 1)
taken_next pre post put old now new before after k out made at l h t n =
    let next : suc k ≡ k + 1 = omega arith in
    record {
      valid = n.valid;
      net = n.net ∙ t.net;
      events = n.events ∙ t.events;
      laws = n.laws ∙ t.laws;
      room = λ m e. n.room m (t.room (m + 1) (omega (arith, e)));
      first = λ e. absurd (not_zero k e);
      count = length_put after k made ∙ t.count;
      left = λ m e. put_else after k m made (λ f. omega (arith, e, f)) ∙ t.left m (omega (arith, e));
      nodes =
          all_put (λ (o : NodeOut). o.node < node_count old.plant.net.cfg) after k made
          (subst (λ m. m < node_count old.plant.net.cfg) (sym n.node) (all_at (FitsGift old.plant.net.cfg) before k out h.gifts at).node) t.nodes;
      gave =
          subst (λ j. (y : ℤ) × GivesFirst post put y j old new before (slice_set after k made)) next
          (gave_next post put k old now new before after out made h.asks at l t.gave n.gave);
    }

-- the end of the loop

as_long : (a b c k : ℕ) → a ≡ b → c ≡ b → c ≤ k → a ≤ k
as_long a b c k e f h = omega (arith, e, f, h)

pub taken_all : {F : Type 0} (pre : F → ℤ → Type 0) (post : F → ℤ → ℤ → Type 0) (put : ℤ) (old now : WorldOf F) (before after : List NodeOut) (k : ℕ) → length after ≤ k →
    TakenTo pre post put old now before after k → GaveAll post put old now before after
taken_all pre post put old now before after k l t =
    let y : ℤ = t.gave.0 in
    let whole : (gs : List Given) → AllZip (GiftIs put) gs before → take k gs ≡ gs =
    λ gs z. take_all k gs (as_long (length gs) (length before) (length after) k (zip_length (GiftIs put) gs before z) t.count l) in (
      y,
      record {
        stands = λ s v gs st z. subst (λ (xs : List Given). StandsFor post s (gives_all s y v xs) now) (whole gs z) (t.gave.1.stands s v gs st z);
        seen = λ s v gs st z. ap (map step_seen) (sym (take_all k after l)) ∙ t.gave.1.seen s v gs st z ∙ ap (steps_of s y v) (whole gs z);
      },
    )

pub all_of_nodes : {F : Type 0} (pre : F → ℤ → Type 0) (post : F → ℤ → ℤ → Type 0) (put : ℤ) (old now : WorldOf F) (before after : List NodeOut) (k : ℕ) →
    TakenTo pre post put old now before after k → AreOfNodes now.plant.net.cfg after
all_of_nodes pre post put old now before after k t = subst (λ (n : Network). AreOfNodes n.cfg after) (sym t.net) t.nodes

-- the time is read unchanged
pub all_read : {F : Type 0} (post : F → ℤ → ℤ → Type 0) (put : ℤ) (old new : WorldOf F) (before after : List NodeOut) → FitsSigned w128 put →
    GaveAll post (to_z w128 (of_z w128 put)) old new before after → GaveAll post put old new before after
all_read post put old new before after fits h = subst (λ z. GaveAll post z old new before after) (to_z-of_z w128 put fits) h
