-- A node of a world takes an input, and the step is reported to the rest of the world: what the world then stands for,
-- and what it keeps.
use Rattle.std.proofs.Common.{◌≡◌, ◌∙◌, refl, ap, ap₂, sym, subst, ℕ, zero, suc, ◌+◌, ◌<◌, ◌≤◌, ◌==◌, ◌^◌, ℤ, Bool, true, false, if◌then◌else◌, List, [], ◌∷◌, length, map, Some, slice_get, slice_set, slice_index_or, FitsSigned, to_z, of_z, arith}
use Rattle.std.proofs.lemmas.Int.{to_z-of_z}
use Rattle.std.proofs.lemmas.Option.{slice_get-get_or, same_Some}
use Rattle.wrp_network.specs.declared.configuration.NetCfg.{NetCfg}
use Rattle.wrp_network.specs.Network.{NamesNoPortTwice, node_count}
use Rattle.wrp_config.specs.declared.network.Network.{Network}
use Rattle.wrp_node.specs.Control.{law_in}
use Rattle.wrp_node.specs.declared.interface.Input.{Input}
use Rattle.wrp_node.specs.declared.interface.Input.TheVariants.{Tick, Sample, Frame, Sent, Carrier, Reset}
use Rattle.wrp_node.specs.declared.interface.Output.{Output}
use Rattle.wrp_node.specs.Node.{FitsInput, IsValid as NodeIsValid, Tells as NodeTells, is_tick}
use Rattle.wrp_node.specs.NodeAt.{NodeSetting, NodeAt, Taken, numbers_of}
use Rattle.wrp_node.specs.NodeRun.{IsSaid, node_after}
use Rattle.wrp_node.specs.Parts.{is_among}
use Rattle.wrp_node.specs.Set.{set_of}
use Rattle.wrp_node.specs.StandsFor.{NodeOf, StandsFor as NodeStandsFor, Took}
use Rattle.wrp_node.specs.declared.ports.states.PortState.{PortState}
use Rattle.wrp_node.specs.States.{state_at, state_in}
use Rattle.wrp_node.specs.StepLaws.{is_frame, ticks_by}
use Rattle.wrp_node.specs.Telling.{Step}
use Rattle.std.specs.Int.{w128}
use Rattle.std.specs.List.{list_any}
use Rattle.std.proofs.lemmas.Bool.{eqb-true}
use Rattle.wrp_course.specs.declared.node_out.NodeOut.{NodeOut}
use Rattle.wrp_plant.specs.declared.plant.Plant.{Plant}
use Rattle.wrp_changes.specs.declared.telling.News.{News}
use Rattle.wrp_changes.specs.FitsGifts.{FitsGift, FitsNode}
use Rattle.wrp_course.specs.Setting.{has_port}
use Rattle.wrp_changes.specs.Gifts.{GiftIs, IsRead}
use Rattle.wrp_course.specs.Given.{Given, NodeStepAt, gives, mover_of, node_step_of, step_of, stepped_by, taken_of}
use Rattle.wrp_plant.specs.Plant.{Each, FitsPlant, PlantIs}
use Rattle.wrp_changes.specs.PlantTold.{IsStepOf, MayStep, SendsFew}
use Rattle.wrp_course.specs.Setting.{Setting, node_setting_of}
use Rattle.wrp_world.specs.KeepsFibres.{KeepsFibres}
use Rattle.wrp_world.specs.StandsFor.{IsValid, NodeIs, StandsFor, WorldOf}
use Rattle.wrp_world.specs.Step.{step_seen}
use Rattle.wrp_world.specs.Taking.{Asks, Gave, IsNewsOf, laws_of}
use Rattle.wrp_course.specs.WorldAt.{WorldAt}
use Rattle.wrp_world.proofs.Inside.{world_of}
use Rattle.wrp_world.proofs.KeptFibres.{given_keeps}
use Rattle.wrp_world.proofs.NodeSteps.{NodeStepped, SteppedAt, is_step_of, may_step, node_stepped, read_is_said, said_is_read, sends_few, ticks_told, took}
use Rattle.wrp_changes.proofs.Turned.{length_put, put_else, put_here}
use Rattle.wrp_course.proofs.LinkPorts.{other_number}

-- What was done: a node of the world took the input, and this is reported of it
pub record TookOne {F : Type 0} (pre : F → ℤ → Type 0) (post : F → ℤ → ℤ → Type 0) (put : ℤ) (old : WorldOf F) (before : NodeOut) (put_out : List Output) (node fresh : NodeOf F) (news : News) : Type 0 where
  pub valid : IsValid pre post old
  pub node_at : slice_get old.nodes before.node ≡ Some node
  pub took : Took post node fresh before.input put_out
  pub news_is : IsNewsOf post put node fresh before news

-- in a state that the world stands for
stepped_at : {F : Type 0} (pre : F → ℤ → Type 0) (post : F → ℤ → ℤ → Type 0) (put : ℤ) (old : WorldOf F) (before : NodeOut) (put_out : List Output) (node fresh : NodeOf F) (news : News) →
    (h : TookOne pre post put old before put_out node fresh news) (s : Setting) (v : WorldAt) (g : Given) (y : ℤ) → StandsFor post s v old → GiftIs put g before →
    (is_frame before.input ≡ true → y ≡ h.took.1) → SteppedAt post s v put y g node fresh before put_out news
stepped_at pre post put old before put_out node fresh news h s v g y st i e =
    let is : NodeIs post s v g.to node = subst (λ n. NodeIs post s v n node) i.node (st.nodes before.node node h.node_at) in
    record {
      set = st.set g.to;
      once = subst NamesNoPortTwice st.plant.cfg h.valid.plant.accepted.ports;
      node = i.node;
      input = i.input;
      read = i.read;
      at = is.at;
      before = is.stands;
      stepped =
          subst (λ (x : Input). NodeStepped post (node_setting_of s g.to) (v.node g.to) (v.inputs g.to) (took x g.says y) fresh put_out) i.input
          (node_stepped post (node_setting_of s g.to) (v.node g.to) (v.inputs g.to) before.input h.took.0 g.says y h.took.1 node fresh put_out h.took.2 is.at is.stands
          (subst (λ (x : Input). IsSaid x g.says) (sym i.input) (read_is_said put g.says g.at g.input i.read)) e);
      news_is = h.news_is;
    }

-- the input as it was read, for the world's own state
abbrev own_gift : {F : Type 0} (pre : F → ℤ → Type 0) (post : F → ℤ → ℤ → Type 0) (put : ℤ) (old : WorldOf F) (before : NodeOut) (put_out : List Output) (node fresh : NodeOf F) (news : News) →
    TookOne pre post put old before put_out node fresh news → Given
own_gift pre post put old before put_out node fresh news h = record { to = before.node; input = before.input; says = h.took.0; at = put }

own_is : {F : Type 0} (pre : F → ℤ → Type 0) (post : F → ℤ → ℤ → Type 0) (put : ℤ) (old : WorldOf F) (before : NodeOut) (put_out : List Output) (node fresh : NodeOf F) (news : News) →
    (h : TookOne pre post put old before put_out node fresh news) → GiftIs put (own_gift pre post put old before put_out node fresh news h) before
own_is pre post put old before put_out node fresh news h = record {
  node = refl;
  input = refl;
  read = said_is_read put h.took.0 before.input h.took.2.said;
}

own_step : {F : Type 0} (pre : F → ℤ → Type 0) (post : F → ℤ → ℤ → Type 0) (put : ℤ) (old : WorldOf F) (before : NodeOut) (put_out : List Output) (node fresh : NodeOf F) (news : News) →
    (h : TookOne pre post put old before put_out node fresh news) →
    SteppedAt post h.valid.setting h.valid.state put h.took.1 (own_gift pre post put old before put_out node fresh news h) node fresh before put_out news
own_step pre post put old before put_out node fresh news h =
    stepped_at pre post put old before put_out node fresh news h h.valid.setting h.valid.state (own_gift pre post put old before put_out node fresh news h) h.took.1 h.valid.stands
    (own_is pre post put old before put_out node fresh news h) (λ e. refl)

-- What the report requires

pub few_sent : {F : Type 0} (pre : F → ℤ → Type 0) (post : F → ℤ → ℤ → Type 0) (put : ℤ) (old : WorldOf F) (before : NodeOut) (put_out : List Output) (node fresh : NodeOf F) (news : News) →
    TookOne pre post put old before put_out node fresh news → SendsFew put_out
few_sent pre post put old before put_out node fresh news h =
    sends_few post h.valid.setting h.valid.state put h.took.1 (own_gift pre post put old before put_out node fresh news h) node fresh before put_out news
    (own_step pre post put old before put_out node fresh news h)

pub steps_once : {F : Type 0} (pre : F → ℤ → Type 0) (post : F → ℤ → ℤ → Type 0) (put : ℤ) (old : WorldOf F) (before : NodeOut) (put_out : List Output) (node fresh : NodeOf F) (news : News) →
    TookOne pre post put old before put_out node fresh news → Asks old before.input → MayStep put_out old.plant
steps_once pre post put old before put_out node fresh news h a =
    may_step post h.valid.setting h.valid.state put h.took.1 (own_gift pre post put old before put_out node fresh news h) node fresh before put_out news old
    (own_step pre post put old before put_out node fresh news h) a

-- What was reported, and what it did

pub record ToldOne {F : Type 0} (pre : F → ℤ → Type 0) (post : F → ℤ → ℤ → Type 0) (put : ℤ) (old : WorldOf F) (before after : NodeOut) (node fresh : NodeOf F) (news : News) (new : WorldOf F) : Type 0 where
  pub took : TookOne pre post put old before after.outs.items node fresh news
  pub same_node : after.node ≡ before.node
  pub same_input : after.input ≡ before.input
  pub nodes : new.nodes ≡ slice_set old.nodes before.node fresh
  pub plant :
      (s : Setting) (v : WorldAt) (g : Given) (taken : Taken) (step : Step) → PlantIs s v old.plant → IsStepOf s v g step news after.outs.items →
      PlantIs s (stepped_by s v g taken step) new.plant

-- a node of a state, with the inputs that it has had
abbrev AtBy : {F : Type 0} → (F → ℤ → ℤ → Type 0) → NodeSetting → NodeAt → List Taken → NodeOf F → Type 0
AtBy post fixed n inputs node = (n ≡ node_after fixed inputs) × NodeStandsFor post fixed node inputs

either_way : {F : Type 0} (post : F → ℤ → ℤ → Type 0) (fixed : NodeSetting) (node : NodeOf F) (b : Bool) (n m : NodeAt) (xs ys : List Taken) →
    (b ≡ true → AtBy post fixed n xs node) → (b ≡ false → AtBy post fixed m ys node) → AtBy post fixed (if b then n else m) (if b then xs else ys) node
either_way post fixed node true n m xs ys h k = h refl
either_way post fixed node false n m xs ys h k = k refl

-- each node stands for the inputs that it has had; one node has one more
nodes_are : {F : Type 0} (post : F → ℤ → ℤ → Type 0) (s : Setting) (v : WorldAt) (g : Given) (taken : Taken) (step : Step) (xs : List (NodeOf F)) (fresh : NodeOf F) →
    AtBy post (node_setting_of s g.to) step.node (taken ∷ v.inputs g.to) fresh → Each (NodeIs post s v) xs → Each (NodeIs post s (stepped_by s v g taken step)) (slice_set xs g.to fresh)
nodes_are post s v g taken step xs fresh h each m x e =
    let is : AtBy post (node_setting_of s m) (if m == g.to then step.node else v.node m) (if m == g.to then taken ∷ v.inputs m else v.inputs m) x =
    either_way post (node_setting_of s m) x (m == g.to) step.node (v.node m) (taken ∷ v.inputs m) (v.inputs m)
    (λ same.
    let at : m ≡ g.to = eqb-true m g.to same in
    let is_fresh : x ≡ fresh = put_here xs g.to fresh x (sym (ap (slice_get (slice_set xs g.to fresh)) at) ∙ e) in
    subst (λ j. AtBy post (node_setting_of s j) step.node (taken ∷ v.inputs j) x) (sym at) (subst (AtBy post (node_setting_of s g.to) step.node (taken ∷ v.inputs g.to)) (sym is_fresh) h))
    (λ other.
    let k : NodeIs post s v m x = each m x (sym (put_else xs g.to m fresh (other_number m g.to other)) ∙ e) in
    (k.at, k.stands)) in
    record { at = is.0; stands = is.1 }

pub stands_next : {F : Type 0} (pre : F → ℤ → Type 0) (post : F → ℤ → ℤ → Type 0) (put : ℤ) (old : WorldOf F) (before after : NodeOut) (node fresh : NodeOf F) (news : News) (new : WorldOf F) →
    (h : ToldOne pre post put old before after node fresh news new) (s : Setting) (v : WorldAt) (g : Given) (y : ℤ) → StandsFor post s v old → GiftIs put g before →
    (is_frame before.input ≡ true → y ≡ h.took.took.1) → StandsFor post s (gives s y v g) new
stands_next {F} pre post put old before after node fresh news new h s v g y st i e =
    let at = stepped_at pre post put old before after.outs.items node fresh news h.took s v g y st i e in
    record {
      set = st.set;
      plant = h.plant s v g (taken_of y g) (step_of s y v g) st.plant (is_step_of post s v put y g node fresh before after.outs.items news at);
      nodes =
          subst (λ (xs : List (NodeOf F)). Each (NodeIs post s (gives s y v g)) xs) (sym (h.nodes ∙ ap (λ n. slice_set old.nodes n fresh) i.node))
          (nodes_are post s v g (taken_of y g) (step_of s y v g) old.nodes fresh (at.stepped.at, at.stepped.stands) st.nodes);
    }

abbrev seen_as : ℕ → Input → List Output → NodeStepAt
seen_as n input outs = record { node = n; input = input; outs = outs }

step_is : (g : Given) (out : NodeOut) (outs : List Output) → out.node ≡ g.to → out.input ≡ g.input → out.outs.items ≡ outs → step_seen out ≡ seen_as g.to g.input outs
step_is g out outs n i o = ap₂ (λ a b. seen_as a b out.outs.items) n i ∙ ap (seen_as g.to g.input) o

pub seen_next : {F : Type 0} (pre : F → ℤ → Type 0) (post : F → ℤ → ℤ → Type 0) (put : ℤ) (old : WorldOf F) (before after : NodeOut) (node fresh : NodeOf F) (news : News) (new : WorldOf F) →
    (h : ToldOne pre post put old before after node fresh news new) (s : Setting) (v : WorldAt) (g : Given) (y : ℤ) → StandsFor post s v old → GiftIs put g before →
    (is_frame before.input ≡ true → y ≡ h.took.took.1) → step_seen after ≡ node_step_of s y v g
seen_next pre post put old before after node fresh news new h s v g y st i e =
    let at = stepped_at pre post put old before after.outs.items node fresh news h.took s v g y st i e in
    step_is g after _ (h.same_node ∙ i.node) (h.same_input ∙ i.input) at.stepped.outputs

pub gave_one : {F : Type 0} (pre : F → ℤ → Type 0) (post : F → ℤ → ℤ → Type 0) (put : ℤ) (old : WorldOf F) (before after : NodeOut) (node fresh : NodeOf F) (news : News) (new : WorldOf F) →
    ToldOne pre post put old before after node fresh news new → Gave post put old new before after
gave_one pre post put old before after node fresh news new h = (
  h.took.took.1,
  λ y e. record {
    stands = λ s v g st i. stands_next pre post put old before after node fresh news new h s v g y st i e;
    seen = λ s v g st i. seen_next pre post put old before after node fresh news new h s v g y st i e;
  },
)

-- What the world keeps

-- a node that ticked did so in an event
ticks_within : {F : Type 0} (world : WorldOf F) (n : ℕ) (node : NodeOf F) (input : Input) → slice_get world.nodes n ≡ Some node → Asks world input → node.parts.ticks ≤ world.plant.events →
    ticks_by input node.parts.ticks ≤ world.plant.events
ticks_within world n node Tick at a h = a n node at
ticks_within world n node (Sample m base bits) at a h = h
ticks_within world n node (Frame p octets raw sample) at a h = h
ticks_within world n node (Sent p seq delay stamp) at a h = h
ticks_within world n node (Carrier p up m) at a h = h
ticks_within world n node Reset at a h = omega arith

-- what is true at each place after one element was replaced
put_where : {A : Type 0} (P : ℕ → A → Type 0) (xs : List A) (n m : ℕ) (v x : A) (b : Bool) → (m == n) ≡ b → P n v → Each P xs → slice_get (slice_set xs n v) m ≡ Some x → P m x
put_where P xs n m v x true at h each e =
    let same : m ≡ n = eqb-true m n at in
    let is : x ≡ v = put_here xs n v x (sym (ap (slice_get (slice_set xs n v)) same) ∙ e) in
    subst (λ j. P j x) (sym same) (subst (P n) (sym is) h)
put_where P xs n m v x false at h each e = each m x (sym (put_else xs n m v (other_number m n at)) ∙ e)

each_put : {A : Type 0} (P : ℕ → A → Type 0) (xs : List A) (n : ℕ) (v : A) → P n v → Each P xs → Each P (slice_set xs n v)
each_put P xs n v h each m x e = put_where P xs n m v x (m == n) refl h each e

pub record KeptOne {F : Type 0} (pre : F → ℤ → Type 0) (post : F → ℤ → ℤ → Type 0) (old new : WorldOf F) (node fresh : NodeOf F) : Type 0 where
  pub fits : FitsPlant new.plant
  pub net : new.plant.net ≡ old.plant.net
  pub events : new.plant.events ≡ old.plant.events
  pub valid : NodeIsValid pre post fresh

pub valid_next : {F : Type 0} (pre : F → ℤ → Type 0) (post : F → ℤ → ℤ → Type 0) (put : ℤ) (old : WorldOf F) (before after : NodeOut) (node fresh : NodeOf F) (news : News) (new : WorldOf F) →
    ToldOne pre post put old before after node fresh news new → KeptOne pre post old new node fresh → Asks old before.input → IsValid pre post new
valid_next {F} pre post put old before after node fresh news new h k a =
    let t = h.took in
    let g : Given = own_gift pre post put old before after.outs.items node fresh news t in
    let ticks : fresh.parts.ticks ≡ ticks_by before.input node.parts.ticks =
    ticks_told post t.valid.setting t.valid.state put t.took.1 g node fresh before after.outs.items news (own_step pre post put old before after.outs.items node fresh news t) in
    record {
      plant = k.fits;
      node_count =
          ap length h.nodes ∙ length_put old.nodes before.node fresh ∙ t.valid.node_count ∙ ap (λ (n : Network). node_count n.cfg) (sym k.net);
      nodes =
          subst (λ (xs : List (NodeOf F)). Each (λ n. NodeIsValid pre post) xs) (sym h.nodes)
          (each_put (λ n. NodeIsValid pre post) old.nodes before.node fresh k.valid t.valid.nodes);
      ticks =
          subst (λ e. Each (λ n (x : NodeOf F). x.parts.ticks ≤ e) new.nodes) (sym k.events)
          (subst (λ (xs : List (NodeOf F)). Each (λ n (x : NodeOf F). x.parts.ticks ≤ old.plant.events) xs) (sym h.nodes)
          (each_put (λ n (x : NodeOf F). x.parts.ticks ≤ old.plant.events) old.nodes before.node fresh
          (subst (λ n. n ≤ old.plant.events) (sym ticks) (ticks_within old before.node node before.input t.node_at a (t.valid.ticks before.node node t.node_at))) t.valid.ticks));
      setting = t.valid.setting;
      state = gives t.valid.setting t.took.1 t.valid.state g;
      stands =
          stands_next pre post put old before after node fresh news new h t.valid.setting t.valid.state g t.took.1 t.valid.stands
          (own_is pre post put old before after.outs.items node fresh news t) (λ e. refl);
    }

-- the fibres of the links, which no step moves

pub fibres_next : {F : Type 0} (pre : F → ℤ → Type 0) (post : F → ℤ → ℤ → Type 0) (put : ℤ) (old : WorldOf F) (before after : NodeOut) (node fresh : NodeOf F) (news : News) (new : WorldOf F) →
    ToldOne pre post put old before after node fresh news new → FitsPlant new.plant → KeepsFibres old.plant → KeepsFibres new.plant
fibres_next {F} pre post put old before after node fresh news new h fits kept =
    let t = h.took in
    let g : Given = own_gift pre post put old before after.outs.items node fresh news t in
    given_keeps old.plant new.plant t.valid.setting t.valid.state t.took.1 g kept t.valid.stands.plant fits.span_count
    (stands_next pre post put old before after node fresh news new h t.valid.setting t.valid.state g t.took.1 t.valid.stands
    (own_is pre post put old before after.outs.items node fresh news t) (λ e. refl)).plant

-- the laws of the nodes

map_put : {A B : Type 0} (f : A → B) (xs : List A) (n : ℕ) (x v : A) → slice_get xs n ≡ Some x → f v ≡ f x → map f (slice_set xs n v) ≡ map f xs
map_put f [] n x v e h = refl
map_put f (y ∷ xs) zero x v e h = ap (λ z. z ∷ map f xs) (h ∙ ap f (sym (same_Some y x e)))
map_put f (y ∷ xs) (suc n) x v e h = ap (λ zs. f y ∷ zs) (map_put f xs n x v e h)

pub laws_next : {F : Type 0} (old new : WorldOf F) (n : ℕ) (node fresh : NodeOf F) → slice_get old.nodes n ≡ Some node → new.nodes ≡ slice_set old.nodes n fresh →
    law_in fresh.control ≡ law_in node.control → laws_of new ≡ laws_of old
laws_next {F} old new n node fresh at e h =
    ap (map (λ (x : NodeOf F). law_in x.control)) e ∙ map_put (λ (x : NodeOf F). law_in x.control) old.nodes n node fresh at h

-- A listed input can come

fits_number : {F : Type 0} (pre : F → ℤ → Type 0) (post : F → ℤ → ℤ → Type 0) (world : WorldOf F) (n p : ℕ) (node : NodeOf F) → IsValid pre post world →
    slice_get world.nodes n ≡ Some node → has_port world.plant.net.cfg n p ≡ true → is_among p node.parts.ports ≡ true
fits_number pre post world n p node v at h =
    let is : NodeIs post v.setting v.state n node = v.stands.nodes n node at in
    ap (list_any (λ q. q == p)) (is.stands.is_at.parts.numbers ∙ ap numbers_of (v.stands.set n ∙ ap (λ (c : NetCfg). set_of c n) (sym v.stands.plant.cfg))) ∙ h

ticks_fit : (t e : ℕ) → t + 1 ≤ e → e < 2 ^ 32 → t + 1 < 2 ^ 32
ticks_fit t e h k = omega (arith, h, k)

pub fits_input : {F : Type 0} (pre : F → ℤ → Type 0) (post : F → ℤ → ℤ → Type 0) (world : WorldOf F) (n : ℕ) (input : Input) (node : NodeOf F) → IsValid pre post world →
    slice_get world.nodes n ≡ Some node → FitsNode world.plant.net.cfg n input → Asks world input → FitsInput node input
fits_input pre post world n Tick node v at h a = ticks_fit node.parts.ticks world.plant.events (a n node at) v.plant.events
fits_input pre post world n (Sample m base bits) node v at h a = h
fits_input pre post world n (Frame p octets raw sample) node v at h a = (fits_number pre post world n p node v at h.0, h.1)
fits_input pre post world n (Sent p seq delay stamp) node v at h a = (fits_number pre post world n p node v at h.0, h.1)
fits_input pre post world n (Carrier p up m) node v at h a = fits_number pre post world n p node v at h
fits_input pre post world n Reset node v at h a = tt

-- The time is read unchanged

pub news_read : {F : Type 0} (post : F → ℤ → ℤ → Type 0) (put : ℤ) (old new : NodeOf F) (out : NodeOut) (news : News) → FitsSigned w128 put →
    IsNewsOf post (to_z w128 (of_z w128 put)) old new out news → IsNewsOf post put old new out news
news_read post put old new out news fits h = subst (λ z. IsNewsOf post z old new out news) (to_z-of_z w128 put fits) h

-- What is reported, as it is read after the step: the step changes neither the node's number nor its input

pub news_by_parts : {F : Type 0} (post : F → ℤ → ℤ → Type 0) (put : ℤ) (old new : NodeOf F) (before after : NodeOut) (news : News) (here there : List PortState) →
    after.node ≡ before.node → after.input ≡ before.input → news.node ≡ after.node → news.ticked ≡ is_tick after.input →
    ((g : Given) → IsRead put g.says g.at after.input → news.by ≡ mover_of g after.input) →
    news.before.now.items ≡ here → news.after.now.items ≡ there →
    ((p : ℕ) → is_among p old.parts.ports ≡ true → NodeTells post (state_at p) old (state_in p here)) →
    ((p : ℕ) → is_among p new.parts.ports ≡ true → NodeTells post (state_at p) new (state_in p there)) → IsNewsOf post put old new before news
news_by_parts post put old new before after news here there n x a t b d e f g = record {
  node = a ∙ n;
  ticked = t ∙ ap is_tick x;
  by = subst (λ (i : Input). (q : Given) → IsRead put q.says q.at i → news.by ≡ mover_of q i) x b;
  before = subst (λ (rows : List PortState). (p : ℕ) → is_among p old.parts.ports ≡ true → NodeTells post (state_at p) old (state_in p rows)) (sym d) f;
  after = subst (λ (rows : List PortState). (p : ℕ) → is_among p new.parts.ports ≡ true → NodeTells post (state_at p) new (state_in p rows)) (sym e) g;
}

-- As the code has it: the world is its plant and its nodes, one of which is borrowed

pub node_here : {F : Type 0} (pre : F → ℤ → Type 0) (post : F → ℤ → ℤ → Type 0) (world : WorldOf F) (plant : Plant) (nodes : List (NodeOf F)) (out : NodeOut) (i : ℕ) (node : NodeOf F) →
    world_of plant nodes ≡ world → IsValid pre post world → FitsGift world.plant.net.cfg out → i ≡ out.node → node ≡ slice_index_or nodes i node →
    slice_get world.nodes out.node ≡ Some node
node_here {F} pre post world plant nodes out i node view v f same value =
    let count : length nodes ≡ length world.nodes = ap (λ (w : WorldOf F). length w.nodes) view in
    let within : i < length nodes = omega (arith, count, v.node_count, f.node, same) in
    ap₂ (λ (w : WorldOf F) (n : ℕ). slice_get w.nodes n) (sym view) (sym same) ∙ slice_get-get_or nodes i node within ∙ ap (λ (x : NodeOf F). Some x) (sym value)

pub took_one : {F : Type 0} (pre : F → ℤ → Type 0) (post : F → ℤ → ℤ → Type 0) (put : ℤ) (world : WorldOf F) (plant : Plant) (nodes : List (NodeOf F)) (out : NodeOut) (put_out : List Output) (i : ℕ) (node fresh : NodeOf F) (news : News) →
    world_of plant nodes ≡ world → IsValid pre post world → FitsGift world.plant.net.cfg out → i ≡ out.node → node ≡ slice_index_or nodes i node →
    Took post node fresh out.input put_out → IsNewsOf post put node fresh out news → TookOne pre post put world out put_out node fresh news
took_one pre post put world plant nodes out put_out i node fresh news view v f same value t n = record {
  valid = v;
  node_at = node_here pre post world plant nodes out i node view v f same value;
  took = t;
  news_is = n;
}

pub told_one : {F : Type 0} (pre : F → ℤ → Type 0) (post : F → ℤ → ℤ → Type 0) (put : ℤ) (world : WorldOf F) (before after : NodeOut) (node fresh : NodeOf F) (news : News) (plant told : Plant) (nodes : List (NodeOf F)) (i : ℕ) (outs : List Output) →
    TookOne pre post put world before after.outs.items node fresh news → world_of plant nodes ≡ world → i ≡ before.node → after.node ≡ before.node → after.input ≡ before.input → outs ≡ after.outs.items →
    ((s : Setting) (v : WorldAt) (g : Given) (taken : Taken) (step : Step) → PlantIs s v plant → IsStepOf s v g step news outs → PlantIs s (stepped_by s v g taken step) told) →
    ToldOne pre post put world before after node fresh news (world_of told (slice_set nodes i fresh))
told_one {F} pre post put world before after node fresh news plant told nodes i outs t view same n x e is = record {
  took = t;
  same_node = n;
  same_input = x;
  nodes = ap₂ (λ (w : WorldOf F) (k : ℕ). slice_set w.nodes k fresh) view same;
  plant = λ s v g taken step p q.
      is s v g taken step (subst (λ (w : WorldOf F). PlantIs s v w.plant) (sym view) p) (subst (λ (os : List Output). IsStepOf s v g step news os) (sym e) q);
}
