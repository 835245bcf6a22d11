-- What is shown for each rule: its event is one of the network, the world accepts it, and all that holds is
-- kept.
use Rattle.std.proofs.Common.{◌≡◌, ◌⊎◌, inl, inr, ◌∙◌, refl, ap, sym, subst, ℕ, zero, suc, ◌+◌, ◌≤◌, ◌<◌, ℤ, pos, ◌+ℤ◌, ◌≤ℤ◌, nat_lt, Bool, true, false, if◌then◌else◌, cond, List, [], ◌∷◌, Option, None, Some, option_map, slice_get, Result, arith}
use Rattle.std.proofs.lemmas.Bool.Decides.{Decides-int_eq, eqb_tells, nat_tests}
use Rattle.std.proofs.lemmas.Int.{ints}
use Rattle.std.specs.List.{AllByRecursion, find}
use Rattle.std.specs.Option.{option_and_then, option_map_or}
use Rattle.std.specs.Ordering.{int_eq}
use Rattle.std.proofs.lemmas.Bool.{and_parts}
use Rattle.std.proofs.lemmas.Option.{none-some}
use Rattle.wrp_base.specs.declared.message.PtpMsg.{PtpMsg}
use Rattle.wrp_network.specs.declared.network.LinkCfg.{LinkCfg}
use Rattle.wrp_network.specs.declared.network.NodeCfg.{NodeCfg}
use Rattle.wrp_network.specs.Network.{node_count}
use Rattle.wrp_base.proofs.Booleans.{not_both}
use Rattle.wrp_base.proofs.Integers.{le_plus}
use Rattle.wrp_base.proofs.Lists.{has_item}
use Rattle.wrp_bounds.specs.Times.{longest_tick, shortest_tick}
use Rattle.wrp_frame.specs.declared.fault.FrameFault.{FrameFault}
use Rattle.wrp_course.specs.declared.event.Event.{Event}
use Rattle.wrp_course.specs.declared.event.Event.TheVariants.{Deliver}
use Rattle.wrp_course.specs.EventAt.{IsEventOf}
use Rattle.wrp_course.specs.Given.{world_step}
use Rattle.wrp_course.specs.Premises.{Accepts}
use Rattle.wrp_course.specs.RunLaws.{HasTimes}
use Rattle.wrp_course.specs.Runs.{IsNetwork}
use Rattle.wrp_course.specs.Setting.{Setting, from_on, link_of, nodes_of, of_node}
use Rattle.wrp_course.specs.WorldAt.{FrameAt, WorldAt, ends_are_up, has_carrier}
use Rattle.wrp_sim.specs.Draws.{drawn, drawn_from}
use Rattle.wrp_sim.specs.Rules.{Next, drawn_tick}
use Rattle.wrp_scene.specs.Scenario.{IsSceneOf, SceneAt}
use Rattle.wrp_sim.specs.SimAt.{SimAt}
use Rattle.wrp_sim.proofs.KeepsLit.{IsLit}
use Rattle.wrp_sim.proofs.KeepsNumbers.{drawn_most}
use Rattle.wrp_sim.proofs.KeepsState.{Keeps, StepKeeps, TicksBy, step_keeps}

-- a moment of a run: what is known of it
pub record Moment (scene : SceneAt) (s : Setting) (w : WorldAt) : Type 0 where
  pub net : IsNetwork s
  pub fits : IsSceneOf s.cfg scene
  pub lit : IsLit s w
  pub times : (i : ℕ) (f : FrameAt) → w.frame i ≡ Some f → HasTimes w f

abbrev pub IsDelivery : Event → Type 0
IsDelivery (Deliver i) = Unit {0}
IsDelivery _ = ⊥

-- an event that may come, or be left out if it hands a frame over
pub record Good (scene : SceneAt) (s : Setting) (w : WorldAt) (next : Next) : Type 0 where
  pub event : IsEventOf s.cfg next.event
  pub accepted : (says : Result PtpMsg FrameFault) → Accepts s w says next.event
  pub keeps : (says : Result PtpMsg FrameFault) (y : ℤ) → Keeps scene s (world_step s says y w next.event) next.at
  pub left_out : IsDelivery next.event → Keeps scene s w next.at

abbrev pub GoodIf : SceneAt → Setting → WorldAt → Option Next → Type 0
GoodIf scene s w None = Unit {0}
GoodIf scene s w (Some next) = Good scene s w next

pub good : (scene : SceneAt) (s : Setting) (w : WorldAt) (e : Event) (old new : SimAt) → Keeps scene s w old → IsEventOf s.cfg e → ((says : Result PtpMsg FrameFault) → Accepts s w says e) → (IsDelivery e → Keeps scene s w new) →
    StepKeeps scene s w e old new → Good scene s w (record { event = e; at = new })
good scene s w e old new keeps event accepted left step = record {
  event = event;
  accepted = accepted;
  keeps = λ says y. step_keeps scene s says y w e old new step keeps;
  left_out = left;
}

pub if_good : (scene : SceneAt) (s : Setting) (w : WorldAt) (b : Bool) (x y : Option Next) → (b ≡ true → GoodIf scene s w x) → (b ≡ false → GoodIf scene s w y) → GoodIf scene s w (if b then x else y)
if_good scene s w true x y h k = h refl
if_good scene s w false x y h k = k refl

pub then_good : {A : Type 0} (scene : SceneAt) (s : Setting) (w : WorldAt) (f : A → Option Next) (o : Option A) → ((x : A) → o ≡ Some x → GoodIf scene s w (f x)) → GoodIf scene s w (option_and_then f o)
then_good scene s w f None h = tt
then_good scene s w f (Some x) h = h x refl

pub map_good : {A : Type 0} (scene : SceneAt) (s : Setting) (w : WorldAt) (f : A → Next) (o : Option A) → ((x : A) → o ≡ Some x → Good scene s w (f x)) → GoodIf scene s w (option_map f o)
map_good scene s w f None h = tt
map_good scene s w f (Some x) h = h x refl

-- Lists

found_case : {A : Type 0} (P : A → Type 0) (test : A → Bool) (b : Bool) (y x : A) (o : Option A) → test y ≡ b → P y → (o ≡ Some x → (test x ≡ true) × P x) → cond b (Some y) o ≡ Some x → (test x ≡ true) × P x
found_case P test true y x o t p h e = let same : y ≡ x = cc in (ap test (sym same) ∙ t, subst P same p)
found_case P test false y x o t p h e = h e

-- what is found passes the test, and is in the list
pub found : {A : Type 0} (P : A → Type 0) (test : A → Bool) (xs : List A) (x : A) → AllByRecursion P xs → find test xs ≡ Some x → (test x ≡ true) × P x
found P test [] x h e = absurd (none-some x e)
found P test (y ∷ xs) x h e = found_case P test (test y) y x (find test xs) refl h.0 (found P test xs x h.1) e

pub all_from : (P : ℕ → Type 0) (count first : ℕ) → ((k : ℕ) → first ≤ k → k < first + count → P k) → AllByRecursion P (from_on count first)
all_from P zero first h = tt
all_from P (suc count) first h = (h first (omega arith) (omega arith), all_from P count (first + 1) (λ k a b. h k (omega (arith, a)) (omega (arith, b))))

first_or : (first k : ℕ) → first ≤ k → (k ≡ first) ⊎ (first + 1 ≤ k)
first_or first k h = elim (eqb_tells k first) [ inl x ↦ inl x.1 | inr x ↦ inr (let out : k ≡ first → ⊥ = x.1 in omega (arith, h, out)) ]

pub from_all : (P : ℕ → Type 0) (count first : ℕ) → AllByRecursion P (from_on count first) → (k : ℕ) → first ≤ k → k < first + count → P k
from_all P zero first h k a b = absurd (omega (arith, a, b))
from_all P (suc count) first h k a b = elim (first_or first k a) [
  | inl e ↦ subst P (sym e) h.0
  | inr more ↦ from_all P count (first + 1) h.1 k more (omega (arith, b))
]

pub all_numbers : (s : Setting) (P : ℕ → Type 0) → ((k : ℕ) → k < node_count s.cfg → P k) → AllByRecursion P (nodes_of s)
all_numbers s P h = all_from P (node_count s.cfg) 0 (λ k a b. h k (omega (arith, b)))

pub each_number : (s : Setting) (P : ℕ → Type 0) → AllByRecursion P (nodes_of s) → (k : ℕ) → k < node_count s.cfg → P k
each_number s P h k below = from_all P (node_count s.cfg) 0 h k (omega arith) (omega (arith, below))

-- Tests

pub below_told : (a b : ℕ) → nat_lt a b ≡ true → a < b
below_told a b e = grind (arith, nat_tests)

pub not_below_told : (a b : ℕ) → nat_lt a b ≡ false → b ≤ a
not_below_told a b e = grind (arith, nat_tests)

pub same_told : (a b : ℤ) → int_eq a b ≡ true → a ≡ b
same_told a b e = (Decides-int_eq a b).0 e

pub differ_told : (a b : ℤ) → int_eq a b ≡ false → a ≡ b → ⊥
differ_told a b e same = not_both (int_eq a b) ((Decides-int_eq a b).1 same) e

-- Nodes and links

-- a node's number, if the node is one of the network's
pub of_node_in : (P : ℕ → Type 0) (number : NodeCfg → ℕ) (s : Setting) (n : ℕ) → n < node_count s.cfg → ((node : NodeCfg) → slice_get s.cfg.nodes.items n ≡ Some node → P (number node)) → P (of_node number s n)
of_node_in P number s n below h =
    let it : (node : NodeCfg) × (slice_get s.cfg.nodes.items n ≡ Some node) = has_item s.cfg.nodes.items n below in
    subst (λ (o : Option NodeCfg). P (option_map_or number o 0)) (sym it.1) (h it.0 it.1)

link_with : (w : WorldAt) (o : Option LinkCfg) → ends_are_up w.clock o ≡ true → (link : LinkCfg) × (o ≡ Some link)
link_with w None e = absurd (not_both true refl (sym e))
link_with w (Some link) e = (link, refl)

-- a link with its carrier belongs to the network, and is joined
pub record IsCarried (s : Setting) (w : WorldAt) (k : ℕ) : Type 0 where
  pub link : LinkCfg
  pub there : link_of s k ≡ Some link
  pub joined : (w.fibre k).joined ≡ true

pub carried : (s : Setting) (w : WorldAt) (k : ℕ) → has_carrier s w k ≡ true → IsCarried s w k
carried s w k e =
    let both : ((w.fibre k).joined ≡ true) × (ends_are_up w.clock (link_of s k) ≡ true) = and_parts (w.fibre k).joined (ends_are_up w.clock (link_of s k)) e in
    let it : (link : LinkCfg) × (link_of s k ≡ Some link) = link_with w (link_of s k) both.1 in
    record { link = it.0; there = it.1; joined = both.0 }

-- Tick times that are drawn

abbrev pub DrawnBy : Setting → ℤ → ℤ → Type 0
DrawnBy s now tick = TicksBy (shortest_tick s.cfg) (longest_tick s.cfg) now now tick

drawn_by : (least most : ℕ) (now d : ℤ) → pos least ≤ℤ d → d ≤ℤ pos most → TicksBy least most now now (now +ℤ d)
drawn_by least most now d h k = record {
  least_after = omega (arith, ints, h);
  most_after = omega (arith, ints, k);
  later = omega (arith, ints, h);
}

ends_in_order : (a b : ℕ) → a ≤ b → pos a ≤ℤ pos b
ends_in_order a b h = omega (arith, ints, h)

pub tick_is_drawn : (s : Setting) → IsNetwork s → (now : ℤ) (state : ℕ) → DrawnBy s now (drawn_tick s now state)
tick_is_drawn s net now state =
    let ordered : pos (shortest_tick s.cfg) ≤ℤ pos (longest_tick s.cfg) = ends_in_order (shortest_tick s.cfg) (longest_tick s.cfg) net.accepted.inequalities.tick_times in
    drawn_by (shortest_tick s.cfg) (longest_tick s.cfg) now (drawn_from (pos (shortest_tick s.cfg)) (pos (longest_tick s.cfg)) state)
    (le_plus (pos (shortest_tick s.cfg)) _) (drawn_most (pos (shortest_tick s.cfg)) (pos (longest_tick s.cfg)) (drawn state) ordered)

pub tick_where : (b : Bool) (least most : ℕ) (last now drawn tick : ℤ) → TicksBy least most now now drawn → (b ≡ false → TicksBy least most last now tick) →
    TicksBy least most (if b then now else last) now (if b then drawn else tick)
tick_where true least most last now drawn tick h k = h
tick_where false least most last now drawn tick h k = k refl
