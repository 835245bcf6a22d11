-- How often the frame that arrived last is still handed over, rule by rule.
use Rattle.std.proofs.Common.{◌≡◌, ◌∙◌, refl, ap, ap₂, sym, subst, ℕ, suc, ◌-◌, ◌<◌, nat_lt, ℤ, pos, ◌-ℤ◌, Bool, true, false, if◌then◌else◌, List, [], ◌∷◌, find, length, Option, None, Some, option_map, option_and_then, slice_get, unwrap_or, arith}
use Rattle.std.proofs.lemmas.Bool.Decides.{nat_tests}
use Rattle.std.specs.Ordering.{int_eq}
use Rattle.wrp_base.specs.declared.time.Raw.{Raw}
use Rattle.wrp_course.specs.declared.event.Event.{Event}
use Rattle.wrp_course.specs.declared.event.Event.TheVariants.{Pass, Tick, Sample, Depart, Arrive, Deliver, Noise, Down, Up, Cut, Join}
use Rattle.wrp_course.specs.EventAt.{link_count}
use Rattle.wrp_network.specs.Network.{node_count}
use Rattle.wrp_course.specs.Setting.{Setting, above, link_of, nodes_of}
use Rattle.wrp_course.specs.WorldAt.{WorldAt, has_carrier}
use Rattle.wrp_plant.specs.Plant.{Each}
use Rattle.wrp_world.specs.StandsFor.{IsValid, WorldOf}
use Rattle.wrp_scene.specs.declared.scene.fault.Fault.{Fault}
use Rattle.wrp_scene.specs.declared.scene.fault.FaultKind.{FaultKind}
use Rattle.wrp_scene.specs.declared.scene.fault.FaultKind.TheVariants as kind
use Rattle.wrp_sim.specs.declared.sim.state.Handed.{Handed}
use Rattle.wrp_sim.specs.declared.sim.state.State.{State}
use Rattle.wrp_sim.specs.HandsOver.{HandedOnce, HandsOver}
use Rattle.wrp_sim.specs.Rules.{Next, after_arrival, arrives, arrives_by, begins, comes, delivers, departs, departs_now, fails, fault_of, first_of, is_over, moments, next_fault, next_moment, next_of, pass_of, passes, ports_of, raw_of, rest_of, samples, ticks, ticks_now}
use Rattle.wrp_scene.specs.Scenario.{SceneAt}
use Rattle.wrp_sim.specs.Sim.{FollowsRules, Gave, GaveNext, SimIs, StaysFit, FitsSim}
use Rattle.wrp_sim.specs.SimAt.{SimAt}

-- What has been drawn and done

pub record HandsOnce (at : SimAt) (i : ℕ) (new : SimAt) : Type 0 where
  pub frame : i ≡ at.arrived.frame
  pub more : 0 < at.arrived.times
  pub left : new.arrived ≡ record { frame = at.arrived.frame; times = at.arrived.times - 1 }
  pub state : new.state ≡ at.state
  pub begun : new.begun ≡ at.begun
  pub ticks : (n : ℕ) → new.tick_at n ≡ at.tick_at n
  pub ticked : new.ticked ≡ None

abbrev pub Hands : SimAt → Event → SimAt → Type 0
Hands at (Deliver i) new = HandsOnce at i new
Hands at (Arrive i raw) new = new.arrived.frame ≡ i
Hands at _ new = new.arrived ≡ at.arrived

abbrev pub HandsIf : SimAt → Option Next → Type 0
HandsIf at None = Unit {0}
HandsIf at (Some next) = Hands at next.event next.at

-- Choices

if_both : (at : SimAt) (b : Bool) (x y : Option Next) → HandsIf at x → HandsIf at y → HandsIf at (if b then x else y)
if_both at true x y h k = h
if_both at false x y h k = k

if_so : (at : SimAt) (b : Bool) (x : Option Next) → (b ≡ true → HandsIf at x) → HandsIf at (if b then x else None)
if_so at true x h = h refl
if_so at false x h = tt

and_then : {A : Type 0} (at : SimAt) (g : A → Option Next) (o : Option A) → ((x : A) → HandsIf at (g x)) → HandsIf at (option_and_then g o)
and_then at g None h = tt
and_then at g (Some x) h = h x

mapped : {A : Type 0} (at : SimAt) (g : A → Next) (o : Option A) → ((x : A) → Hands at (g x).event (g x).at) → HandsIf at (option_map g o)
mapped at g None h = tt
mapped at g (Some x) h = h x

first_hands : (at : SimAt) (o : Option Next) (os : List (Option Next)) → HandsIf at o → HandsIf at (first_of os) → HandsIf at (first_of (o ∷ os))
first_hands at None os h k = k
first_hands at (Some next) os h k = h

-- The rules

begins_hands : (scene : SceneAt) (s : Setting) (w : WorldAt) (at : SimAt) → HandsIf at (begins scene s w at)
begins_hands scene s w at =
    if_both at (nat_lt at.begun (link_count s.cfg)) _ _ refl
    (if_so at (nat_lt (at.begun - link_count s.cfg) (node_count s.cfg)) _ (λ e. refl))

fault_hands : (scene : SceneAt) (s : Setting) (w : WorldAt) (at : SimAt) (k : FaultKind) → HandsIf at (fault_of scene s w (rest_of s w at) k)
fault_hands scene s w at (kind.Down n) = refl
fault_hands scene s w at (kind.Up n) = refl
fault_hands scene s w at (kind.Cut k) = refl
fault_hands scene s w at (kind.Join k) = refl

fails_hands : (scene : SceneAt) (s : Setting) (w : WorldAt) (at : SimAt) → HandsIf at (fails scene s w at)
fails_hands scene s w at = and_then at (λ (f : Fault). fault_of scene s w (rest_of s w at) f.kind) (next_fault s w at.faults) (λ f. fault_hands scene s w at f.kind)

samples_hands : (scene : SceneAt) (s : Setting) (w : WorldAt) (at : SimAt) → HandsIf at (samples scene s w (rest_of s w at))
samples_hands scene s w at =
    and_then at _ at.ticked
    (λ n. and_then at _ (above s n)
    (λ k. if_so at (has_carrier s w k) _ (λ e. and_then at _ (link_of s k) (λ link. refl))))

departs_hands : (s : Setting) (w : WorldAt) (at : SimAt) → HandsIf at (departs s w (rest_of s w at))
departs_hands s w at = and_then at _ (find (departs_now s w) (ports_of s)) (λ port. refl)

more_than_none : (n : ℕ) → nat_lt 0 n ≡ true → 0 < n
more_than_none n e = grind (arith, nat_tests, e)

delivers_hands : (s : Setting) (w : WorldAt) (at : SimAt) → HandsIf at (delivers (rest_of s w at))
delivers_hands s w at =
    if_so at (nat_lt 0 at.arrived.times) _
    (λ e. record {
      frame = refl;
      more = more_than_none at.arrived.times e;
      left = refl;
      state = refl;
      begun = refl;
      ticks = λ n. refl;
      ticked = refl;
    })

arrives_hands : (scene : SceneAt) (s : Setting) (w : WorldAt) (due : Option (ℕ × ℤ)) (at : SimAt) → HandsIf at (arrives scene s w due (rest_of s w at))
arrives_hands scene s w due at =
    and_then at (λ (next : ℕ × ℤ). if int_eq next.1 w.time then arrives_by scene s w (rest_of s w at) next.0 else None) due
    (λ next. if_so at (int_eq next.1 w.time) (arrives_by scene s w (rest_of s w at) next.0)
    (λ e. and_then at (λ (raw : Raw). comes (Arrive next.0 raw) (after_arrival scene next.0 (rest_of s w at))) (raw_of s w next.0) (λ raw. refl)))

ticks_hands : (s : Setting) (w : WorldAt) (at : SimAt) → HandsIf at (ticks s w (rest_of s w at))
ticks_hands s w at = mapped at _ (find (ticks_now w (rest_of s w at)) (nodes_of s)) (λ n. refl)

passes_hands : (scene : SceneAt) (s : Setting) (w : WorldAt) (due : Option (ℕ × ℤ)) (at : SimAt) → HandsIf at (passes scene s w due (rest_of s w at))
passes_hands scene s w due at =
    let next : Option Next = comes (pass_of scene s w (next_moment w.time (moments scene s w due (rest_of s w at)) -ℤ w.time)) (rest_of s w at) in
    if_both at (is_over scene s w) None next tt refl

next_hands : (scene : SceneAt) (s : Setting) (w : WorldAt) (due : Option (ℕ × ℤ)) (at : SimAt) → HandsIf at (next_of scene s w due at)
next_hands scene s w due at =
    first_hands at (begins scene s w at) _ (begins_hands scene s w at)
    (first_hands at (fails scene s w at) _ (fails_hands scene s w at)
    (first_hands at (samples scene s w (rest_of s w at)) _ (samples_hands scene s w at)
    (first_hands at (departs s w (rest_of s w at)) _ (departs_hands s w at)
    (first_hands at (delivers (rest_of s w at)) _ (delivers_hands s w at)
    (first_hands at (arrives scene s w due (rest_of s w at)) _ (arrives_hands scene s w due at)
    (first_hands at (ticks s w (rest_of s w at)) _ (ticks_hands s w at)
    (first_hands at (passes scene s w due (rest_of s w at)) [] (passes_hands scene s w due at) tt)))))))

-- What the simulator holds

-- what it stands for
abbrev at_of : State → SimAt
at_of sim = record {
  state = sim.draws;
  begun = sim.begun;
  faults = sim.faults.items;
  tick_at = λ n. unwrap_or (slice_get sim.tick_at n) (pos 0);
  ticked = sim.ticked;
  arrived = sim.arrived;
}

is_at_of : (sim : State) → SimIs (at_of sim) sim
is_at_of sim = record {
  state = refl;
  begun = refl;
  faults = refl;
  ticks = λ n t e. sym (ap (λ o. unwrap_or o (pos 0)) e);
  ticked = refl;
  arrived = refl;
}

-- lists with the same times at their places
same_times : (f : ℕ → ℤ) (xs ys : List ℤ) → Each (λ n t. t ≡ f n) xs → Each (λ n t. t ≡ f n) ys → length xs ≡ length ys → xs ≡ ys
same_times f [] [] h k e = refl
same_times f [] (y ∷ ys) h k e = absurd (omega (arith, e))
same_times f (x ∷ xs) [] h k e = absurd (omega (arith, e))
same_times f (x ∷ xs) (y ∷ ys) h k e =
    let less : length xs ≡ length ys = omega (arith, e) in
    ap₂ (λ z zs. z ∷ zs) (h 0 x refl ∙ sym (k 0 y refl))
    (same_times (λ n. f (suc n)) xs ys (λ n t g. h (suc n) t g) (λ n t g. k (suc n) t g) less)

once : (i : ℕ) (old new : State) (at next : SimAt) → SimIs at old → SimIs next new → new.scene ≡ old.scene → length new.tick_at ≡ length old.tick_at →
    HandsOnce at i next → HandedOnce old new i
once i old new at next is_old is_new scene count h =
    let arrived : new.arrived ≡ record { frame = at.arrived.frame; times = at.arrived.times - 1 } = is_new.arrived ∙ h.left in
    let before : old.arrived.times ≡ at.arrived.times = ap (λ (x : Handed). x.times) is_old.arrived in
    let after : new.arrived.times ≡ at.arrived.times - 1 = ap (λ (x : Handed). x.times) arrived in
    record {
      frame = h.frame ∙ sym (ap (λ (x : Handed). x.frame) is_old.arrived);
      same = ap (λ (x : Handed). x.frame) arrived ∙ sym h.frame;
      once = omega (arith, before, after, h.more);
      scene = scene;
      draws = is_new.state ∙ h.state ∙ sym is_old.state;
      begun = is_new.begun ∙ h.begun ∙ sym is_old.begun;
      ticks = same_times at.tick_at new.tick_at old.tick_at (λ n t e. is_new.ticks n t e ∙ h.ticks n) is_old.ticks count;
      ticked = is_new.ticked ∙ h.ticked;
    }

held : (e : Event) (old new : State) (at next : SimAt) → SimIs at old → SimIs next new → new.scene ≡ old.scene → length new.tick_at ≡ length old.tick_at →
    Hands at e next → HandsOver old new e
held (Deliver i) old new at next is_old is_new scene count h = once i old new at next is_old is_new scene count h
held (Arrive i raw) old new at next is_old is_new scene count h = ap (λ (x : Handed). x.frame) is_new.arrived ∙ h
held (Pass dt drifts fibres) old new at next is_old is_new scene count h = is_new.arrived ∙ h ∙ sym is_old.arrived
held (Tick n) old new at next is_old is_new scene count h = is_new.arrived ∙ h ∙ sym is_old.arrived
held (Sample n base bits) old new at next is_old is_new scene count h = is_new.arrived ∙ h ∙ sym is_old.arrived
held (Depart n p stamp) old new at next is_old is_new scene count h = is_new.arrived ∙ h ∙ sym is_old.arrived
held (Noise n p octets raw) old new at next is_old is_new scene count h = is_new.arrived ∙ h ∙ sym is_old.arrived
held (Down n) old new at next is_old is_new scene count h = is_new.arrived ∙ h ∙ sym is_old.arrived
held (Up n off swaps) old new at next is_old is_new scene count h = is_new.arrived ∙ h ∙ sym is_old.arrived
held (Cut k) old new at next is_old is_new scene count h = is_new.arrived ∙ h ∙ sym is_old.arrived
held (Join k ms sm) old new at next is_old is_new scene count h = is_new.arrived ∙ h ∙ sym is_old.arrived

given : (s : Setting) (w : WorldAt) (next : Option Next) (e : Event) (old new : State) (at : SimAt) → HandsIf at next → SimIs at old → new.scene ≡ old.scene →
    length new.tick_at ≡ length old.tick_at → Gave (rest_of s w at) next (Some e) new → HandsOver old new e
given s w None e old new at h is_old scene count gave = absurd gave
given s w (Some next) e old new at h is_old scene count gave =
    subst (HandsOver old new) (sym gave.0) (held next.event old new at next.at is_old gave.1 scene count h)

-- what follows the rules hands over the frame that arrived last, or does not
pub hands_over : {F : Type 0} (pre : F → ℤ → Type 0) (post : F → ℤ → ℤ → Type 0) (world : WorldOf F) (old new : State) (e : Event) → IsValid pre post world →
    FitsSim world.plant.net.cfg old → StaysFit world.plant.net.cfg old new → FollowsRules post world old new (Some e) → HandsOver old new e
hands_over pre post world old new e valid fits stays follows =
    let it : GaveNext valid.setting valid.state (at_of old) old new (Some e) = follows valid.setting valid.state (at_of old) valid.stands (is_at_of old) in
    given valid.setting valid.state it.next e old new (at_of old)
    (subst (HandsIf (at_of old)) (sym it.gives.next) (next_hands old.scene valid.setting valid.state it.gives.due (at_of old)))
    (is_at_of old) stays.scene (stays.fits.ticks ∙ sym fits.ticks) it.gave
