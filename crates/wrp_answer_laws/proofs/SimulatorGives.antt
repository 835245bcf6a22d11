-- What the simulator gives: a frame that arrives is there and has an end to come to, and a frame that is handed
-- over is afterwards handed over once less.
use Rattle.std.proofs.Common.{◌≡◌, refl, sym, subst, ℕ, ◌+◌, ◌-◌, ◌<◌, nat_lt, ℤ, ◌-ℤ◌, Bool, true, false, if◌then◌else◌, List, [], ◌∷◌, find, Option, None, Some, option_map, option_and_then, arith}
use Rattle.std.proofs.lemmas.Bool.Decides.{nat_tests}
use Rattle.std.proofs.lemmas.Option.{none-some}
use Rattle.std.specs.Ordering.{int_eq}
use Rattle.wrp_base.specs.declared.time.Raw.{Raw}
use Rattle.wrp_network.specs.Network.{End, node_count}
use Rattle.wrp_base.specs.Link.{other_of}
use Rattle.wrp_course.specs.declared.event.Event.{Event}
use Rattle.wrp_course.specs.declared.event.Event.TheVariants.{Arrive, Deliver}
use Rattle.wrp_course.specs.EventAt.{link_count}
use Rattle.wrp_course.specs.Setting.{Setting, above, end_at, link_of, nodes_of}
use Rattle.wrp_course.specs.WorldAt.{FrameAt, WorldAt, has_carrier}
use Rattle.wrp_scene.specs.declared.scene.fault.Fault.{Fault}
use Rattle.wrp_scene.specs.declared.scene.fault.FaultKind.{FaultKind}
use Rattle.wrp_scene.specs.declared.scene.fault.FaultKind.TheVariants as kind
use Rattle.wrp_scene.specs.Scenario.{SceneAt}
use Rattle.wrp_sim.specs.Rules.{Next, after_arrival, arrives, arrives_by, begins, comes, delivers, departs, departs_now, fails, fault_of, first_of, is_over, moments, next_fault, next_moment, next_of, pass_of, passes, ports_of, raw_by, raw_of, raw_to, rest_of, samples, ticks, ticks_now}
use Rattle.wrp_sim.specs.SimAt.{SimAt}
use Rattle.wrp_sim.specs.SimRun.{GivesEvent}

-- what is known of an event that comes, and of what has then been drawn and done
abbrev pub IsGiven : Setting → WorldAt → SimAt → Event → SimAt → Type 0
IsGiven s w at (Deliver i) new = at.arrived.times ≡ new.arrived.times + 1
IsGiven s w at (Arrive i raw) new = raw_of s w i ≡ Some raw
IsGiven s w at _ new = Unit {0}

abbrev GivenIf : Setting → WorldAt → SimAt → Option Next → Type 0
GivenIf s w at None = Unit {0}
GivenIf s w at (Some next) = IsGiven s w at next.event next.at

-- Choices

if_both : (s : Setting) (w : WorldAt) (at : SimAt) (b : Bool) (x y : Option Next) → GivenIf s w at x → GivenIf s w at y →
    GivenIf s w at (if b then x else y)
if_both s w at true x y h k = h
if_both s w at false x y h k = k

if_so : (s : Setting) (w : WorldAt) (at : SimAt) (b : Bool) (x : Option Next) → (b ≡ true → GivenIf s w at x) →
    GivenIf s w at (if b then x else None)
if_so s w at true x h = h refl
if_so s w at false x h = tt

and_then : {A : Type 0} (s : Setting) (w : WorldAt) (at : SimAt) (g : A → Option Next) (o : Option A) →
    ((x : A) → o ≡ Some x → GivenIf s w at (g x)) → GivenIf s w at (option_and_then g o)
and_then s w at g None h = tt
and_then s w at g (Some x) h = h x refl

mapped : {A : Type 0} (s : Setting) (w : WorldAt) (at : SimAt) (g : A → Next) (o : Option A) →
    ((x : A) → IsGiven s w at (g x).event (g x).at) → GivenIf s w at (option_map g o)
mapped s w at g None h = tt
mapped s w at g (Some x) h = h x

first_given : (s : Setting) (w : WorldAt) (at : SimAt) (o : Option Next) (os : List (Option Next)) → GivenIf s w at o →
    GivenIf s w at (first_of os) → GivenIf s w at (first_of (o ∷ os))
first_given s w at None os h k = k
first_given s w at (Some next) os h k = h

-- The rules

begins_given : (scene : SceneAt) (s : Setting) (w : WorldAt) (at : SimAt) → GivenIf s w at (begins scene s w at)
begins_given scene s w at =
    if_both s w at (nat_lt at.begun (link_count s.cfg)) _ _ tt
    (if_so s w at (nat_lt (at.begun - link_count s.cfg) (node_count s.cfg)) _ (λ e. tt))

fault_given : (scene : SceneAt) (s : Setting) (w : WorldAt) (at : SimAt) (k : FaultKind) →
    GivenIf s w at (fault_of scene s w (rest_of s w at) k)
fault_given scene s w at (kind.Down n) = tt
fault_given scene s w at (kind.Up n) = tt
fault_given scene s w at (kind.Cut k) = tt
fault_given scene s w at (kind.Join k) = tt

fails_given : (scene : SceneAt) (s : Setting) (w : WorldAt) (at : SimAt) → GivenIf s w at (fails scene s w at)
fails_given scene s w at =
    and_then s w at (λ (f : Fault). fault_of scene s w (rest_of s w at) f.kind) (next_fault s w at.faults)
    (λ f is. fault_given scene s w at f.kind)

samples_given : (scene : SceneAt) (s : Setting) (w : WorldAt) (at : SimAt) → GivenIf s w at (samples scene s w (rest_of s w at))
samples_given scene s w at =
    and_then s w at _ at.ticked
    (λ n told. and_then s w at _ (above s n)
    (λ k is. if_so s w at (has_carrier s w k) _ (λ e. and_then s w at _ (link_of s k) (λ link there. tt))))

departs_given : (s : Setting) (w : WorldAt) (at : SimAt) → GivenIf s w at (departs s w (rest_of s w at))
departs_given s w at = and_then s w at _ (find (departs_now s w) (ports_of s)) (λ port is. tt)

once_less : (n : ℕ) → nat_lt 0 n ≡ true → n ≡ (n - 1) + 1
once_less n e = let some : 0 < n = grind (arith, nat_tests, e) in omega (arith, some)

delivers_given : (s : Setting) (w : WorldAt) (at : SimAt) → GivenIf s w at (delivers (rest_of s w at))
delivers_given s w at = if_so s w at (nat_lt 0 at.arrived.times) _ (λ e. once_less at.arrived.times e)

arrives_given : (scene : SceneAt) (s : Setting) (w : WorldAt) (due : Option (ℕ × ℤ)) (at : SimAt) →
    GivenIf s w at (arrives scene s w due (rest_of s w at))
arrives_given scene s w due at =
    and_then s w at (λ (next : ℕ × ℤ). if int_eq next.1 w.time then arrives_by scene s w (rest_of s w at) next.0 else None) due
    (λ next is. if_so s w at (int_eq next.1 w.time) (arrives_by scene s w (rest_of s w at) next.0)
    (λ e. and_then s w at (λ (raw : Raw). comes (Arrive next.0 raw) (after_arrival scene next.0 (rest_of s w at)))
    (raw_of s w next.0) (λ raw known. known)))

ticks_given : (s : Setting) (w : WorldAt) (at : SimAt) → GivenIf s w at (ticks s w (rest_of s w at))
ticks_given s w at = mapped s w at _ (find (ticks_now w (rest_of s w at)) (nodes_of s)) (λ n. tt)

passes_given : (scene : SceneAt) (s : Setting) (w : WorldAt) (due : Option (ℕ × ℤ)) (at : SimAt) →
    GivenIf s w at (passes scene s w due (rest_of s w at))
passes_given scene s w due at =
    let moment : ℤ = next_moment w.time (moments scene s w due (rest_of s w at)) in
    let next : Option Next = comes (pass_of scene s w (moment -ℤ w.time)) (rest_of s w at) in
    if_both s w at (is_over scene s w) None next tt tt

next_given : (scene : SceneAt) (s : Setting) (w : WorldAt) (due : Option (ℕ × ℤ)) (at : SimAt) →
    GivenIf s w at (next_of scene s w due at)
next_given scene s w due at =
    let rest : SimAt = rest_of s w at in
    first_given s w at (begins scene s w at) _ (begins_given scene s w at)
    (first_given s w at (fails scene s w at) _ (fails_given scene s w at)
    (first_given s w at (samples scene s w rest) _ (samples_given scene s w at)
    (first_given s w at (departs s w rest) _ (departs_given s w at)
    (first_given s w at (delivers rest) _ (delivers_given s w at)
    (first_given s w at (arrives scene s w due rest) _ (arrives_given scene s w due at)
    (first_given s w at (ticks s w rest) _ (ticks_given s w at)
    (first_given s w at (passes scene s w due rest) [] (passes_given scene s w due at) tt)))))))

-- this holds for each event that comes
pub is_given : (scene : SceneAt) (s : Setting) (w : WorldAt) (at : SimAt) (e : Event) (new : SimAt) →
    GivesEvent scene s w at e new → IsGiven s w at e new
is_given scene s w at e new gives = subst (GivenIf s w at) (sym gives.next) (next_given scene s w gives.due at)

-- The frame that arrives

-- it is there, and this is the end that it comes to
pub record ComesTo (s : Setting) (w : WorldAt) (i : ℕ) : Type 0 where
  pub frame : FrameAt
  pub is : w.frame i ≡ Some frame
  pub to : End
  pub to_is : end_at s frame.link (other_of frame.by) ≡ Some to

some_of : {A B : Type 0} (g : A → Option B) (o : Option A) (y : B) → option_and_then g o ≡ Some y →
    (x : A) × (o ≡ Some x) × (g x ≡ Some y)
some_of g None y e = absurd (none-some y e)
some_of g (Some x) y e = (x, refl, e)

pub comes_to : (s : Setting) (w : WorldAt) (i : ℕ) (raw : Raw) → raw_of s w i ≡ Some raw → ComesTo s w i
comes_to s w i raw e =
    let f = some_of (λ (f : FrameAt). raw_to s w f.link (other_of f.by)) (w.frame i) raw e in
    let to = some_of (raw_by s w f.0.link (other_of f.0.by)) (end_at s f.0.link (other_of f.0.by)) raw f.2 in
    record { frame = f.0; is = f.1; to = to.0; to_is = to.1 }
