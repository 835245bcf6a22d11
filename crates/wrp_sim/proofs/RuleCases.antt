-- What each rule gives, by what is found when it is tried.
use Rattle.std.proofs.Common.{◌≡◌, ◌∙◌, refl, ap, ap₂, sym, ℕ, ◌-◌, ◌≤◌, nat_lt, ℤ, ◌-ℤ◌, Bool, true, false, if◌then◌else◌, List, find, Option, None, Some, option_map, option_and_then, arith}
use Rattle.std.proofs.lemmas.Option.{none-some, same_Some}
use Rattle.wrp_base.specs.declared.time.Raw.{Raw}
use Rattle.wrp_course.specs.declared.event.Event.TheVariants.{Arrive, Deliver, Pass}
use Rattle.wrp_course.specs.EventAt.{link_count}
use Rattle.wrp_course.specs.Setting.{Setting, above, link_of, nodes_of}
use Rattle.wrp_course.specs.WorldAt.{WorldAt, has_carrier}
use Rattle.wrp_scene.specs.declared.scene.fault.Fault.{Fault}
use Rattle.wrp_scene.specs.declared.scene.fault.FaultKind.{FaultKind}
use Rattle.wrp_sim.specs.Rules.{Next, after_arrival, after_draw, arrives_by, begins, comes, delivers, is_over, join_event, moments, next_moment, one_begun, pass_of, passes, raw_of, sample_below, sample_of, samples, tick_of, ticks, ticks_now, wakes}
use Rattle.wrp_scene.specs.Scenario.{SceneAt}
use Rattle.wrp_sim.specs.SimAt.{SimAt}

-- 1

pub joins_first : (scene : SceneAt) (s : Setting) (w : WorldAt) (at : SimAt) → nat_lt at.begun (link_count s.cfg) ≡ true →
    begins scene s w at ≡ comes (join_event scene s at.begun) (one_begun at)
joins_first scene s w at e =
    ap (λ (b : Bool). if b then comes (join_event scene s at.begun) (one_begun at) else wakes scene s w (at.begun - link_count s.cfg) at) e

pub joined_all : (scene : SceneAt) (s : Setting) (w : WorldAt) (at : SimAt) → nat_lt at.begun (link_count s.cfg) ≡ false →
    begins scene s w at ≡ wakes scene s w (at.begun - link_count s.cfg) at
joined_all scene s w at e =
    ap (λ (b : Bool). if b then comes (join_event scene s at.begun) (one_begun at) else wakes scene s w (at.begun - link_count s.cfg) at) e

-- 2

pub taken : (g : FaultKind → Option Next) (o : Option Fault) (kind : FaultKind) → Some kind ≡ option_map (λ f. f.kind) o → option_and_then (λ f. g f.kind) o ≡ g kind
taken g None kind e = absurd (none-some kind (sym e))
taken g (Some f) kind e = sym (ap g (same_Some kind f.kind e))

pub not_taken : (g : FaultKind → Option Next) (o : Option Fault) → None ≡ option_map (λ f. f.kind) o → option_and_then (λ f. g f.kind) o ≡ None
not_taken g None e = refl
not_taken g (Some f) e = absurd (none-some f.kind e)

-- 3

pub untold : (scene : SceneAt) (s : Setting) (w : WorldAt) (at : SimAt) → at.ticked ≡ None → samples scene s w at ≡ None
untold scene s w at e = ap (option_and_then (λ n. option_and_then (sample_below scene s w at n) (above s n))) e

pub at_top : (scene : SceneAt) (s : Setting) (w : WorldAt) (at : SimAt) (n : ℕ) → at.ticked ≡ Some n → above s n ≡ None → samples scene s w at ≡ None
at_top scene s w at n e f = ap (option_and_then (λ n. option_and_then (sample_below scene s w at n) (above s n))) e ∙ ap (option_and_then (sample_below scene s w at n)) f

pub below_link : (scene : SceneAt) (s : Setting) (w : WorldAt) (at : SimAt) (n k : ℕ) → at.ticked ≡ Some n → above s n ≡ Some k →
    samples scene s w at ≡ sample_below scene s w at n k
below_link scene s w at n k e f = ap (option_and_then (λ n. option_and_then (sample_below scene s w at n) (above s n))) e ∙ ap (option_and_then (sample_below scene s w at n)) f

pub dark : (scene : SceneAt) (s : Setting) (w : WorldAt) (at : SimAt) (n k : ℕ) → has_carrier s w k ≡ false → sample_below scene s w at n k ≡ None
dark scene s w at n k e =
    ap (λ (b : Bool). if b then option_and_then (λ link. comes (sample_of scene s w n k link at.state) (after_draw at)) (link_of s k) else None) e

pub lit : (scene : SceneAt) (s : Setting) (w : WorldAt) (at : SimAt) (n k : ℕ) → has_carrier s w k ≡ true →
    sample_below scene s w at n k ≡ option_and_then (λ link. comes (sample_of scene s w n k link at.state) (after_draw at)) (link_of s k)
lit scene s w at n k e =
    ap (λ (b : Bool). if b then option_and_then (λ link. comes (sample_of scene s w n k link at.state) (after_draw at)) (link_of s k) else None) e

-- 5

pub hands_over : (at : SimAt) → nat_lt 0 at.arrived.times ≡ true →
    delivers at ≡ comes (Deliver at.arrived.frame) (record at { arrived = record at.arrived { times = at.arrived.times - 1 } })
hands_over at e =
    ap (λ (b : Bool). if b then comes (Deliver at.arrived.frame) (record at { arrived = record at.arrived { times = at.arrived.times - 1 } }) else None) e

-- 6

pub raw_known : (scene : SceneAt) (s : Setting) (w : WorldAt) (at : SimAt) (i : ℕ) (raw : Raw) → raw_of s w i ≡ Some raw →
    arrives_by scene s w at i ≡ comes (Arrive i raw) (after_arrival scene i at)
raw_known scene s w at i raw e = ap (option_and_then (λ (r : Raw). comes (Arrive i r) (after_arrival scene i at))) e

pub raw_unknown : (scene : SceneAt) (s : Setting) (w : WorldAt) (at : SimAt) (i : ℕ) → raw_of s w i ≡ None → arrives_by scene s w at i ≡ None
raw_unknown scene s w at i e = ap (option_and_then (λ (r : Raw). comes (Arrive i r) (after_arrival scene i at))) e

-- 7

pub ticks_at : (s : Setting) (w : WorldAt) (at : SimAt) (n : ℕ) → find (ticks_now w at) (nodes_of s) ≡ Some n → ticks s w at ≡ Some (tick_of s w at n)
ticks_at s w at n e = ap (option_map (tick_of s w at)) e

pub no_tick : (s : Setting) (w : WorldAt) (at : SimAt) → find (ticks_now w at) (nodes_of s) ≡ None → ticks s w at ≡ None
no_tick s w at e = ap (option_map (tick_of s w at)) e

-- 8 and 9

pub goes_on : (scene : SceneAt) (s : Setting) (w : WorldAt) (due : Option (ℕ × ℤ)) (at : SimAt) → is_over scene s w ≡ false →
    passes scene s w due at ≡ comes (pass_of scene s w (next_moment w.time (moments scene s w due at) -ℤ w.time)) at
goes_on scene s w due at e =
    ap (λ (b : Bool). if b then None else comes (pass_of scene s w (next_moment w.time (moments scene s w due at) -ℤ w.time)) at) e

pub pass_is : (a b : ℤ) (xs ys : List ℤ) (us vs : List (ℤ × ℤ)) → a ≡ b → xs ≡ ys → us ≡ vs →
    Pass a (record { items = xs }) (record { items = us }) ≡ Pass b (record { items = ys }) (record { items = vs })
pass_is a b xs ys us vs e f h =
    ap (λ (t : ℤ). Pass t (record { items = xs }) (record { items = us })) e
    ∙ ap₂ (λ (x : List ℤ) (u : List (ℤ × ℤ)). Pass b (record { items = x }) (record { items = u })) f h

pub ge_false : (a b : ℕ) → b ≤ a → nat_lt a b ≡ false
ge_false a b h = grind (arith, h)
