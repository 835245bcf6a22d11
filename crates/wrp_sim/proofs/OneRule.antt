-- In worlds that are alike the rules of the simulator give one event.
use Rattle.std.proofs.Common.{◌≡◌, ◌∙◌, inl, inr, refl, ap, ap₂, sym, subst, ℕ, ℤ, pos, ◌-ℤ◌, if◌then◌else◌, Option, None, Some, is_some, List, [], ◌∷◌, map, arith}
use Rattle.std.proofs.lemmas.Int.{ints}
use Rattle.wrp_node.proofs.OneRun.{SameServo, with_calls}
use Rattle.wrp_node.specs.NodeAt.{NodeSetting, NodeAt, Taken, dac_of, slave_of}
use Rattle.wrp_servo.specs.Call.{Call}
use Rattle.wrp_servo.specs.declared.machine.Core.{Core}
use Rattle.wrp_sim.specs.Rules.{Next, arrives, begins, comes, delivers, departs, drift_over, fails, first_of, is_over, moments, next_moment, next_of, passes, rest_of, samples, ticks}
use Rattle.wrp_scene.specs.Scenario.{SceneAt}
use Rattle.wrp_sim.specs.SimAt.{SimAt}
use Rattle.wrp_sim.specs.SimRun.{Gives}
use Rattle.wrp_course.specs.declared.event.Event.{Event}
use Rattle.wrp_course.specs.declared.event.Event.TheVariants.{Pass}
use Rattle.wrp_course.specs.Setting.{Setting, node_setting_of, links_of, nodes_of}
use Rattle.wrp_course.specs.Views.{IsNextArrival, IsNoSooner}
use Rattle.wrp_course.specs.WorldAt.{WorldAt}
use Rattle.wrp_one_world_laws.specs.OneWorld.{Alike, with_all}
use Rattle.wrp_one_world_laws.proofs.OneWorld.{locked_same, state_same}

-- The frame that is due first

none_due : (w : WorldAt) (next : ℕ × ℤ) → IsNextArrival w None → IsNextArrival w (Some next) → ⊥
none_due w next p q = let both = sym (p next.0) ∙ q.2 in cc

two_due : (w : WorldAt) (m n : ℕ × ℤ) → IsNextArrival w (Some m) → IsNextArrival w (Some n) → (m.0 ≡ n.0) × (m.1 ≡ n.1)
two_due w m n p q =
    let one : IsNoSooner m.0 m.1 n.0 q.0 = p.4 n.0 q.0 q.1 q.2 in
    let other : IsNoSooner n.0 n.1 m.0 p.0 = q.4 m.0 p.0 p.1 p.2 in
    let here : p.0.due ≡ m.1 = p.3 in
    let there : q.0.due ≡ n.1 = q.3 in
    elim one [
      | inl less ↦ elim other [
        | inl more ↦ absurd (omega (arith, ints, less, more, here, there))
        | inr same ↦ let is = same.0 in absurd (omega (arith, ints, less, is, here, there))
      ]
      | inr same ↦ elim other [
        | inl more ↦ let is = same.0 in absurd (omega (arith, ints, more, is, here, there))
        | inr equal ↦
            let low = same.1 in
            let high = equal.1 in
            (omega (arith, low, high), same.0 ∙ there)
      ]
    ]

one_due : (w : WorldAt) (a b : Option (ℕ × ℤ)) → IsNextArrival w a → IsNextArrival w b → a ≡ b
one_due w None None p q = refl
one_due w None (Some n) p q = absurd (none_due w n p q)
one_due w (Some m) None p q = absurd (none_due w m q p)
one_due w (Some m) (Some n) p q =
    let same = two_due w m n p q in
    ap₂ (λ (i : ℕ) (t : ℤ). Some (i, t)) same.0 same.1

-- The rules in worlds that are alike

dac_same : (fixed : NodeSetting) (n : NodeAt) (calls : List Call) → SameServo fixed n.calls calls → dac_of fixed (with_calls calls n) ≡ dac_of fixed n
dac_same fixed n calls h = ap (λ (v : Core). if is_some (slave_of fixed.set) then v.phase.dac else fixed.set.servo.bias) (sym h)

drift_same : (scene : SceneAt) (s : Setting) (v : WorldAt) (calls : ℕ → List Call) (inputs : ℕ → List Taken) (dt : ℤ) → ((n : ℕ) → SameServo (node_setting_of s n) (v.node n).calls (calls n)) → (n : ℕ) →
    drift_over scene s (with_all calls inputs v) dt n ≡ drift_over scene s v dt n
drift_same scene s v calls inputs dt servo n =
    rw (
      locked_same (node_setting_of s n) (v.node n) (calls n) (servo n),
      state_same (node_setting_of s n) (v.node n) (calls n) (servo n),
      dac_same (node_setting_of s n) (v.node n) (calls n) (servo n),
    ) refl

-- a pass of time with these drifts
abbrev passing : Setting → ℤ → List ℤ → Event
passing s dt drifts = Pass dt (record { items = drifts }) (record { items = map (λ k. (pos 0, pos 0)) (links_of s) })

passes_alike : (scene : SceneAt) (s : Setting) (v : WorldAt) (calls : ℕ → List Call) (inputs : ℕ → List Taken) (due : Option (ℕ × ℤ)) (at : SimAt) →
    ((n : ℕ) → SameServo (node_setting_of s n) (v.node n).calls (calls n)) → passes scene s (with_all calls inputs v) due at ≡ passes scene s v due at
passes_alike scene s v calls inputs due at servo =
    let dt : ℤ = next_moment v.time (moments scene s v due at) -ℤ v.time in
    ap (λ (drifts : List ℤ). if is_over scene s v then None else comes (passing s dt drifts) at)
    (λ i. map (λ n. drift_same scene s v calls inputs dt servo n i) (nodes_of s))

next_alike : (scene : SceneAt) (s : Setting) (v : WorldAt) (calls : ℕ → List Call) (inputs : ℕ → List Taken) (due : Option (ℕ × ℤ)) (at : SimAt) →
    ((n : ℕ) → SameServo (node_setting_of s n) (v.node n).calls (calls n)) → next_of scene s (with_all calls inputs v) due at ≡ next_of scene s v due at
next_alike scene s v calls inputs due at servo =
    ap (λ (last : Option Next). first_of (
    begins scene s v at ∷ (fails scene s v at
    ∷ (samples scene s v (rest_of s v at) ∷ (departs s v (rest_of s v at) ∷ (delivers (rest_of s v at)
    ∷ (arrives scene s v due (rest_of s v at) ∷ (ticks s v (rest_of s v at) ∷ (last ∷ []))))))))
    ) (passes_alike scene s v calls inputs due (rest_of s v at) servo)

-- in worlds that are alike the rules give one event
pub gives_one : (scene : SceneAt) (s : Setting) (v w : WorldAt) (at : SimAt) (m n : Option Next) → Alike s v w → Gives scene s v at m → Gives scene s w at n → m ≡ n
gives_one scene s v w at m n h p q =
    let other : Gives scene s (with_all h.calls h.inputs v) at n = subst (λ (k : WorldAt). Gives scene s k at n) h.is q in
    let due : p.due ≡ other.due = one_due v p.due other.due p.first other.first in
    p.next ∙ ap (λ (d : Option (ℕ × ℤ)). next_of scene s v d at) due
    ∙ sym (next_alike scene s v h.calls h.inputs other.due at h.servo) ∙ sym other.next
