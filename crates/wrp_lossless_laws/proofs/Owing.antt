-- A simulator that still has to hand over the frame that arrived last, and one that has done so: the rules 1 to 4
-- give the same in both, and if none of them applies the first hands the frame over.
use Rattle.std.proofs.Common.{◌≡◌, ◌⊎◌, inl, inr, refl, sym, subst, ℕ, ℤ, ◌-◌, nat_lt, Bool, true, false, if◌then◌else◌, List, [], ◌∷◌, find, Option, None, Some, option_and_then}
use Rattle.std.proofs.lemmas.Option.{none-some, same_Some}
use Rattle.wrp_network.specs.Network.{node_count}
use Rattle.wrp_course.specs.declared.event.Event.TheVariants.{Deliver}
use Rattle.wrp_course.specs.EventAt.{link_count}
use Rattle.wrp_course.specs.Setting.{Setting, above, link_of}
use Rattle.wrp_course.specs.WorldAt.{WorldAt, has_carrier}
use Rattle.wrp_scene.specs.declared.scene.fault.FaultKind.{FaultKind}
use Rattle.wrp_scene.specs.declared.scene.fault.FaultKind.TheVariants as kind
use Rattle.wrp_scene.specs.Scenario.{SceneAt}
use Rattle.wrp_sim.specs.declared.sim.state.Handed.{Handed}
use Rattle.wrp_sim.specs.Rules.{Next, after_draw, arrives, begins, delivers, departs, departs_now, fails, fault_of, first_of, next_fault, next_of, one_begun, passes, ports_of, rest_of, samples, ticks, with_tick}
use Rattle.wrp_sim.specs.SimAt.{SimAt}
use Rattle.wrp_loop.specs.LoopRun.{IsPlain}

-- The same state, with another node that ticked and another frame that arrived

abbrev pub holding : Option ℕ → Handed → SimAt → SimAt
holding ticked arrived at = record at { ticked = ticked; arrived = arrived }

-- a frame that is handed over this many times
abbrev pub handing : (frame times : ℕ) → Handed
handing frame times = record { frame = frame; times = times }

-- the frame is still handed over once, or no longer
abbrev pub owing : ℕ → SimAt → SimAt
owing i at = holding None (handing i 1) at

abbrev pub paid : ℕ → SimAt → SimAt
paid i at = holding None (handing i 0) at

-- What a rule gives in both

-- the same event, which is not an arrival and hands nothing over, and then the same state again, except for the
-- frame that arrived
pub record Both (a b : Handed) (m n : Next) : Type 0 where
  pub rest : SimAt
  pub plain : IsPlain m.event
  pub event : n.event ≡ m.event
  pub first : m.at ≡ holding None a rest
  pub second : n.at ≡ holding None b rest

abbrev pub Paired : (a b : Handed) → Option Next → Option Next → Type 0
Paired a b None None = Unit {0}
Paired a b (Some m) (Some n) = Both a b m n
Paired a b _ _ = ⊥

if_paired : (a b : Handed) (c : Bool) (x y u v : Option Next) → Paired a b x u → Paired a b y v → Paired a b (if c then x else y) (if c then u else v)
if_paired a b true x y u v h k = h
if_paired a b false x y u v h k = k

then_paired : {A : Type 0} (a b : Handed) (g h : A → Option Next) (o : Option A) → ((x : A) → Paired a b (g x) (h x)) →
    Paired a b (option_and_then g o) (option_and_then h o)
then_paired a b g h None f = tt
then_paired a b g h (Some x) f = f x

-- Rules 1 to 4

pub begins_paired : (scene : SceneAt) (s : Setting) (w : WorldAt) (t : Option ℕ) (a b : Handed) (at : SimAt) →
    Paired a b (begins scene s w (holding t a at)) (begins scene s w (holding t b at))
begins_paired scene s w t a b at =
    if_paired a b (nat_lt at.begun (link_count s.cfg)) _ _ _ _
    (record { rest = one_begun at; plain = tt; event = refl; first = refl; second = refl })
    (if_paired a b (nat_lt (at.begun - link_count s.cfg) (node_count s.cfg)) _ None _ None
    (record { rest = with_tick s w.time (at.begun - link_count s.cfg) (one_begun at); plain = tt; event = refl; first = refl; second = refl }) tt)

fault_paired : (scene : SceneAt) (s : Setting) (w : WorldAt) (t : Option ℕ) (a b : Handed) (at : SimAt) (k : FaultKind) →
    Paired a b (fault_of scene s w (holding t a at) k) (fault_of scene s w (holding t b at) k)
fault_paired scene s w t a b at (kind.Down n) = record { rest = at; plain = tt; event = refl; first = refl; second = refl }
fault_paired scene s w t a b at (kind.Up n) = record { rest = with_tick s w.time n at; plain = tt; event = refl; first = refl; second = refl }
fault_paired scene s w t a b at (kind.Cut k) = record { rest = at; plain = tt; event = refl; first = refl; second = refl }
fault_paired scene s w t a b at (kind.Join k) = record { rest = at; plain = tt; event = refl; first = refl; second = refl }

pub fails_paired : (scene : SceneAt) (s : Setting) (w : WorldAt) (t : Option ℕ) (a b : Handed) (at : SimAt) →
    Paired a b (fails scene s w (holding t a at)) (fails scene s w (holding t b at))
fails_paired scene s w t a b at =
    then_paired a b _ _ (next_fault s w at.faults) (λ f. fault_paired scene s w t a b (rest_of s w at) f.kind)

pub samples_paired : (scene : SceneAt) (s : Setting) (w : WorldAt) (t : Option ℕ) (a b : Handed) (at : SimAt) →
    Paired a b (samples scene s w (holding t a at)) (samples scene s w (holding t b at))
samples_paired scene s w t a b at =
    then_paired a b _ _ t
    (λ n. then_paired a b _ _ (above s n)
    (λ k. if_paired a b (has_carrier s w k) _ None _ None
    (then_paired a b _ _ (link_of s k) (λ link. record { rest = after_draw at; plain = tt; event = refl; first = refl; second = refl })) tt))

pub departs_paired : (s : Setting) (w : WorldAt) (t : Option ℕ) (a b : Handed) (at : SimAt) →
    Paired a b (departs s w (holding t a at)) (departs s w (holding t b at))
departs_paired s w t a b at =
    then_paired a b _ _ (find (departs_now s w) (ports_of s)) (λ port. record { rest = after_draw at; plain = tt; event = refl; first = refl; second = refl })

-- What comes next

-- the rules 6, 7 and 9
abbrev after_handing : SceneAt → Setting → WorldAt → Option (ℕ × ℤ) → SimAt → List (Option Next)
after_handing scene s w due at = arrives scene s w due at ∷ (ticks s w at ∷ (passes scene s w due at ∷ []))

-- one of the rules 1 to 4 gives the same in both; or none of them applies, and the frame is handed over
pub data Owed (scene : SceneAt) (s : Setting) (w : WorldAt) (due : Option (ℕ × ℤ)) (i : ℕ) (at : SimAt) (m : Next) : Type 0 where
  Same : (n : Next) → Both (handing i 1) (handing i 0) m n → Some n ≡ next_of scene s w due (paid i at) → Owed scene s w due i at m
  Hands : m ≡ record { event = Deliver i; at = rest_of s w (paid i at) } → begins scene s w (paid i at) ≡ None → fails scene s w (paid i at) ≡ None →
      Owed scene s w due i at m

first_owed : (a b : Handed) (e m : Next) (o p q r x y z u : Option Next) (others rules : List (Option Next)) → Paired a b o x → Paired a b p y →
    Paired a b q z → Paired a b r u → Some m ≡ first_of (o ∷ (p ∷ (q ∷ (r ∷ (Some e ∷ others))))) →
    ((n : Next) × Both a b m n × (Some n ≡ first_of (x ∷ (y ∷ (z ∷ (u ∷ rules)))))) ⊎ ((m ≡ e) × (x ≡ None) × (y ≡ None))
first_owed a b e m (Some o) p q r (Some x) y z u others rules h k f g is = inl (x, subst (λ (n : Next). Both a b n x) (sym (same_Some m o is)) h, refl)
first_owed a b e m (Some o) p q r None y z u others rules h k f g is = absurd h
first_owed a b e m None p q r (Some x) y z u others rules h k f g is = absurd h
first_owed a b e m None (Some p) q r None (Some y) z u others rules h k f g is = inl (y, subst (λ (n : Next). Both a b n y) (sym (same_Some m p is)) k, refl)
first_owed a b e m None (Some p) q r None None z u others rules h k f g is = absurd k
first_owed a b e m None None q r None (Some y) z u others rules h k f g is = absurd k
first_owed a b e m None None (Some q) r None None (Some z) u others rules h k f g is =
    inl (z, subst (λ (n : Next). Both a b n z) (sym (same_Some m q is)) f, refl)
first_owed a b e m None None (Some q) r None None None u others rules h k f g is = absurd f
first_owed a b e m None None None r None None (Some z) u others rules h k f g is = absurd f
first_owed a b e m None None None (Some r) None None None (Some u) others rules h k f g is =
    inl (u, subst (λ (n : Next). Both a b n u) (sym (same_Some m r is)) g, refl)
first_owed a b e m None None None (Some r) None None None None others rules h k f g is = absurd g
first_owed a b e m None None None None None None None (Some u) others rules h k f g is = absurd g
first_owed a b e m None None None None None None None None others rules h k f g is = inr (same_Some m e is, refl, refl)

pub owed_next : (scene : SceneAt) (s : Setting) (w : WorldAt) (due : Option (ℕ × ℤ)) (i : ℕ) (at : SimAt) (m : Next) →
    Some m ≡ next_of scene s w due (owing i at) → Owed scene s w due i at m
owed_next scene s w due i at m is =
    let a : Handed = handing i 1 in
    let b : Handed = handing i 0 in
    let rest : SimAt = rest_of s w at in
    elim (first_owed a b (record { event = Deliver i; at = paid i rest }) m
    (begins scene s w (owing i at)) (fails scene s w (owing i at)) (samples scene s w (owing i rest)) (departs s w (owing i rest))
    (begins scene s w (paid i at)) (fails scene s w (paid i at)) (samples scene s w (paid i rest)) (departs s w (paid i rest))
    (after_handing scene s w due (owing i rest)) (delivers (paid i rest) ∷ after_handing scene s w due (paid i rest))
    (begins_paired scene s w None a b at) (fails_paired scene s w None a b at) (samples_paired scene s w None a b rest) (departs_paired s w None a b rest) is) [
      | inl same ↦ Same same.0 same.1 same.2
      | inr hands ↦ Hands hands.0 hands.1 hands.2
    ]

-- if a frame still has to be handed over, there is a next event
first_some : (e : Next) (o p q r : Option Next) (others : List (Option Next)) → None ≡ first_of (o ∷ (p ∷ (q ∷ (r ∷ (Some e ∷ others))))) → ⊥
first_some e (Some o) p q r others is = none-some o is
first_some e None (Some p) q r others is = none-some p is
first_some e None None (Some q) r others is = none-some q is
first_some e None None None (Some r) others is = none-some r is
first_some e None None None None others is = none-some e is

pub owes_some : (scene : SceneAt) (s : Setting) (w : WorldAt) (due : Option (ℕ × ℤ)) (i : ℕ) (at : SimAt) → None ≡ next_of scene s w due (owing i at) → ⊥
owes_some scene s w due i at is =
    let rest : SimAt = rest_of s w at in
    first_some (record { event = Deliver i; at = paid i rest })
    (begins scene s w (owing i at)) (fails scene s w (owing i at)) (samples scene s w (owing i rest)) (departs s w (owing i rest))
    (after_handing scene s w due (owing i rest)) is
