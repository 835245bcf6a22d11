-- A simulator that has no frame to hand over: its next event is an arrival, or it leaves the frame that arrived last as it is. Dropping
-- the faults that do not apply does not change the next event.
use Rattle.std.proofs.Common.{◌≡◌, ◌∙◌, ◌⊎◌, inl, inr, refl, ap, sym, subst, ℕ, ℤ, ◌+◌, ◌-◌, ◌≤◌, ◌-ℤ◌, ◌&&◌, nat_lt, Bool, true, false, if◌then◌else◌, List, [], ◌∷◌, cond, find, Option, None, Some, option_and_then, option_map, arith}
use Rattle.std.proofs.lemmas.Option.{none-some, same_Some}
use Rattle.std.specs.Ordering.{int_eq}
use Rattle.wrp_base.specs.declared.time.Raw.{Raw}
use Rattle.wrp_network.specs.Network.{node_count}
use Rattle.wrp_course.specs.declared.event.Event.TheVariants.{Arrive, Deliver}
use Rattle.wrp_course.specs.EventAt.{link_count}
use Rattle.wrp_course.specs.Setting.{Setting, nodes_of}
use Rattle.wrp_course.specs.WorldAt.{WorldAt}
use Rattle.wrp_scene.specs.declared.scene.fault.Fault.{Fault}
use Rattle.wrp_scene.specs.Scenario.{SceneAt}
use Rattle.wrp_sim.specs.Rules.{Next, after_arrival, applies, arrives, arrives_by, begins, comes, delivers, departs, fails, fault_of, faults_left, first_of, is_over, later_rules, moments, next_fault, next_moment, next_of, one_begun, pass_of, passes, raw_of, rest_of, samples, tick_of, ticks, ticks_now, up_event, with_tick}
use Rattle.wrp_sim.specs.SimAt.{SimAt}
use Rattle.wrp_sim.proofs.KeepsStart.{quiet_rest, start_is_over}
use Rattle.wrp_sim.proofs.KeepsState.{AllQuiet}
use Rattle.wrp_sim.proofs.RuleCases.{ge_false, joined_all}
use Rattle.wrp_loop.specs.LoopRun.{IsPlain}
use Rattle.wrp_lossless_laws.proofs.Owing.{Paired, begins_paired, departs_paired, fails_paired, samples_paired}

-- The start is over, and no fault comes

-- a start that is over stays over
pub none_begun : (scene : SceneAt) (s : Setting) (w v : WorldAt) (at new : SimAt) → begins scene s w at ≡ None → new.begun ≡ at.begun →
    begins scene s v new ≡ None
none_begun scene s w v at new none same =
    let over : link_count s.cfg + node_count s.cfg ≤ at.begun = start_is_over scene s w at none in
    let links : nat_lt new.begun (link_count s.cfg) ≡ false = ge_false new.begun (link_count s.cfg) (omega (arith, over, same)) in
    let nodes : nat_lt (new.begun - link_count s.cfg) (node_count s.cfg) ≡ false =
    ge_false (new.begun - link_count s.cfg) (node_count s.cfg) (omega (arith, over, same)) in
    joined_all scene s v new links
    ∙ ap (λ (b : Bool). if b then comes (up_event scene (new.begun - link_count s.cfg))
    (with_tick s v.time (new.begun - link_count s.cfg) (one_begun new)) else None) nodes

-- faults whose times have not come do not come next, and none of them is dropped
quiet_next : (s : Setting) (v : WorldAt) (faults : List Fault) → AllQuiet s v.time faults → next_fault s v faults ≡ None
quiet_next s v [] quiet = refl
quiet_next s v (f ∷ faults) quiet = ap (λ (b : Bool). cond (b && applies v f.kind) (Some f) (next_fault s v faults)) quiet.0 ∙ quiet_next s v faults quiet.1

pub quiet_left : (s : Setting) (v : WorldAt) (faults : List Fault) → AllQuiet s v.time faults → faults_left s v faults ≡ faults
quiet_left s v [] quiet = refl
quiet_left s v (f ∷ faults) quiet =
    ap (λ (b : Bool). if b then (if applies v f.kind then faults else faults_left s v faults) else f ∷ faults_left s v faults) quiet.0
    ∙ ap (λ (l : List Fault). f ∷ l) (quiet_left s v faults quiet.1)

pub quiet_fails : (scene : SceneAt) (s : Setting) (v : WorldAt) (at : SimAt) → AllQuiet s v.time at.faults → fails scene s v at ≡ None
quiet_fails scene s v at quiet =
    ap (λ (o : Option Fault). option_and_then (λ (f : Fault). fault_of scene s v (rest_of s v at) f.kind) o) (quiet_next s v at.faults quiet)

pub quiet_stays : (s : Setting) (v : WorldAt) (at : SimAt) → AllQuiet s v.time at.faults → rest_of s v at ≡ at
quiet_stays s v at quiet = ap (λ (l : List Fault). record at { faults = l }) (quiet_left s v at.faults quiet)

-- Dropping the faults that do not apply

-- if the first two rules give nothing, the others decide
after_two : (a b : Option Next) (rules : List (Option Next)) → a ≡ None → b ≡ None → first_of (a ∷ (b ∷ rules)) ≡ first_of rules
after_two a b rules p q = λ k. first_of (p k ∷ (q k ∷ rules))

pub later_next : (scene : SceneAt) (s : Setting) (w : WorldAt) (due : Option (ℕ × ℤ)) (at : SimAt) → begins scene s w at ≡ None → fails scene s w at ≡ None →
    next_of scene s w due at ≡ first_of (later_rules scene s w due (rest_of s w at))
later_next scene s w due at begun fault = after_two (begins scene s w at) (fails scene s w at) (later_rules scene s w due (rest_of s w at)) begun fault

pub dropped_next : (scene : SceneAt) (s : Setting) (w : WorldAt) (due : Option (ℕ × ℤ)) (at : SimAt) → begins scene s w at ≡ None → fails scene s w at ≡ None →
    next_of scene s w due (rest_of s w at) ≡ next_of scene s w due at
dropped_next scene s w due at begun fault =
    let rest : SimAt = rest_of s w at in
    let quiet : AllQuiet s w.time rest.faults = quiet_rest scene s w at fault in
    later_next scene s w due rest (none_begun scene s w w at rest begun refl) (quiet_fails scene s w rest quiet)
    ∙ ap (λ (now : SimAt). first_of (later_rules scene s w due now)) (quiet_stays s w rest quiet)
    ∙ sym (later_next scene s w due at begun fault)

-- What comes next

-- an event that is not an arrival, hands nothing over, and leaves the frame that arrived last as it
-- is
pub record PlainNext (at : SimAt) (m : Next) : Type 0 where
  pub plain : IsPlain m.event
  pub arrived : m.at.arrived ≡ at.arrived

abbrev PlainIf : SimAt → Option Next → Type 0
PlainIf at None = Unit {0}
PlainIf at (Some m) = PlainNext at m

paired_plain : (at : SimAt) (o p : Option Next) → Paired at.arrived at.arrived o p → PlainIf at o
paired_plain at None None h = tt
paired_plain at (Some m) (Some n) h = record { plain = h.plain; arrived = ap (λ (k : SimAt). k.arrived) h.first }
paired_plain at (Some m) None h = absurd h
paired_plain at None (Some n) h = absurd h

tick_plain : (s : Setting) (w : WorldAt) (at now : SimAt) (o : Option ℕ) → now.arrived ≡ at.arrived → PlainIf at (option_map (tick_of s w now) o)
tick_plain s w at now None same = tt
tick_plain s w at now (Some n) same = record { plain = tt; arrived = same }

pass_plain : (at : SimAt) (b : Bool) (o : Option Next) → PlainIf at o → PlainIf at (if b then None else o)
pass_plain at true o h = tt
pass_plain at false o h = h

-- an arrival: rule 6 gives it, and the rules 1, 2 and 4 give nothing
pub record ArrivesNext (scene : SceneAt) (s : Setting) (w : WorldAt) (due : Option (ℕ × ℤ)) (at : SimAt) (m : Next) : Type 0 where
  pub begun : begins scene s w at ≡ None
  pub fault : fails scene s w at ≡ None
  pub departs : departs s w (rest_of s w at) ≡ None
  pub number : ℕ
  pub raw : Raw
  pub time : ℤ
  pub due_is : due ≡ Some (number, time)
  pub is : m ≡ record { event = Arrive number raw; at = record (after_arrival scene number (rest_of s w at)) { ticked = None } }

record ByRaw (scene : SceneAt) (at : SimAt) (i : ℕ) (m : Next) : Type 0 where
  raw : Raw
  is : m ≡ record { event = Arrive i raw; at = record (after_arrival scene i at) { ticked = None } }

by_raw : (scene : SceneAt) (at : SimAt) (i : ℕ) (m : Next) (o : Option Raw) →
    option_and_then (λ (raw : Raw). comes (Arrive i raw) (after_arrival scene i at)) o ≡ Some m → ByRaw scene at i m
by_raw scene at i m None e = absurd (none-some m e)
by_raw scene at i m (Some raw) e = record { raw = raw; is = sym (same_Some _ m e) }

by_time : (scene : SceneAt) (s : Setting) (w : WorldAt) (at : SimAt) (i : ℕ) (m : Next) (b : Bool) →
    (if b then arrives_by scene s w at i else None) ≡ Some m → ByRaw scene at i m
by_time scene s w at i m true e = by_raw scene at i m (raw_of s w i) e
by_time scene s w at i m false e = absurd (none-some m e)

arrives_next : (scene : SceneAt) (s : Setting) (w : WorldAt) (due : Option (ℕ × ℤ)) (at : SimAt) (m : Next) → begins scene s w at ≡ None →
    fails scene s w at ≡ None → departs s w (rest_of s w at) ≡ None →
    (o : Option (ℕ × ℤ)) → due ≡ o → arrives scene s w o (rest_of s w at) ≡ Some m → ArrivesNext scene s w due at m
arrives_next scene s w due at m begun fault stays None is e = absurd (none-some m e)
arrives_next scene s w due at m begun fault stays (Some next) is e =
    let it : ByRaw scene (rest_of s w at) next.0 m = by_time scene s w (rest_of s w at) next.0 m (int_eq next.1 w.time) e in
    record { begun = begun; fault = fault; departs = stays; number = next.0; raw = it.raw; time = next.1; due_is = is; is = it.is }

first_settled : (at : SimAt) (m : Next) (a b c d f g h : Option Next) → PlainIf at a → PlainIf at b → PlainIf at c → PlainIf at d → PlainIf at g →
    PlainIf at h →
    Some m ≡ first_of (a ∷ (b ∷ (c ∷ (d ∷ (None ∷ (f ∷ (g ∷ (h ∷ [])))))))) → PlainNext at m ⊎ ((a ≡ None) × (b ≡ None) × (d ≡ None) × (f ≡ Some m))
first_settled at m (Some a) b c d f g h pa pb pc pd pg ph is = inl (subst (PlainNext at) (sym (same_Some m a is)) pa)
first_settled at m None (Some b) c d f g h pa pb pc pd pg ph is = inl (subst (PlainNext at) (sym (same_Some m b is)) pb)
first_settled at m None None (Some c) d f g h pa pb pc pd pg ph is = inl (subst (PlainNext at) (sym (same_Some m c is)) pc)
first_settled at m None None None (Some d) f g h pa pb pc pd pg ph is = inl (subst (PlainNext at) (sym (same_Some m d is)) pd)
first_settled at m None None None None (Some f) g h pa pb pc pd pg ph is = inr (refl, refl, refl, sym is)
first_settled at m None None None None None (Some g) h pa pb pc pd pg ph is = inl (subst (PlainNext at) (sym (same_Some m g is)) pg)
first_settled at m None None None None None None (Some h) pa pb pc pd pg ph is = inl (subst (PlainNext at) (sym (same_Some m h is)) ph)
first_settled at m None None None None None None None pa pb pc pd pg ph is = absurd (none-some m (sym is))

-- rule 5 gives nothing
nothing_handed : (at : SimAt) → at.arrived.times ≡ 0 → delivers at ≡ None
nothing_handed at none =
    ap (λ (times : ℕ). if nat_lt 0 times then comes (Deliver at.arrived.frame)
    (record at { arrived = record at.arrived { times = at.arrived.times - 1 } }) else None) none

pub settled_next : (scene : SceneAt) (s : Setting) (w : WorldAt) (due : Option (ℕ × ℤ)) (at : SimAt) (m : Next) → at.arrived.times ≡ 0 →
    Some m ≡ next_of scene s w due at →
    PlainNext at m ⊎ ArrivesNext scene s w due at m
settled_next scene s w due at m none is =
    let rest : SimAt = rest_of s w at in
    let by : Some m ≡ first_of (
    begins scene s w at ∷ (fails scene s w at
    ∷ (samples scene s w rest ∷ (departs s w rest ∷ (None ∷ (arrives scene s w due rest ∷ (ticks s w rest ∷ (passes scene s w due rest ∷ [])))))))
    ) =
    is
    ∙ ap (λ (o : Option Next). first_of (
    begins scene s w at ∷ (fails scene s w at
    ∷ (samples scene s w rest ∷ (departs s w rest ∷ (o ∷ (arrives scene s w due rest ∷ (ticks s w rest ∷ (passes scene s w due rest ∷ [])))))))
    )) (nothing_handed rest none) in
    elim (first_settled at m _ _ _ _ _ _ _
    (paired_plain at _ _ (begins_paired scene s w at.ticked at.arrived at.arrived at))
    (paired_plain at _ _ (fails_paired scene s w at.ticked at.arrived at.arrived at))
    (paired_plain at _ _ (samples_paired scene s w at.ticked at.arrived at.arrived rest))
    (paired_plain at _ _ (departs_paired s w at.ticked at.arrived at.arrived rest))
    (tick_plain s w at rest (find (ticks_now w rest) (nodes_of s)) refl)
    (pass_plain at (is_over scene s w) (comes (pass_of scene s w (next_moment w.time (moments scene s w due rest) -ℤ w.time)) rest)
    (record { plain = tt; arrived = refl }))
    by) [
      | inl plain ↦ inl plain
      | inr arrives ↦ inr (arrives_next scene s w due at m arrives.0 arrives.1 arrives.2 due refl arrives.3)
    ]
