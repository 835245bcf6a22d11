-- The lock detector over the list of calls: it is the one that the errors since its last restart lead to.
use Rattle.std.specs.Prelude.{IsTrue}
use Rattle.std.proofs.Common.{◌≡◌, ◌↔◌, ◌<◌, refl, ap, ap₂, ◌∙◌, sym, subst, ℕ, ℤ, ◌-ℤ◌, Bool, true, false, cond, not, ◌||◌, Option, None, Some, List, [], ◌∷◌, inl, inr, arith}
use Rattle.wrp_base.specs.declared.link.Deltas.{Deltas}
use Rattle.wrp_base.specs.declared.measurement.Four.{Four}
use Rattle.wrp_pi.specs.Lock.{Limits, Detector, count_after, IsLocked, StandsFor, rested as lock_rested, updated as lock_updated}
use Rattle.wrp_pi.proofs.LockLaws.{Adds-updated}
use Rattle.wrp_servo.specs.declared.machine.Core.{Core}
use Rattle.wrp_servo.specs.Call.{Call, CallSample, CallMeasured, CallTick, CallLease, CallLink, CallCarrier, CallReset, ServoSetting, run}
use Rattle.wrp_servo.specs.Following.{error_of, e_tau, unlocked}
use Rattle.wrp_servo.specs.LookBack.{phase_with}
use Rattle.wrp_servo.specs.Measuring.{answered, deltas_in_chain}
use Rattle.wrp_servo.specs.Sampling.{is_holdover, is_far, with_tag, with_last, followed, good, by_sample}
use Rattle.wrp_servo.proofs.Gone.{set_is}
use Rattle.wrp_lookback_laws.specs.Heard.{tag_at, tags_since, u_at}
use Rattle.wrp_lookback_laws.specs.Detector.{limits_of, differ, errors, error_at, is_lost, with_error, HasErrors, DetectorLooksBack}
use Rattle.wrp_lookback_laws.proofs.Rows.{Turned, Next, tick-next}
use Rattle.wrp_lookback_laws.proofs.Calls.{Answers, Sampled, Good, Follows, Comes, lease-next, link-next, gone-next, comes-next, answered-next, sample-is, good-next}
use Rattle.wrp_lookback_laws.proofs.HeardLaws.{Known, tag-is, pushed-is}

-- ---- a detector that rests, that takes an error, and that turns with HOLDOVER

pub rests : (limits : Limits) (l : Limits) → l ≡ limits → HasErrors limits (lock_rested l) []
rests limits l e = record {
  same = e;
  count = refl;
  locked = (λ t. absurd cc, λ (i, within, at_lock, since). absurd (since 0 (omega arith) refl));
}

pub takes : (limits : Limits) (d : Detector) (e : ℤ) (es : List ℤ) → 0 < limits.lock → HasErrors limits d es → HasErrors limits (lock_updated d e) (e ∷ es)
takes limits d e es positive h =
    let before : StandsFor d es = record {
      count = h.count ∙ ap (λ (l : Limits). count_after l es) (sym h.same);
      locked = subst (λ (l : Limits). IsTrue d.locked ↔ IsLocked l es) (sym h.same) h.locked;
    } in
    let after : StandsFor (lock_updated d e) (e ∷ es) = Adds-updated d (lock_updated d e) e (subst (λ (l : Limits). 0 < l.lock) (sym h.same) positive) refl es before in
    record {
      same = h.same;
      count = after.count ∙ ap (λ (l : Limits). count_after l (e ∷ es)) h.same;
      locked = subst (λ (l : Limits). IsTrue (lock_updated d e).locked ↔ IsLocked l (e ∷ es)) h.same after.locked;
    }

differ-same : (h : Bool) → differ h h ≡ false
differ-same true = refl
differ-same false = refl

differ-not : (h : Bool) → differ h (not h) ≡ true
differ-not true = refl
differ-not false = refl

turned : (limits : Limits) (l m : Detector) (h k : Bool) (es : List ℤ) → HasErrors limits l es → Turned l h m k → HasErrors limits m (cond (differ h k) [] es)
turned limits l m h k es has (inl (p, q)) =
    subst (λ (b : Bool). HasErrors limits m (cond b [] es)) (sym (ap (differ h) q ∙ differ-same h)) (subst (λ (d : Detector). HasErrors limits d es) (sym p) has)
turned limits l m h k es has (inr (p, q)) =
    subst (λ (b : Bool). HasErrors limits m (cond b [] es)) (sym (ap (differ h) q ∙ differ-not h)) (subst (λ (d : Detector). HasErrors limits d []) (sym p) (rests limits l.limits has.same))

-- ---- a good sample

-- what a good sample gives, by its tag
pub record GoodAt (x : ServoSetting) (calls : List Call) (n base bits tag : ℕ) : Type 0 where
  pub is : run x (CallSample n base bits ∷ calls) ≡ good (with_tag (with_last (run x calls) n) tag) n
  pub u : u_at x (CallSample n base bits ∷ calls) ≡ (with_tag (with_last (run x calls) n) tag).phase.u

pub good-at : Known → (x : ServoSetting) (calls : List Call) (n base bits tag : ℕ) → tag_at x calls n base bits ≡ Some tag → GoodAt x calls n base bits tag
good-at known x calls n base bits tag e = record {
  is = subst (λ (o : Option ℕ). Sampled (run x calls) n o (by_sample (run x calls) n base bits)) (tag-is known x calls n base bits ∙ e) (sample-is (run x calls) n base bits);
  u = ap (phase_with x (tags_since x calls) (u_at x calls)) e ∙ sym (pushed-is known x calls tag);
}

-- in range its error is the one that the detector is given
abbrev pub given : ServoSetting → List Call → ℕ → ℕ → ℤ
given x calls n tag = error_of (e_tau (followed (with_tag (with_last (run x calls) n) tag)).phase)

pub error-is : (x : ServoSetting) (calls : List Call) (n base bits tag : ℕ) → GoodAt x calls n base bits tag →
    Follows (followed (with_tag (with_last (run x calls) n) tag)) n (good (with_tag (with_last (run x calls) n) tag) n) →
    error_at x calls (CallSample n base bits) ≡ given x calls n tag
error-is x calls n base bits tag g t =
    ap₂ (λ (u s : ℤ). error_of (u -ℤ s)) g.u (ap (λ (c : Core). c.phase.s) g.is ∙ t.held.s)

-- the errors with a good sample
good-errors : (x : ServoSetting) (calls : List Call) (n base bits tag : ℕ) → 0 < x.set.lock_samples → HasErrors (limits_of x.set) (run x calls).phase.lock (errors x calls) →
    GoodAt x calls n base bits tag → Good (with_tag (with_last (run x calls) n) tag) n (good (with_tag (with_last (run x calls) n) tag) n) →
    HasErrors (limits_of x.set) (good (with_tag (with_last (run x calls) n) tag) n).phase.lock
    (cond (is_far (u_at x (CallSample n base bits ∷ calls)) || differ (is_holdover (run x calls).state) (is_holdover (good (with_tag (with_last (run x calls) n) tag) n).state)) [] (error_at x calls (CallSample n base bits) ∷ errors x calls))
good-errors x calls n base bits tag positive has g (inl (far, t)) =
    let w : Core = good (with_tag (with_last (run x calls) n) tag) n in
    let lost : is_far (u_at x (CallSample n base bits ∷ calls)) ≡ true = ap is_far g.u ∙ far in
    subst (λ (b : Bool). HasErrors (limits_of x.set) w.phase.lock (cond (b || differ (is_holdover (run x calls).state) (is_holdover w.state)) [] (error_at x calls (CallSample n base bits) ∷ errors x calls))) (sym lost)
    (subst (λ (d : Detector). HasErrors (limits_of x.set) d []) (sym t.lock) (rests (limits_of x.set) (run x calls).phase.lock.limits has.same))
good-errors x calls n base bits tag positive has g (inr (near, t)) =
    let v : Core = run x calls in
    let f : Core = followed (with_tag (with_last v n) tag) in
    let w : Core = good (with_tag (with_last v n) tag) n in
    let found : is_far (u_at x (CallSample n base bits ∷ calls)) ≡ false = ap is_far g.u ∙ near in
    let error : error_at x calls (CallSample n base bits) ≡ given x calls n tag = error-is x calls n base bits tag g t in
    subst (λ (b : Bool). HasErrors (limits_of x.set) w.phase.lock (cond (b || differ (is_holdover v.state) (is_holdover w.state)) [] (error_at x calls (CallSample n base bits) ∷ errors x calls))) (sym found)
    (subst (λ (e : ℤ). HasErrors (limits_of x.set) w.phase.lock (cond (differ (is_holdover v.state) (is_holdover w.state)) [] (e ∷ errors x calls))) (sym error)
    (turned (limits_of x.set) f.phase.lock w.phase.lock (is_holdover f.state) (is_holdover w.state) (given x calls n tag ∷ errors x calls)
    (takes (limits_of x.set) v.phase.lock (given x calls n tag) (errors x calls) positive has) t.lock))

-- a sample that is none of the good ones
ignored : (x : ServoSetting) (v w : Core) (n : ℕ) (es : List ℤ) → HasErrors (limits_of x.set) v.phase.lock es → Sampled v n None w →
    HasErrors (limits_of x.set) w.phase.lock (cond (differ (is_holdover v.state) (is_holdover w.state)) [] es)
ignored x v w n es has (inl e) = subst (λ (c : Core). HasErrors (limits_of x.set) c.phase.lock (cond (differ (is_holdover v.state) (is_holdover c.state)) [] es)) (sym e)
    (turned (limits_of x.set) v.phase.lock v.phase.lock (is_holdover v.state) (is_holdover v.state) es has (inl (refl, refl)))
ignored x v w n es has (inr e) = subst (λ (c : Core). HasErrors (limits_of x.set) c.phase.lock (cond (differ (is_holdover v.state) (is_holdover c.state)) [] es)) (sym e)
    (turned (limits_of x.set) v.phase.lock v.phase.lock (is_holdover v.state) (is_holdover v.state) es has (inl (refl, refl)))

-- a sample, by its tag
sample-errors : Known → (x : ServoSetting) (calls : List Call) (n base bits : ℕ) → 0 < x.set.lock_samples → HasErrors (limits_of x.set) (run x calls).phase.lock (errors x calls) →
    (tag : Option ℕ) → tag_at x calls n base bits ≡ tag →
    HasErrors (limits_of x.set) (run x (CallSample n base bits ∷ calls)).phase.lock
    (cond (is_lost x calls (CallSample n base bits) tag || differ (is_holdover (run x calls).state) (is_holdover (run x (CallSample n base bits ∷ calls)).state)) [] (with_error tag (error_at x calls (CallSample n base bits)) (errors x calls)))
sample-errors known x calls n base bits positive has None e =
    let t : Sampled (run x calls) n None (run x (CallSample n base bits ∷ calls)) = subst (λ (o : Option ℕ). Sampled (run x calls) n o (by_sample (run x calls) n base bits)) (tag-is known x calls n base bits ∙ e) (sample-is (run x calls) n base bits) in
    ignored x (run x calls) (run x (CallSample n base bits ∷ calls)) n (errors x calls) has t
sample-errors known x calls n base bits positive has (Some tag) e =
    let g : GoodAt x calls n base bits tag = good-at known x calls n base bits tag e in
    let w : Core = with_tag (with_last (run x calls) n) tag in
    subst (λ (c : Core). HasErrors (limits_of x.set) c.phase.lock (cond (is_far (u_at x (CallSample n base bits ∷ calls)) || differ (is_holdover (run x calls).state) (is_holdover c.state)) [] (error_at x calls (CallSample n base bits) ∷ errors x calls))) (sym g.is)
    (good-errors x calls n base bits tag positive has g (good-next w n))

-- ---- the other calls

next-errors : (x : ServoSetting) (v w : Core) (es : List ℤ) → HasErrors (limits_of x.set) v.phase.lock es → Next v w →
    HasErrors (limits_of x.set) w.phase.lock (cond (differ (is_holdover v.state) (is_holdover w.state)) [] es)
next-errors x v w es has t = turned (limits_of x.set) v.phase.lock w.phase.lock (is_holdover v.state) (is_holdover w.state) es has t.lock

answered-errors : (x : ServoSetting) (v : Core) (f : Four) (y : ℤ) (on : Option Deltas) (w : Core) (es : List ℤ) → HasErrors (limits_of x.set) v.phase.lock es → Answers x.lo x.hi v f y on w →
    HasErrors (limits_of x.set) w.phase.lock (cond (differ (is_holdover v.state) (is_holdover w.state)) [] es)
answered-errors x v f y None w es has e = ignored x v w 0 es has (inl e)
answered-errors x v f y (Some d) w es has (inl (r, t)) = turned (limits_of x.set) v.phase.lock w.phase.lock (is_holdover v.state) (is_holdover w.state) es has t.lock
answered-errors x v f y (Some d) w es has (inr (r, t)) = next-errors x v w es has t

-- a carrier that comes
comes-errors : (x : ServoSetting) (v w : Core) (es : List ℤ) → HasErrors (limits_of x.set) v.phase.lock es → Comes v w →
    HasErrors (limits_of x.set) w.phase.lock (cond (not (is_holdover v.state) || differ (is_holdover v.state) (is_holdover w.state)) [] es)
comes-errors x v w es has t =
    let same : differ (is_holdover v.state) (is_holdover w.state) ≡ false = ap (λ s. differ (is_holdover v.state) (is_holdover s)) t.state ∙ differ-same (is_holdover v.state) in
    subst (λ (b : Bool). HasErrors (limits_of x.set) w.phase.lock (cond (not (is_holdover v.state) || b) [] es)) (sym same)
    (subst (λ (d : Detector). HasErrors (limits_of x.set) d (cond (not (is_holdover v.state) || false) [] es)) (sym t.lock)
    (elim (is_holdover v.state) as (λ h. HasErrors (limits_of x.set) (cond h v.phase.lock (lock_rested v.phase.lock.limits)) (cond (not h || false) [] es)) [
      | true ↦ has
      | false ↦ rests (limits_of x.set) v.phase.lock.limits has.same
    ]))

pick : (limits : Limits) (d : Detector) (b : Bool) → HasErrors limits d (cond b [] []) → HasErrors limits d []
pick limits d true h = h
pick limits d false h = h

-- a carrier that goes
gone-errors : (x : ServoSetting) (v w : Core) → HasErrors (limits_of x.set) v.phase.lock [] → Next v w → HasErrors (limits_of x.set) w.phase.lock []
gone-errors x v w has t = pick (limits_of x.set) w.phase.lock (differ (is_holdover v.state) (is_holdover w.state)) (next-errors x v w [] has t)

pub detector_looks_back : Known → DetectorLooksBack
detector_looks_back known x [] positive = rests (limits_of x.set) (limits_of x.set) refl
detector_looks_back known x (CallSample n base bits ∷ calls) positive =
    sample-errors known x calls n base bits positive (detector_looks_back known x calls positive) (tag_at x calls n base bits) refl
detector_looks_back known x (CallMeasured f y ∷ calls) positive =
    let v : Core = run x calls in
    let on : Option Deltas = deltas_in_chain v in
    answered-errors x v f y on (answered x.lo x.hi v f y on) (errors x calls) (detector_looks_back known x calls positive) (answered-next x.lo x.hi v f y on)
detector_looks_back known x (CallTick ∷ calls) positive =
    next-errors x (run x calls) (run x (CallTick ∷ calls)) (errors x calls) (detector_looks_back known x calls positive) (tick-next (run x calls) (run x calls).state)
detector_looks_back known x (CallLease fresh ∷ calls) positive =
    next-errors x (run x calls) (run x (CallLease fresh ∷ calls)) (errors x calls) (detector_looks_back known x calls positive) (lease-next (run x calls) fresh)
detector_looks_back known x (CallLink on ∷ calls) positive =
    next-errors x (run x calls) (run x (CallLink on ∷ calls)) (errors x calls) (detector_looks_back known x calls positive) (link-next (run x calls) on)
detector_looks_back known x (CallCarrier true ∷ calls) positive =
    comes-errors x (run x calls) (run x (CallCarrier true ∷ calls)) (errors x calls) (detector_looks_back known x calls positive) (comes-next (run x calls))
detector_looks_back known x (CallCarrier false ∷ calls) positive =
    let v : Core = record (run x calls) { phase = unlocked (run x calls).phase } in
    gone-errors x v (run x (CallCarrier false ∷ calls)) (rests (limits_of x.set) (run x calls).phase.lock.limits (detector_looks_back known x calls positive).same) (gone-next (run x calls))
detector_looks_back known x (CallReset ∷ calls) positive =
    rests (limits_of x.set) (limits_of (run x calls).set) (ap limits_of (set_is x calls))
