-- What begins and ends a chain by the list is what begins and ends it by the servo's rows and what they hold.
use Rattle.std.specs.Prelude.{◌⊎◌, nat_lt, IsTrue}
use Rattle.std.proofs.Common.{◌≡◌, ◌↔◌, ◌<◌, refl, ap, ap₂, ◌∙◌, sym, subst, ℕ, ℤ, ◌+◌, ◌-◌, Bool, true, false, cond, not, ◌&&◌, ◌||◌, is_some, Option, None, Some, List, ◌∷◌, inl, inr}
use Rattle.std.proofs.lemmas.Bool.{false_from_ne_true, or_cases, or_left, or_right, and_parts, and_from, cases_Bool}
use Rattle.wrp_base.proofs.Booleans.{not_both}
use Rattle.wrp_base.specs.declared.link.Deltas.{Deltas}
use Rattle.wrp_base.specs.declared.link.ServoState.{ServoState}
use Rattle.wrp_base.specs.declared.link.ServoState.TheVariants.{SyncTai, SyncNsec}
use Rattle.wrp_base.specs.declared.measurement.Four.{Four}
use Rattle.wrp_base.specs.declared.time.Clock.{Clock}
use Rattle.wrp_pi.specs.Lock.{IsLocked}
use Rattle.wrp_servo.specs.declared.interface.ServoSet.{ServoSet}
use Rattle.wrp_servo.specs.declared.machine.Core.{Core}
use Rattle.wrp_servo.specs.Call.{Call, CallSample, CallMeasured, CallTick, CallLease, CallLink, CallCarrier, CallReset, ServoSetting, run}
use Rattle.wrp_servo.specs.Chain.{unlocks, is_outside, steps, steps_in, ends, strays_at, starts, starts_by, ends_chain}
use Rattle.wrp_servo.specs.Laws.{ChainSince, TrackSince, ChainIsHeld, TrackHasChain}
use Rattle.wrp_servo.specs.LookBack.{seen, chain_ends, leaves_track}
use Rattle.wrp_servo.specs.Measuring.{is_in, x_of, kept_of, half_period, is_below_second}
use Rattle.wrp_servo.specs.Sampling.{hears, is_holdover, is_far, is_within, est_of, good_tag, with_tag, with_last, followed, good}
use Rattle.wrp_servo.specs.Table.{is_track}
use Rattle.wrp_servo.specs.Told.{link_told}
use Rattle.wrp_servo.proofs.Gone.{set_is}
use Rattle.wrp_lookback_laws.specs.Heard.{tag_at, u_at, ticks_without}
use Rattle.wrp_lookback_laws.specs.Detector.{limits_of, errors, HasErrors}
use Rattle.wrp_lookback_laws.specs.Chains.{LocksWith, MayBegin, EndsBySample, commands_step, ends_by_four, Ends, EndsChain}
use Rattle.wrp_lookback_laws.proofs.Calls.{Good, good-next}
use Rattle.wrp_lookback_laws.proofs.HeardLaws.{Known, tag-is, u-is, past-is}
use Rattle.wrp_lookback_laws.proofs.DetectorLaws.{GoodAt, good-at, given, error-is, takes, detector_looks_back}
use Rattle.wrp_lookback_laws.proofs.SeenHere.{seen-is}
use Rattle.wrp_lookback_laws.proofs.ServoSteps.{track_goes, track_left}

-- what the servo proves
pub record Laws : Type 0 where
  pub known : Known
  pub chain : ChainSince
  pub track : TrackSince
  pub held : ChainIsHeld
  pub inside : TrackHasChain

-- ---- a good sample

-- a good sample in range leaves the detector locked if and only if its error locks it
locks : Known → (x : ServoSetting) (calls : List Call) (n base bits tag : ℕ) → 0 < x.set.lock_samples → GoodAt x calls n base bits tag →
    Good (with_tag (with_last (run x calls) n) tag) n (good (with_tag (with_last (run x calls) n) tag) n) →
    is_far (with_tag (with_last (run x calls) n) tag).phase.u ≡ false →
    (IsTrue (followed (with_tag (with_last (run x calls) n) tag)).phase.lock.locked ↔ LocksWith x calls (CallSample n base bits))
locks known x calls n base bits tag positive g (inl (far, t)) near = absurd (not_both (is_far (with_tag (with_last (run x calls) n) tag).phase.u) far near)
locks known x calls n base bits tag positive g (inr (near, t)) same =
    let has : HasErrors (limits_of x.set) (followed (with_tag (with_last (run x calls) n) tag)).phase.lock (given x calls n tag ∷ errors x calls) =
    takes (limits_of x.set) (run x calls).phase.lock (given x calls n tag) (errors x calls) positive (detector_looks_back known x calls positive) in
    subst (λ (e : ℤ). IsTrue (followed (with_tag (with_last (run x calls) n) tag)).phase.lock.locked ↔ IsLocked (limits_of x.set) (e ∷ errors x calls)) (sym (error-is x calls n base bits tag g t)) has.locked

far_or : (u : Bool) (L : Type 0) → u ≡ false → L → ((u ≡ true) ⊎ (L → ⊥)) → ⊥
far_or u L e l (inl f) = not_both u f e
far_or u L e l (inr never) = never l

by_parts : (far locked u : Bool) (L : Type 0) → u ≡ far → (far ≡ false → ((locked ≡ true) ↔ L)) → ((far || not locked) ≡ true) ↔ ((u ≡ true) ⊎ (L → ⊥))
by_parts true locked u L e k = (λ h. inl e, λ h. refl)
by_parts false true u L e k = (λ h. absurd cc, λ h. absurd (far_or u L e ((k refl).0 refl) h))
by_parts false false u L e k = (λ h. inr (λ l. let t : false ≡ true = (k refl).1 l in cc), λ h. refl)

-- it ends the chain if and only if it unlocks
pub unlocks-is : Known → (x : ServoSetting) (calls : List Call) (n base bits : ℕ) → 0 < x.set.lock_samples → (tag : Option ℕ) → tag_at x calls n base bits ≡ tag →
    (unlocks (run x calls) tag ≡ true) ↔ EndsBySample x calls (CallSample n base bits) tag
unlocks-is known x calls n base bits positive None e = (λ h. cc, λ h. absurd h)
unlocks-is known x calls n base bits positive (Some tag) e =
    let g : GoodAt x calls n base bits tag = good-at known x calls n base bits tag e in
    let w : Core = with_tag (with_last (run x calls) n) tag in
    by_parts (is_far w.phase.u) (followed w).phase.lock.locked (is_far (u_at x (CallSample n base bits ∷ calls))) (LocksWith x calls (CallSample n base bits)) (ap is_far g.u)
    (λ near. locks known x calls n base bits tag positive g (good-next w n) near)

heard_first : (v : Core) (h : Bool) (o : Option ℕ) → (h && unlocks v o) ≡ unlocks v (cond h o None)
heard_first v true o = refl
heard_first v false o = refl

pub sample-ends : Known → (x : ServoSetting) (calls : List Call) (n base bits : ℕ) → ends x (run x calls) (CallSample n base bits) ≡ unlocks (run x calls) (tag_at x calls n base bits)
sample-ends known x calls n base bits =
    heard_first (run x calls) (hears (run x calls)) (good_tag (run x calls).last n base bits) ∙ ap (unlocks (run x calls)) (tag-is known x calls n base bits)

-- ---- a measurement

steps-at : (v : Core) (clock : Clock) (est : ℤ) (s : ServoState) → v.set.clock ≡ clock → steps_in v est s ≡ commands_step clock s est
steps-at v clock est SyncTai e = ap (λ (c : Clock). not (is_below_second est && is_within (half_period c) est)) e
steps-at v clock est SyncNsec e = ap (λ (c : Clock). not (is_within (half_period c) est)) e
steps-at v clock est s e = refl

within_first : (i c : Bool) → (not i || (i && c)) ≡ (not i || c)
within_first true c = refl
within_first false c = refl

four-ends : Known → (x : ServoSetting) (calls : List Call) (f : Four) (y : ℤ) (on : Option Deltas) → (is_outside x f on || steps x (run x calls) f y on) ≡ ends_by_four x calls f y on
four-ends known x calls f y None = refl
four-ends known x calls f y (Some d) =
    let v : Core = run x calls in
    let i : Bool = is_in x.lo x.hi (x_of d f) in
    within_first i (steps_in v (est_of v.phase.u (kept_of f d y)) v.state)
    ∙ ap (λ (b : Bool). not i || b)
    (steps-at v x.set.clock (est_of v.phase.u (kept_of f d y)) v.state (ap (λ (s : ServoSet). s.clock) (set_is x calls))
    ∙ ap (λ (u : ℤ). commands_step x.set.clock v.state (est_of u (kept_of f d y))) (u-is known x calls))

measured-ends : Known → (x : ServoSetting) (calls : List Call) (f : Four) (y : ℤ) → ends x (run x calls) (CallMeasured f y) ≡ ends_by_four x calls f y (link_told calls)
measured-ends known x calls f y = four-ends known x calls f y (run x calls).signals.link ∙ ap (ends_by_four x calls f y) (known.told x calls).link

-- ---- any call

tick-ends : Known → (x : ServoSetting) (calls : List Call) → is_holdover (run x calls).state ≡ false → ends x (run x calls) CallTick ≡ nat_lt x.set.gap (ticks_without x (CallTick ∷ calls))
tick-ends known x calls outside =
    ap (λ (h : Bool). not h && nat_lt (run x calls).set.gap (((run x calls).ticks + 1) - (run x calls).good_tick)) outside
    ∙ ap₂ (λ (g k : ℕ). nat_lt g k) (ap (λ (s : ServoSet). s.gap) (set_is x calls)) (past-is known x calls)

not_is : (b : Bool) → (not b ≡ true) ↔ (b ≡ false)
not_is true = (λ h. absurd cc, λ h. absurd cc)
not_is false = (λ h. refl, λ h. refl)

-- if there is a chain
pub ends-is : Laws → (x : ServoSetting) (calls : List Call) (call : Call) → 0 < x.set.lock_samples → is_some (run x calls).first ≡ true → (ends x (run x calls) call ≡ true) ↔ Ends x calls call
ends-is laws x calls (CallSample n base bits) positive stands =
    subst (λ (b : Bool). (b ≡ true) ↔ EndsBySample x calls (CallSample n base bits) (tag_at x calls n base bits)) (sym (sample-ends laws.known x calls n base bits))
    (unlocks-is laws.known x calls n base bits positive (tag_at x calls n base bits) refl)
ends-is laws x calls (CallMeasured f y) positive stands =
    let e : ends x (run x calls) (CallMeasured f y) ≡ ends_by_four x calls f y (link_told calls) = measured-ends laws.known x calls f y in
    (λ h. sym e ∙ h, λ h. e ∙ h)
ends-is laws x calls CallTick positive stands =
    let e : ends x (run x calls) CallTick ≡ nat_lt x.set.gap (ticks_without x (CallTick ∷ calls)) = tick-ends laws.known x calls (laws.held x calls stands).state in
    (λ h. sym e ∙ h, λ h. e ∙ h)
ends-is laws x calls (CallLease fresh) positive stands = not_is fresh
ends-is laws x calls (CallLink on) positive stands = not_is (is_some on)
ends-is laws x calls (CallCarrier up) positive stands = not_is up
ends-is laws x calls CallReset positive stands = (λ h. tt, λ h. refl)

seen-ends : Known → (x : ServoSetting) (calls : List Call) (call : Call) → ends_chain x (run x calls) call ≡ chain_ends x calls call
seen-ends known x calls call = ap (λ (v : Core). ends_chain x v call) (seen-is known x calls)

pub seen-leaves : Known → (x : ServoSetting) (calls : List Call) (call : Call) → (ends x (run x calls) call || strays_at x (run x calls) call) ≡ leaves_track x calls call
seen-leaves known x calls call = ap (λ (v : Core). ends x v call || strays_at x v call) (seen-is known x calls)

ended-by : Laws → (x : ServoSetting) (calls : List Call) (call : Call) → 0 < x.set.lock_samples → is_some (run x calls).first ≡ true →
    ((ends x (run x calls) call ≡ true) ⊎ ((is_track (run x calls).state && strays_at x (run x calls) call) ≡ true)) → EndsChain x calls call
ended-by laws x calls call positive stands (inl e) = inl ((ends-is laws x calls call positive stands).0 e)
ended-by laws x calls call positive stands (inr e) =
    let parts = and_parts (is_track (run x calls).state) (strays_at x (run x calls) call) e in
    inr (parts.0, track_left laws.track x calls call parts.0 (sym (seen-leaves laws.known x calls call) ∙ or_right (ends x (run x calls) call) (strays_at x (run x calls) call) parts.1))

-- what the rows end, the list ends
pub ends-chain : Laws → (x : ServoSetting) (calls : List Call) (call : Call) → 0 < x.set.lock_samples → is_some (run x calls).first ≡ true → chain_ends x calls call ≡ true → EndsChain x calls call
ends-chain laws x calls call positive stands e =
    ended-by laws x calls call positive stands
    (or_cases (ends x (run x calls) call) (is_track (run x calls).state && strays_at x (run x calls) call) (seen-ends laws.known x calls call ∙ e))

left-ends : Laws → (x : ServoSetting) (calls : List Call) (call : Call) → is_track (run x calls).state ≡ true →
    ((ends x (run x calls) call ≡ true) ⊎ (strays_at x (run x calls) call ≡ true)) → ends_chain x (run x calls) call ≡ true
left-ends laws x calls call track (inl e) = or_left (ends x (run x calls) call) (is_track (run x calls).state && strays_at x (run x calls) call) e
left-ends laws x calls call track (inr e) =
    or_right (ends x (run x calls) call) (is_track (run x calls).state && strays_at x (run x calls) call) (and_from (is_track (run x calls).state) (strays_at x (run x calls) call) track e)

leaves-by : Laws → (x : ServoSetting) (calls : List Call) (call : Call) → is_track (run x calls).state ≡ true → is_track (run x (call ∷ calls)).state ≡ false →
    ((leaves_track x calls call ≡ true) ⊎ (leaves_track x calls call ≡ false)) → ends_chain x (run x calls) call ≡ true
leaves-by laws x calls call track out (inl e) =
    left-ends laws x calls call track (or_cases (ends x (run x calls) call) (strays_at x (run x calls) call) (seen-leaves laws.known x calls call ∙ e))
leaves-by laws x calls call track out (inr e) = absurd (not_both (is_track (run x (call ∷ calls)).state) (track_goes laws.track x calls call track e) out)

ends-run : Laws → (x : ServoSetting) (calls : List Call) (call : Call) → 0 < x.set.lock_samples → is_some (run x calls).first ≡ true → EndsChain x calls call → ends_chain x (run x calls) call ≡ true
ends-run laws x calls call positive stands (inl e) =
    or_left (ends x (run x calls) call) (is_track (run x calls).state && strays_at x (run x calls) call) ((ends-is laws x calls call positive stands).1 e)
ends-run laws x calls call positive stands (inr (track, out)) = leaves-by laws x calls call track out (cases_Bool (leaves_track x calls call))

-- what the list ends, the rows end
pub chain-ends : Laws → (x : ServoSetting) (calls : List Call) (call : Call) → 0 < x.set.lock_samples → is_some (run x calls).first ≡ true → EndsChain x calls call → chain_ends x calls call ≡ true
chain-ends laws x calls call positive stands e = sym (seen-ends laws.known x calls call) ∙ ends-run laws x calls call positive stands e

-- ---- if there is no chain

-- a call begins one, and does not end it
pub record Begins (x : ServoSetting) (calls : List Call) (call : Call) : Type 0 where
  pub may : MayBegin x calls call
  pub holds : EndsChain x calls call → ⊥

starts_first : (v : Core) (h : Bool) (o : Option ℕ) → (h && starts_by v o) ≡ starts_by v (cond h o None)
starts_first v true o = refl
starts_first v false o = refl

sample-starts : Known → (x : ServoSetting) (calls : List Call) (n base bits : ℕ) → starts x (run x calls) (CallSample n base bits) ≡ starts_by (run x calls) (tag_at x calls n base bits)
sample-starts known x calls n base bits =
    starts_first (run x calls) (hears (run x calls)) (good_tag (run x calls).last n base bits) ∙ ap (starts_by (run x calls)) (tag-is known x calls n base bits)

-- what starts a chain unlocks nothing, and has its signals
record Starts (f k l a : Bool) : Type 0 where
  far : f ≡ false
  locked : k ≡ true
  link : l ≡ true
  lease : a ≡ true

starts-parts : (far locked link lease : Bool) → (not far && (locked && (link && lease))) ≡ true → Starts far locked link lease
starts-parts true locked link lease h = absurd cc
starts-parts false true true true h = record { far = refl; locked = refl; link = refl; lease = refl }
starts-parts false true true false h = absurd cc
starts-parts false true false lease h = absurd cc
starts-parts false false link lease h = absurd cc

starts-from : (far locked link lease : Bool) → (far || not locked) ≡ false → link ≡ true → lease ≡ true → (not far && (locked && (link && lease))) ≡ true
starts-from true locked link lease h a b = absurd cc
starts-from false false link lease h a b = absurd cc
starts-from false true true true h a b = refl
starts-from false true true false h a b = absurd cc
starts-from false true false lease h a b = absurd cc

track-none : Laws → (x : ServoSetting) (calls : List Call) → is_some (run x calls).first ≡ false → is_track (run x calls).state ≡ true → ⊥
track-none laws x calls none track = not_both (is_some (run x calls).first) (laws.inside x calls track) none

no_end : Laws → (x : ServoSetting) (calls : List Call) (n base bits : ℕ) → 0 < x.set.lock_samples → is_some (run x calls).first ≡ false → unlocks (run x calls) (tag_at x calls n base bits) ≡ false →
    EndsChain x calls (CallSample n base bits) → ⊥
no_end laws x calls n base bits positive none never (inl e) =
    not_both (unlocks (run x calls) (tag_at x calls n base bits)) ((unlocks-is laws.known x calls n base bits positive (tag_at x calls n base bits) refl).1 e) never
no_end laws x calls n base bits positive none never (inr (track, out)) = track-none laws x calls none track

begins-by : Laws → (x : ServoSetting) (calls : List Call) (n base bits : ℕ) → 0 < x.set.lock_samples → is_some (run x calls).first ≡ false → (tag : Option ℕ) → tag_at x calls n base bits ≡ tag →
    starts_by (run x calls) tag ≡ true → Begins x calls (CallSample n base bits)
begins-by laws x calls n base bits positive none None e h = absurd cc
begins-by laws x calls n base bits positive none (Some tag) e h =
    let v : Core = run x calls in
    let w : Core = with_tag (with_last v n) tag in
    let g : GoodAt x calls n base bits tag = good-at laws.known x calls n base bits tag e in
    let p : Starts (is_far w.phase.u) (followed w).phase.lock.locked (is_some v.signals.link) v.signals.lease = starts-parts (is_far w.phase.u) (followed w).phase.lock.locked (is_some v.signals.link) v.signals.lease h in
    let stays : unlocks v (Some tag) ≡ false = ap₂ (λ (a b : Bool). a || not b) p.far p.locked in
    record {
      may = record {
        good = ap is_some e;
        locked = (locks laws.known x calls n base bits tag positive g (good-next w n) p.far).0 p.locked;
        link = ap is_some (sym (laws.known.told x calls).link) ∙ p.link;
        lease = sym (laws.known.told x calls).lease ∙ p.lease;
      };
      holds = no_end laws x calls n base bits positive none (ap (unlocks v) e ∙ stays);
    }

pub starts-begin : Laws → (x : ServoSetting) (calls : List Call) (call : Call) → 0 < x.set.lock_samples → is_some (run x calls).first ≡ false → starts x (seen x calls) call ≡ true → Begins x calls call
starts-begin laws x calls (CallSample n base bits) positive none h =
    begins-by laws x calls n base bits positive none (tag_at x calls n base bits) refl
    (sym (sample-starts laws.known x calls n base bits) ∙ ap (λ (v : Core). starts x v (CallSample n base bits)) (seen-is laws.known x calls) ∙ h)
starts-begin laws x calls call positive none h = absurd cc

starts-at : Laws → (x : ServoSetting) (calls : List Call) (n base bits : ℕ) → (tag : Option ℕ) → tag_at x calls n base bits ≡ tag → MayBegin x calls (CallSample n base bits) → unlocks (run x calls) tag ≡ false → starts_by (run x calls) tag ≡ true
starts-at laws x calls n base bits None e may never = absurd (not_both (is_some (tag_at x calls n base bits)) may.good (ap is_some e))
starts-at laws x calls n base bits (Some tag) e may never =
    let v : Core = run x calls in
    let w : Core = with_tag (with_last v n) tag in
    starts-from (is_far w.phase.u) (followed w).phase.lock.locked (is_some v.signals.link) v.signals.lease never
    (ap is_some (laws.known.told x calls).link ∙ may.link) ((laws.known.told x calls).lease ∙ may.lease)

pub begins-start : Laws → (x : ServoSetting) (calls : List Call) (call : Call) → 0 < x.set.lock_samples → Begins x calls call → starts x (seen x calls) call ≡ true
begins-start laws x calls (CallSample n base bits) positive b =
    let tag : Option ℕ = tag_at x calls n base bits in
    let never : unlocks (run x calls) tag ≡ false = false_from_ne_true (unlocks (run x calls) tag) (λ t. b.holds (inl ((unlocks-is laws.known x calls n base bits positive tag refl).0 t))) in
    ap (λ (v : Core). starts x v (CallSample n base bits)) (sym (seen-is laws.known x calls)) ∙ sample-starts laws.known x calls n base bits ∙ starts-at laws x calls n base bits tag refl b.may never
begins-start laws x calls call positive b = absurd (let e : false ≡ true = b.may.good in cc)
