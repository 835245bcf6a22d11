-- What enters and leaves TRACK by the list is what enters and leaves it by the servo's rows and what they hold.
use Rattle.std.specs.Prelude.{◌⊎◌, nat_le, nat_lt}
use Rattle.std.proofs.Common.{◌≡◌, ◌<◌, refl, ap, ap₂, ◌∙◌, sym, ℕ, ℤ, ◌+◌, ◌-◌, ◌-ℤ◌, Bool, true, false, cond, not, ◌&&◌, ◌||◌, is_some, Option, None, Some, List, ◌∷◌, inl, inr}
use Rattle.std.proofs.lemmas.Bool.{or_cases, or_left, or_right, and_from, not-true}
use Rattle.wrp_base.proofs.Booleans.{and_first, and_second, not_both}
use Rattle.wrp_base.specs.declared.link.Deltas.{Deltas}
use Rattle.wrp_base.specs.declared.measurement.Four.{Four}
use Rattle.wrp_servo.specs.declared.interface.ServoSet.{ServoSet}
use Rattle.wrp_servo.specs.declared.machine.Core.{Core}
use Rattle.wrp_servo.specs.declared.machine.Measurement.{Measurement}
use Rattle.wrp_servo.specs.Call.{Call, CallSample, CallMeasured, CallTick, CallLease, CallLink, CallCarrier, CallReset, ServoSetting, run}
use Rattle.wrp_servo.specs.Chain.{ends, unlocks, strays, strays_by, strays_at}
use Rattle.wrp_servo.specs.Following.{e_tau}
use Rattle.wrp_servo.specs.Laws.{TrackIsNear}
use Rattle.wrp_servo.specs.LookBack.{enters_track, leaves_track}
use Rattle.wrp_servo.specs.Measuring.{deltas_in_chain, is_in, x_of, kept_of}
use Rattle.wrp_servo.specs.Sampling.{hears, good_tag, is_calm, is_far, is_near, is_within, est_of, residual, with_tag, with_last, followed, good}
use Rattle.wrp_servo.specs.Table.{is_track, too_old}
use Rattle.wrp_servo.specs.Told.{link_told, ticks_told}
use Rattle.wrp_servo.specs.Tracking.{enters, enters_by, is_wait_stable}
use Rattle.wrp_servo.proofs.Gone.{set_is}
use Rattle.wrp_lookback_laws.specs.Fours.{FourStands}
use Rattle.wrp_lookback_laws.specs.Heard.{tag_at, u_at}
use Rattle.wrp_lookback_laws.specs.Tracks.{loop_error, residual_at, EntersBy, EntersTrack, StraysBySample, StraysByFour, Strays, Leaves}
use Rattle.wrp_lookback_laws.proofs.Calls.{Good, good-next}
use Rattle.wrp_lookback_laws.proofs.Causes.{ends-is, seen-leaves, sample-ends}
use Rattle.wrp_lookback_laws.proofs.ChainLaws.{stands, from-stands}
use Rattle.wrp_lookback_laws.proofs.DetectorLaws.{GoodAt, good-at}
use Rattle.wrp_lookback_laws.proofs.FourLaws.{FourKnown, deltas-told, first-or_none, no_deltas, four_looks_back}
use Rattle.wrp_lookback_laws.proofs.HeardLaws.{Known, tag-is, u-is}
use Rattle.wrp_lookback_laws.proofs.SeenHere.{seen-is}

-- what the servo proves, with what holds in TRACK
pub record TrackKnown : Type 0 where
  pub fours : FourKnown
  pub near : TrackIsNear

-- ---- what enters it

-- the cause, with the settings, u and the ticks in their places
abbrev entering : ServoSetting → Core → Four → ℤ → Deltas → ServoSet → ℤ → ℕ → Bool
entering x v f y d set u ticks =
    is_wait_stable v.state
    && (is_in x.lo x.hi (x_of d f)
    && (nat_le set.stable v.calm
    && (is_within set.track_tau (est_of u (kept_of f d y) -ℤ (u -ℤ v.phase.s))
    && (is_within set.loop_tau (u -ℤ v.phase.s) && nat_le (ticks - f.tick) set.age))))

enters-with : Known → (x : ServoSetting) (calls : List Call) (f : Four) (y : ℤ) (d : Deltas) → enters_by x (run x calls) f y (Some d) ≡ entering x (run x calls) f y d x.set (u_at x calls) (ticks_told calls)
enters-with known x calls f y d =
    let v : Core = run x calls in
    ap (λ (s : ServoSet). entering x v f y d s v.phase.u v.ticks) (set_is x calls)
    ∙ ap (λ (u : ℤ). entering x v f y d x.set u v.ticks) (u-is known x calls)
    ∙ ap (λ (t : ℕ). entering x v f y d x.set (u_at x calls) t) (known.told x calls).ticks

-- six facts
record Six (a b c d e f : Bool) : Type 0 where
  one : a ≡ true
  two : b ≡ true
  three : c ≡ true
  four : d ≡ true
  five : e ≡ true
  six : f ≡ true

six : (a b c d e f : Bool) → (a && (b && (c && (d && (e && f))))) ≡ true → Six a b c d e f
six a b c d e f h =
    let h2 : (b && (c && (d && (e && f)))) ≡ true = and_second a (b && (c && (d && (e && f)))) h in
    let h3 : (c && (d && (e && f))) ≡ true = and_second b (c && (d && (e && f))) h2 in
    let h4 : (d && (e && f)) ≡ true = and_second c (d && (e && f)) h3 in
    let h5 : (e && f) ≡ true = and_second d (e && f) h4 in
    record { one = and_first a _ h; two = and_first b _ h2; three = and_first c _ h3; four = and_first d _ h4; five = and_first e f h5; six = and_second e f h5 }

of_six : (a b c d e f : Bool) → Six a b c d e f → (a && (b && (c && (d && (e && f))))) ≡ true
of_six a b c d e f h =
    and_from a _ h.one (and_from b _ h.two (and_from c _ h.three (and_from d _ h.four (and_from e f h.five h.six))))

enters-some : TrackKnown → (x : ServoSetting) (calls : List Call) (f : Four) (y : ℤ) → 0 < x.set.lock_samples → is_some (run x calls).first ≡ true → (d : Deltas) → link_told calls ≡ Some d →
    enters_by x (run x calls) f y (Some d) ≡ true → EntersBy x calls f y
enters-some known x calls f y positive some d link h =
    let v : Core = run x calls in
    let k : Measurement = kept_of f d y in
    let p : Six (is_wait_stable v.state) (is_in x.lo x.hi (x_of d f)) (nat_le x.set.stable v.calm) (is_within x.set.track_tau (residual_at x calls k)) (is_within x.set.loop_tau (loop_error x calls)) (nat_le (ticks_told calls - f.tick) x.set.age) =
    six (is_wait_stable v.state) (is_in x.lo x.hi (x_of d f)) (nat_le x.set.stable v.calm) (is_within x.set.track_tau (residual_at x calls k)) (is_within x.set.loop_tau (loop_error x calls)) (nat_le (ticks_told calls - f.tick) x.set.age)
    (sym (enters-with known.fours.laws.known x calls f y d) ∙ h) in
    record {
      waits = p.one;
      chain = stands known.fours.laws x calls positive some;
      deltas = d;
      link = link;
      range = p.two;
      calm = p.three;
      near = p.four;
      loop = p.five;
      young = p.six;
    }

enters-on : TrackKnown → (x : ServoSetting) (calls : List Call) (f : Four) (y : ℤ) → 0 < x.set.lock_samples → is_some (run x calls).first ≡ true → (on : Option Deltas) → link_told calls ≡ on → enters_by x (run x calls) f y on ≡ true → EntersBy x calls f y
enters-on known x calls f y positive some None link h = absurd cc
enters-on known x calls f y positive some (Some d) link h = enters-some known x calls f y positive some d link h

enters-where : TrackKnown → (x : ServoSetting) (calls : List Call) (f : Four) (y : ℤ) → 0 < x.set.lock_samples → ((is_some (run x calls).first ≡ true) ⊎ ((run x calls).first ≡ None)) → enters_by x (run x calls) f y (deltas_in_chain (run x calls)) ≡ true → EntersBy x calls f y
enters-where known x calls f y positive (inl some) h =
    enters-on known x calls f y positive some (link_told calls) refl (ap (enters_by x (run x calls) f y) (sym (deltas-told known.fours x calls some)) ∙ h)
enters-where known x calls f y positive (inr none) h =
    absurd (not_both (enters_by x (run x calls) f y (deltas_in_chain (run x calls))) h (ap (enters_by x (run x calls) f y) (no_deltas (run x calls).first (run x calls).signals.link none)))

enters-run : TrackKnown → (x : ServoSetting) (calls : List Call) (call : Call) → 0 < x.set.lock_samples → enters x (run x calls) call ≡ true → EntersTrack x calls call
enters-run known x calls (CallMeasured f y) positive h = enters-where known x calls f y positive (first-or_none (run x calls).first) h
enters-run known x calls call positive h = let t : false ≡ true = h in cc

pub enters-track : TrackKnown → (x : ServoSetting) (calls : List Call) (call : Call) → 0 < x.set.lock_samples → enters_track x calls call ≡ true → EntersTrack x calls call
enters-track known x calls call positive h = enters-run known x calls call positive (ap (λ (v : Core). enters x v call) (seen-is known.fours.laws.known x calls) ∙ h)

run-enters : TrackKnown → (x : ServoSetting) (calls : List Call) (call : Call) → 0 < x.set.lock_samples → EntersTrack x calls call → enters x (run x calls) call ≡ true
run-enters known x calls (CallMeasured f y) positive t =
    let v : Core = run x calls in
    let some : is_some v.first ≡ true = from-stands known.fours.laws x calls positive t.chain in
    ap (enters_by x v f y) (deltas-told known.fours x calls some ∙ t.link)
    ∙ enters-with known.fours.laws.known x calls f y t.deltas
    ∙ of_six (is_wait_stable v.state) (is_in x.lo x.hi (x_of t.deltas f)) (nat_le x.set.stable v.calm) (is_within x.set.track_tau (residual_at x calls (kept_of f t.deltas y))) (is_within x.set.loop_tau (loop_error x calls)) (nat_le (ticks_told calls - f.tick) x.set.age)
    (record { one = t.waits; two = t.range; three = t.calm; four = t.near; five = t.loop; six = t.young })
run-enters known x calls call positive t = absurd t

pub track-enters : TrackKnown → (x : ServoSetting) (calls : List Call) (call : Call) → 0 < x.set.lock_samples → EntersTrack x calls call → enters_track x calls call ≡ true
track-enters known x calls call positive t = ap (λ (v : Core). enters x v call) (sym (seen-is known.fours.laws.known x calls)) ∙ run-enters known x calls call positive t

-- ---- what leaves it

some_kept : (o : Option Measurement) → is_some o ≡ true → (k : Measurement) × (o ≡ Some k)
some_kept None h = absurd cc
some_kept (Some k) h = (k, refl)

-- in TRACK there is a four
kept-there : TrackKnown → (x : ServoSetting) (calls : List Call) → is_track (run x calls).state ≡ true → (k : Measurement) × ((run x calls).kept ≡ Some k)
kept-there known x calls track = some_kept (run x calls).kept (known.near x calls track).kept

four-stands : TrackKnown → (x : ServoSetting) (calls : List Call) (k : Measurement) → 0 < x.set.lock_samples → (run x calls).kept ≡ Some k → FourStands x calls k
four-stands known x calls k positive e = (four_looks_back known.fours x calls k positive).0 e

four-kept : TrackKnown → (x : ServoSetting) (calls : List Call) (k : Measurement) → 0 < x.set.lock_samples → FourStands x calls k → (run x calls).kept ≡ Some k
four-kept known x calls k positive t = (four_looks_back known.fours x calls k positive).1 t

-- e_tau with a good sample in range
error-with : (x : ServoSetting) (calls : List Call) (n base bits tag : ℕ) → GoodAt x calls n base bits tag → (good (with_tag (with_last (run x calls) n) tag) n).phase.s ≡ (followed (with_tag (run x calls) tag)).phase.s →
    e_tau (followed (with_tag (run x calls) tag)).phase ≡ loop_error x (CallSample n base bits ∷ calls)
error-with x calls n base bits tag g s =
    ap₂ (λ (u z : ℤ). u -ℤ z) (sym g.u) (sym (ap (λ (c : Core). c.phase.s) g.is ∙ s))

residual-with : (x : ServoSetting) (calls : List Call) (n base bits tag : ℕ) (k : Measurement) → GoodAt x calls n base bits tag → (good (with_tag (with_last (run x calls) n) tag) n).phase.s ≡ (followed (with_tag (run x calls) tag)).phase.s →
    residual (followed (with_tag (run x calls) tag)).phase k ≡ residual_at x (CallSample n base bits ∷ calls) k
residual-with x calls n base bits tag k g s =
    ap₂ (λ (u z : ℤ). est_of u k -ℤ (u -ℤ z)) (sym g.u) (sym (ap (λ (c : Core). c.phase.s) g.is ∙ s))

-- what a good sample strays by, according to the list
abbrev straying : ServoSetting → List Call → Call → Measurement → Bool
straying x calls call k = not (is_within x.set.loop_tau (loop_error x (call ∷ calls))) || not (is_within x.set.track_tau (residual_at x (call ∷ calls) k))

strays-is : (x : ServoSetting) (calls : List Call) (n base bits tag : ℕ) (k : Measurement) → GoodAt x calls n base bits tag → (good (with_tag (with_last (run x calls) n) tag) n).phase.s ≡ (followed (with_tag (run x calls) tag)).phase.s →
    (run x calls).kept ≡ Some k → strays (run x calls) (Some tag) ≡ straying x calls (CallSample n base bits) k
strays-is x calls n base bits tag k g s kept =
    let v : Core = run x calls in
    let w : Core = followed (with_tag v tag) in
    ap (λ (o : Option Measurement). not (is_calm w) || not (is_near v.set.track_tau w.phase o)) kept
    ∙ ap₂ (λ (z r : ℤ). not (is_within v.set.loop_tau z) || not (is_within v.set.track_tau r)) (error-with x calls n base bits tag g s) (residual-with x calls n base bits tag k g s)
    ∙ ap (λ (t : ServoSet). not (is_within t.loop_tau (loop_error x (CallSample n base bits ∷ calls))) || not (is_within t.track_tau (residual_at x (CallSample n base bits ∷ calls) k))) (set_is x calls)

one_false : (a b : Bool) → (not a || not b) ≡ true → (a ≡ false) ⊎ (b ≡ false)
one_false false b h = inl refl
one_false true false h = inr refl
one_false true true h = absurd cc

first_false : (a b : Bool) → a ≡ false → (not a || not b) ≡ true
first_false false b h = refl
first_false true b h = absurd cc

second_false : (a b : Bool) → b ≡ false → (not a || not b) ≡ true
second_false false b h = refl
second_false true false h = refl
second_false true true h = absurd cc

strays_first : (v : Core) (h : Bool) (o : Option ℕ) → (h && strays v o) ≡ strays v (cond h o None)
strays_first v true o = refl
strays_first v false o = refl

sample-strays : Known → (x : ServoSetting) (calls : List Call) (n base bits : ℕ) → strays_at x (run x calls) (CallSample n base bits) ≡ strays (run x calls) (tag_at x calls n base bits)
sample-strays known x calls n base bits =
    strays_first (run x calls) (hears (run x calls)) (good_tag (run x calls).last n base bits) ∙ ap (strays (run x calls)) (tag-is known x calls n base bits)

-- a good sample out of range ends the chain
far-ends : Known → (x : ServoSetting) (calls : List Call) (n base bits tag : ℕ) → tag_at x calls n base bits ≡ Some tag → is_far (with_tag (with_last (run x calls) n) tag).phase.u ≡ true → ends x (run x calls) (CallSample n base bits) ≡ true
far-ends known x calls n base bits tag e far =
    sample-ends known x calls n base bits ∙ ap (unlocks (run x calls)) e ∙ or_left (is_far (with_tag (run x calls) tag).phase.u) _ far

strays-by : TrackKnown → (x : ServoSetting) (calls : List Call) (n base bits tag : ℕ) (k : Measurement) → 0 < x.set.lock_samples → (run x calls).kept ≡ Some k →
    ((is_within x.set.loop_tau (loop_error x (CallSample n base bits ∷ calls)) ≡ false) ⊎ (is_within x.set.track_tau (residual_at x (CallSample n base bits ∷ calls) k) ≡ false)) →
    StraysBySample x calls (CallSample n base bits) (Some tag)
strays-by known x calls n base bits tag k positive kept (inl e) = inl e
strays-by known x calls n base bits tag k positive kept (inr e) = inr (record { kept = k; stands = four-stands known x calls k positive kept; far = e })

sample-by : TrackKnown → (x : ServoSetting) (calls : List Call) (n base bits tag : ℕ) → 0 < x.set.lock_samples → tag_at x calls n base bits ≡ Some tag → GoodAt x calls n base bits tag → (k : Measurement) × ((run x calls).kept ≡ Some k) →
    strays (run x calls) (Some tag) ≡ true → Good (with_tag (with_last (run x calls) n) tag) n (good (with_tag (with_last (run x calls) n) tag) n) →
    (ends x (run x calls) (CallSample n base bits) ≡ true) ⊎ StraysBySample x calls (CallSample n base bits) (Some tag)
sample-by known x calls n base bits tag positive e g k h (inl (far, t)) = inl (far-ends known.fours.laws.known x calls n base bits tag e far)
sample-by known x calls n base bits tag positive e g k h (inr (near, t)) =
    inr (strays-by known x calls n base bits tag k.0 positive k.1
    (one_false (is_within x.set.loop_tau (loop_error x (CallSample n base bits ∷ calls))) (is_within x.set.track_tau (residual_at x (CallSample n base bits ∷ calls) k.0))
    (sym (strays-is x calls n base bits tag k.0 g t.held.s k.1) ∙ h)))

strays-from : TrackKnown → (x : ServoSetting) (calls : List Call) (n base bits tag : ℕ) → 0 < x.set.lock_samples → GoodAt x calls n base bits tag → (k : Measurement) × ((run x calls).kept ≡ Some k) →
    (good (with_tag (with_last (run x calls) n) tag) n).phase.s ≡ (followed (with_tag (run x calls) tag)).phase.s → StraysBySample x calls (CallSample n base bits) (Some tag) → strays (run x calls) (Some tag) ≡ true
strays-from known x calls n base bits tag positive g k s (inl e) =
    strays-is x calls n base bits tag k.0 g s k.1 ∙ first_false (is_within x.set.loop_tau (loop_error x (CallSample n base bits ∷ calls))) _ e
strays-from known x calls n base bits tag positive g k s (inr t) =
    strays-is x calls n base bits tag t.kept g s (four-kept known x calls t.kept positive t.stands)
    ∙ second_false (is_within x.set.loop_tau (loop_error x (CallSample n base bits ∷ calls))) (is_within x.set.track_tau (residual_at x (CallSample n base bits ∷ calls) t.kept)) t.far

by-sample : TrackKnown → (x : ServoSetting) (calls : List Call) (n base bits tag : ℕ) → 0 < x.set.lock_samples → tag_at x calls n base bits ≡ Some tag → GoodAt x calls n base bits tag → (k : Measurement) × ((run x calls).kept ≡ Some k) →
    StraysBySample x calls (CallSample n base bits) (Some tag) → Good (with_tag (with_last (run x calls) n) tag) n (good (with_tag (with_last (run x calls) n) tag) n) →
    (ends x (run x calls) (CallSample n base bits) ≡ true) ⊎ (strays (run x calls) (Some tag) ≡ true)
by-sample known x calls n base bits tag positive e g k h (inl (far, t)) = inl (far-ends known.fours.laws.known x calls n base bits tag e far)
by-sample known x calls n base bits tag positive e g k h (inr (near, t)) = inr (strays-from known x calls n base bits tag positive g k t.held.s h)

-- in TRACK
sample-leaves : TrackKnown → (x : ServoSetting) (calls : List Call) (n base bits : ℕ) → 0 < x.set.lock_samples → is_track (run x calls).state ≡ true → (tag : Option ℕ) → tag_at x calls n base bits ≡ tag →
    strays (run x calls) tag ≡ true → (ends x (run x calls) (CallSample n base bits) ≡ true) ⊎ StraysBySample x calls (CallSample n base bits) tag
sample-leaves known x calls n base bits positive track None e h = absurd cc
sample-leaves known x calls n base bits positive track (Some tag) e h =
    let g : GoodAt x calls n base bits tag = good-at known.fours.laws.known x calls n base bits tag e in
    let w : Core = with_tag (with_last (run x calls) n) tag in
    sample-by known x calls n base bits tag positive e g (kept-there known x calls track) h (good-next w n)

leaves-sample : TrackKnown → (x : ServoSetting) (calls : List Call) (n base bits : ℕ) → 0 < x.set.lock_samples → is_track (run x calls).state ≡ true → (tag : Option ℕ) → tag_at x calls n base bits ≡ tag →
    StraysBySample x calls (CallSample n base bits) tag → (ends x (run x calls) (CallSample n base bits) ≡ true) ⊎ (strays (run x calls) tag ≡ true)
leaves-sample known x calls n base bits positive track None e h = absurd h
leaves-sample known x calls n base bits positive track (Some tag) e h =
    let g : GoodAt x calls n base bits tag = good-at known.fours.laws.known x calls n base bits tag e in
    let w : Core = with_tag (with_last (run x calls) n) tag in
    by-sample known x calls n base bits tag positive e g (kept-there known x calls track) h (good-next w n)

-- ---- any call in TRACK

four-strays : (x : ServoSetting) (calls : List Call) (f : Four) (y : ℤ) (d : Deltas) → Known → strays_by x (run x calls) f y (Some d) ≡ not (is_within x.set.track_tau (residual_at x calls (kept_of f d y)))
four-strays x calls f y d known =
    let v : Core = run x calls in
    ap (λ (t : ServoSet). not (is_within t.track_tau (residual v.phase (kept_of f d y)))) (set_is x calls)
    ∙ ap (λ (u : ℤ). not (is_within x.set.track_tau (est_of u (kept_of f d y) -ℤ (u -ℤ v.phase.s)))) (u-is known x calls)

measured-leaves : TrackKnown → (x : ServoSetting) (calls : List Call) (f : Four) (y : ℤ) → (on : Option Deltas) → link_told calls ≡ on → strays_by x (run x calls) f y on ≡ true → StraysByFour x calls f y
measured-leaves known x calls f y None link h = absurd cc
measured-leaves known x calls f y (Some d) link h =
    record { deltas = d; link = link; far = not-true (is_within x.set.track_tau (residual_at x calls (kept_of f d y))) (sym (four-strays x calls f y d known.fours.laws.known) ∙ h) }

old-is : Known → (x : ServoSetting) (calls : List Call) (k : Measurement) → (run x calls).kept ≡ Some k → strays_at x (run x calls) CallTick ≡ nat_lt x.set.age (ticks_told (CallTick ∷ calls) - k.four.tick)
old-is known x calls k kept =
    let v : Core = run x calls in
    ap (λ (o : Option Measurement). too_old v.set.age (v.ticks + 1) o) kept
    ∙ ap (λ (t : ServoSet). nat_lt t.age ((v.ticks + 1) - k.four.tick)) (set_is x calls)
    ∙ ap (λ (t : ℕ). nat_lt x.set.age ((t + 1) - k.four.tick)) (known.told x calls).ticks

strays-list : TrackKnown → (x : ServoSetting) (calls : List Call) (call : Call) → 0 < x.set.lock_samples → is_track (run x calls).state ≡ true → strays_at x (run x calls) call ≡ true →
    (ends x (run x calls) call ≡ true) ⊎ Strays x calls call
strays-list known x calls (CallSample n base bits) positive track h =
    sample-leaves known x calls n base bits positive track (tag_at x calls n base bits) refl (sym (sample-strays known.fours.laws.known x calls n base bits) ∙ h)
strays-list known x calls (CallMeasured f y) positive track h =
    inr (measured-leaves known x calls f y (link_told calls) refl (ap (strays_by x (run x calls) f y) (sym (known.fours.laws.known.told x calls).link) ∙ h))
strays-list known x calls CallTick positive track h =
    let k = kept-there known x calls track in
    inr (record { kept = k.0; stands = four-stands known x calls k.0 positive k.1; old = sym (old-is known.fours.laws.known x calls k.0 k.1) ∙ h })
strays-list known x calls (CallLease fresh) positive track h = absurd cc
strays-list known x calls (CallLink on) positive track h = absurd cc
strays-list known x calls (CallCarrier up) positive track h = absurd cc
strays-list known x calls CallReset positive track h = absurd cc

list-strays : TrackKnown → (x : ServoSetting) (calls : List Call) (call : Call) → 0 < x.set.lock_samples → is_track (run x calls).state ≡ true → Strays x calls call →
    (ends x (run x calls) call ≡ true) ⊎ (strays_at x (run x calls) call ≡ true)
list-strays known x calls (CallSample n base bits) positive track t =
    elim (leaves-sample known x calls n base bits positive track (tag_at x calls n base bits) refl t) [
      | inl e ↦ inl e
      | inr e ↦ inr (sample-strays known.fours.laws.known x calls n base bits ∙ e)
    ]
list-strays known x calls (CallMeasured f y) positive track t =
    inr (
    ap (strays_by x (run x calls) f y) ((known.fours.laws.known.told x calls).link ∙ t.link)
    ∙ four-strays x calls f y t.deltas known.fours.laws.known
    ∙ ap not t.far
    )
list-strays known x calls CallTick positive track t = inr (old-is known.fours.laws.known x calls t.kept (four-kept known x calls t.kept positive t.stands) ∙ t.old)
list-strays known x calls (CallLease fresh) positive track t = absurd t
list-strays known x calls (CallLink on) positive track t = absurd t
list-strays known x calls (CallCarrier up) positive track t = absurd t
list-strays known x calls CallReset positive track t = absurd t

either-leaves : TrackKnown → (x : ServoSetting) (calls : List Call) (call : Call) → 0 < x.set.lock_samples → is_some (run x calls).first ≡ true → ((ends x (run x calls) call ≡ true) ⊎ Strays x calls call) → Leaves x calls call
either-leaves known x calls call positive some (inl e) = inl ((ends-is known.fours.laws x calls call positive some).0 e)
either-leaves known x calls call positive some (inr t) = inr t

leaves-parts : TrackKnown → (x : ServoSetting) (calls : List Call) (call : Call) → 0 < x.set.lock_samples → is_track (run x calls).state ≡ true → is_some (run x calls).first ≡ true →
    ((ends x (run x calls) call ≡ true) ⊎ (strays_at x (run x calls) call ≡ true)) → Leaves x calls call
leaves-parts known x calls call positive track some (inl e) = either-leaves known x calls call positive some (inl e)
leaves-parts known x calls call positive track some (inr e) = either-leaves known x calls call positive some (strays-list known x calls call positive track e)

pub leaves-list : TrackKnown → (x : ServoSetting) (calls : List Call) (call : Call) → 0 < x.set.lock_samples → is_track (run x calls).state ≡ true → leaves_track x calls call ≡ true → Leaves x calls call
leaves-list known x calls call positive track h =
    leaves-parts known x calls call positive track (known.fours.laws.inside x calls track)
    (or_cases (ends x (run x calls) call) (strays_at x (run x calls) call) (seen-leaves known.fours.laws.known x calls call ∙ h))

of-parts : (a b : Bool) → ((a ≡ true) ⊎ (b ≡ true)) → (a || b) ≡ true
of-parts a b (inl e) = or_left a b e
of-parts a b (inr e) = or_right a b e

list-parts : TrackKnown → (x : ServoSetting) (calls : List Call) (call : Call) → 0 < x.set.lock_samples → is_track (run x calls).state ≡ true → Leaves x calls call →
    (ends x (run x calls) call ≡ true) ⊎ (strays_at x (run x calls) call ≡ true)
list-parts known x calls call positive track (inl e) = inl ((ends-is known.fours.laws x calls call positive (known.fours.laws.inside x calls track)).1 e)
list-parts known x calls call positive track (inr t) = list-strays known x calls call positive track t

pub list-leaves : TrackKnown → (x : ServoSetting) (calls : List Call) (call : Call) → 0 < x.set.lock_samples → is_track (run x calls).state ≡ true → Leaves x calls call → leaves_track x calls call ≡ true
list-leaves known x calls call positive track t =
    sym (seen-leaves known.fours.laws.known x calls call)
    ∙ of-parts (ends x (run x calls) call) (strays_at x (run x calls) call) (list-parts known x calls call positive track t)
