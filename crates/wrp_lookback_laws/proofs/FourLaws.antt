-- The four over the list of calls.
use Rattle.std.specs.Prelude.{◌⊎◌}
use Rattle.std.specs.Option.{option_and_then}
use Rattle.std.proofs.Common.{◌≡◌, ◌<◌, refl, ap, ◌∙◌, sym, subst, ℕ, ℤ, true, false, not, is_some, Option, None, Some, List, [], ◌∷◌, ◌++◌, inl, inr}
use Rattle.std.proofs.lemmas.Bool.{or_left}
use Rattle.std.proofs.lemmas.Option.{same_Some}
use Rattle.wrp_base.proofs.Booleans.{not_both}
use Rattle.wrp_base.specs.declared.link.Deltas.{Deltas}
use Rattle.wrp_base.specs.declared.measurement.Four.{Four}
use Rattle.wrp_servo.specs.declared.machine.Core.{Core}
use Rattle.wrp_servo.specs.declared.machine.Measurement.{Measurement}
use Rattle.wrp_servo.specs.Call.{Call, CallSample, CallMeasured, CallTick, CallLease, CallLink, CallCarrier, CallReset, ServoSetting, run}
use Rattle.wrp_servo.specs.Laws.{ChainHasSignals}
use Rattle.wrp_servo.specs.Measuring.{answered, deltas_in_chain, is_in, x_of, kept_of}
use Rattle.wrp_servo.specs.Told.{link_told}
use Rattle.wrp_lookback_laws.specs.Chains.{EndsChain, NoneEnds, ends_by_four}
use Rattle.wrp_lookback_laws.specs.Fours.{is_measured, NoneMeasures, FourStands, FourLooksBack}
use Rattle.wrp_lookback_laws.proofs.Calls.{Answers, answered-next}
use Rattle.wrp_lookback_laws.proofs.Causes.{Laws}
use Rattle.wrp_lookback_laws.proofs.ChainLaws.{goes, kept_on, stands, from-stands}
use Rattle.wrp_lookback_laws.proofs.FirstLaws.{Lasts, LastsOrBegins, call-lasts}

-- the laws, with what is given while there is a chain
pub record FourKnown : Type 0 where
  pub laws : Laws
  pub signals : ChainHasSignals

-- ---- there is a four only in a chain

-- without a chain there is no four
abbrev InChain : Core → Type 0
InChain v = v.first ≡ None → v.kept ≡ None

none_some : (A : Type 0) (P : Type 0) (o : Option A) (a : A) → o ≡ None → o ≡ Some a → P
none_some A P o a e f = absurd (not_both (is_some o) (ap is_some f) (ap is_some e))

lasts-in : (v w : Core) → InChain v → Lasts v w → InChain w
lasts-in v w h (inl (p, q)) none = q ∙ h (sym p ∙ none)
lasts-in v w h (inr (p, q)) none = q

begins-in : (v : Core) (n : ℕ) (w : Core) → InChain v → LastsOrBegins v n w → InChain w
begins-in v n w h (inl t) none = lasts-in v w h t none
begins-in v n w h (inr (a, b, c)) none = none_some ℕ (w.kept ≡ None) w.first n none b

-- the deltas of a measurement in a chain
first_there : (o : Option ℕ) (link : Option Deltas) (d : Deltas) → option_and_then (λ _. link) o ≡ Some d → o ≡ None → ⊥
first_there None link d e f = cc
first_there (Some n) link d e f = cc

kept-in : (v : Core) (k : Measurement) (w : Core) (d : Deltas) → deltas_in_chain v ≡ Some d → Lasts (record v { kept = Some k }) w → InChain w
kept-in v k w d e (inl (p, q)) none = absurd (first_there v.first v.signals.link d e (sym p ∙ none))
kept-in v k w d e (inr (p, q)) none = q

answered-in : (lo hi : ℤ) (v : Core) (f : Four) (y : ℤ) (on : Option Deltas) (w : Core) → deltas_in_chain v ≡ on → InChain v → Answers lo hi v f y on w → InChain w
answered-in lo hi v f y None w e h t none = ap (λ (c : Core). c.kept) t ∙ h (sym (ap (λ (c : Core). c.first) t) ∙ none)
answered-in lo hi v f y (Some d) w e h (inl (r, t)) none = kept-in v (kept_of f d y) w d e t.chain none
answered-in lo hi v f y (Some d) w e h (inr (r, t)) none = lasts-in v w h t.chain none

in-chain : (x : ServoSetting) (calls : List Call) → InChain (run x calls)
in-chain x [] none = refl
in-chain x (CallSample n base bits ∷ calls) none = begins-in (run x calls) n (run x (CallSample n base bits ∷ calls)) (in-chain x calls) (call-lasts x calls (CallSample n base bits) refl) none
in-chain x (CallMeasured f y ∷ calls) none =
    let v : Core = run x calls in
    answered-in x.lo x.hi v f y (deltas_in_chain v) (answered x.lo x.hi v f y (deltas_in_chain v)) refl (in-chain x calls) (answered-next x.lo x.hi v f y (deltas_in_chain v)) none
in-chain x (CallTick ∷ calls) none = lasts-in (run x calls) (run x (CallTick ∷ calls)) (in-chain x calls) (call-lasts x calls CallTick refl) none
in-chain x (CallLease fresh ∷ calls) none = lasts-in (run x calls) (run x (CallLease fresh ∷ calls)) (in-chain x calls) (call-lasts x calls (CallLease fresh) refl) none
in-chain x (CallLink on ∷ calls) none = lasts-in (run x calls) (run x (CallLink on ∷ calls)) (in-chain x calls) (call-lasts x calls (CallLink on) refl) none
in-chain x (CallCarrier up ∷ calls) none = lasts-in (run x calls) (run x (CallCarrier up ∷ calls)) (in-chain x calls) (call-lasts x calls (CallCarrier up) refl) none
in-chain x (CallReset ∷ calls) none = refl

pub first-or_none : (o : Option ℕ) → (is_some o ≡ true) ⊎ (o ≡ None)
first-or_none None = inr refl
first-or_none (Some n) = inl refl

-- with a four there is a chain
stands-with : (x : ServoSetting) (calls : List Call) (kept : Measurement) → (run x calls).kept ≡ Some kept → ((is_some (run x calls).first ≡ true) ⊎ ((run x calls).first ≡ None)) → is_some (run x calls).first ≡ true
stands-with x calls kept is (inl e) = e
stands-with x calls kept is (inr e) = none_some Measurement (is_some (run x calls).first ≡ true) (run x calls).kept kept (in-chain x calls e) is

stood : (x : ServoSetting) (calls : List Call) (kept : Measurement) → (run x calls).kept ≡ Some kept → is_some (run x calls).first ≡ true
stood x calls kept is = stands-with x calls kept is (first-or_none (run x calls).first)

-- ---- looking back for it

longer : (x : ServoSetting) (calls : List Call) (call : Call) (kept : Measurement) → is_measured call ≡ false → (EndsChain x calls call → ⊥) → FourStands x calls kept → FourStands x (call ∷ calls) kept
longer x calls call kept other never t = record {
  since = call ∷ t.since;
  answer = t.answer;
  before = t.before;
  deltas = t.deltas;
  splits = ap (λ (l : List Call). call ∷ l) t.splits;
  chain = t.chain;
  link = t.link;
  range = t.range;
  delay = t.delay;
  holds = t.holds;
  stays = (subst (λ (l : List Call). EndsChain x l call → ⊥) t.splits never, t.stays);
  newest = (other, t.newest);
}

-- a call that is no measurement keeps the four, and the chain does not end
to-lasts : FourKnown → (x : ServoSetting) (calls : List Call) (call : Call) (kept : Measurement) → 0 < x.set.lock_samples → is_measured call ≡ false → ((run x calls).kept ≡ Some kept → FourStands x calls kept) →
    (run x (call ∷ calls)).kept ≡ Some kept → Lasts (run x calls) (run x (call ∷ calls)) → FourStands x (call ∷ calls) kept
to-lasts known x calls call kept positive other before is (inl (p, q)) =
    let was : (run x calls).kept ≡ Some kept = sym q ∙ is in
    longer x calls call kept other (kept_on known.laws x calls call positive (stood x calls kept was) (stood x (call ∷ calls) kept is)) (before was)
to-lasts known x calls call kept positive other before is (inr (p, q)) = none_some Measurement (FourStands x (call ∷ calls) kept) (run x (call ∷ calls)).kept kept q is

to-sampled : FourKnown → (x : ServoSetting) (calls : List Call) (n base bits : ℕ) (kept : Measurement) → 0 < x.set.lock_samples → ((run x calls).kept ≡ Some kept → FourStands x calls kept) →
    (run x (CallSample n base bits ∷ calls)).kept ≡ Some kept → LastsOrBegins (run x calls) n (run x (CallSample n base bits ∷ calls)) → FourStands x (CallSample n base bits ∷ calls) kept
to-sampled known x calls n base bits kept positive before is (inl t) = to-lasts known x calls (CallSample n base bits) kept positive refl before is t
to-sampled known x calls n base bits kept positive before is (inr (none, some, same)) =
    none_some Measurement (FourStands x (CallSample n base bits ∷ calls) kept) (run x calls).kept kept (in-chain x calls none) (sym same ∙ is)

-- in a chain the deltas of a measurement are the ones that were given last
deltas-are : (first : Option ℕ) (link told : Option Deltas) → is_some first ≡ true → link ≡ told → option_and_then (λ _. link) first ≡ told
deltas-are None link told h e = absurd cc
deltas-are (Some n) link told h e = e

pub deltas-told : FourKnown → (x : ServoSetting) (calls : List Call) → is_some (run x calls).first ≡ true → deltas_in_chain (run x calls) ≡ link_told calls
deltas-told known x calls h = deltas-are (run x calls).first (run x calls).signals.link (link_told calls) h (known.laws.known.told x calls).link

-- a measurement out of range ends the chain
outside : (x : ServoSetting) (calls : List Call) (f : Four) (y : ℤ) (d : Deltas) → link_told calls ≡ Some d → is_in x.lo x.hi (x_of d f) ≡ false → EndsChain x calls (CallMeasured f y)
outside x calls f y d link out =
    let here : ends_by_four x calls f y (Some d) ≡ true = or_left (not (is_in x.lo x.hi (x_of d f))) _ (ap not out) in
    inl (ap (ends_by_four x calls f y) link ∙ here)

to-kept : FourKnown → (x : ServoSetting) (calls : List Call) (f : Four) (y : ℤ) (d : Deltas) (kept : Measurement) → 0 < x.set.lock_samples → is_some (run x calls).first ≡ true → link_told calls ≡ Some d → is_in x.lo x.hi (x_of d f) ≡ true →
    (run x (CallMeasured f y ∷ calls)).kept ≡ Some kept → kept_of f d y ≡ kept → FourStands x (CallMeasured f y ∷ calls) kept
to-kept known x calls f y d kept positive was link range is same =
    let after : is_some (run x (CallMeasured f y ∷ calls)).first ≡ true = stood x (CallMeasured f y ∷ calls) kept is in
    subst (λ (k : Measurement). FourStands x (CallMeasured f y ∷ calls) k) same (record {
      since = [];
      answer = y;
      before = calls;
      deltas = d;
      splits = refl;
      chain = stands known.laws x calls positive was;
      link = link;
      range = range;
      delay = refl;
      holds = kept_on known.laws x calls (CallMeasured f y) positive was after;
      stays = tt;
      newest = tt;
    })

to-placed : FourKnown → (x : ServoSetting) (calls : List Call) (f : Four) (y : ℤ) (d : Deltas) (kept : Measurement) → 0 < x.set.lock_samples → is_some (run x calls).first ≡ true → link_told calls ≡ Some d → is_in x.lo x.hi (x_of d f) ≡ true →
    (run x (CallMeasured f y ∷ calls)).kept ≡ Some kept → Lasts (record (run x calls) { kept = Some (kept_of f d y) }) (run x (CallMeasured f y ∷ calls)) → FourStands x (CallMeasured f y ∷ calls) kept
to-placed known x calls f y d kept positive was link range is (inl (p, q)) = to-kept known x calls f y d kept positive was link range is (same_Some (kept_of f d y) kept (sym q ∙ is))
to-placed known x calls f y d kept positive was link range is (inr (p, q)) = none_some Measurement (FourStands x (CallMeasured f y ∷ calls) kept) (run x (CallMeasured f y ∷ calls)).kept kept q is

to-answered : FourKnown → (x : ServoSetting) (calls : List Call) (f : Four) (y : ℤ) (kept : Measurement) → 0 < x.set.lock_samples → (on : Option Deltas) → deltas_in_chain (run x calls) ≡ on → is_some (run x calls).first ≡ true →
    (run x (CallMeasured f y ∷ calls)).kept ≡ Some kept → Answers x.lo x.hi (run x calls) f y on (run x (CallMeasured f y ∷ calls)) → FourStands x (CallMeasured f y ∷ calls) kept
to-answered known x calls f y kept positive None e was is t =
    let some : is_some (link_told calls) ≡ true = (known.signals x calls was).link in
    absurd (not_both (is_some (link_told calls)) some (ap is_some (sym (deltas-told known x calls was) ∙ e)))
to-answered known x calls f y kept positive (Some d) e was is (inl (range, t)) = to-placed known x calls f y d kept positive was (sym (deltas-told known x calls was) ∙ e) range is t.chain
to-answered known x calls f y kept positive (Some d) e was is (inr (out, t)) =
    let after : is_some (run x (CallMeasured f y ∷ calls)).first ≡ true = stood x (CallMeasured f y ∷ calls) kept is in
    absurd (kept_on known.laws x calls (CallMeasured f y) positive was after (outside x calls f y d (sym (deltas-told known x calls was) ∙ e) out))

-- without a chain nothing is measured
pub no_deltas : (first : Option ℕ) (link : Option Deltas) → first ≡ None → option_and_then (λ _. link) first ≡ None
no_deltas None link e = refl
no_deltas (Some n) link e = absurd cc

unanswered : (lo hi : ℤ) (v : Core) (f : Four) (y : ℤ) (on : Option Deltas) (w : Core) → on ≡ None → Answers lo hi v f y on w → w ≡ v
unanswered lo hi v f y None w e t = t
unanswered lo hi v f y (Some d) w e t = absurd cc

to-measured : FourKnown → (x : ServoSetting) (calls : List Call) (f : Four) (y : ℤ) (kept : Measurement) → 0 < x.set.lock_samples → (run x (CallMeasured f y ∷ calls)).kept ≡ Some kept →
    ((is_some (run x calls).first ≡ true) ⊎ ((run x calls).first ≡ None)) → FourStands x (CallMeasured f y ∷ calls) kept
to-measured known x calls f y kept positive is (inl was) = to-answered known x calls f y kept positive (deltas_in_chain (run x calls)) refl was is (answered-next x.lo x.hi (run x calls) f y (deltas_in_chain (run x calls)))
to-measured known x calls f y kept positive is (inr none) =
    let v : Core = run x calls in
    let same : run x (CallMeasured f y ∷ calls) ≡ v =
    unanswered x.lo x.hi v f y (deltas_in_chain v) (run x (CallMeasured f y ∷ calls)) (no_deltas v.first v.signals.link none) (answered-next x.lo x.hi v f y (deltas_in_chain v)) in
    none_some Measurement (FourStands x (CallMeasured f y ∷ calls) kept) v.kept kept (in-chain x calls none) (sym (ap (λ (c : Core). c.kept) same) ∙ is)

to-four : FourKnown → (x : ServoSetting) (calls : List Call) (kept : Measurement) → 0 < x.set.lock_samples → (run x calls).kept ≡ Some kept → FourStands x calls kept
to-four known x [] kept positive is = absurd cc
to-four known x (CallSample n base bits ∷ calls) kept positive is = to-sampled known x calls n base bits kept positive (to-four known x calls kept positive) is (call-lasts x calls (CallSample n base bits) refl)
to-four known x (CallMeasured f y ∷ calls) kept positive is = to-measured known x calls f y kept positive is (first-or_none (run x calls).first)
to-four known x (CallTick ∷ calls) kept positive is = to-lasts known x calls CallTick kept positive refl (to-four known x calls kept positive) is (call-lasts x calls CallTick refl)
to-four known x (CallLease fresh ∷ calls) kept positive is = to-lasts known x calls (CallLease fresh) kept positive refl (to-four known x calls kept positive) is (call-lasts x calls (CallLease fresh) refl)
to-four known x (CallLink on ∷ calls) kept positive is = to-lasts known x calls (CallLink on) kept positive refl (to-four known x calls kept positive) is (call-lasts x calls (CallLink on) refl)
to-four known x (CallCarrier up ∷ calls) kept positive is = to-lasts known x calls (CallCarrier up) kept positive refl (to-four known x calls kept positive) is (call-lasts x calls (CallCarrier up) refl)
to-four known x (CallReset ∷ calls) kept positive is = to-lasts known x calls CallReset kept positive refl (to-four known x calls kept positive) is (call-lasts x calls CallReset refl)

-- ---- from it

-- if the chain is still there, so is the four
lasts-kept : (v w : Core) (kept : Measurement) → v.kept ≡ Some kept → is_some w.first ≡ true → Lasts v w → w.kept ≡ Some kept
lasts-kept v w kept is some (inl (p, q)) = q ∙ is
lasts-kept v w kept is some (inr (p, q)) = absurd (not_both (is_some w.first) some (ap is_some p))

begins-kept : (v : Core) (n : ℕ) (w : Core) (kept : Measurement) → v.kept ≡ Some kept → is_some w.first ≡ true → LastsOrBegins v n w → w.kept ≡ Some kept
begins-kept v n w kept is some (inl t) = lasts-kept v w kept is some t
begins-kept v n w kept is some (inr (a, b, c)) = c ∙ is

call-kept : (x : ServoSetting) (calls : List Call) (call : Call) (kept : Measurement) → is_measured call ≡ false → (run x calls).kept ≡ Some kept → is_some (run x (call ∷ calls)).first ≡ true → (run x (call ∷ calls)).kept ≡ Some kept
call-kept x calls (CallSample n base bits) kept other is some = begins-kept (run x calls) n (run x (CallSample n base bits ∷ calls)) kept is some (call-lasts x calls (CallSample n base bits) refl)
call-kept x calls (CallMeasured f y) kept other is some = absurd cc
call-kept x calls CallTick kept other is some = lasts-kept (run x calls) (run x (CallTick ∷ calls)) kept is some (call-lasts x calls CallTick refl)
call-kept x calls (CallLease fresh) kept other is some = lasts-kept (run x calls) (run x (CallLease fresh ∷ calls)) kept is some (call-lasts x calls (CallLease fresh) refl)
call-kept x calls (CallLink on) kept other is some = lasts-kept (run x calls) (run x (CallLink on ∷ calls)) kept is some (call-lasts x calls (CallLink on) refl)
call-kept x calls (CallCarrier up) kept other is some = lasts-kept (run x calls) (run x (CallCarrier up ∷ calls)) kept is some (call-lasts x calls (CallCarrier up) refl)
call-kept x calls CallReset kept other is some = lasts-kept (run x calls) (run x (CallReset ∷ calls)) kept is some (call-lasts x calls CallReset refl)

since-kept : FourKnown → (x : ServoSetting) (since before : List Call) (kept : Measurement) → 0 < x.set.lock_samples → (run x before).kept ≡ Some kept → NoneEnds x since before → NoneMeasures since → (run x (since ++ before)).kept ≡ Some kept
since-kept known x [] before kept positive is never other = is
since-kept known x (call ∷ since) before kept positive is never other =
    let rest : (run x (since ++ before)).kept ≡ Some kept = since-kept known x since before kept positive is never.1 other.1 in
    call-kept x (since ++ before) call kept other.0 rest (goes known.laws x (since ++ before) call positive (stood x (since ++ before) kept rest) never.0)

at-four : (x : ServoSetting) (calls : List Call) (f : Four) (y : ℤ) (d : Deltas) (on : Option Deltas) → on ≡ Some d → is_in x.lo x.hi (x_of d f) ≡ true → is_some (run x (CallMeasured f y ∷ calls)).first ≡ true →
    Answers x.lo x.hi (run x calls) f y on (run x (CallMeasured f y ∷ calls)) → (run x (CallMeasured f y ∷ calls)).kept ≡ Some (kept_of f d y)
at-four x calls f y d None e range some t = absurd cc
at-four x calls f y d (Some c) e range some (inl (r, t)) =
    lasts-kept (record (run x calls) { kept = Some (kept_of f c y) }) (run x (CallMeasured f y ∷ calls)) (kept_of f d y) (ap (λ (k : Deltas). Some (kept_of f k y)) (same_Some c d e)) some t.chain
at-four x calls f y d (Some c) e range some (inr (r, t)) = absurd (not_both (is_in x.lo x.hi (x_of d f)) range (ap (λ (k : Deltas). is_in x.lo x.hi (x_of k f)) (sym (same_Some c d e)) ∙ r))

from-four : FourKnown → (x : ServoSetting) (calls : List Call) (kept : Measurement) → 0 < x.set.lock_samples → FourStands x calls kept → (run x calls).kept ≡ Some kept
from-four known x calls kept positive t =
    let call : Call = CallMeasured kept.four t.answer in
    let was : is_some (run x t.before).first ≡ true = from-stands known.laws x t.before positive t.chain in
    let some : is_some (run x (call ∷ t.before)).first ≡ true = goes known.laws x t.before call positive was t.holds in
    let v : Core = run x t.before in
    let here : (run x (call ∷ t.before)).kept ≡ Some (kept_of kept.four t.deltas t.answer) =
    at-four x t.before kept.four t.answer t.deltas (deltas_in_chain v) (deltas-told known x t.before was ∙ t.link) t.range some (answered-next x.lo x.hi v kept.four t.answer (deltas_in_chain v)) in
    let whole : kept_of kept.four t.deltas t.answer ≡ kept = ap (λ (z : ℤ). record { four = kept.four; delay = z }) (sym t.delay) in
    ap (λ (l : List Call). (run x l).kept) t.splits
    ∙ since-kept known x t.since (call ∷ t.before) kept positive (here ∙ ap (λ (k : Measurement). Some k) whole) t.stays t.newest

pub four_looks_back : FourKnown → FourLooksBack
four_looks_back known x calls kept positive = (to-four known x calls kept positive, from-four known x calls kept positive)
