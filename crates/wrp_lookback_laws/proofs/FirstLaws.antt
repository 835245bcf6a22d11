-- The chain's first sample over the list of calls.
use Rattle.std.specs.Prelude.{◌⊎◌}
use Rattle.std.proofs.Common.{◌≡◌, ◌<◌, refl, ap, ◌∙◌, sym, subst, ℕ, ℤ, true, false, is_some, cond, Option, None, Some, List, [], ◌∷◌, ◌++◌, inl, inr}
use Rattle.std.proofs.lemmas.Option.{same_Some}
use Rattle.wrp_base.proofs.Booleans.{not_both}
use Rattle.wrp_base.specs.declared.link.Deltas.{Deltas}
use Rattle.wrp_base.specs.declared.measurement.Four.{Four}
use Rattle.wrp_servo.specs.declared.machine.Core.{Core}
use Rattle.wrp_servo.specs.Call.{Call, CallSample, CallMeasured, CallTick, CallLease, CallLink, CallCarrier, CallReset, ServoSetting, run}
use Rattle.wrp_servo.specs.Measuring.{answered, deltas_in_chain, kept_of}
use Rattle.wrp_servo.specs.Sampling.{hears, good_tag, with_tag, with_last, good, by_sample}
use Rattle.wrp_lookback_laws.specs.Chains.{EndsChain, NoneEnds, ChainStands, ChainBegan, FirstLooksBack}
use Rattle.wrp_lookback_laws.specs.Fours.{is_measured}
use Rattle.wrp_lookback_laws.proofs.Rows.{tick-next}
use Rattle.wrp_lookback_laws.proofs.Calls.{Answers, Sampled, Good, Comes, lease-next, link-next, gone-next, comes-next, answered-next, sample-is, good-next}
use Rattle.wrp_lookback_laws.proofs.Causes.{Laws, Begins}
use Rattle.wrp_lookback_laws.proofs.ChainLaws.{goes, kept_on, begins, began, stands, from-stands}

-- the chain and the four stay, or end together
abbrev pub Lasts : Core → Core → Type 0
Lasts v w = ((w.first ≡ v.first) × (w.kept ≡ v.kept)) ⊎ ((w.first ≡ None) × (w.kept ≡ None))

-- a sample may begin a chain
abbrev pub LastsOrBegins : Core → ℕ → Core → Type 0
LastsOrBegins v n w = Lasts v w ⊎ ((v.first ≡ None) × (w.first ≡ Some n) × (w.kept ≡ v.kept))

good-lasts : (v : Core) (n : ℕ) (w : Core) → Good v n w → LastsOrBegins v n w
good-lasts v n w (inl (far, t)) = inl t.chain
good-lasts v n w (inr (near, t)) = t.chain

sampled-lasts : (v : Core) (n : ℕ) (tag : Option ℕ) (w : Core) → Sampled v n tag w → LastsOrBegins v n w
sampled-lasts v n None w (inl e) = inl (inl (ap (λ (c : Core). c.first) e, ap (λ (c : Core). c.kept) e))
sampled-lasts v n None w (inr e) = inl (inl (ap (λ (c : Core). c.first) e, ap (λ (c : Core). c.kept) e))
sampled-lasts v n (Some tag) w e =
    let u : Core = with_tag (with_last v n) tag in
    subst (λ (c : Core). LastsOrBegins v n c) (sym e) (good-lasts u n (good u n) (good-next u n))

sample-lasts : (v : Core) (n base bits : ℕ) → LastsOrBegins v n (by_sample v n base bits)
sample-lasts v n base bits = sampled-lasts v n (cond (hears v) (good_tag v.last n base bits) None) (by_sample v n base bits) (sample-is v n base bits)

-- what a call that is no measurement does to the chain and the four
abbrev pub CallLasts : Core → Call → Core → Type 0
CallLasts v (CallSample n base bits) w = LastsOrBegins v n w
CallLasts v _ w = Lasts v w

pub call-lasts : (x : ServoSetting) (calls : List Call) (call : Call) → is_measured call ≡ false → CallLasts (run x calls) call (run x (call ∷ calls))
call-lasts x calls (CallSample n base bits) h = sample-lasts (run x calls) n base bits
call-lasts x calls (CallMeasured f y) h = absurd cc
call-lasts x calls CallTick h = (tick-next (run x calls) (run x calls).state).chain
call-lasts x calls (CallLease fresh) h = (lease-next (run x calls) fresh).chain
call-lasts x calls (CallLink on) h = (link-next (run x calls) on).chain
call-lasts x calls (CallCarrier true) h = let t : Comes (run x calls) (run x (CallCarrier true ∷ calls)) = comes-next (run x calls) in inl (t.first, t.kept)
call-lasts x calls (CallCarrier false) h = (gone-next (run x calls)).chain
call-lasts x calls CallReset h = inr (refl, refl)

-- ---- the chain's first sample

-- it stays, or the chain ends, or it begins with a sample
abbrev First : Core → Call → Core → Type 0
First v (CallSample n base bits) w = ((w.first ≡ v.first) ⊎ (w.first ≡ None)) ⊎ ((v.first ≡ None) × (w.first ≡ Some n))
First v _ w = (w.first ≡ v.first) ⊎ (w.first ≡ None)

first-of : (v w : Core) → Lasts v w → (w.first ≡ v.first) ⊎ (w.first ≡ None)
first-of v w (inl (p, q)) = inl p
first-of v w (inr (p, q)) = inr p

first-sampled : (v : Core) (n : ℕ) (w : Core) → LastsOrBegins v n w → ((w.first ≡ v.first) ⊎ (w.first ≡ None)) ⊎ ((v.first ≡ None) × (w.first ≡ Some n))
first-sampled v n w (inl t) = inl (first-of v w t)
first-sampled v n w (inr (none, some, kept)) = inr (none, some)

first-answered : (lo hi : ℤ) (v : Core) (f : Four) (y : ℤ) (on : Option Deltas) (w : Core) → Answers lo hi v f y on w → (w.first ≡ v.first) ⊎ (w.first ≡ None)
first-answered lo hi v f y None w e = inl (ap (λ (c : Core). c.first) e)
first-answered lo hi v f y (Some d) w (inl (r, t)) = first-of (record v { kept = Some (kept_of f d y) }) w t.chain
first-answered lo hi v f y (Some d) w (inr (r, t)) = first-of v w t.chain

first-step : (x : ServoSetting) (calls : List Call) (call : Call) → First (run x calls) call (run x (call ∷ calls))
first-step x calls (CallSample n base bits) = first-sampled (run x calls) n (run x (CallSample n base bits ∷ calls)) (sample-lasts (run x calls) n base bits)
first-step x calls (CallMeasured f y) =
    let v : Core = run x calls in
    first-answered x.lo x.hi v f y (deltas_in_chain v) (answered x.lo x.hi v f y (deltas_in_chain v)) (answered-next x.lo x.hi v f y (deltas_in_chain v))
first-step x calls CallTick = first-of (run x calls) (run x (CallTick ∷ calls)) (call-lasts x calls CallTick refl)
first-step x calls (CallLease fresh) = first-of (run x calls) (run x (CallLease fresh ∷ calls)) (call-lasts x calls (CallLease fresh) refl)
first-step x calls (CallLink on) = first-of (run x calls) (run x (CallLink on ∷ calls)) (call-lasts x calls (CallLink on) refl)
first-step x calls (CallCarrier up) = first-of (run x calls) (run x (CallCarrier up ∷ calls)) (call-lasts x calls (CallCarrier up) refl)
first-step x calls CallReset = first-of (run x calls) (run x (CallReset ∷ calls)) (call-lasts x calls CallReset refl)

-- ---- looking back for it

longer : (x : ServoSetting) (calls : List Call) (call : Call) (n : ℕ) → (EndsChain x calls call → ⊥) → ChainBegan x calls n → ChainBegan x (call ∷ calls) n
longer x calls call n never t = record {
  since = call ∷ t.since;
  base = t.base;
  bits = t.bits;
  before = t.before;
  splits = ap (λ (l : List Call). call ∷ l) t.splits;
  none = t.none;
  may = t.may;
  holds = t.holds;
  stays = (subst (λ (l : List Call). EndsChain x l call → ⊥) t.splits never, t.stays);
}

some_is : (o : Option ℕ) (n : ℕ) → o ≡ Some n → is_some o ≡ true
some_is o n e = ap is_some e

none_is : (o : Option ℕ) → o ≡ None → is_some o ≡ false
none_is o e = ap is_some e

to-stays : Laws → (x : ServoSetting) (calls : List Call) (call : Call) (n : ℕ) → 0 < x.set.lock_samples → ((run x calls).first ≡ Some n → ChainBegan x calls n) → (run x (call ∷ calls)).first ≡ Some n →
    (((run x (call ∷ calls)).first ≡ (run x calls).first) ⊎ ((run x (call ∷ calls)).first ≡ None)) → ChainBegan x (call ∷ calls) n
to-stays laws x calls call n positive before is (inl e) =
    let stood : (run x calls).first ≡ Some n = sym e ∙ is in
    longer x calls call n (kept_on laws x calls call positive (some_is (run x calls).first n stood) (some_is (run x (call ∷ calls)).first n is)) (before stood)
to-stays laws x calls call n positive before is (inr e) = absurd (not_both (is_some (run x (call ∷ calls)).first) (some_is (run x (call ∷ calls)).first n is) (none_is (run x (call ∷ calls)).first e))

same_number : (o : Option ℕ) (m n : ℕ) → o ≡ Some m → o ≡ Some n → m ≡ n
same_number o m n e f = same_Some m n (sym e ∙ f)

to-sample : Laws → (x : ServoSetting) (calls : List Call) (m base bits n : ℕ) → 0 < x.set.lock_samples → ((run x calls).first ≡ Some n → ChainBegan x calls n) → (run x (CallSample m base bits ∷ calls)).first ≡ Some n →
    First (run x calls) (CallSample m base bits) (run x (CallSample m base bits ∷ calls)) → ChainBegan x (CallSample m base bits ∷ calls) n
to-sample laws x calls m base bits n positive before is (inl t) = to-stays laws x calls (CallSample m base bits) n positive before is t
to-sample laws x calls m base bits n positive before is (inr (none, some)) =
    let first : Option ℕ = (run x (CallSample m base bits ∷ calls)).first in
    let b : Begins x calls (CallSample m base bits) = began laws x calls (CallSample m base bits) positive (none_is (run x calls).first none) (some_is first n is) in
    subst (λ (k : ℕ). ChainBegan x (CallSample m base bits ∷ calls) k) (same_number first m n some is) (record {
      since = [];
      base = base;
      bits = bits;
      before = calls;
      splits = refl;
      none = λ t. not_both (is_some (run x calls).first) (from-stands laws x calls positive t) (none_is (run x calls).first none);
      may = b.may;
      holds = b.holds;
      stays = tt;
    })

to-began : Laws → (x : ServoSetting) (calls : List Call) (n : ℕ) → 0 < x.set.lock_samples → (run x calls).first ≡ Some n → ChainBegan x calls n
to-began laws x [] n positive is = absurd cc
to-began laws x (CallSample m base bits ∷ calls) n positive is = to-sample laws x calls m base bits n positive (to-began laws x calls n positive) is (first-step x calls (CallSample m base bits))
to-began laws x (CallMeasured f y ∷ calls) n positive is = to-stays laws x calls (CallMeasured f y) n positive (to-began laws x calls n positive) is (first-step x calls (CallMeasured f y))
to-began laws x (CallTick ∷ calls) n positive is = to-stays laws x calls CallTick n positive (to-began laws x calls n positive) is (first-step x calls CallTick)
to-began laws x (CallLease fresh ∷ calls) n positive is = to-stays laws x calls (CallLease fresh) n positive (to-began laws x calls n positive) is (first-step x calls (CallLease fresh))
to-began laws x (CallLink on ∷ calls) n positive is = to-stays laws x calls (CallLink on) n positive (to-began laws x calls n positive) is (first-step x calls (CallLink on))
to-began laws x (CallCarrier up ∷ calls) n positive is = to-stays laws x calls (CallCarrier up) n positive (to-began laws x calls n positive) is (first-step x calls (CallCarrier up))
to-began laws x (CallReset ∷ calls) n positive is = to-stays laws x calls CallReset n positive (to-began laws x calls n positive) is (first-step x calls CallReset)

-- ---- from it

at-first : (x : ServoSetting) (calls : List Call) (n base bits : ℕ) → (run x calls).first ≡ None → is_some (run x (CallSample n base bits ∷ calls)).first ≡ true →
    First (run x calls) (CallSample n base bits) (run x (CallSample n base bits ∷ calls)) → (run x (CallSample n base bits ∷ calls)).first ≡ Some n
at-first x calls n base bits none some (inl (inl e)) = absurd (not_both (is_some (run x (CallSample n base bits ∷ calls)).first) some (none_is (run x (CallSample n base bits ∷ calls)).first (e ∙ none)))
at-first x calls n base bits none some (inl (inr e)) = absurd (not_both (is_some (run x (CallSample n base bits ∷ calls)).first) some (none_is (run x (CallSample n base bits ∷ calls)).first e))
at-first x calls n base bits none some (inr (a, b)) = b

stays-first : (x : ServoSetting) (calls : List Call) (call : Call) (n : ℕ) → (run x calls).first ≡ Some n → is_some (run x (call ∷ calls)).first ≡ true →
    (((run x (call ∷ calls)).first ≡ (run x calls).first) ⊎ ((run x (call ∷ calls)).first ≡ None)) → (run x (call ∷ calls)).first ≡ Some n
stays-first x calls call n is some (inl e) = e ∙ is
stays-first x calls call n is some (inr e) = absurd (not_both (is_some (run x (call ∷ calls)).first) some (none_is (run x (call ∷ calls)).first e))

sample-first : (x : ServoSetting) (calls : List Call) (m base bits n : ℕ) → (run x calls).first ≡ Some n → is_some (run x (CallSample m base bits ∷ calls)).first ≡ true →
    First (run x calls) (CallSample m base bits) (run x (CallSample m base bits ∷ calls)) → (run x (CallSample m base bits ∷ calls)).first ≡ Some n
sample-first x calls m base bits n is some (inl t) = stays-first x calls (CallSample m base bits) n is some t
sample-first x calls m base bits n is some (inr (none, b)) = absurd (not_both (is_some (run x calls).first) (some_is (run x calls).first n is) (none_is (run x calls).first none))

call-first : (x : ServoSetting) (calls : List Call) (call : Call) (n : ℕ) → (run x calls).first ≡ Some n → is_some (run x (call ∷ calls)).first ≡ true → (run x (call ∷ calls)).first ≡ Some n
call-first x calls (CallSample m base bits) n is some = sample-first x calls m base bits n is some (first-step x calls (CallSample m base bits))
call-first x calls (CallMeasured f y) n is some = stays-first x calls (CallMeasured f y) n is some (first-step x calls (CallMeasured f y))
call-first x calls CallTick n is some = stays-first x calls CallTick n is some (first-step x calls CallTick)
call-first x calls (CallLease fresh) n is some = stays-first x calls (CallLease fresh) n is some (first-step x calls (CallLease fresh))
call-first x calls (CallLink on) n is some = stays-first x calls (CallLink on) n is some (first-step x calls (CallLink on))
call-first x calls (CallCarrier up) n is some = stays-first x calls (CallCarrier up) n is some (first-step x calls (CallCarrier up))
call-first x calls CallReset n is some = stays-first x calls CallReset n is some (first-step x calls CallReset)

since-first : Laws → (x : ServoSetting) (since before : List Call) (n : ℕ) → 0 < x.set.lock_samples → (run x before).first ≡ Some n → NoneEnds x since before → (run x (since ++ before)).first ≡ Some n
since-first laws x [] before n positive is never = is
since-first laws x (call ∷ since) before n positive is never =
    let rest : (run x (since ++ before)).first ≡ Some n = since-first laws x since before n positive is never.1 in
    call-first x (since ++ before) call n rest (goes laws x (since ++ before) call positive (some_is (run x (since ++ before)).first n rest) never.0)

-- without a chain there is no first sample
no_first : Laws → (x : ServoSetting) (calls : List Call) → 0 < x.set.lock_samples → (ChainStands x calls → ⊥) → (o : Option ℕ) → (run x calls).first ≡ o → o ≡ None
no_first laws x calls positive never None e = refl
no_first laws x calls positive never (Some n) e = absurd (never (stands laws x calls positive (some_is (run x calls).first n e)))

from-began : Laws → (x : ServoSetting) (calls : List Call) (n : ℕ) → 0 < x.set.lock_samples → ChainBegan x calls n → (run x calls).first ≡ Some n
from-began laws x calls n positive t =
    let none : (run x t.before).first ≡ None = no_first laws x t.before positive t.none (run x t.before).first refl in
    let some : is_some (run x (CallSample n t.base t.bits ∷ t.before)).first ≡ true = begins laws x t.before (CallSample n t.base t.bits) positive (none_is (run x t.before).first none) (record { may = t.may; holds = t.holds }) in
    ap (λ (l : List Call). (run x l).first) t.splits
    ∙ since-first laws x t.since (CallSample n t.base t.bits ∷ t.before) n positive
    (at-first x t.before n t.base t.bits none some (first-step x t.before (CallSample n t.base t.bits))) t.stays

pub first_looks_back : Laws → FirstLooksBack
first_looks_back laws x calls n positive = (to-began laws x calls n positive, from-began laws x calls n positive)
