-- The chain over the list of calls, and the sample at which it began.
use Rattle.std.specs.Prelude.{◌⊎◌}
use Rattle.std.proofs.Common.{◌≡◌, ◌<◌, refl, ap, ◌∙◌, subst, true, false, not, is_some, List, [], ◌∷◌, ◌++◌, inl, inr}
use Rattle.std.proofs.lemmas.Bool.{false_from_ne_true, cases_Bool, and_from}
use Rattle.wrp_base.proofs.Booleans.{not_both}
use Rattle.wrp_servo.specs.Call.{Call, ServoSetting, run}
use Rattle.wrp_servo.specs.Chain.{starts}
use Rattle.wrp_servo.specs.LookBack.{seen, chain_ends}
use Rattle.wrp_lookback_laws.specs.Chains.{EndsChain, NoneEnds, ChainStands, ChainLooksBack}
use Rattle.wrp_lookback_laws.proofs.ServoSteps.{chain_goes, chain_starts_at, chain_came}
use Rattle.wrp_lookback_laws.proofs.Causes.{Laws, Begins, ends-chain, chain-ends, starts-begin, begins-start}

-- ---- one call further

pub goes : Laws → (x : ServoSetting) (calls : List Call) (call : Call) → 0 < x.set.lock_samples → is_some (run x calls).first ≡ true → (EndsChain x calls call → ⊥) → is_some (run x (call ∷ calls)).first ≡ true
goes laws x calls call positive stands never =
    chain_goes laws.chain x calls call stands (false_from_ne_true (chain_ends x calls call) (λ e. never (ends-chain laws x calls call positive stands e)))

-- a chain that is there before a call and after it was not ended by the call
pub kept_on : Laws → (x : ServoSetting) (calls : List Call) (call : Call) → 0 < x.set.lock_samples → is_some (run x calls).first ≡ true → is_some (run x (call ∷ calls)).first ≡ true → EndsChain x calls call → ⊥
kept_on laws x calls call positive stands after e =
    not_both (chain_ends x calls call) (chain-ends laws x calls call positive stands e) ((chain_came laws.chain x calls call after).stood stands)

pub begins : Laws → (x : ServoSetting) (calls : List Call) (call : Call) → 0 < x.set.lock_samples → is_some (run x calls).first ≡ false → Begins x calls call → is_some (run x (call ∷ calls)).first ≡ true
begins laws x calls call positive none b =
    chain_starts_at laws.chain x calls call (and_from (not (is_some (run x calls).first)) (starts x (seen x calls) call) (ap not none) (begins-start laws x calls call positive b))

pub began : Laws → (x : ServoSetting) (calls : List Call) (call : Call) → 0 < x.set.lock_samples → is_some (run x calls).first ≡ false → is_some (run x (call ∷ calls)).first ≡ true → Begins x calls call
began laws x calls call positive none after = starts-begin laws x calls call positive none ((chain_came laws.chain x calls call after).began none)

-- ---- the whole list

longer : (x : ServoSetting) (calls : List Call) (call : Call) → (EndsChain x calls call → ⊥) → ChainStands x calls → ChainStands x (call ∷ calls)
longer x calls call never t = record {
  since = call ∷ t.since;
  begin = t.begin;
  before = t.before;
  splits = ap (λ (l : List Call). call ∷ l) t.splits;
  may = t.may;
  holds = t.holds;
  stays = (subst (λ (l : List Call). EndsChain x l call → ⊥) t.splits never, t.stays);
}

newest : (x : ServoSetting) (calls : List Call) (call : Call) → Begins x calls call → ChainStands x (call ∷ calls)
newest x calls call b = record { since = []; begin = call; before = calls; splits = refl; may = b.may; holds = b.holds; stays = tt }

stands-by : Laws → (x : ServoSetting) (calls : List Call) (call : Call) → 0 < x.set.lock_samples → (is_some (run x calls).first ≡ true → ChainStands x calls) → is_some (run x (call ∷ calls)).first ≡ true →
    ((is_some (run x calls).first ≡ true) ⊎ (is_some (run x calls).first ≡ false)) → ChainStands x (call ∷ calls)
stands-by laws x calls call positive before h (inl stood) = longer x calls call (kept_on laws x calls call positive stood h) (before stood)
stands-by laws x calls call positive before h (inr none) = newest x calls call (began laws x calls call positive none h)

pub stands : Laws → (x : ServoSetting) (calls : List Call) → 0 < x.set.lock_samples → is_some (run x calls).first ≡ true → ChainStands x calls
stands laws x [] positive h = absurd cc
stands laws x (call ∷ calls) positive h = stands-by laws x calls call positive (stands laws x calls positive) h (cases_Bool (is_some (run x calls).first))

at-begin : Laws → (x : ServoSetting) (begin : Call) (before : List Call) → 0 < x.set.lock_samples → Begins x before begin → ((is_some (run x before).first ≡ true) ⊎ (is_some (run x before).first ≡ false)) → is_some (run x (begin ∷ before)).first ≡ true
at-begin laws x begin before positive b (inl stood) = goes laws x before begin positive stood b.holds
at-begin laws x begin before positive b (inr none) = begins laws x before begin positive none b

-- what is there and is not ended is still there
pub since-stands : Laws → (x : ServoSetting) (since before : List Call) → 0 < x.set.lock_samples → is_some (run x before).first ≡ true → NoneEnds x since before → is_some (run x (since ++ before)).first ≡ true
since-stands laws x [] before positive h n = h
since-stands laws x (call ∷ since) before positive h n = goes laws x (since ++ before) call positive (since-stands laws x since before positive h n.1) n.0

pub from-stands : Laws → (x : ServoSetting) (calls : List Call) → 0 < x.set.lock_samples → ChainStands x calls → is_some (run x calls).first ≡ true
from-stands laws x calls positive t =
    ap (λ (l : List Call). is_some (run x l).first) t.splits
    ∙ since-stands laws x t.since (t.begin ∷ t.before) positive
    (at-begin laws x t.begin t.before positive (record { may = t.may; holds = t.holds }) (cases_Bool (is_some (run x t.before).first))) t.stays

pub chain_looks_back : Laws → ChainLooksBack
chain_looks_back laws x calls positive = (stands laws x calls positive, from-stands laws x calls positive)
