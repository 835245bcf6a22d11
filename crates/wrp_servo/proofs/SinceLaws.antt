-- A running value that a start sets and an end clears is what looking back finds.
use Rattle.std.proofs.Common.{◌≡◌, refl, ap, ◌∙◌, sym, ◌↔◌, Bool, true, false, cond, not, List, [], ◌∷◌, ◌++◌, subst}
use Rattle.std.proofs.lemmas.Bool.{not-true}
use Rattle.wrp_servo.specs.Call.{Call}
use Rattle.wrp_servo.specs.Since.{NoneEnds, Since}

-- a running value over the list of calls: a start sets it, and an end clears it
pub record Runs (starts ends : List Call → Call → Bool) (value : List Call → Bool) : Type 0 where
  pub first : value [] ≡ false
  pub next : (call : Call) (calls : List Call) → value (call ∷ calls) ≡ cond (value calls) (not (ends calls call)) (starts calls call)
  pub apart : (call : Call) (calls : List Call) → value calls ≡ true → starts calls call ≡ true → ends calls call ≡ false

to-step : (starts ends : List Call → Call → Bool) (value : List Call → Bool) (call : Call) (calls : List Call) (b : Bool) → (b ≡ true → Since starts ends calls) →
    cond b (not (ends calls call)) (starts calls call) ≡ true → Since starts ends (call ∷ calls)
to-step starts ends value call calls false before e = record { since = []; start = call; before = calls; splits = refl; started = e; stays = tt }
to-step starts ends value call calls true before e =
    let t : Since starts ends calls = before refl in
    record {
      since = call ∷ t.since;
      start = t.start;
      before = t.before;
      splits = ap (λ (l : List Call). call ∷ l) t.splits;
      started = t.started;
      stays = (subst (λ (l : List Call). ends l call ≡ false) t.splits (not-true (ends calls call) e), t.stays);
    }

to : (starts ends : List Call → Call → Bool) (value : List Call → Bool) → Runs starts ends value → (calls : List Call) → value calls ≡ true → Since starts ends calls
to starts ends value r [] e = absurd (let n : value [] ≡ false = r.first in cc)
to starts ends value r (call ∷ calls) e =
    to-step starts ends value call calls (value calls) (to starts ends value r calls) (sym (r.next call calls) ∙ e)

from-start : (starts ends : List Call → Call → Bool) (call : Call) (calls : List Call) (b : Bool) → (b ≡ true → starts calls call ≡ true → ends calls call ≡ false) →
    starts calls call ≡ true → cond b (not (ends calls call)) (starts calls call) ≡ true
from-start starts ends call calls false apart e = e
from-start starts ends call calls true apart e = ap not (apart refl e)

from : (starts ends : List Call → Call → Bool) (value : List Call → Bool) → Runs starts ends value → (since : List Call) (start : Call) (before : List Call) →
    starts before start ≡ true → NoneEnds ends since (start ∷ before) → value (since ++ start ∷ before) ≡ true
from starts ends value r [] start before e stays =
    r.next start before ∙ from-start starts ends start before (value before) (r.apart start before) e
from starts ends value r (call ∷ since) start before e stays =
    let rest : value (since ++ start ∷ before) ≡ true = from starts ends value r since start before e stays.1 in
    r.next call (since ++ start ∷ before)
    ∙ ap (λ (b : Bool). cond b (not (ends (since ++ start ∷ before) call)) (starts (since ++ start ∷ before) call)) rest
    ∙ ap not stays.0

pub stands_since : (starts ends : List Call → Call → Bool) (value : List Call → Bool) → Runs starts ends value → (calls : List Call) → (value calls ≡ true) ↔ Since starts ends calls
stands_since starts ends value r calls = (
  λ e. to starts ends value r calls e,
  λ t. ap value t.splits ∙ from starts ends value r t.since t.start t.before t.started t.stays,
)
