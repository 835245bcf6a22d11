-- The loop over the reasons that gathers the counters which are not 0.
use Rattle.std.proofs.Common.{◌≡◌, ℕ, ◌+◌, ◌<◌, ◌≤◌, Bool, nat_lt, List, [], ◌∷◌, ◌++◌, length, get_or, take, map, arith, sym, ◌∙◌, ap}
use Rattle.std.specs.Prelude.{filter}
use Rattle.std.proofs.lemmas.List.{append-nil, take_more, take_all, map-append, length-map, length-take}
use Rattle.std.proofs.lemmas.List.Elements.{filter-append}
use Rattle.std.proofs.lemmas.List.Sums.{length-filter, count_by-le-length}
use Rattle.std.proofs.lemmas.Bool.Decides.{nat_tests}
use Rattle.wrp_data.specs.declared.reason.Reason.{Reason}
use Rattle.wrp_data.specs.declared.reason.Reason.TheVariants.{Short}
use Rattle.wrp_data.specs.Reason.{number_of, reasons}
use Rattle.wrp_data.specs.Counters.{nonzero_among, nonzero_counts, count_at}

-- there are no more pairs than reasons
length-nonzero_among : (some : List Reason) (counters : List ℕ) → length (nonzero_among some counters) ≤ length some
length-nonzero_among some counters =
    let pair : Reason → Reason × ℕ = λ reason. (reason, count_at counters (number_of reason)) in
    let p : Reason × ℕ → Bool = λ c. nat_lt 0 c.1 in
    omega (arith, length-filter p (map pair some), count_by-le-length p (map pair some), length-map some pair)

-- one reason more
nonzero_among-more : (some : List Reason) (counters : List ℕ) (n : ℕ) (d : Reason) → n < length some → nonzero_among (take (n + 1) some) counters ≡ nonzero_among (take n some) counters ++ nonzero_among (get_or some n d ∷ []) counters
nonzero_among-more some counters n d h =
    let pair : Reason → Reason × ℕ = λ reason. (reason, count_at counters (number_of reason)) in
    let p : Reason × ℕ → Bool = λ c. nat_lt 0 c.1 in
    ap (λ part. filter p (map pair part)) (take_more some n d h)
    ∙ ap (filter p) (map-append pair (take n some) (get_or some n d ∷ []))
    ∙ filter-append p (map pair (take n some)) (map pair (get_or some n d ∷ []))

-- a reason whose counter is not 0 has its pair
nonzero_among-yes : (counters : List ℕ) (reason : Reason) → 0 < count_at counters (number_of reason) → nonzero_among (reason ∷ []) counters ≡ (reason, count_at counters (number_of reason)) ∷ []
nonzero_among-yes counters reason h = grind (arith, nat_tests)

-- a reason whose counter is 0 has none
nonzero_among-no : (counters : List ℕ) (reason : Reason) → count_at counters (number_of reason) ≤ 0 → nonzero_among (reason ∷ []) counters ≡ []
nonzero_among-no counters reason h = grind (arith, nat_tests)

-- the pairs of the first n reasons
unfoldable pub nonzero_before : ℕ → List ℕ → List (Reason × ℕ)
nonzero_before n counters = nonzero_among (take n reasons) counters

pub all_before : (counters : List ℕ) (n : ℕ) → 15 ≤ n → nonzero_before n counters ≡ nonzero_counts counters
unfolding nonzero_before nonzero_counts
all_before counters n h = ap (λ some. nonzero_among some counters) (take_all n reasons h)

pub few_before : (counters : List ℕ) (n : ℕ) → n < 15 → length (nonzero_before n counters) < 15
unfolding nonzero_before
few_before counters n h =
    omega (arith, length-nonzero_among (take n reasons) counters, length-take n reasons)

pub none_before : (counters : List ℕ) (so_far : List (Reason × ℕ)) → so_far ≡ [] → so_far ≡ nonzero_before 0 counters
unfolding nonzero_before
none_before counters so_far e = e

-- the step at a counter that is not 0
pub before-yes : (counters : List ℕ) (so_far : List (Reason × ℕ)) (n number times : ℕ) → so_far ≡ nonzero_before n counters → n < 15 → number ≡ number_of (get_or reasons n Short) → times ≡ count_at counters number → 0 < times → so_far ++ (get_or reasons n Short, times) ∷ [] ≡ nonzero_before (n + 1) counters
unfolding nonzero_before
before-yes counters so_far n number times so h is has above =
    let reason : Reason = get_or reasons n Short in
    let e : times ≡ count_at counters (number_of reason) = has ∙ ap (count_at counters) is in
    let above' : 0 < count_at counters (number_of reason) = omega (arith, e, above) in
    ap (λ pairs. pairs ++ (reason, times) ∷ []) so
    ∙ ap (λ k. nonzero_among (take n reasons) counters ++ (reason, k) ∷ []) e
    ∙ ap (λ pairs. nonzero_among (take n reasons) counters ++ pairs) (sym (nonzero_among-yes counters reason above'))
    ∙ sym (nonzero_among-more reasons counters n Short h)

-- the step at a counter that is 0
pub before-no : (counters : List ℕ) (so_far : List (Reason × ℕ)) (n number times : ℕ) → so_far ≡ nonzero_before n counters → n < 15 → number ≡ number_of (get_or reasons n Short) → times ≡ count_at counters number → times ≤ 0 → so_far ≡ nonzero_before (n + 1) counters
unfolding nonzero_before
before-no counters so_far n number times so h is has zero =
    let reason : Reason = get_or reasons n Short in
    let e : times ≡ count_at counters (number_of reason) = has ∙ ap (count_at counters) is in
    let zero' : count_at counters (number_of reason) ≤ 0 = omega (arith, e, zero) in
    so
    ∙ sym (append-nil (nonzero_among (take n reasons) counters))
    ∙ ap (λ pairs. nonzero_among (take n reasons) counters ++ pairs) (sym (nonzero_among-no counters reason zero'))
    ∙ sym (nonzero_among-more reasons counters n Short h)
