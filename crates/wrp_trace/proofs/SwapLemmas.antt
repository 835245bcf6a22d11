-- Swaps in turn.
use Rattle.std.proofs.Common.{◌≡◌, ◌∙◌, ℕ, zero, suc, ◌+◌, ◌<◌, ◌||◌, List, [], ◌∷◌, ◌++◌, Bool, false, None, Some, Result, Ok, Err, length, map, drop, get_or, refl, sym, ap, ap₂, arith}
use Rattle.std.specs.Prelude.{◌==◌, ◌≢◌, if◌then◌else◌}
use Rattle.std.specs.List.{AllByRecursion, list_any}
use Rattle.std.proofs.lemmas.Bool.{eq-eqb, false≢true, or_parts}
use Rattle.std.proofs.lemmas.List.{drop_more, map-append}
use Rattle.std.proofs.lemmas.List.Quantifiers.{all_pairs_push}
use Rattle.wrp_base.specs.declared.fault.TraceFault.{TraceFault}
use Rattle.wrp_course.specs.declared.event.Swap.{Swap}
use Rattle.wrp_fields.specs.Reading.{field_of, ◌>>=◌, number_or_fault, name_or_fault}
use Rattle.wrp_fields.specs.Numbers.{natural_in}
use Rattle.wrp_trace.specs.EventFields.{before, behind}
use Rattle.wrp_trace.specs.Swaps.{bare_swap, own_port, swap_at_port, swap_said, swaps_said}
use Rattle.wrp_trace.proofs.ChangeLemmas.{field_here}
use Rattle.wrp_course.specs.EventAt.{IsSwap, AreSwaps}

any_plain : (port : ℕ) (swaps : List Swap) → list_any (λ swap. swap.port == port) (map bare_swap swaps) ≡ list_any (λ swap. swap.port == port) swaps
any_plain port [] = refl
any_plain port (s ∷ swaps) = ap (λ b. (s.port == port) || b) (any_plain port swaps)

own_plain : (place : ℕ) (swaps : List Swap) (read : Result ℕ TraceFault) (next : ℕ → Result Swap TraceFault)
    → ((read >>= (λ port. own_port place (map bare_swap swaps) port)) >>= next) ≡ ((read >>= (λ port. own_port place swaps port)) >>= next)
own_plain place swaps (Ok port) next = ap (λ b. name_or_fault place (if b then None else Some port) >>= next) (any_plain port swaps)
own_plain place swaps (Err fault) next = refl

-- whether a port is new depends on the ports alone
pub said_plain : (place : ℕ) (swaps : List Swap) (text : List ℕ) → swap_said place (map bare_swap swaps) text ≡ swap_said place swaps text
said_plain place swaps text =
    own_plain place swaps (number_or_fault place (natural_in 0 65_535 (before 58 text))) (λ port. swap_at_port place port (behind 58 text))

step : (fields : List (List ℕ)) (at place : ℕ) (swaps : List Swap) (text : List ℕ) (answer : Result Swap TraceFault)
    → at < length fields → place ≡ at + 1 → text ≡ field_of place fields → answer ≡ swap_said place swaps text
    → swaps_said (at + 1) (map bare_swap swaps) (drop at fields)
    ≡ (answer >>= (λ swap. swaps_said (at + 1 + 1) (map bare_swap swaps ++ swap ∷ []) (drop (at + 1) fields)))
step fields at place swaps text answer below here is e =
    ap (swaps_said (at + 1) (map bare_swap swaps)) (drop_more fields at [] below)
    ∙ ap (λ r. r >>= (λ swap. swaps_said (at + 1 + 1) (map bare_swap swaps ++ swap ∷ []) (drop (at + 1) fields)))
    (ap₂ (λ p t. swap_said p (map bare_swap swaps) t) (sym here) (field_here fields at place text here is) ∙ said_plain place swaps text ∙ sym e)

-- a field that says nothing is the fault of all fields
pub stops : (fields : List (List ℕ)) (at place : ℕ) (swaps : List Swap) (text : List ℕ) (fault : TraceFault)
    → at < length fields → place ≡ at + 1 → text ≡ field_of place fields → Err fault ≡ swap_said place swaps text
    → swaps_said (at + 1) (map bare_swap swaps) (drop at fields) ≡ Err fault
stops fields at place swaps text fault below here is e = step fields at place swaps text (Err fault) below here is e

-- after a field that says something, the other fields say the rest
pub goes : (fields : List (List ℕ)) (at place : ℕ) (swaps : List Swap) (swap : Swap) (text : List ℕ)
    → at < length fields → place ≡ at + 1 → text ≡ field_of place fields → Ok (bare_swap swap) ≡ swap_said place swaps text
    → swaps_said (at + 1) (map bare_swap swaps) (drop at fields) ≡ swaps_said (at + 1 + 1) (map bare_swap (swaps ++ swap ∷ [])) (drop (at + 1) fields)
goes fields at place swaps swap text below here is e =
    step fields at place swaps text (Ok (bare_swap swap)) below here is e
    ∙ ap (λ l. swaps_said (at + 1 + 1) l (drop (at + 1) fields)) (sym (map-append bare_swap swaps (swap ∷ [])))

-- Ports

none_passes : {X : Type 0} (test : X → Bool) (xs : List X) → list_any test xs ≡ false → (k : ℕ) (d : X) → k < length xs → test (get_or xs k d) ≡ false
none_passes test [] none k d below = absurd (omega arith)
none_passes test (x ∷ xs) none zero d below = (or_parts (test x) (list_any test xs) none).0
none_passes test (x ∷ xs) none (suc k) d below = none_passes test xs (or_parts (test x) (list_any test xs) none).1 k d (omega arith)

pub no_pass : {X : Type 0} (test : X → Bool) (xs : List X) → ((k : ℕ) (d : X) → k < length xs → test (get_or xs k d) ≡ false) → list_any test xs ≡ false
no_pass test [] none = refl
no_pass test (x ∷ xs) none = rw (none 0 x (omega arith), no_pass test xs (λ k d below. none (suc k) d (omega arith))) refl

each_more : (swaps : List Swap) (swap : Swap) → AllByRecursion IsSwap swaps → IsSwap swap → AllByRecursion IsSwap (swaps ++ swap ∷ [])
each_more [] swap all is = (is, tt)
each_more (s ∷ swaps) swap all is = (all.0, each_more swaps swap all.1 is)

-- one more swap, of a port that no earlier swap has
pub more_swaps : (swaps : List Swap) (swap : Swap) → AreSwaps swaps → IsSwap swap
    → list_any (λ other. other.port == swap.port) swaps ≡ false → AreSwaps (swaps ++ swap ∷ [])
more_swaps swaps swap are is new = record {
  each = each_more swaps swap are.each is;
  apart = all_pairs_push (λ a b. a.port ≢ b.port) swaps swap are.apart
      (λ k d below e. false≢true (sym (none_passes (λ other. other.port == swap.port) swaps new k d below) ∙ eq-eqb (get_or swaps k d).port swap.port e));
}
