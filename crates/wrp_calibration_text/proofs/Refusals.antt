-- The codes tried in turn give the least one that has a place; there may be no memory for the answer.
use Rattle.std.proofs.Common.{◌≡◌, ◌↔◌, ◌<◌, Option, None, Some, Result, Ok, Err, IfOk, refl, sym, subst, arith}
use Rattle.std.specs.Option.{option_or}
use Rattle.std.proofs.lemmas.Option.{same_Some}
use Rattle.wrp_caldb.specs.Place.{PlaceAt}
use Rattle.wrp_caldb.specs.Refusal.{IsLeast, HasNone, least_of, number_of, with_code}
use Rattle.wrp_caldb.specs.declared.row.Code.{Code}
use Rattle.wrp_caldb.specs.declared.row.Code.TheVariants as co

abbrev chosen : Option PlaceAt → Option PlaceAt → Option PlaceAt → Option PlaceAt → Option (Code × PlaceAt)
chosen u m r t = option_or (with_code co.UnknownKey u) (option_or (with_code co.Missing m) (option_or (with_code co.Range r) (with_code co.Twice t)))

abbrev pick : Option PlaceAt → Option PlaceAt → Option PlaceAt → Option PlaceAt → Code → Option PlaceAt
pick u m r t co.UnknownKey = u
pick u m r t co.Missing = m
pick u m r t co.Range = r
pick u m r t co.Twice = t

abbrev Least : (Code → Option PlaceAt) → Code × PlaceAt → Type 0
Least first q = (first q.0 ≡ Some q.1) × ((lower : Code) → number_of lower < number_of q.0 → first lower ≡ None)

unknown_first : (p : PlaceAt) (m r t : Option PlaceAt) (lower : Code) → number_of lower < 2 → pick (Some p) m r t lower ≡ None
unknown_first p m r t co.UnknownKey h = absurd (omega arith)
unknown_first p m r t co.Missing h = absurd (omega arith)
unknown_first p m r t co.Range h = absurd (omega arith)
unknown_first p m r t co.Twice h = absurd (omega arith)

missing_first : (p : PlaceAt) (r t : Option PlaceAt) (lower : Code) → number_of lower < 3 → pick None (Some p) r t lower ≡ None
missing_first p r t co.UnknownKey h = refl
missing_first p r t co.Missing h = absurd (omega arith)
missing_first p r t co.Range h = absurd (omega arith)
missing_first p r t co.Twice h = absurd (omega arith)

range_first : (p : PlaceAt) (t : Option PlaceAt) (lower : Code) → number_of lower < 4 → pick None None (Some p) t lower ≡ None
range_first p t co.UnknownKey h = refl
range_first p t co.Missing h = refl
range_first p t co.Range h = absurd (omega arith)
range_first p t co.Twice h = absurd (omega arith)

twice_first : (p : PlaceAt) (lower : Code) → number_of lower < 5 → pick None None None (Some p) lower ≡ None
twice_first p co.UnknownKey h = refl
twice_first p co.Missing h = refl
twice_first p co.Range h = refl
twice_first p co.Twice h = absurd (omega arith)

least_chosen : (u m r t : Option PlaceAt) (q : Code × PlaceAt) → chosen u m r t ≡ Some q → Least (pick u m r t) q
least_chosen (Some p) m r t q e = subst (Least (pick (Some p) m r t)) (same_Some (co.UnknownKey, p) q e) (refl, unknown_first p m r t)
least_chosen None (Some p) r t q e = subst (Least (pick None (Some p) r t)) (same_Some (co.Missing, p) q e) (refl, missing_first p r t)
least_chosen None None (Some p) t q e = subst (Least (pick None None (Some p) t)) (same_Some (co.Range, p) q e) (refl, range_first p t)
least_chosen None None None (Some p) q e = subst (Least (pick None None None (Some p))) (same_Some (co.Twice, p) q e) (refl, twice_first p)
least_chosen None None None None q e = cc e

chosen_least : (u m r t : Option PlaceAt) (code : Code) (place : PlaceAt) → Least (pick u m r t) (code, place) → chosen u m r t ≡ Some (code, place)
chosen_least u m r t co.UnknownKey place least = rw least.0 refl
chosen_least u m r t co.Missing place least = rw (least.1 co.UnknownKey (omega arith), least.0) refl
chosen_least u m r t co.Range place least = rw (least.1 co.UnknownKey (omega arith), least.1 co.Missing (omega arith), least.0) refl
chosen_least u m r t co.Twice place least = rw (least.1 co.UnknownKey (omega arith), least.1 co.Missing (omega arith), least.1 co.Range (omega arith), least.0) refl

picked : (first : Code → Option PlaceAt) (code : Code)
    → pick (first co.UnknownKey) (first co.Missing) (first co.Range) (first co.Twice) code ≡ first code
picked first co.UnknownKey = refl
picked first co.Missing = refl
picked first co.Range = refl
picked first co.Twice = refl

-- the answer is the least code that has a place, at its first place
pub least_exact : (first : Code → Option PlaceAt) (code : Code) (place : PlaceAt) → (least_of first ≡ Some (code, place)) ↔ IsLeast first code place
least_exact first code place =
    let u = first co.UnknownKey in
    let m = first co.Missing in
    let r = first co.Range in
    let t = first co.Twice in (
      λ e. let least = least_chosen u m r t (code, place) e in (rw (picked first code) at least.0, λ lower h. rw (picked first lower) at (least.1 lower h)),
      λ is. chosen_least u m r t code place (rw (picked first code) is.0, λ lower h. rw (picked first lower) (is.1 lower h)),
    )

none_chosen : (u m r t : Option PlaceAt) (code : Code) → chosen u m r t ≡ None → pick u m r t code ≡ None
none_chosen (Some p) m r t code e = cc e
none_chosen None (Some p) r t code e = cc e
none_chosen None None (Some p) t code e = cc e
none_chosen None None None (Some p) code e = cc e
none_chosen None None None None co.UnknownKey e = refl
none_chosen None None None None co.Missing e = refl
none_chosen None None None None co.Range e = refl
none_chosen None None None None co.Twice e = refl

-- there is no answer if and only if no code has a place
pub least_none : (first : Code → Option PlaceAt) → (least_of first ≡ None) ↔ HasNone first
least_none first = (
  λ e code. rw (picked first code) at (none_chosen (first co.UnknownKey) (first co.Missing) (first co.Range) (first co.Twice) code e),
  λ none. rw (none co.UnknownKey, none co.Missing, none co.Range, none co.Twice) refl,
)

-- what holds of a value holds of an answer that is this value, if there is one
pub on_answer : {X E : Type 0} (P : X → Type 0) (value : X) (answer : Result X E) → IfOk answer (λ x. x ≡ value) → P value → IfOk answer P
on_answer P value (Ok x) is holds = subst P (sym is) holds
on_answer P value (Err error) is holds = tt
