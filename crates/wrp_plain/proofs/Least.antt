-- The lesser of two reports, taken over a list, is the first of the least bound.
use Rattle.std.proofs.Common.{◌≡◌, ◌≢◌, ℤ, ◌+◌, ◌*◌, ◌^◌, ◌≤◌, unsigned_abs, Bool, true, false, not, ◌&&◌, int_lt, cond, length, List, [], ◌∷◌, map, find, fold, Option, Some, None, IfSome, IsSome, rules, refl, ap, ap₂, ◌∙◌, sym, subst, arith}
use Rattle.std.specs.List.{list_all}
use Rattle.std.proofs.lemmas.Int.{ints}
use Rattle.std.proofs.lemmas.Bool.{and_from}
use Rattle.wrp_base.proofs.Booleans.{and_first as left_of, and_second as right_of}
use Rattle.wrp_plain.specs.declared.settings.PlainReport.{PlainReport}
use Rattle.wrp_plain.specs.declared.settings.PlainSet.{PlainSet}
use Rattle.wrp_plain.specs.declared.kept.Kept.{Kept}
use Rattle.wrp_plain.specs.Call.{Standing}
use Rattle.wrp_plain.specs.Report.{report_at, is_least, least_report}
use Rattle.wrp_plain.specs.StandsFor.{PlainAt, marks_from, marks_at, AreKept, HasSmallEst, better}

-- a scan of the kept measurements, with these ones left
pub record Scans (plain : PlainAt) (best : Option PlainReport) (moved : ℤ) (left : List Kept) : Type 0 where
  pub same :
      fold better best (map (report_at plain.set) (marks_from moved plain.ticks left)) ≡
      fold better None (map (report_at plain.set) (marks_at plain))
  pub kept : AreKept plain.ticks left
  pub small_move : unsigned_abs moved + 2 ^ 60 * length left ≤ 2 ^ 67
  pub small_best : IfSome best HasSmallEst

-- orders of bounds
lt_same : (a : ℤ) → int_lt a a ≡ false
lt_same a = grind (arith, ints)

-- if x is below b and r is not above x, then b is not below r
not_above : (b x r : ℤ) → int_lt x b ≡ true → not (int_lt x r) ≡ true → not (int_lt b r) ≡ true
not_above b x r h k = grind (arith, ints)

-- if x is not below b, what is not below r and b is not below it at x
not_below : (b x r : ℤ) → int_lt x b ≡ false → not (int_lt b r) ≡ true → not (int_lt x r) ≡ true
not_below b x r h k = grind (arith, ints)

still_above : (b x r : ℤ) → int_lt x b ≡ false → not (int_lt r x) ≡ true → not (int_lt r b) ≡ true
still_above b x r h k = grind (arith, ints)

and_second : (a b : Bool) → (b ≡ true → a ≡ true) → (a && b) ≡ b
and_second true true h = refl
and_second true false h = refl
and_second false true h = h refl
and_second false false h = refl

and_first : (a b c : Bool) → (a ≡ true → b ≡ true) → (a && (b && c)) ≡ (a && c)
and_first true true c h = refl
and_first true false c h = absurd (cc (h refl))
and_first false b c h = refl

find_agree : {X : Type 0} (p q : X → Bool) → ((x : X) → p x ≡ q x) → (xs : List X) → find p xs ≡ find q xs
find_agree p q agree [] = refl
find_agree p q agree (x ∷ xs) = ap₂ (λ (b : Bool) (rest : Option _). cond b (Some x) rest) (agree x) (find_agree p q agree xs)

-- what is least to x among these is least to b too, if x is not below b
pub least_chain : (b x : ℤ) → int_lt x b ≡ false → (rs : List PlainReport) →
    list_all (λ s. not (int_lt s.bound x)) rs ≡ true → list_all (λ s. not (int_lt s.bound b)) rs ≡ true
least_chain b x h [] all = refl
least_chain b x h (r ∷ rs) all =
    and_from _ _ (still_above b x r.bound h (left_of _ _ all)) (least_chain b x h rs (right_of _ _ all))

skip : {X : Type 0} (at_b at_x : Bool) (b x : X) (rest : Option X) → (at_x ≡ true → at_b ≡ true) →
    cond at_b (Some b) (cond at_x (Some x) rest) ≡ cond at_b (Some b) rest
skip true at_x b x rest h = refl
skip false true b x rest h = absurd (cc (h refl))
skip false false b x rest h = refl

middle_false : (a b c : Bool) → b ≡ false → (a && (b && c)) ≡ false
middle_false true true c h = absurd (cc h)
middle_false true false c h = refl
middle_false false b c h = refl

taken : {X : Type 0} (b : Bool) (x : X) (rest : Option X) → b ≡ false → cond b (Some x) rest ≡ rest
taken true x rest h = absurd (cc h)
taken false x rest h = refl

-- a lesser bound follows: the first one is not the least
step_less : (b x : PlainReport) (rs : List PlainReport) → int_lt x.bound b.bound ≡ true →
    find (is_least (x ∷ rs)) (x ∷ rs) ≡ find (is_least (b ∷ (x ∷ rs))) (b ∷ (x ∷ rs))
step_less b x rs less =
    sym (taken (is_least (b ∷ (x ∷ rs)) b) b (find (is_least (b ∷ (x ∷ rs))) (x ∷ rs))
    (middle_false (not (int_lt b.bound b.bound)) (not (int_lt x.bound b.bound)) (list_all (λ (s : PlainReport). not (int_lt s.bound b.bound)) rs) (ap not less))
    ∙ find_agree (is_least (b ∷ (x ∷ rs))) (is_least (x ∷ rs))
    (λ r. and_second (not (int_lt b.bound r.bound)) (is_least (x ∷ rs) r) (λ least. not_above b.bound x.bound r.bound less (left_of _ _ least)))
    (x ∷ rs))

-- no lesser bound follows: the second one is never the first of the least
step_not_less : (b x : PlainReport) (rs : List PlainReport) → int_lt x.bound b.bound ≡ false →
    find (is_least (b ∷ rs)) (b ∷ rs) ≡ find (is_least (b ∷ (x ∷ rs))) (b ∷ (x ∷ rs))
step_not_less b x rs less =
    sym (find_agree (is_least (b ∷ (x ∷ rs))) (is_least (b ∷ rs))
    (λ r. and_first (not (int_lt b.bound r.bound)) (not (int_lt x.bound r.bound)) (list_all (λ (s : PlainReport). not (int_lt s.bound r.bound)) rs) (λ above. not_below b.bound x.bound r.bound less above))
    (b ∷ (x ∷ rs))
    ∙ skip (is_least (b ∷ rs) b) (is_least (b ∷ rs) x) b x (find (is_least (b ∷ rs)) rs)
    (λ at_x. and_from _ _ (ap not (lt_same b.bound)) (least_chain b.bound x.bound less rs (right_of _ _ at_x))))

by_case : (b x : PlainReport) (rs : List PlainReport) →
    fold better (Some x) rs ≡ find (is_least (x ∷ rs)) (x ∷ rs) → fold better (Some b) rs ≡ find (is_least (b ∷ rs)) (b ∷ rs) →
    (less : Bool) → int_lt x.bound b.bound ≡ less →
    fold better (cond less (Some x) (Some b)) rs ≡ find (is_least (b ∷ (x ∷ rs))) (b ∷ (x ∷ rs))
by_case b x rs at_x at_b true e = at_x ∙ step_less b x rs e
by_case b x rs at_x at_b false e = at_b ∙ step_not_less b x rs e

fold-better : (b : PlainReport) (rs : List PlainReport) → fold better (Some b) rs ≡ find (is_least (b ∷ rs)) (b ∷ rs)
fold-better b [] = rw (lt_same b.bound) refl
fold-better b (x ∷ rs) = by_case b x rs (fold-better x rs) (fold-better b rs) (int_lt x.bound b.bound) refl

pub least_report_is : (rs : List PlainReport) → fold better None rs ≡ least_report rs
least_report_is [] = refl
least_report_is (r ∷ rs) = fold-better r rs

some_case : (b x : PlainReport) (rs : List PlainReport) → IsSome (fold better (Some x) rs) → IsSome (fold better (Some b) rs) →
    (less : Bool) → IsSome (fold better (cond less (Some x) (Some b)) rs)
some_case b x rs at_x at_b true = at_x
some_case b x rs at_x at_b false = at_b

fold-some : (b : PlainReport) (rs : List PlainReport) → IsSome (fold better (Some b) rs)
fold-some b [] = search rules
fold-some b (x ∷ rs) = some_case b x rs (fold-some x rs) (fold-some b rs) (int_lt x.bound b.bound)

-- one of some reports is the least
pub least_report_some : (set : PlainSet) (ms : List Standing) → ms ≢ [] → IsSome (least_report (map (report_at set) ms))
least_report_some set [] some = absurd (some refl)
least_report_some set (m ∷ ms) some =
    let P : Option PlainReport → Type 0 = λ o. IsSome o in
    subst P (least_report_is (map (report_at set) (m ∷ ms))) (fold-some (report_at set m) (map (report_at set) ms))
