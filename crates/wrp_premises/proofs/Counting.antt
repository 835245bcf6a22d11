-- The first check that fails, for numbers one after another, and for a list as for its places.
use Rattle.std.proofs.Common.{◌≡◌, ◌∙◌, refl, ap, ap₂, sym, ℕ, suc, ◌+◌, ◌-◌, ◌<◌, ◌≤◌, List, [], ◌∷◌, ◌++◌, map, flat_map, length, Option, None, Some, slice_get, arith}
use Rattle.std.specs.Option.{option_or}
use Rattle.wrp_base.proofs.Naturals.{plus_zero}
use Rattle.wrp_course.specs.Checks.{Check, told_of}
use Rattle.wrp_course.specs.declared.breach.Breach.{Breach}
use Rattle.wrp_course.specs.Setting.{from_on}
use Rattle.wrp_course.proofs.Told.{told_append, told_cons}

-- a loop over numbers: what the next number adds, and what is left at the end
pub range_more : (f : ℕ → List Check) (count i : ℕ) → i < count →
    told_of (flat_map f (from_on (count - i) i)) ≡ option_or (told_of (f i)) (told_of (flat_map f (from_on (count - (i + 1)) (i + 1))))
range_more f count i h =
    let e : count - i ≡ suc (count - (i + 1)) = omega arith in
    ap (λ k. told_of (flat_map f (from_on k i))) e ∙ told_append (f i) (flat_map f (from_on (count - (i + 1)) (i + 1)))

pub range_end : (f : ℕ → List Check) (count i : ℕ) → count ≤ i → told_of (flat_map f (from_on (count - i) i)) ≡ None
range_end f count i h =
    let e : count - i ≡ 0 = omega arith in
    ap (λ k. told_of (flat_map f (from_on k i))) e

next : (first k : ℕ) → first + suc k ≡ (first + 1) + k
next first k = omega arith

-- a list, and its places
pub map_numbers : {A : Type 0} (f : A → Check) (g : ℕ → Check) (xs : List A) (first : ℕ) →
    ((k : ℕ) (x : A) → slice_get xs k ≡ Some x → f x ≡ g (first + k)) → map f xs ≡ map g (from_on (length xs) first)
map_numbers f g [] first h = refl
map_numbers f g (x ∷ xs) first h =
    ap₂ (λ c cs. c ∷ cs) (h 0 x refl ∙ ap g (plus_zero first))
    (map_numbers f g xs (first + 1) (λ k y e. h (suc k) y e ∙ ap g (next first k)))

pub flat_numbers : {A : Type 0} (f : A → List Check) (g : ℕ → List Check) (xs : List A) (first : ℕ) →
    ((k : ℕ) (x : A) → slice_get xs k ≡ Some x → f x ≡ g (first + k)) → flat_map f xs ≡ flat_map g (from_on (length xs) first)
flat_numbers f g [] first h = refl
flat_numbers f g (x ∷ xs) first h =
    ap₂ (λ c cs. c ++ cs) (h 0 x refl ∙ ap g (plus_zero first))
    (flat_numbers f g xs (first + 1) (λ k y e. h (suc k) y e ∙ ap g (next first k)))

-- two lists of checks: the first that fails is in the first list, or in the second
pub told_first : (xs ys : List Check) (breach : Breach) → Some breach ≡ told_of xs → Some breach ≡ told_of (xs ++ ys)
told_first xs ys breach e = ap (λ o. option_or o (told_of ys)) e ∙ sym (told_append xs ys)

pub told_later : (xs ys : List Check) (r : Option Breach) → None ≡ told_of xs → r ≡ told_of ys → r ≡ told_of (xs ++ ys)
told_later xs ys r e f = f ∙ ap (λ o. option_or o (told_of ys)) e ∙ sym (told_append xs ys)

-- one check, and then two lists
pub told_middle : (a : Check) (xs ys : List Check) →
    told_of (a ∷ (xs ++ ys)) ≡ option_or (option_or (told_of (a ∷ [])) (told_of xs)) (told_of ys)
told_middle a xs ys = told_append (a ∷ xs) ys ∙ ap (λ o. option_or o (told_of ys)) (told_cons a xs)

joined : (xs ys zs : List Check) → xs ++ (ys ++ zs) ≡ (xs ++ ys) ++ zs
joined [] ys zs = refl
joined (x ∷ xs) ys zs = ap (λ l. x ∷ l) (joined xs ys zs)

regroup : (b c d e : List Check) → b ++ (c ++ (d ++ e)) ≡ ((b ++ c) ++ d) ++ e
regroup b c d e = joined b c (d ++ e) ∙ joined (b ++ c) d e

-- one check, and then four lists
pub told_five : (a : Check) (b c d e : List Check) →
    told_of (a ∷ (b ++ (c ++ (d ++ e))))
    ≡ option_or (option_or (option_or (option_or (told_of (a ∷ [])) (told_of b)) (told_of c)) (told_of d)) (told_of e)
told_five a b c d e =
    ap (λ l. told_of (a ∷ l)) (regroup b c d e)
    ∙ told_append (((a ∷ b) ++ c) ++ d) e
    ∙ ap (λ o. option_or o (told_of e)) (told_append ((a ∷ b) ++ c) d
    ∙ ap (λ o. option_or o (told_of d)) (told_append (a ∷ b) c ∙ ap (λ o. option_or o (told_of c)) (told_cons a b)))
