-- What is reported of checks that come one after another.
use Rattle.std.proofs.Common.{◌≡◌, ◌∙◌, refl, ap, sym, ℕ, zero, suc, ◌+◌, ◌-◌, ◌<◌, ◌≤◌, Bool, true, false, if◌then◌else◌, List, [], ◌∷◌, ◌++◌, map, flat_map, drop, length, slice_index_or, Option, None, Some, option_map, arith}
use Rattle.std.specs.Option.{option_or}
use Rattle.wrp_frame.proofs.Walk.{or_none}
use Rattle.wrp_course.specs.Checks.{Check, first_broken, breach_of, told_of, only_where, needs}
use Rattle.wrp_course.specs.declared.breach.Breach.{Breach}
use Rattle.wrp_course.specs.Setting.{from_on}

first_of : (b : Bool) (c : Check) (rest : Option Check) →
    option_map breach_of (if b then Some c else rest) ≡ option_or (option_map breach_of (if b then Some c else None)) (option_map breach_of rest)
first_of true c rest = refl
first_of false c rest = refl

-- the first of two is reported if it fails, else the second
pub told_cons : (c : Check) (rest : List Check) → told_of (c ∷ rest) ≡ option_or (told_of (c ∷ [])) (told_of rest)
told_cons c rest = first_of c.fails c (first_broken rest)

or_or : {A : Type 0} (a b c : Option A) → option_or a (option_or b c) ≡ option_or (option_or a b) c
or_or None b c = refl
or_or (Some a) b c = refl

pub told_append : (xs ys : List Check) → told_of (xs ++ ys) ≡ option_or (told_of xs) (told_of ys)
told_append [] ys = refl
told_append (c ∷ xs) ys =
    told_cons c (xs ++ ys) ∙ ap (option_or (told_of (c ∷ []))) (told_append xs ys)
    ∙ or_or (told_of (c ∷ [])) (told_of xs) (told_of ys)
    ∙ ap (λ o. option_or o (told_of ys)) (sym (told_cons c xs))

-- three one after another
pub told_three : (a b c : Check) →
    told_of (a ∷ (b ∷ (c ∷ []))) ≡ option_or (option_or (told_of (a ∷ [])) (told_of (b ∷ []))) (told_of (c ∷ []))
told_three a b c =
    told_cons a (b ∷ (c ∷ [])) ∙ ap (option_or (told_of (a ∷ []))) (told_cons b (c ∷ []))
    ∙ or_or (told_of (a ∷ [])) (told_of (b ∷ [])) (told_of (c ∷ []))

-- if what the event needs is there, the other checks are reported
pub told_standing : (xs : List Check) → told_of (xs ++ (needs true ∷ [])) ≡ told_of xs
told_standing xs = told_append xs (needs true ∷ []) ∙ or_none (told_of xs)

-- checks that are made, and checks that are not
pub made : (checks : List Check) → map (only_where true) checks ≡ checks
made [] = refl
made (check ∷ checks) = ap (λ rest. check ∷ rest) (made checks)

pub not_made : (checks : List Check) → told_of (map (only_where false) checks) ≡ None
not_made [] = refl
not_made (check ∷ checks) = not_made checks

pub made_where : (b : Bool) (checks : List Check) → b ≡ true → told_of checks ≡ told_of (map (only_where b) checks)
made_where b checks e = rw e (ap told_of (sym (made checks)))

pub made_one : (b : Bool) (check : Check) → b ≡ true → told_of (check ∷ []) ≡ told_of (only_where b check ∷ [])
made_one b check e = rw e refl

-- the first that fails, and one that does not
pub fails_first : (c : Check) (rest : List Check) → c.fails ≡ true → told_of (c ∷ []) ≡ told_of (c ∷ rest)
fails_first c rest e = rw e refl

pub holds_first : (c : Check) (rest : List Check) → c.fails ≡ false → told_of rest ≡ told_of (c ∷ rest)
holds_first c rest e = rw e refl

-- Loops over checks: what the next element brings

flat_next : {A : Type 0} (f : A → List Check) (xs : List A) (i : ℕ) (d : A) → i < length xs →
    told_of (flat_map f (drop i xs)) ≡ option_or (told_of (f (slice_index_or xs i d))) (told_of (flat_map f (drop (suc i) xs)))
flat_next f [] i d h = absurd (omega arith)
flat_next f (x ∷ xs) zero d h = told_append (f x) (flat_map f xs)
flat_next f (x ∷ xs) (suc i) d h = flat_next f xs i d (omega arith)

pub flat_more : {A : Type 0} (f : A → List Check) (xs : List A) (i : ℕ) (d : A) → i < length xs →
    told_of (flat_map f (drop i xs)) ≡ option_or (told_of (f (slice_index_or xs i d))) (told_of (flat_map f (drop (i + 1) xs)))
flat_more f xs i d h =
    let next : suc i ≡ i + 1 = omega arith in
    flat_next f xs i d h ∙ ap (λ k. option_or (told_of (f (slice_index_or xs i d))) (told_of (flat_map f (drop k xs)))) next

map_next : {A : Type 0} (f : A → Check) (xs : List A) (i : ℕ) (d : A) → i < length xs →
    told_of (map f (drop i xs)) ≡ option_or (told_of (f (slice_index_or xs i d) ∷ [])) (told_of (map f (drop (suc i) xs)))
map_next f [] i d h = absurd (omega arith)
map_next f (x ∷ xs) zero d h = told_cons (f x) (map f xs)
map_next f (x ∷ xs) (suc i) d h = map_next f xs i d (omega arith)

pub map_more : {A : Type 0} (f : A → Check) (xs : List A) (i : ℕ) (d : A) → i < length xs →
    told_of (map f (drop i xs)) ≡ option_or (told_of (f (slice_index_or xs i d) ∷ [])) (told_of (map f (drop (i + 1) xs)))
map_more f xs i d h =
    let next : suc i ≡ i + 1 = omega arith in
    map_next f xs i d h ∙ ap (λ k. option_or (told_of (f (slice_index_or xs i d) ∷ [])) (told_of (map f (drop k xs)))) next

-- an element of which something is reported ends the loop, and one of which nothing is reported leaves the rest
pub ends : (a whole rest b : Option Breach) (breach : Breach) → b ≡ whole → b ≡ option_or a rest → a ≡ Some breach → Some breach ≡ whole
ends a whole rest b breach e f g = sym (sym e ∙ f ∙ ap (λ o. option_or o rest) g)

pub goes_on : (a whole rest b : Option Breach) → b ≡ whole → b ≡ option_or a rest → a ≡ None → rest ≡ whole
goes_on a whole rest b e f g = sym (ap (λ o. option_or o rest) g) ∙ sym f ∙ e

-- nothing is left
pub flat_end : {A : Type 0} (f : A → List Check) (xs : List A) (i : ℕ) → length xs ≤ i → told_of (flat_map f (drop i xs)) ≡ None
flat_end f [] zero h = refl
flat_end f [] (suc i) h = refl
flat_end f (x ∷ xs) zero h = absurd (omega arith)
flat_end f (x ∷ xs) (suc i) h = flat_end f xs i (omega arith)

pub map_end : {A : Type 0} (f : A → Check) (xs : List A) (i : ℕ) → length xs ≤ i → told_of (map f (drop i xs)) ≡ None
map_end f [] zero h = refl
map_end f [] (suc i) h = refl
map_end f (x ∷ xs) zero h = absurd (omega arith)
map_end f (x ∷ xs) (suc i) h = map_end f xs i (omega arith)

pub bits_end : (f : ℕ → Check) (i : ℕ) → 64 ≤ i → told_of (map f (from_on (64 - i) i)) ≡ None
bits_end f i h =
    let e : 64 - i ≡ 0 = omega arith in
    ap (λ k. told_of (map f (from_on k i))) e

pub numbers_more : (f : ℕ → Check) (k i : ℕ) →
    told_of (map f (from_on (suc k) i)) ≡ option_or (told_of (f i ∷ [])) (told_of (map f (from_on k (i + 1))))
numbers_more f k i = told_cons (f i) (map f (from_on k (i + 1)))

pub bits_more : (f : ℕ → Check) (i : ℕ) → i < 64 →
    told_of (map f (from_on (64 - i) i)) ≡ option_or (told_of (f i ∷ [])) (told_of (map f (from_on (64 - (i + 1)) (i + 1))))
bits_more f i h =
    let e : 64 - i ≡ suc (64 - (i + 1)) = omega arith in
    ap (λ k. told_of (map f (from_on k i))) e ∙ numbers_more f (64 - (i + 1)) i
