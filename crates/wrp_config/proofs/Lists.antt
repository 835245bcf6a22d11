-- Lists without repeats, what is found in a list, the greatest of a list, and names that are the same.
use Rattle.std.proofs.Common.{◌≡◌, ◌≢◌, ◌<◌, ◌≤◌, ◌+◌, ◌==◌, ℕ, zero, suc, List, [], ◌∷◌, Bool, true, false, None, Some, map, max, fold, length, take, get_or, cond, refl, sym, ap, ap₂, ◌∙◌, inl, inr, arith, eq-eqb}
use Rattle.std.proofs.lemmas.Bool.{and_parts, cases_lt, eqb-true, or_parts}
use Rattle.std.proofs.lemmas.Option.{slice_get-get_or}
use Rattle.std.proofs.lemmas.List.Quantifiers.{position-Some}
use Rattle.std.specs.Prelude.{slice_get, nat_lt, not}
use Rattle.std.specs.List.{AllByRecursion, find, list_any, position, position_or_len}
use Rattle.wrp_base.proofs.Lists.{first_passed, length_map}
use Rattle.wrp_caldb.specs.Name.{same_name}
use Rattle.wrp_config.specs.Accepted.{HasNoRepeat, greatest}

-- what is in a list that is made of another
pub record IsMadeOf {X Y : Type 0} (f : X → Y) (xs : List X) (n : ℕ) (y : Y) : Type 0 where
  pub x : X
  pub at : slice_get xs n ≡ Some x
  pub is : y ≡ f x

pub made_of : {X Y : Type 0} (f : X → Y) (xs : List X) (n : ℕ) (y : Y) → slice_get (map f xs) n ≡ Some y → IsMadeOf f xs n y
made_of f [] n y e = cc e
made_of f (x ∷ xs) zero y e = record { x = x; at = refl; is = cc e }
made_of f (x ∷ xs) (suc n) y e =
    let later = made_of f xs n y e in record { x = later.x; at = later.at; is = later.is }

pub map_at : {X Y : Type 0} (f : X → Y) (xs : List X) (n : ℕ) (x : X) → slice_get xs n ≡ Some x → slice_get (map f xs) n ≡ Some (f x)
map_at f [] n x e = cc e
map_at f (y ∷ xs) zero x e = let same : y ≡ x = cc e in ap (λ z. Some (f z)) same
map_at f (y ∷ xs) (suc n) x e = map_at f xs n x e

-- elements at two places, the one before the other, are different
abbrev pub IsApart : {X : Type 0} → List X → Type 0
IsApart {X} xs =
    (i j : ℕ) (x y : X) → i < j → slice_get xs i ≡ Some x → slice_get xs j ≡ Some y → x ≢ y

-- so no element is there twice
pub apart_once : {X : Type 0} (xs : List X) → IsApart xs → HasNoRepeat xs
apart_once xs apart i j x ei ej =
    elim (cases_lt i j) [
      | inl before ↦ absurd (apart i j x x before ei ej refl)
      | inr rest ↦ elim (cases_lt j i) [
        | inl behind ↦ absurd (apart j i x x behind ej ei refl)
        | inr still ↦ omega (arith, rest, still)
      ]
    ]

-- the same of a list that is made of another
pub apart_of : {X Y : Type 0} (f : X → Y) (xs : List X)
    → ((i j : ℕ) (x y : X) → i < j → slice_get xs i ≡ Some x → slice_get xs j ≡ Some y → f x ≢ f y)
    → HasNoRepeat (map f xs)
apart_of f xs apart = apart_once (map f xs) (λ i j x y before ei ej same.
    let a = made_of f xs i x ei in
    let b = made_of f xs j y ej in
    apart i j a.x b.x before a.at b.at (sym a.is ∙ same ∙ b.is))

-- none passes: not the one at this place
pub none_passes : {X : Type 0} (p : X → Bool) (xs : List X) → list_any p xs ≡ false → (i : ℕ) (x : X) → slice_get xs i ≡ Some x → p x ≡ false
none_passes p [] none i x e = cc e
none_passes p (y ∷ ys) none zero x e =
    let same : y ≡ x = cc e in rw (sym same) (or_parts (p y) (list_any p ys) none).0
none_passes p (y ∷ ys) none (suc i) x e = none_passes p ys (or_parts (p y) (list_any p ys) none).1 i x e

-- the same among the first ones
pub none_before : {X : Type 0} (p : X → Bool) (n : ℕ) (xs : List X) → list_any p (take n xs) ≡ false
    → (i : ℕ) (x : X) → i < n → slice_get xs i ≡ Some x → p x ≡ false
none_before p zero xs none i x h e = absurd (omega (arith, h))
none_before p (suc n) [] none i x h e = cc e
none_before p (suc n) (y ∷ ys) none zero x h e =
    let same : y ≡ x = cc e in rw (sym same) (or_parts (p y) (list_any p (take n ys)) none).0
none_before p (suc n) (y ∷ ys) none (suc i) x h e =
    none_before p n ys (or_parts (p y) (list_any p (take n ys)) none).1 i x (omega (arith, h)) e

-- what is at the first place that passes
pub record IsFoundAt {X : Type 0} (p : X → Bool) (xs : List X) (n : ℕ) : Type 0 where
  pub x : X
  pub at : slice_get xs n ≡ Some x
  pub within : n < length xs
  pub passes : p x ≡ true

pub found_place : {X : Type 0} (p : X → Bool) (xs : List X) (n : ℕ) → position p xs ≡ Some n → IsFoundAt p xs n
found_place p [] n e = cc e
found_place p (d ∷ ds) n e =
    let found = position-Some p (d ∷ ds) n d e in
    record {
      x = get_or (d ∷ ds) n d;
      at = slice_get-get_or (d ∷ ds) n d found.0;
      within = found.0;
      passes = found.1;
    }

-- the greatest is at most what bounds each
greatest_from : (most : ℕ) (xs : List ℕ) (a : ℕ) → a ≤ most → ((i x : ℕ) → slice_get xs i ≡ Some x → x ≤ most) → fold max a xs ≤ most
greatest_from most [] a low each = low
greatest_from most (x ∷ xs) a low each =
    greatest_from most xs (max a x) (let here : x ≤ most = each 0 x refl in omega arith) (λ i. each (suc i))

pub greatest_most : {X : Type 0} (f : X → ℕ) (xs : List X) (most : ℕ) → ((i : ℕ) (x : X) → slice_get xs i ≡ Some x → f x ≤ most)
    → greatest (map f xs) ≤ most
greatest_most f xs most each =
    greatest_from most (map f xs) 0 (omega arith) (λ i y e.
    let of = made_of f xs i y e in rw of.is (each i of.x of.at))

-- the first place in a list that is made of another
not_before : (b : Bool) (m n : ℕ) → m ≡ n → cond b (1 + m) 0 ≡ cond b (1 + n) 0
not_before b m n e = ap (λ k. cond b (1 + k) 0) e

first-map : {X Y : Type 0} (p : Y → Bool) (f : X → Y) (xs : List X) → position_or_len p (map f xs) ≡ position_or_len (λ x. p (f x)) xs
first-map p f [] = refl
first-map p f (x ∷ xs) = not_before (not (p (f x))) _ _ (first-map p f xs)

pub position-map : {X Y : Type 0} (p : Y → Bool) (f : X → Y) (xs : List X) → position p (map f xs) ≡ position (λ x. p (f x)) xs
position-map p f xs = ap₂ (λ k n. cond (nat_lt k n) (Some k) None) (first-map p f xs) (length_map f xs)

-- nothing found: each fails the test
pub none_at : {X : Type 0} (p : X → Bool) (xs : List X) → find p xs ≡ None → AllByRecursion (λ x. p x ≡ false) xs
none_at p [] e = tt
none_at p (x ∷ xs) e = let parts = first_passed p x xs e in (parts.0, none_at p xs parts.1)

-- names of the same octets
pub same_refl : (a : List ℕ) → same_name a a ≡ true
same_refl [] = refl
same_refl (c ∷ cs) = rw (eq-eqb c c refl, same_refl cs) refl

pub same_is : (a b : List ℕ) → same_name a b ≡ true → a ≡ b
same_is [] [] e = refl
same_is [] (d ∷ ds) e = cc e
same_is (c ∷ cs) [] e = cc e
same_is (c ∷ cs) (d ∷ ds) e =
    let parts = and_parts (c == d) (same_name cs ds) e in
    ap₂ (λ x xs. x ∷ xs) (eqb-true c d parts.0) (same_is cs ds parts.1)
