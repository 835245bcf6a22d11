-- Lists by their places, and numbers one after another.
use Rattle.std.proofs.Common.{◌≡◌, ◌∙◌, refl, ap, sym, subst, ℕ, zero, suc, ◌+◌, ◌-◌, ◌<◌, ◌≤◌, ℤ, Bool, true, false, cond, List, [], ◌∷◌, ◌++◌, length, map, find, fold, replicate, take, drop, remove, slice_set, None, Some, option_map, nat_lt, slice_get, arith}
use Rattle.std.proofs.Math.Seq.{take-suc-set}
use Rattle.std.proofs.lemmas.Option.{none-some, same_Some}
use Rattle.wrp_plant.specs.Plant.{Each}
use Rattle.wrp_course.specs.Setting.{from_on}

-- Places

-- a place is set
pub each_set : {A : Type 0} (P Q : ℕ → A → Type 0) (xs : List A) (n : ℕ) (y : A) → Each P xs → Q n y → ((m : ℕ) (x : A) → (m ≡ n → ⊥) → P m x → Q m x) →
    Each Q (slice_set xs n y)
each_set P Q [] n y h q f m x e = absurd (none-some x e)
each_set P Q (z ∷ xs) zero y h q f zero x e = subst (Q 0) (same_Some y x e) q
each_set P Q (z ∷ xs) zero y h q f (suc m) x e = f (suc m) x (λ k. omega (arith, k)) (h (suc m) x e)
each_set P Q (z ∷ xs) (suc n) y h q f zero x e = f 0 x (λ k. omega (arith, k)) (h zero x e)
each_set P Q (z ∷ xs) (suc n) y h q f (suc m) x e =
    each_set (λ i. P (suc i)) (λ i. Q (suc i)) xs n y (λ i v g. h (suc i) v g) q
    (λ i v k p. f (suc i) v (λ g. k (omega (arith, g))) p) m x e

-- Numbers from a first one on

pub find_more : (p : ℕ → Bool) (count i : ℕ) → i < count →
    find p (from_on (count - i) i) ≡ cond (p i) (Some i) (find p (from_on (count - (i + 1)) (i + 1)))
find_more p count i h =
    let e : count - i ≡ suc (count - (i + 1)) = omega arith in
    ap (λ k. find p (from_on k i)) e

pub find_end : (p : ℕ → Bool) (count i : ℕ) → count ≤ i → find p (from_on (count - i) i) ≡ None
find_end p count i h =
    let e : count - i ≡ 0 = omega arith in
    ap (λ k. find p (from_on k i)) e

pub found_at : (p : ℕ → Bool) (count i : ℕ) → i < count → p i ≡ true → find p (from_on (count - i) i) ≡ Some i
found_at p count i h e = find_more p count i h ∙ ap (λ b. cond b (Some i) (find p (from_on (count - (i + 1)) (i + 1)))) e

pub passed_at : (p : ℕ → Bool) (count i : ℕ) → i < count → p i ≡ false → find p (from_on (count - i) i) ≡ find p (from_on (count - (i + 1)) (i + 1))
passed_at p count i h e = find_more p count i h ∙ ap (λ b. cond b (Some i) (find p (from_on (count - (i + 1)) (i + 1)))) e

-- those that are skipped do not pass
pub skipped : (p : ℕ → Bool) (count start : ℕ) → ((i : ℕ) → i < start → i < count → p i ≡ false) →
    find p (from_on (count - start) start) ≡ find p (from_on count 0)
skipped p count zero h =
    let all : count - 0 ≡ count = omega arith in
    ap (λ (k : ℕ). find p (from_on k 0)) all
skipped p count (suc i) h = by_test (nat_lt i count) refl ∙ skipped p count i (λ j l m. h j (omega (arith, l)) m) where
  by_test : (b : Bool) → nat_lt i count ≡ b → find p (from_on (count - suc i) (suc i)) ≡ find p (from_on (count - i) i)
  by_test true e =
      let below : i < count = grind arith in
      let next : suc i ≡ i + 1 = omega arith in
      ap (λ (k : ℕ). find p (from_on (count - k) k)) next ∙ sym (passed_at p count i below (h i (omega arith) below))
  by_test false e =
      let most : count ≤ i = grind arith in
      find_end p count (suc i) (omega (arith, most)) ∙ sym (find_end p count i most)

pub find_map : {A B : Type 0} (p : B → Bool) (f : A → B) (xs : List A) → find p (map f xs) ≡ option_map f (find (λ x. p (f x)) xs)
find_map p f [] = refl
find_map p f (x ∷ xs) =
    elim (p (f x)) as (λ b. cond b (Some (f x)) (find p (map f xs)) ≡ option_map f (cond b (Some x) (find (λ y. p (f y)) xs))) [
      | true ↦ refl
      | false ↦ find_map p f xs
    ]

-- one more number at the end
pub map_more : {A : Type 0} (f : ℕ → A) (first i : ℕ) → map f (from_on (i + 1) first) ≡ map f (from_on i first) ++ (f (first + i) ∷ [])
map_more f first zero =
    let e : first ≡ first + 0 = omega arith in
    ap (λ n. f n ∷ []) e
map_more f first (suc i) =
    let e : suc i + 1 ≡ suc (i + 1) = omega arith in
    let k : (first + 1) + i ≡ first + suc i = omega arith in
    ap (λ n. map f (from_on n first)) e
    ∙ ap (λ l. f first ∷ l) (map_more f (first + 1) i ∙ ap (λ n. map f (from_on i (first + 1)) ++ (f n ∷ [])) k)

pub fold_more : {A : Type 0} (g : A → ℕ → A) (best : A) (count i : ℕ) → i < count →
    fold g best (from_on (count - i) i) ≡ fold g (g best i) (from_on (count - (i + 1)) (i + 1))
fold_more g best count i h =
    let e : count - i ≡ suc (count - (i + 1)) = omega arith in
    ap (λ k. fold g best (from_on k i)) e

pub fold_end : {A : Type 0} (g : A → ℕ → A) (best : A) (count i : ℕ) → count ≤ i → fold g best (from_on (count - i) i) ≡ best
fold_end g best count i h =
    let e : count - i ≡ 0 = omega arith in
    ap (λ k. fold g best (from_on k i)) e

pub fold_append : (g : ℤ → ℤ → ℤ) (best : ℤ) (xs ys : List ℤ) → fold g best (xs ++ ys) ≡ fold g (fold g best xs) ys
fold_append g best [] ys = refl
fold_append g best (x ∷ xs) ys = fold_append g (g best x) xs ys

-- one more place of a list is set
pub take_next : (f : ℕ → ℤ) (xs : List ℤ) (i : ℕ) (y : ℤ) → i < length xs → y ≡ f i → take i xs ≡ map f (from_on i 0) →
    take (i + 1) (slice_set xs i y) ≡ map f (from_on (i + 1) 0)
take_next f xs i y h e is =
    let next : i + 1 ≡ suc i = omega arith in
    let plain : i ≡ 0 + i = omega arith in
    ap (λ (k : ℕ). take k (slice_set xs i y)) next
    ∙ take-suc-set xs i y h
    ∙ ap (λ (l : List ℤ). l ++ (y ∷ [])) is
    ∙ ap (λ (z : ℤ). map f (from_on i 0) ++ (z ∷ [])) (e ∙ ap f plain)
    ∙ sym (map_more f 0 i)

-- What is taken out of a list

pub drop_at : {A : Type 0} (xs : List A) (i : ℕ) (x : A) → slice_get xs i ≡ Some x → drop i xs ≡ x ∷ drop (i + 1) xs
drop_at [] i x e = absurd (none-some x e)
drop_at (z ∷ xs) zero x e = ap (λ y. y ∷ xs) (same_Some z x e)
drop_at (z ∷ xs) (suc i) x e =
    let k : suc (i + 1) ≡ suc i + 1 = omega arith in
    drop_at xs i x e ∙ ap (λ n. x ∷ drop n (z ∷ xs)) k

pub take_removed : {A : Type 0} (xs : List A) (i : ℕ) → take i (remove xs i) ≡ take i xs
take_removed xs zero = refl
take_removed [] (suc i) = refl
take_removed (x ∷ xs) (suc i) = ap (λ l. x ∷ l) (take_removed xs i)

drop_none : {A : Type 0} (n : ℕ) → drop n (let none : List A = [] in none) ≡ []
drop_none zero = refl
drop_none (suc n) = refl

pub drop_removed : {A : Type 0} (xs : List A) (i : ℕ) → drop i (remove xs i) ≡ drop (i + 1) xs
drop_removed [] zero = refl
drop_removed (x ∷ xs) zero = refl
drop_removed [] (suc i) = sym (drop_none (suc i + 1))
drop_removed (x ∷ xs) (suc i) =
    let k : suc (i + 1) ≡ suc i + 1 = omega arith in
    drop_removed xs i ∙ ap (λ n. drop n (x ∷ xs)) k

pub take_more : {A : Type 0} (xs : List A) (i : ℕ) (x : A) → slice_get xs i ≡ Some x → take (i + 1) xs ≡ take i xs ++ (x ∷ [])
take_more [] i x e = absurd (none-some x e)
take_more (z ∷ xs) zero x e = ap (λ y. y ∷ []) (same_Some z x e)
take_more (z ∷ xs) (suc i) x e =
    let k : suc i + 1 ≡ suc (i + 1) = omega arith in
    ap (λ n. take n (z ∷ xs)) k ∙ ap (λ l. z ∷ l) (take_more xs i x e)

-- Lists of one value

pub taken_alike : {A : Type 0} (x : A) (n m first : ℕ) → n ≤ m → take n (replicate m x) ≡ map (λ (k : ℕ). x) (from_on n first)
taken_alike x zero m first h = refl
taken_alike x (suc n) zero first h = absurd (omega (arith, h))
taken_alike x (suc n) (suc m) first h = ap (λ l. x ∷ l) (taken_alike x n m (first + 1) (omega (arith, h)))
