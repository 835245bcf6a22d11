-- Lists in which each element comes from the element at the same place.
use Rattle.std.proofs.Common.{◌≡◌, ◌∙◌, refl, ap, sym, subst, ℕ, zero, suc, ◌+◌, ◌<◌, ◌≤◌, ◌==◌, ◌⊎◌, inl, inr, Bool, true, false, List, [], ◌∷◌, length, slice_set, slice_get, slice_index_or, Some, arith}
use Rattle.std.proofs.lemmas.Option.{slice_get-get_or, slice_get_within, none-some, same_Some}
use Rattle.std.proofs.lemmas.Bool.{eqb-true}
use Rattle.wrp_changes.specs.Moves.{EachBecame, Where, At, Stays}
use Rattle.wrp_plant.specs.Plant.{Each}
use Rattle.wrp_plant.proofs.EachLists.{each_of}
use Rattle.wrp_course.proofs.LinkPorts.{other_number}

pub length_put : {A : Type 0} (xs : List A) (i : ℕ) (v : A) → length (slice_set xs i v) ≡ length xs
length_put [] i v = refl
length_put (x ∷ xs) zero v = refl
length_put (x ∷ xs) (suc i) v = ap suc (length_put xs i v)

pub put_here : {A : Type 0} (xs : List A) (i : ℕ) (v y : A) → slice_get (slice_set xs i v) i ≡ Some y → y ≡ v
put_here [] i v y e = absurd (none-some y e)
put_here (x ∷ xs) zero v y e = same_Some y v (sym e)
put_here (x ∷ xs) (suc i) v y e = put_here xs i v y e

pub put_else : {A : Type 0} (xs : List A) (i n : ℕ) (v : A) → (n ≡ i → ⊥) → slice_get (slice_set xs i v) n ≡ slice_get xs n
put_else [] i n v h = refl
put_else (x ∷ xs) zero zero v h = absurd (h refl)
put_else (x ∷ xs) zero (suc n) v h = refl
put_else (x ∷ xs) (suc i) zero v h = refl
put_else (x ∷ xs) (suc i) (suc n) v h = put_else xs i n v (λ e. h (ap suc e))

-- a loop has come to place i: the elements before it have changed, the others are as they were
pub record TurnedTo {A : Type 0} (R : ℕ → A → A → Type 0) (xs ys : List A) (i : ℕ) : Type 0 where
  pub count : length ys ≡ length xs
  pub done : (n : ℕ) (y : A) → n < i → slice_get ys n ≡ Some y → (x : A) × (slice_get xs n ≡ Some x) × R n x y
  pub left : (n : ℕ) → i ≤ n → slice_get ys n ≡ slice_get xs n

split_up : (n i : ℕ) → (n ≡ i) ⊎ (n < i) → (suc n ≡ suc i) ⊎ (suc n < suc i)
split_up n i (inl e) = inl (ap suc e)
split_up n i (inr h) = inr (omega arith)

pub split : (n i : ℕ) → n < suc i → (n ≡ i) ⊎ (n < i)
split zero zero h = inl refl
split zero (suc i) h = inr (omega arith)
split (suc n) zero h = absurd (omega arith)
split (suc n) (suc i) h = split_up n i (split n i (omega arith))

-- the element that the one at this place came from
abbrev pub Came : {A : Type 0} → (ℕ → A → A → Type 0) → List A → ℕ → A → Type 0
Came {A} R xs n y = (x : A) × (slice_get xs n ≡ Some x) × R n x y

came_here : {A : Type 0} (R : ℕ → A → A → Type 0) (xs ys : List A) (i : ℕ) (d v y : A) → i < length ys →
    R i (slice_index_or ys i d) v → TurnedTo R xs ys i → slice_get (slice_set ys i v) i ≡ Some y → Came R xs i y
came_here R xs ys i d v y h r t e =
    (slice_index_or ys i d, sym (t.left i (omega arith)) ∙ slice_get-get_or ys i d h, subst (R i (slice_index_or ys i d)) (sym (put_here ys i v y e)) r)

came_by : {A : Type 0} (R : ℕ → A → A → Type 0) (xs ys : List A) (i n : ℕ) (d v y : A) → i < length ys →
    R i (slice_index_or ys i d) v → TurnedTo R xs ys i → (n ≡ i) ⊎ (n < i) → slice_get (slice_set ys i v) n ≡ Some y → Came R xs n y
came_by R xs ys i n d v y h r t (inl e) f =
    subst (λ k. slice_get (slice_set ys i v) k ≡ Some y → Came R xs k y) (sym e) (came_here R xs ys i d v y h r t) f
came_by R xs ys i n d v y h r t (inr l) f =
    t.done n y l (sym (put_else ys i n v (λ e. omega (arith, e, l))) ∙ f)

turned_suc : {A : Type 0} (R : ℕ → A → A → Type 0) (xs ys : List A) (i : ℕ) (d v : A) → i < length ys →
    R i (slice_index_or ys i d) v → TurnedTo R xs ys i → TurnedTo R xs (slice_set ys i v) (suc i)
turned_suc R xs ys i d v h r t = record {
  count = length_put ys i v ∙ t.count;
  done = λ n y l e. came_by R xs ys i n d v y h r t (split n i l) e;
  left = λ n l. put_else ys i n v (λ e. omega (arith, e, l)) ∙ t.left n (omega (arith, l));
}

pub turned_next : {A : Type 0} (R : ℕ → A → A → Type 0) (xs ys : List A) (i : ℕ) (x v : A) → i < length ys → x ≡ slice_index_or ys i x →
    R i x v → TurnedTo R xs ys i → TurnedTo R xs (slice_set ys i v) (i + 1)
turned_next R xs ys i x v h e r t =
    let next : suc i ≡ i + 1 = omega arith in
    subst (TurnedTo R xs (slice_set ys i v)) next (turned_suc R xs ys i x v h (subst (λ y. R i y v) e r) t)

pub turned_all : {A : Type 0} (R : ℕ → A → A → Type 0) (xs ys : List A) (i : ℕ) → length ys ≤ i → TurnedTo R xs ys i → EachBecame R xs ys
turned_all R xs ys i h t = (t.count, λ n y e. let l : n < length ys = slice_get_within ys n y e in t.done n y (omega (arith, h, l)) e)

-- the elements that the loop has not reached are as they were
pub still : {A : Type 0} (R : ℕ → A → A → Type 0) (xs ys : List A) (i : ℕ) (x : A) → i < length ys → x ≡ slice_index_or ys i x →
    TurnedTo R xs ys i → slice_get xs i ≡ Some x
still R xs ys i x h e t = sym (t.left i (omega arith)) ∙ slice_get-get_or ys i x h ∙ ap (λ y. Some y) (sym e)

-- if R leads from P to Q, and P holds of each element, Q holds of each that it became
pub each_turned : {A : Type 0} (R : ℕ → A → A → Type 0) (P Q : ℕ → A → Type 0) (xs ys : List A) → EachBecame R xs ys →
    ((n : ℕ) (x y : A) → R n x y → P n x → Q n y) → Each P xs → Each Q ys
each_turned R P Q xs ys t f p n y e = let it : Came R xs n y = t.1 n y e in f n it.0 y it.2 (p n it.0 it.1)

pub all_stay : {A : Type 0} (xs : List A) → EachBecame Stays xs xs
all_stay xs = (refl, λ n y e. (y, e, refl))

at_one : {A : Type 0} (C : A → A → Type 0) (xs : List A) (i n : ℕ) (d v y : A) (b : Bool) → (n == i) ≡ b → i < length xs →
    C (slice_index_or xs i d) v → slice_get (slice_set xs i v) n ≡ Some y → Came (λ k. Where b C) xs n y
at_one C xs i n d v y true e h r f =
    let same : n ≡ i = eqb-true n i e in (
      slice_index_or xs i d,
      ap (slice_get xs) same ∙ slice_get-get_or xs i d h,
      subst (C (slice_index_or xs i d)) (sym (put_here xs i v y (sym (ap (slice_get (slice_set xs i v)) same) ∙ f))) r,
    )
at_one C xs i n d v y false e h r f =
    (y, sym (put_else xs i n v (other_number n i e)) ∙ f, refl)

pub turned_at : {A : Type 0} (C : A → A → Type 0) (xs : List A) (i : ℕ) (d v : A) → i < length xs →
    C (slice_index_or xs i d) v → EachBecame (At i C) xs (slice_set xs i v)
turned_at C xs i d v h r =
    (length_put xs i v, λ n y e. at_one C xs i n d v y (n == i) refl h r e)

pub turned_place : {A : Type 0} (C : A → A → Type 0) (xs : List A) (i k : ℕ) (x v : A) → i ≡ k → i < length xs → x ≡ slice_index_or xs i x →
    C x v → EachBecame (At k C) xs (slice_set xs i v)
turned_place C xs i k x v same h e r =
    subst (λ j. EachBecame (At j C) xs (slice_set xs i v)) same (turned_at C xs i x v h (subst (λ y. C y v) e r))

pub each_same : {A : Type 0} (P Q : ℕ → A → Type 0) (xs ys : List A) → ys ≡ xs → ((n : ℕ) (x : A) → P n x → Q n x) → Each P xs → Each Q ys
each_same P Q xs ys e f p = subst (Each Q) (sym e) (each_of P Q xs f p)
