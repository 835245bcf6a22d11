-- What is true of each element of a list and its place.
use Rattle.std.proofs.Common.{◌≡◌, refl, subst, ℕ, zero, suc, ◌+◌, ◌<◌, ◌==◌, List, [], ◌∷◌, ◌++◌, length, Some, slice_get, arith}
use Rattle.std.proofs.lemmas.Option.{none-some, same_Some}
use Rattle.wrp_plant.specs.Plant.{Each}

pub each_none : {A : Type 0} (P : ℕ → A → Type 0) → Each P []
each_none P n x e = absurd (none-some x e)

pub length_push : {A : Type 0} (xs : List A) (y : A) → length (xs ++ (y ∷ [])) ≡ length xs + 1
length_push [] y = refl
length_push (x ∷ xs) y = let h : length (xs ++ (y ∷ [])) ≡ length xs + 1 = length_push xs y in omega (arith, h)

-- one more element at the end
pub each_push : {A : Type 0} (P : ℕ → A → Type 0) (xs : List A) (y : A) → Each P xs → P (length xs) y → Each P (xs ++ (y ∷ []))
each_push P [] y h p zero x e = subst (P 0) (same_Some y x e) p
each_push P [] y h p (suc n) x e = absurd (none-some x e)
each_push P (z ∷ xs) y h p zero x e = h zero x e
each_push P (z ∷ xs) y h p (suc n) x e = each_push (λ m. P (suc m)) xs y (λ m v f. h (suc m) v f) p n x e

pub each_of : {A : Type 0} (P Q : ℕ → A → Type 0) (xs : List A) → ((n : ℕ) (x : A) → P n x → Q n x) → Each P xs → Each Q xs
each_of P Q xs f h n x e = f n x (h n x e)

-- each place of a list has an element
pub at_place : {A : Type 0} (xs : List A) (n : ℕ) (x : A) → slice_get xs n ≡ Some x → n < length xs
at_place [] n x e = absurd (none-some x e)
at_place (z ∷ xs) zero x e = omega arith
at_place (z ∷ xs) (suc n) x e = let h : n < length xs = at_place xs n x e in omega (arith, h)

-- two numbers are equal in either order
pub turned_about : (a b : ℕ) → (a == b) ≡ (b == a)
turned_about a b = grind arith
