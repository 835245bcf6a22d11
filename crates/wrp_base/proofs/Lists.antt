-- Small laws of lists.
use Rattle.std.proofs.Common.{Bool, List, None, Some, [], ap, arith, false, get_or, length, map, refl, suc, true, zero, ℕ, ◌++◌, ◌<◌, ◌∙◌, ◌∷◌, ◌≡◌}
use Rattle.std.proofs.lemmas.Bool.{false_from_ne_true, lt-ltb}
use Rattle.std.proofs.lemmas.List.Sums.{position_or_len_is}
use Rattle.std.proofs.lemmas.Option.{get_or_from_slice_get, slice_get-get_or, slice_get_within}
use Rattle.std.specs.List.{AllByRecursion, position, position_or_len}
use Rattle.std.specs.Prelude.{find, slice_get}

pub has_item : {X : Type 0} (xs : List X) (n : ℕ) → n < length xs → (x : X) × (slice_get xs n ≡ Some x)
has_item [] n below = absurd (omega arith)
has_item (x ∷ xs) zero below = (x, refl)
has_item (x ∷ xs) (suc n) below = has_item xs n (omega arith)

pub all_append : {A : Type 0} (P : A → Type 0) (xs ys : List A) → AllByRecursion P xs → AllByRecursion P ys → AllByRecursion P (xs ++ ys)
all_append P [] ys h k = k
all_append P (x ∷ xs) ys h k = (h.0, all_append P xs ys h.1 k)

pub length_map : {X Y : Type 0} (f : X → Y) (xs : List X) → length (map f xs) ≡ length xs
length_map f [] = refl
length_map f (x ∷ xs) = let rest = length_map f xs in omega (arith, rest)

pub found_at : {X : Type 0} (p : X → Bool) (xs : List X) (x : X) → find p xs ≡ Some x → (i : ℕ) × (slice_get xs i ≡ Some x)
found_at p [] x found = absurd (cc)
found_at p (y ∷ ys) x found =
    elim (p y) as (λ b. p y ≡ b → (i : ℕ) × (slice_get (y ∷ ys) i ≡ Some x)) [
      | true ↦ λ is. (0, rw is at found)
      | false ↦ λ is. let later : (i : ℕ) × (slice_get ys i ≡ Some x) = found_at p ys x (rw is at found) in (suc later.0, later.1)
    ] refl

pub all_weaker : {A : Type 0} (P Q : A → Type 0) → ((x : A) → P x → Q x) → (xs : List A) → AllByRecursion P xs → AllByRecursion Q xs
all_weaker P Q f [] h = tt
all_weaker P Q f (x ∷ xs) h = (f x h.0, all_weaker P Q f xs h.1)

pub head_and_tail : {A : Type 0} (x y : A) (xs ys : List A) → x ∷ xs ≡ y ∷ ys → (x ≡ y) × (xs ≡ ys)
head_and_tail x y xs ys e = (cc, cc)

pub append_assoc : {A : Type 0} (xs ys zs : List A) → (xs ++ ys) ++ zs ≡ xs ++ (ys ++ zs)
append_assoc [] ys zs = refl
append_assoc (x ∷ xs) ys zs = ap (λ l. x ∷ l) (append_assoc xs ys zs)

pub first_is : {X : Type 0} (p : X → Bool) (xs : List X) (n : ℕ) (x : X) → slice_get xs n ≡ Some x → p x ≡ true
    → ((i : ℕ) (y : X) → slice_get xs i ≡ Some y → p y ≡ true → i ≡ n) → position p xs ≡ Some n
first_is p xs n x e is only =
    let below : n < length xs = slice_get_within xs n x e in
    let at : position_or_len p xs ≡ n =
    position_or_len_is p xs n x (omega arith)
    (λ k before. false_from_ne_true (p (get_or xs k x)) (λ t.
    let same = only k (get_or xs k x) (slice_get-get_or xs k x (omega arith)) t in absurd (omega (arith, same, before))))
    (λ l. ap p (get_or_from_slice_get xs n x x e) ∙ is) in
    rw (at, lt-ltb n (length xs) below) refl

pub first_passed : {X : Type 0} (p : X → Bool) (x : X) (xs : List X) → find p (x ∷ xs) ≡ None → (p x ≡ false) × (find p xs ≡ None)
first_passed p x xs none =
    elim (p x) as (λ b. p x ≡ b → (p x ≡ false) × (find p xs ≡ None)) [
      | true ↦ λ is. let found : Some x ≡ None = rw is at none in absurd (cc)
      | false ↦ λ is. (is, rw is at none)
    ] refl

pub passes_first : {X : Type 0} (p : X → Bool) (x : X) (xs : List X) → p x ≡ false → find p xs ≡ None → find p (x ∷ xs) ≡ None
passes_first p x xs here rest = rw (here, rest) refl

pub heads : {A : Type 0} (x y : A) (xs ys : List A) → x ∷ xs ≡ y ∷ ys → x ≡ y
heads x y xs ys e = cc

pub tails : {A : Type 0} (x y : A) (xs ys : List A) → x ∷ xs ≡ y ∷ ys → xs ≡ ys
tails x y xs ys e = cc
