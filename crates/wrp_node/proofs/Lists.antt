-- Lists of ports: what a loop over them has done so far, and what holds of each.
use Rattle.std.proofs.Common.{◌≡◌, ◌∙◌, refl, ap, ap₂, sym, subst, ℕ, suc, zero, ◌+◌, ◌<◌, ◌≤◌, List, [], ◌∷◌, ◌++◌, map, take, drop, length, slice_index_or, slice_set, arith}
use Rattle.std.proofs.lemmas.List.{take_all}
use Rattle.std.specs.List.{AllByRecursion, AllZip}
use Rattle.wrp_base.proofs.Lists.{append_assoc, head_and_tail}

-- a loop has come to the element i: the elements before it are related to what they were, the others are as they were
abbrev pub Done : {A : Type 0} → (A → A → Type 0) → List A → List A → ℕ → Type 0
Done R xs ys i = AllZip R (take i xs) (take i ys) × (drop i ys ≡ drop i xs)

done_next : {A : Type 0} (R : A → A → Type 0) (xs ys : List A) (i : ℕ) (d y : A) → i < length ys → R (slice_index_or ys i d) y → Done R xs ys i → Done R xs (slice_set ys i y) (suc i)
done_next R xs [] i d y h r w = absurd (omega arith)
done_next R [] (z ∷ ys) zero d y h r w = absurd (omega (arith, ap length w.1))
done_next R (x ∷ xs) (z ∷ ys) zero d y h r w =
    let e : (z ≡ x) × (ys ≡ xs) = head_and_tail z x ys xs w.1 in
    ((subst (λ v. R v y) e.0 r, tt), e.1)
done_next R [] (z ∷ ys) (suc i) d y h r w = absurd w.0
done_next R (x ∷ xs) (z ∷ ys) (suc i) d y h r w =
    let rest : Done R xs (slice_set ys i y) (suc i) = done_next R xs ys i d y (omega arith) r (w.0.1, w.1) in
    ((w.0.0, rest.0), rest.1)

pub done_more : {A : Type 0} (R : A → A → Type 0) (xs ys : List A) (i : ℕ) (d y : A) → i < length ys → R (slice_index_or ys i d) y → Done R xs ys i → Done R xs (slice_set ys i y) (i + 1)
done_more R xs ys i d y h r w = let next : suc i ≡ i + 1 = omega arith in subst (λ k. Done R xs (slice_set ys i y) k) next (done_next R xs ys i d y h r w)

pub done_all : {A : Type 0} (R : A → A → Type 0) (xs ys : List A) → Done R xs ys (length ys) → AllZip R xs ys
done_all R [] [] w = tt
done_all R [] (y ∷ ys) w = absurd w.0
done_all R (x ∷ xs) [] w = absurd (omega (arith, ap length w.1))
done_all R (x ∷ xs) (y ∷ ys) w = (w.0.0, done_all R xs ys (w.0.1, w.1))

take_own : {A : Type 0} (xs ys : List A) → take (length xs) (xs ++ ys) ≡ xs
take_own [] ys = refl
take_own (x ∷ xs) ys = ap (λ rest. x ∷ rest) (take_own xs ys)

-- a loop over a list's own elements has come to its end, and leaves them in the list
pub take_front : {A : Type 0} (n : ℕ) (xs ys : List A) → length xs ≡ n → take n (xs ++ ys) ≡ xs
take_front n xs ys e = ap (λ k. take k (xs ++ ys)) (sym e) ∙ take_own xs ys

pub done_over : {A : Type 0} (R : A → A → Type 0) (n i : ℕ) (xs ys zs : List A) → length ys ≡ n → i ≡ length ys → Done R xs ys i → AllZip R xs (take n (ys ++ zs))
done_over R n i xs ys zs e end w =
    subst (λ l. AllZip R xs l) (sym (take_front n ys zs e)) (done_all R xs ys (subst (λ k. Done R xs ys k) end w))

-- what holds of the old ones holds of the new ones
pub zip_all : {A : Type 0} (R : A → A → Type 0) (P Q : A → Type 0) (xs ys : List A) →
    ((x y : A) → R x y → P x → Q y) → AllZip R xs ys → AllByRecursion P xs → AllByRecursion Q ys
zip_all R P Q [] [] f z p = tt
zip_all R P Q [] (y ∷ ys) f z p = absurd z
zip_all R P Q (x ∷ xs) [] f z p = absurd z
zip_all R P Q (x ∷ xs) (y ∷ ys) f z p = (f x y z.0 p.0, zip_all R P Q xs ys f z.1 p.1)

pub zip_map : {A B : Type 0} (R : A → A → Type 0) (g : A → B) (xs ys : List A) →
    ((x y : A) → R x y → g y ≡ g x) → AllZip R xs ys → map g ys ≡ map g xs
zip_map R g [] [] f z = refl
zip_map R g [] (y ∷ ys) f z = absurd z
zip_map R g (x ∷ xs) [] f z = absurd z
zip_map R g (x ∷ xs) (y ∷ ys) f z = ap₂ (λ a b. a ∷ b) (f x y z.0) (zip_map R g xs ys f z.1)

pub all_of : {A : Type 0} (P Q : A → Type 0) (xs : List A) → ((x : A) → P x → Q x) → AllByRecursion P xs → AllByRecursion Q xs
all_of P Q [] f p = tt
all_of P Q (x ∷ xs) f p = (f x p.0, all_of P Q xs f p.1)

-- what a loop has put out so far grows by what the next element puts out
map_more : {A B : Type 0} (f : A → B) (xs : List A) (i : ℕ) (d : A) → i < length xs → map f (take (suc i) xs) ≡ map f (take i xs) ++ (f (slice_index_or xs i d) ∷ [])
map_more f [] i d h = absurd (omega arith)
map_more f (x ∷ xs) zero d h = refl
map_more f (x ∷ xs) (suc i) d h = ap (λ rest. f x ∷ rest) (map_more f xs i d (omega arith))

pub pushed_more : {A B : Type 0} (f : A → B) (xs : List A) (i : ℕ) (d : A) (o : List B) → i < length xs →
    (o ++ map f (take i xs)) ++ (f (slice_index_or xs i d) ∷ []) ≡ o ++ map f (take (i + 1) xs)
pushed_more f xs i d o h =
    let next : suc i ≡ i + 1 = omega arith in
    append_assoc o (map f (take i xs)) (f (slice_index_or xs i d) ∷ []) ∙ ap (λ rest. o ++ rest) (sym (map_more f xs i d h)) ∙ ap (λ k. o ++ map f (take k xs)) next

-- what holds of the elements that a loop has come to holds of one more
all_next : {A : Type 0} (P : A → Type 0) (xs : List A) (i : ℕ) (d : A) → i < length xs → P (slice_index_or xs i d) → AllByRecursion P (take i xs) → AllByRecursion P (take (suc i) xs)
all_next P [] i d h k w = absurd (omega arith)
all_next P (x ∷ xs) zero d h k w = (k, tt)
all_next P (x ∷ xs) (suc i) d h k w = (w.0, all_next P xs i d (omega arith) k w.1)

pub all_more : {A : Type 0} (P : A → Type 0) (xs : List A) (i : ℕ) (d : A) → i < length xs → P (slice_index_or xs i d) → AllByRecursion P (take i xs) → AllByRecursion P (take (i + 1) xs)
all_more P xs i d h k w = let next : suc i ≡ i + 1 = omega arith in subst (λ j. AllByRecursion P (take j xs)) next (all_next P xs i d h k w)

-- one more, related to the next
zip_next : {A B : Type 0} (R : A → B → Type 0) (xs : List A) (ys : List B) (i : ℕ) (d : A) (y : B) → i < length xs → R (slice_index_or xs i d) y → AllZip R (take i xs) ys →
    AllZip R (take (suc i) xs) (ys ++ (y ∷ []))
zip_next R [] ys i d y h r z = absurd (omega arith)
zip_next R (x ∷ xs) [] zero d y h r z = (r, tt)
zip_next R (x ∷ xs) (v ∷ ys) zero d y h r z = absurd z
zip_next R (x ∷ xs) [] (suc i) d y h r z = absurd z
zip_next R (x ∷ xs) (v ∷ ys) (suc i) d y h r z = (z.0, zip_next R xs ys i d y (omega arith) r z.1)

pub zip_more : {A B : Type 0} (R : A → B → Type 0) (xs : List A) (ys : List B) (i : ℕ) (d : A) (y : B) → i < length xs → R (slice_index_or xs i d) y → AllZip R (take i xs) ys →
    AllZip R (take (i + 1) xs) (ys ++ (y ∷ []))
zip_more R xs ys i d y h r z = let next : suc i ≡ i + 1 = omega arith in subst (λ k. AllZip R (take k xs) (ys ++ (y ∷ []))) next (zip_next R xs ys i d y h r z)

pub zip_all_of : {A B : Type 0} (R : A → B → Type 0) (xs : List A) (ys : List B) (i : ℕ) → length xs ≤ i → AllZip R (take i xs) ys → AllZip R xs ys
zip_all_of R xs ys i h z = subst (λ l. AllZip R l ys) (take_all i xs h) z
