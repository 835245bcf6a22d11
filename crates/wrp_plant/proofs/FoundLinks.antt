-- If an element passes a test, the search finds one.
use Rattle.std.proofs.Common.{◌≡◌, refl, ap, sym, ℕ, zero, suc, Bool, true, false, List, [], ◌∷◌, Option, Some, slice_get, if◌then◌else◌, true≢false}
use Rattle.std.specs.List.{find}
use Rattle.std.specs.Option.{is_some, option_map_or}

found_or : {A : Type 0} (b : Bool) (x : A) (rest : Option A) → is_some rest ≡ true → is_some (if b then Some x else rest) ≡ true
found_or true x rest h = refl
found_or false x rest h = h

pub some_found : {A : Type 0} (p : A → Bool) (xs : List A) (k : ℕ) → option_map_or p (slice_get xs k) false ≡ true → is_some (find p xs) ≡ true
some_found p [] k h = absurd (true≢false (sym h))
some_found p (y ∷ xs) zero h = ap (λ b. is_some (if b then Some y else find p xs)) h
some_found p (y ∷ xs) (suc k) h = found_or (p y) y (find p xs) (some_found p xs k h)
