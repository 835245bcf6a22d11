-- Loops that append the lines of one element after the other.
use Rattle.std.proofs.Common.{◌≡◌, ◌∙◌, sym, ap, ℕ, ◌+◌, ◌<◌, ◌≤◌, List, ◌++◌, length, get_or, drop, append_assoc, append-nil}
use Rattle.std.proofs.lemmas.List.{drop_more, drop_all}
use Rattle.std.specs.List.{flat_map}

-- what a text still lacks of the whole is what the elements from the i-th on give
abbrev pub Lacks : {X : Type 0} → (X → List ℕ) → List X → ℕ → List ℕ → List ℕ → Type 0
Lacks f xs i text all = text ++ flat_map f (drop i xs) ≡ all

pub lacks_less : {X : Type 0} (f : X → List ℕ) (xs : List X) (i : ℕ) (d : X) (text now all : List ℕ) → i < length xs → Lacks f xs i text all → now ≡ text ++ f (get_or xs i d) → Lacks f xs (i + 1) now all
lacks_less f xs i d text now all h is more =
    ap (λ t. t ++ flat_map f (drop (i + 1) xs)) more
    ∙ append_assoc text (f (get_or xs i d)) (flat_map f (drop (i + 1) xs))
    ∙ sym (ap (λ part. text ++ flat_map f part) (drop_more xs i d h)) ∙ is

pub lacks_none : {X : Type 0} (f : X → List ℕ) (xs : List X) (i : ℕ) (text all : List ℕ) → length xs ≤ i → Lacks f xs i text all → text ≡ all
lacks_none f xs i text all h is = sym (append-nil text) ∙ sym (ap (λ part. text ++ flat_map f part) (drop_all i xs h)) ∙ is
