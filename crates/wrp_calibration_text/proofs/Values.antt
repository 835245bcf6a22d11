-- The values of an array and the keys of a table, with the items and members that they represent.
use Rattle.std.proofs.Common.{◌≡◌, ◌&&◌, ◌||◌, not, ℕ, List, [], ◌∷◌, Bool, false, map, take, String, Global, refl, ap, ◌∙◌}
use Rattle.std.proofs.lemmas.List.{take-map}
use Rattle.std.specs.Prelude.{string_bytes}
use Rattle.std.specs.List.{list_all, list_any}
use Rattle.toml.specs.Data.{Data}
use Rattle.toml.specs.View.{items_of, members_view}
use Rattle.toml.specs.declared.value.Value.{Value}
use Rattle.wrp_caldb.specs.Key.{Key}
use Rattle.wrp_caldb.specs.Points.{list_of}
use Rattle.wrp_caldb.specs.Rows.{has_unknown, is_listed}

-- items made of a list have that list
pub list_of-items_of : (ds : List Data) → list_of (items_of ds) ≡ ds
list_of-items_of [] = refl
list_of-items_of (d ∷ ds) = ap (λ (es : List Data). d ∷ es) (list_of-items_of ds)

-- a test of each value's data
pub list_all-map : {X Y : Type 0} (p : Y → Bool) (f : X → Y) (xs : List X) → list_all p (map f xs) ≡ list_all (λ x. p (f x)) xs
list_all-map p f [] = refl
list_all-map p f (x ∷ xs) = ap (λ (b : Bool). p (f x) && b) (list_all-map p f xs)

pub list_any-map : {X Y : Type 0} (p : Y → Bool) (f : X → Y) (xs : List X) → list_any p (map f xs) ≡ list_any (λ x. p (f x)) xs
list_any-map p f [] = refl
list_any-map p f (x ∷ xs) = ap (λ (b : Bool). p (f x) || b) (list_any-map p f xs)

-- one of these keys is not listed
abbrev pub unknown_among : List Key → List (String Global) → Bool
unknown_among keys [] = false
unknown_among keys (name ∷ names) = not (is_listed keys (string_bytes name)) || unknown_among keys names

-- the keys of a table, in the order of its entries
pub any_unknown : (keys : List Key) (es : List (String Global × Value)) → has_unknown keys (members_view es) ≡ unknown_among keys (map (λ e. e.0) es)
any_unknown keys [] = refl
any_unknown keys (e ∷ es) = ap (λ (b : Bool). not (is_listed keys (string_bytes e.0)) || b) (any_unknown keys es)

-- a test of the data of the first values
pub list_any-first : {X Y : Type 0} (p : Y → Bool) (f : X → Y) (n : ℕ) (xs : List X) → list_any p (take n (map f xs)) ≡ list_any (λ x. p (f x)) (take n xs)
list_any-first p f n xs = ap (list_any p) (take-map f n xs) ∙ list_any-map p f (take n xs)
