-- A pass over the values of a list: what it found up to one of them, and the names that it met.
use Rattle.std.proofs.Common.{◌≡◌, ◌<◌, ◌+◌, ◌++◌, ◌∷◌, [], ℕ, List, length, take, drop, map, Option, Some, None, get_or, sym, ap, subst, ◌∙◌}
use Rattle.std.proofs.lemmas.List.{drop_more, map_more, take-map}
use Rattle.std.specs.Borrow.{Bor}
use Rattle.std.specs.BTreeSet.{BTreeSet}
use Rattle.std.specs.Option.{option_and_then, option_or}
use Rattle.toml.specs.Data.{Data, Members, as_table}
use Rattle.toml.specs.View.{view}
use Rattle.toml.specs.declared.value.Value.{Value}
use Rattle.wrp_calibration_text.specs.Met.{AreMet}
use Rattle.wrp_caldb.specs.Place.{PlaceAt}
use Rattle.wrp_caldb.specs.Refusal.{first_among, on_table}
use Rattle.wrp_caldb.specs.declared.row.Code.{Code}

-- a table that gives no place, and a value that is no table
pub none_in_table : (f : Members → Option PlaceAt) (d : Data) (table : Members) → Some table ≡ as_table d → None ≡ f table → on_table f d ≡ None
none_in_table f d table is none = ap (option_and_then f) (sym is) ∙ sym none

pub none_beside : (f : Members → Option PlaceAt) (d : Data) → None ≡ as_table d → on_table f d ≡ None
none_beside f d is = ap (option_and_then f) (sym is)

-- the next value gives no place
pub passed : (f : ℕ → Data → Option PlaceAt) (values : List Value) (i : ℕ) (value : Value) (first : Option PlaceAt) → i < length values
    → value ≡ get_or values i value → f i (view value) ≡ None → first ≡ first_among f i (map view (drop i values))
    → first ≡ first_among f (i + 1) (map view (drop (i + 1) values))
passed f values i value first within is none found =
    let rest = map view (drop (i + 1) values) in
    found ∙ ap (λ (vs : List Value). first_among f i (map view vs)) (drop_more values i value within)
    ∙ ap (λ (v : Value). option_or (f i (view v)) (first_among f (i + 1) rest)) (sym is)
    ∙ ap (λ (place : Option PlaceAt). option_or place (first_among f (i + 1) rest)) none

-- the next value's name is met
pub met_next : (code : Code) (names : BTreeSet (Bor (List ℕ))) (values : List Value) (i : ℕ) (value : Value) → i < length values
    → value ≡ get_or values i value → AreMet code names (take i (map view values) ++ view value ∷ []) → AreMet code names (take (i + 1) (map view values))
met_next code names values i value within is met =
    let more = take-map view (i + 1) values ∙ map_more view values i value within
    ∙ ap (λ (v : Value). map view (take i values) ++ view v ∷ []) (sym is) ∙ ap (λ (ds : List Data). ds ++ view value ∷ []) (sym (take-map view i values)) in
    subst (AreMet code names) (sym more) met
