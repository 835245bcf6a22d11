-- Where a text is refused: the first place of each code, and the least code that has one (this
-- project's profile).
use Rattle.std.specs.Prelude.{◌≡◌, ◌<◌, ◌+◌, ◌∷◌, [], if◌then◌else◌, ℕ, List, Option, Some, None, option_and_then}
use Rattle.std.specs.Option.{option_or}
use Rattle.toml.specs.Data.{Data, Members, as_table}
use Rattle.wrp_caldb.specs.Key.{Key}
use Rattle.wrp_caldb.specs.Place.{PlaceAt}
use Rattle.wrp_caldb.specs.Rows.{first_key, has_unknown}
use Rattle.wrp_caldb.specs.declared.place.At.{At}
use Rattle.wrp_caldb.specs.declared.row.Code.{Code}
use Rattle.wrp_caldb.specs.declared.row.Code.TheVariants as co

-- the place of a key of a table, if there is one
abbrev pub key_place : At → Option (List ℕ) → Option PlaceAt
key_place at None = None
key_place at (Some name) = Some (record { at = at; key = Some name })

-- the place of a table as a whole
abbrev pub table_place : At → PlaceAt
table_place at = record { at = at; key = None }

-- the first of a table's keys with a fault of this code
abbrev pub place_of_keys : Code → At → List Key → Members → Option PlaceAt
place_of_keys code at keys table = key_place at (first_key code keys table)

-- the table, if it has a key that is none of these
abbrev pub place_of_others : Code → At → List Key → Members → Option PlaceAt
place_of_others co.UnknownKey at keys table =
    if has_unknown keys table then Some (table_place at) else None
place_of_others co.Missing at keys table = None
place_of_others co.Range at keys table = None
place_of_others co.Twice at keys table = None

-- the first place of a code in a table with these rows: the table, then its keys in their order
abbrev pub place_in_table : Code → At → List Key → Members → Option PlaceAt
place_in_table code at keys table =
    option_or (place_of_others code at keys table) (place_of_keys code at keys table)

-- what a table gives, if the value is one
abbrev pub on_table : (Members → Option PlaceAt) → Data → Option PlaceAt
on_table f d = option_and_then f (as_table d)

-- the first place that one of these values gives, each with how many values come before it
abbrev pub first_among : (ℕ → Data → Option PlaceAt) → ℕ → List Data → Option PlaceAt
first_among f n [] = None
first_among f n (d ∷ ds) = option_or (f n d) (first_among f (n + 1) ds)

-- the number of a code
abbrev pub number_of : Code → ℕ
number_of co.UnknownKey = 2
number_of co.Missing = 3
number_of co.Range = 4
number_of co.Twice = 5

-- if each code has this first place, a text is refused for this code at this place: the least one that has a place, at
-- the first such place
abbrev pub IsLeast : (Code → Option PlaceAt) → Code → PlaceAt → Type 0
IsLeast first code place = (first code ≡ Some place)
    × ((lower : Code) → number_of lower < number_of code → first lower ≡ None)

-- a place together with its code
abbrev pub with_code : Code → Option PlaceAt → Option (Code × PlaceAt)
with_code code None = None
with_code code (Some place) = Some (code, place)

-- the codes tried in turn
abbrev pub least_of : (Code → Option PlaceAt) → Option (Code × PlaceAt)
least_of first = option_or (with_code co.UnknownKey (first co.UnknownKey))
    (option_or (with_code co.Missing (first co.Missing))
    (option_or (with_code co.Range (first co.Range)) (with_code co.Twice (first co.Twice))))

-- no code has a place
abbrev pub HasNone : (Code → Option PlaceAt) → Type 0
HasNone first = (code : Code) → first code ≡ None
