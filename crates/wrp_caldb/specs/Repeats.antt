-- What is there twice: a name among tables of a kind, and the wavelengths of a pair in its module (this project's
-- profile).
use Rattle.std.specs.Prelude.{◌&&◌, ℕ, ℤ, List, Bool, false, Option, Some, None, option_and_then, codes, if◌then◌else◌}
use Rattle.std.specs.Ordering.{int_eq}
use Rattle.std.specs.List.{list_any}
use Rattle.toml.specs.Data.{Data, Members, as_integer, as_str, as_table, get_member}
use Rattle.wrp_caldb.specs.Name.{same_name}
use Rattle.wrp_caldb.specs.Place.{PlaceAt}
use Rattle.wrp_caldb.specs.Refusal.{table_place}
use Rattle.wrp_caldb.specs.declared.place.At.{At}
use Rattle.wrp_caldb.specs.declared.row.Code.{Code}
use Rattle.wrp_caldb.specs.declared.row.Code.TheVariants as co

-- both are there and have the same octets
abbrev pub are_same_texts : Option (List ℕ) → Option (List ℕ) → Bool
are_same_texts (Some a) (Some b) = same_name a b
are_same_texts _ _ = false

-- both are there and are the same number
abbrev pub are_same_numbers : Option ℤ → Option ℤ → Bool
are_same_numbers (Some a) (Some b) = int_eq a b
are_same_numbers _ _ = false

-- the text at `name`
abbrev pub name_in : Members → Option (List ℕ)
name_in table = option_and_then as_str (get_member (codes "name") table)

-- the value is a table with the same name
abbrev pub has_name_of : Members → Data → Bool
has_name_of table d = are_same_texts (option_and_then name_in (as_table d)) (name_in table)

-- the number at a key
abbrev pub integer_in : List ℕ → Members → Option ℤ
integer_in key table = option_and_then as_integer (get_member key table)

-- the two tables have the same number at a key
abbrev pub has_number_of : List ℕ → Members → Data → Bool
has_number_of key table d =
    are_same_numbers (option_and_then (integer_in key) (as_table d)) (integer_in key table)

-- the value is a table with the same two wavelengths
abbrev pub has_wavelengths_of : Members → Data → Bool
has_wavelengths_of table d =
    has_number_of (codes "tx_nm") table d && has_number_of (codes "rx_nm") table d

-- a table's key `name`, if one of the earlier tables has the same name
abbrev pub place_of_name : Code → At → List Data → Members → Option PlaceAt
place_of_name co.UnknownKey at earlier table = None
place_of_name co.Missing at earlier table = None
place_of_name co.Range at earlier table = None
place_of_name co.Twice at earlier table =
    if list_any (has_name_of table) earlier
    then Some (record { at = at; key = Some (codes "name") }) else None

-- a pair, if one of the earlier pairs has the same two wavelengths
abbrev pub place_of_pair : Code → At → List Data → Members → Option PlaceAt
place_of_pair co.UnknownKey at earlier table = None
place_of_pair co.Missing at earlier table = None
place_of_pair co.Range at earlier table = None
place_of_pair co.Twice at earlier table =
    if list_any (has_wavelengths_of table) earlier then Some (table_place at) else None
