-- What the value at a row's key may be, and what a table with rows is refused for (this project's
-- profile).
use Rattle.std.specs.Prelude.{◌&&◌, ◌||◌, not, ℕ, ℤ, pos, List, [], Bool, true, false, Option, Some, None, option_map, option_and_then, length, nat_le, if◌then◌else◌}
use Rattle.std.specs.Option.{is_some}
use Rattle.std.specs.Ordering.{int_eq}
use Rattle.std.specs.List.{find, list_all, list_any}
use Rattle.std.specs.Int.Signed.{le_z}
use Rattle.toml.specs.Data.{Data, Members, no_members, member, as_bool, as_integer, as_str, as_table, get_member}
use Rattle.wrp_caldb.specs.Key.{Key}
use Rattle.wrp_caldb.specs.Name.{same_name, is_name, is_module_name, is_identity}
use Rattle.wrp_caldb.specs.Points.{values_of, stored_points, is_table}
use Rattle.wrp_caldb.specs.declared.row.Sort.{Sort}
use Rattle.wrp_caldb.specs.declared.row.Sort.TheVariants as so
use Rattle.wrp_caldb.specs.declared.row.Need.{Need}
use Rattle.wrp_caldb.specs.declared.row.Need.TheVariants as ne
use Rattle.wrp_caldb.specs.declared.row.Code.{Code}
use Rattle.wrp_caldb.specs.declared.row.Code.TheVariants as co

-- a whole number from least to greatest
abbrev pub in_range : ℤ → ℤ → Option ℤ → Bool
in_range least greatest None = false
in_range least greatest (Some z) = le_z least z && le_z z greatest

-- one of two whole numbers
abbrev pub is_one_of : ℤ → ℤ → Option ℤ → Bool
is_one_of first second None = false
is_one_of first second (Some z) = int_eq z first || int_eq z second

-- a wavelength in nm: 0, or 800 to 1700
abbrev pub is_wavelength : Option ℤ → Bool
is_wavelength None = false
is_wavelength (Some z) = int_eq z (pos 0) || (le_z (pos 800) z && le_z z (pos 1700))

-- this wavelength is 0 if and only if the first one is
abbrev pub fits_first : Option ℤ → Option ℤ → Bool
fits_first (Some first) (Some z) =
    if int_eq first (pos 0) then int_eq z (pos 0) else not (int_eq z (pos 0))
fits_first _ _ = true

-- a text that passes the test
abbrev pub is_text_of : (List ℕ → Bool) → Option (List ℕ) → Bool
is_text_of p None = false
is_text_of p (Some text) = p text

-- at most this many, if there is a limit
abbrev pub is_below : Option ℕ → ℕ → Bool
is_below None n = true
is_below (Some greatest) n = nat_le n greatest

-- only tables, from least to greatest of them
abbrev pub are_tables : ℕ → Option ℕ → List Data → Bool
are_tables least greatest ds =
    list_all (λ d. is_some (as_table d)) ds
    && (nat_le least (length ds) && is_below greatest (length ds))

-- an array of only tables, from least to greatest of them
abbrev pub is_array_of_tables : ℕ → Option ℕ → Option (List Data) → Bool
is_array_of_tables least greatest None = false
is_array_of_tables least greatest (Some ds) = are_tables least greatest ds

-- the value is of this sort
abbrev pub fits_sort : Sort → Data → Bool
fits_sort (so.Number least greatest) d = in_range least greatest (as_integer d)
fits_sort (so.OneOf first second) d = is_one_of first second (as_integer d)
fits_sort so.Identity d = is_text_of is_identity (as_str d)
fits_sort so.Wavelength d = is_wavelength (as_integer d)
fits_sort (so.SecondWavelength first) d =
    is_wavelength (as_integer d) && fits_first first (as_integer d)
fits_sort (so.Points law) d = is_table law (stored_points d)
fits_sort so.Flag d = is_some (as_bool d)
fits_sort so.Text d = is_some (as_str d)
fits_sort so.Name d = is_text_of is_name (as_str d)
fits_sort so.ModuleName d = is_text_of is_module_name (as_str d)
fits_sort so.Table d = is_some (as_table d)
fits_sort (so.Tables least greatest) d = is_array_of_tables least greatest (values_of d)

-- the key has to be there
abbrev pub is_required : Need → Bool
is_required ne.Required = true
is_required ne.Optional = false
is_required (ne.Default n) = false

-- the number used for a missing key
abbrev pub default_of : Need → Option ℤ
default_of ne.Required = None
default_of ne.Optional = None
default_of (ne.Default n) = Some n

-- the number of a value that is of this sort
abbrev pub fitting_number : Sort → Data → Option ℤ
fitting_number sort d = if fits_sort sort d then as_integer d else None

-- the number of a key: a value of its sort, or its default if it is missing
abbrev pub number_in : Key → Option Data → Option ℤ
number_in key None = default_of key.need
number_in key (Some d) = fitting_number key.sort d

-- a row's key, with the value found at it, has a fault of this code
abbrev pub has_fault : Code → Key → Option Data → Bool
has_fault co.UnknownKey key found = false
has_fault co.Missing key None = is_required key.need
has_fault co.Missing key (Some d) = false
has_fault co.Range key None = false
has_fault co.Range key (Some d) = not (fits_sort key.sort d)
has_fault co.Twice key found = false

-- the first of these keys with a fault of this code
abbrev pub first_key : Code → List Key → Members → Option (List ℕ)
first_key code keys table =
    option_map (λ key. key.name) (find (λ key. has_fault code key (get_member key.name table)) keys)

-- one of the keys has this name
abbrev pub is_listed : List Key → List ℕ → Bool
is_listed keys name = list_any (λ key. same_name key.name name) keys

-- the table has a key that is none of these
abbrev pub has_unknown : List Key → Members → Bool
has_unknown keys no_members = false
has_unknown keys (member name d rest) = not (is_listed keys name) || has_unknown keys rest

-- the tables of an array of tables; none if there is another value, or none
abbrev pub all_tables : List Data → List Data
all_tables ds = if list_all (λ d. is_some (as_table d)) ds then ds else []

-- the tables of an array
abbrev pub tables_of : Option (List Data) → List Data
tables_of None = []
tables_of (Some ds) = all_tables ds

-- the tables of the array at a key
abbrev pub tables_at : List ℕ → Members → List Data
tables_at key table = tables_of (option_and_then values_of (get_member key table))
