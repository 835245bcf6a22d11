-- The rows of a calibration text, and the order of its places (this project's profile).
use Rattle.std.specs.Prelude.{◌+◌, ℕ, ℤ, pos, negsuc, unsigned_abs, List, [], ◌∷◌, Option, Some, None, option_and_then, codes, take, if◌then◌else◌}
use Rattle.std.specs.Option.{is_some, option_or}
use Rattle.std.specs.Ordering.{int_eq}
use Rattle.toml.specs.Data.{Data, Members, as_integer, get_member}
use Rattle.wrp_caldb.specs.Key.{Key, required_key, optional_key, number_key, default_key, name_key}
use Rattle.wrp_caldb.specs.Place.{PlaceAt}
use Rattle.wrp_caldb.specs.Repeats.{place_of_name, place_of_pair}
use Rattle.wrp_caldb.specs.Rows.{number_in, tables_at}
use Rattle.wrp_caldb.specs.Refusal.{place_of_keys, place_of_others, place_in_table, on_table, first_among, IsLeast, HasNone}
use Rattle.wrp_caldb.specs.declared.place.At.TheVariants as tables
use Rattle.wrp_caldb.specs.declared.row.Code.{Code}
use Rattle.wrp_caldb.specs.declared.row.Linear.{Linear}
use Rattle.wrp_caldb.specs.declared.row.Sort.TheVariants as so
use Rattle.wrp_caldb.specs.declared.keys.Version.{Version}
use Rattle.wrp_caldb.specs.declared.keys.Version.TheVariants.{One, Two}
use Rattle.wrp_caldb.specs.declared.keys.Others.{Others}
use Rattle.wrp_caldb.specs.declared.keys.Others.TheVariants.{Refused, Ignored}

-- the rows

-- the version of the text, 1 if it is missing
abbrev pub version_key : Key
version_key = default_key (codes "version") (pos 1) (pos 2) (pos 1)

-- the modules, which may be missing
abbrev pub module_key : Key
module_key = optional_key (codes "module") (so.Tables 0 None)

-- the fibres, which may be missing
abbrev pub fibre_key : Key
fibre_key = optional_key (codes "fibre") (so.Tables 0 None)

-- the keys of the text itself
abbrev pub top_keys : List Key
top_keys = version_key ∷ module_key ∷ fibre_key ∷ []

-- a transmission delay, in tau
abbrev pub tx_key : Key
tx_key = number_key (codes "tx") (pos 0) (pos 1_000_000_000_000)

-- a reception delay, in tau
abbrev pub rx_key : Key
rx_key = number_key (codes "rx") (pos 0) (pos 1_000_000_000_000)

-- the tag at which a new period begins, in detector steps
abbrev pub transition_key : Key
transition_key = number_key (codes "transition") (pos 0) (pos 16383)

-- how far each true delay may be from its entry, in tau
abbrev pub module_err_key : Key
module_err_key = number_key (codes "err") (pos 0) (pos 1_000_000_000)

-- the name of a module
abbrev pub module_name_key : Key
module_name_key = required_key (codes "name") so.ModuleName

-- a module of version 1 has its numbers next to its name, one of version 2 a list of pairs
abbrev pub module_keys : Version → List Key
module_keys One = module_name_key ∷ tx_key ∷ rx_key ∷ transition_key ∷ module_err_key ∷ []
module_keys Two = module_name_key ∷ required_key (codes "pair") (so.Tables 1 (Some 16)) ∷ []

-- the wavelength that a module sends, in nm
abbrev pub tx_nm_key : Key
tx_nm_key = required_key (codes "tx_nm") so.Wavelength

-- the second wavelength of a pair whose first one is this
abbrev pub rx_nm_key : Option ℤ → Key
rx_nm_key first = required_key (codes "rx_nm") (so.SecondWavelength first)

-- the first wavelength of a pair
abbrev pub first_wavelength : Members → Option ℤ
first_wavelength pair = option_and_then as_integer (get_member (codes "tx_nm") pair)

-- the keys of a pair
abbrev pub pair_keys : Members → List Key
pair_keys pair =
    tx_nm_key ∷ rx_nm_key (first_wavelength pair)
    ∷ tx_key ∷ rx_key ∷ transition_key ∷ module_err_key ∷ []

-- the asymmetry of a fibre, from -2^38 to 2^38
abbrev pub kappa_key : Key
kappa_key = number_key (codes "kappa") (negsuc 274_877_906_943) (pos 274_877_906_944)

-- how far the delay down may be from its part of both ways, in tau
abbrev pub fibre_err_key : Key
fibre_err_key = number_key (codes "err") (pos 1) (pos 1_000_000_000)

-- how far a point may be from the law, in tau, 0 if it is missing
abbrev pub table_err_key : Key
table_err_key = default_key (codes "table_err") (pos 0) (pos 1_000_000_000) (pos 0)

-- the law of this asymmetry, whose points are within this error
abbrev pub linear_law : Option ℤ → Option ℤ → Option Linear
linear_law (Some kappa) (Some err) = Some (record { kappa = kappa; err = unsigned_abs err })
linear_law _ _ = None

-- the law that a fibre's points have to keep to; none if its numbers are out of their ranges
abbrev pub law_of : Members → Option Linear
law_of fibre = linear_law (number_in kappa_key (get_member (codes "kappa") fibre))
    (number_in table_err_key (get_member (codes "table_err") fibre))

-- the points of a fibre, which may be missing
abbrev pub table_key : Option Linear → Key
table_key law = optional_key (codes "table") (so.Points law)

-- the keys of a fibre, before these
abbrev pub linear_keys : Members → List Key → List Key
linear_keys fibre more =
    name_key ∷ kappa_key ∷ fibre_err_key ∷ table_key (law_of fibre) ∷ more

-- `table_err` is a key only if `table` is there
abbrev pub fibre_keys : Members → List Key
fibre_keys fibre =
    linear_keys fibre (if is_some (get_member (codes "table") fibre) then table_err_key ∷ [] else [])

-- a text is of version 2 if it says so, else of version 1
abbrev pub version_in : Option ℤ → Version
version_in None = One
version_in (Some z) = if int_eq z (pos 2) then Two else One

-- the version of a text
abbrev pub version_of : Members → Version
version_of doc = version_in (option_and_then as_integer (get_member (codes "version") doc))

-- the order of places

-- the first place of a code in a pair of module n, with m pairs before it
abbrev pub place_in_pair : Code → ℕ → List Data → ℕ → Members → Option PlaceAt
place_in_pair code n pairs m table =
    option_or (place_in_table code (tables.Pair n (m + 1)) (pair_keys table) table)
    (place_of_pair code (tables.Pair n (m + 1)) (take m pairs) table)

-- in the pairs of module n; a module of version 1 has none
abbrev pub place_in_pairs : Version → Code → ℕ → List Data → Option PlaceAt
place_in_pairs One code n pairs = None
place_in_pairs Two code n pairs =
    first_among (λ m d. on_table (place_in_pair code n pairs m) d) 0 pairs

-- in a module with n modules before it: its own keys, then its pairs
abbrev pub place_in_module : Version → Code → List Data → ℕ → Members → Option PlaceAt
place_in_module version code modules n table =
    option_or (place_in_table code (tables.Module (n + 1)) (module_keys version) table)
    (option_or (place_of_name code (tables.Module (n + 1)) (take n modules) table)
    (place_in_pairs version code (n + 1) (tables_at (codes "pair") table)))

-- in a fibre with n fibres before it
abbrev pub place_in_fibre : Code → List Data → ℕ → Members → Option PlaceAt
place_in_fibre code fibres n table =
    option_or (place_in_table code (tables.Fibre (n + 1)) (fibre_keys table) table)
    (place_of_name code (tables.Fibre (n + 1)) (take n fibres) table)

-- in the modules, each in its turn
abbrev pub place_in_modules : Version → Code → List Data → Option PlaceAt
place_in_modules version code modules =
    first_among (λ n d. on_table (place_in_module version code modules n) d) 0 modules

-- in the fibres, each in its turn
abbrev pub place_in_fibres : Code → List Data → Option PlaceAt
place_in_fibres code fibres =
    first_among (λ n d. on_table (place_in_fibre code fibres n) d) 0 fibres

-- after the top: the key `module`, the modules, the key `fibre`, the fibres
abbrev pub place_in_lists : Code → Members → Option PlaceAt
place_in_lists code doc =
    option_or (place_of_keys code tables.Top (module_key ∷ []) doc)
    (option_or (place_in_modules (version_of doc) code (tables_at (codes "module") doc))
    (option_or (place_of_keys code tables.Top (fibre_key ∷ []) doc)
    (place_in_fibres code (tables_at (codes "fibre") doc))))

-- the top, whose other keys than those of a calibration text are refused or ignored
abbrev pub place_in_top : Others → Code → Members → Option PlaceAt
place_in_top Refused code doc =
    option_or (place_of_others code tables.Top top_keys doc)
    (place_of_keys code tables.Top (version_key ∷ []) doc)
place_in_top Ignored code doc = place_of_keys code tables.Top (version_key ∷ []) doc

-- the first place of a code in a calibration text
abbrev pub first_place : Others → Members → Code → Option PlaceAt
first_place others doc code = option_or (place_in_top others code doc) (place_in_lists code doc)

-- the text is refused for this code at this place
abbrev pub IsRefused : Others → Members → Code → PlaceAt → Type 0
IsRefused others doc code place = IsLeast (first_place others doc) code place

-- the text is accepted
abbrev pub IsAccepted : Others → Members → Type 0
IsAccepted others doc = HasNone (first_place others doc)
