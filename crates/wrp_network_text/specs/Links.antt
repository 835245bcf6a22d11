-- The rows of a link: in addition to being of its sort, a value may have to name a node, or a module or fibre that is
-- listed (this project's profile).
use Rattle.std.specs.Prelude.{◌||◌, not, ℕ, ℤ, pos, List, [], ◌∷◌, Bool, true, false, Option, Some, None, codes, option_map, option_and_then, map}
use Rattle.std.specs.Option.{is_some, option_or}
use Rattle.std.specs.Ordering.{int_eq}
use Rattle.std.specs.List.{find}
use Rattle.toml.specs.Data.{Data, Members, as_integer, as_str, get_member}
use Rattle.wrp_caldb.specs.Database.{Database, fibre_at, module_at, natural_at}
use Rattle.wrp_caldb.specs.Key.{Key, required_key, optional_key, defaulted_key, name_key}
use Rattle.wrp_caldb.specs.Place.{PlaceAt}
use Rattle.wrp_caldb.specs.Refusal.{key_place, place_of_others}
use Rattle.wrp_caldb.specs.Rows.{has_fault}
use Rattle.wrp_caldb.specs.declared.place.At.{At}
use Rattle.wrp_caldb.specs.declared.row.Code.{Code}
use Rattle.wrp_caldb.specs.declared.row.Code.TheVariants as co
use Rattle.wrp_caldb.specs.declared.row.Sort.TheVariants as so
use Rattle.wrp_network_text.specs.Ends.{end_of_value}
use Rattle.wrp_network_text.specs.declared.link_rows.Names.{Names}
use Rattle.wrp_network_text.specs.declared.link_rows.Names.TheVariants as na

-- a row of a link, and what its value has to name
pub record LinkKey : Type 0 where
  pub key : Key
  pub names : Names

-- the wavelength of the way down, in nm: 0 for any
abbrev pub down_key : Key
down_key = defaulted_key (codes "down_nm") so.Wavelength (pos 0)

-- the wavelength of the way up, if the wavelength of the way down is this
abbrev pub up_key : Option ℤ → Key
up_key first = defaulted_key (codes "up_nm") (so.SecondWavelength first) (pos 0)

-- the number for the way down; 0 if the key is missing
abbrev pub first_of : Option Data → Option ℤ
first_of None = Some (pos 0)
first_of (Some d) = as_integer d

-- the first wavelength of a link
abbrev pub first_in : Members → Option ℤ
first_in link = first_of (get_member (codes "down_nm") link)

-- the wavelength of a link's way down, in nm: 0 for any
abbrev pub down_in : Members → ℕ
down_in link = natural_at down_key link

-- the wavelength of a link's way up, in nm: 0 for any
abbrev pub up_in : Members → ℕ
up_in link = natural_at (up_key (first_in link)) link

-- whether the link may leave plain PTP, which is so if the key is missing
abbrev pub wr_key : Key
wr_key = optional_key (codes "wr") so.Flag

-- the upper end, which gives the time: a port of a node
abbrev pub upper_key : Key
upper_key = required_key (codes "upper") so.Text

-- the lower end, which follows the upper one: a port of a node
abbrev pub lower_key : Key
lower_key = required_key (codes "lower") so.Text

-- the fibre
abbrev pub fibre_key : Key
fibre_key = required_key (codes "fibre") so.Name

-- the module at the upper end
abbrev pub upper_module_key : Key
upper_module_key = required_key (codes "upper_module") so.ModuleName

-- the module at the lower end
abbrev pub lower_module_key : Key
lower_module_key = required_key (codes "lower_module") so.ModuleName

-- the rows
abbrev pub link_keys : Members → List LinkKey
link_keys link =
    record { key = name_key; names = na.Nothing }
    ∷ record { key = upper_key; names = na.Node }
    ∷ record { key = lower_key; names = na.Node }
    ∷ record { key = fibre_key; names = na.Fibre }
    ∷ record { key = upper_module_key; names = na.UpperModule }
    ∷ record { key = lower_module_key; names = na.LowerModule }
    ∷ record { key = wr_key; names = na.Nothing }
    ∷ record { key = down_key; names = na.Nothing }
    ∷ record { key = up_key (first_in link); names = na.Up }
    ∷ []

-- what the names of a link are looked up in: the tables of the nodes, and what the file lists
pub record Context : Type 0 where
  pub nodes : List Data
  pub db : Database

-- the value is the name of a listed fibre
abbrev pub names_fibre : Database → Data → Bool
names_fibre db d = is_some (option_and_then (fibre_at db) (as_str d))

-- the value is the name of a module that is listed for a pair of wavelengths
abbrev pub names_module : Database → ℕ → ℕ → Data → Bool
names_module db tx rx d = is_some (option_and_then (λ name. module_at db name tx rx) (as_str d))

-- the value names what it has to: the upper end sends on the way down
abbrev pub names_one : Context → Members → Names → Data → Bool
names_one file link na.Nothing d = true
names_one file link na.Node d = is_some (end_of_value file.nodes d)
names_one file link na.Fibre d = names_fibre file.db d
names_one file link na.UpperModule d = names_module file.db (down_in link) (up_in link) d
names_one file link na.LowerModule d = names_module file.db (up_in link) (down_in link) d
names_one file link na.Up d = true

-- the wavelength means any, or is no number
abbrev pub is_any : Option ℤ → Bool
is_any None = true
is_any (Some z) = int_eq z (pos 0)

-- the key may be missing: the key of the way up if the way down has any wavelength
abbrev pub may_be_missing : Members → Names → Bool
may_be_missing link na.Nothing = true
may_be_missing link na.Node = true
may_be_missing link na.Fibre = true
may_be_missing link na.UpperModule = true
may_be_missing link na.LowerModule = true
may_be_missing link na.Up = is_any (first_in link)

-- a value that names nothing is out of its range, and so is a default that does not fit
abbrev pub is_stray : Code → Bool → (Data → Bool) → Option Data → Bool
is_stray co.UnknownKey missing names found = false
is_stray co.Missing missing names found = false
is_stray co.Range missing names None = not missing
is_stray co.Range missing names (Some d) = not (names d)
is_stray co.Twice missing names found = false

-- a row has a fault of this code
abbrev pub has_link_fault : Code → Context → Members → LinkKey → Bool
has_link_fault code file link k =
    has_fault code k.key (get_member k.key.name link)
    || is_stray code (may_be_missing link k.names) (names_one file link k.names) (get_member k.key.name link)

-- the first row with a fault of this code
abbrev pub place_of_link_keys : Code → At → Context → Members → Option PlaceAt
place_of_link_keys code at file link =
    key_place at (option_map (λ k. k.key.name) (find (has_link_fault code file link) (link_keys link)))

-- the link, if it has a key that has no row, or its first row with a fault of this code
abbrev pub place_in_link_table : Code → At → Context → Members → Option PlaceAt
place_in_link_table code at file link =
    option_or (place_of_others code at (map (λ k. k.key) (link_keys link)) link)
    (place_of_link_keys code at file link)
