-- The database of a calibration text: what it lists, and what a name and two wavelengths find in it
-- (this project's profile).
use Rattle.std.specs.Prelude.{◌≡◌, ◌==◌, ◌&&◌, ◌∷◌, [], ℕ, ℤ, pos, unsigned_abs, List, Option, Some, None, option_map, option_and_then, unwrap_or, codes, if◌then◌else◌}
use Rattle.std.specs.Option.{option_or}
use Rattle.std.specs.List.{find, filter_map}
use Rattle.toml.specs.Data.{Data, Members, as_table, get_member}
use Rattle.wrp_base.specs.declared.link.Module.{Module}
use Rattle.wrp_base.specs.declared.link.Fibre.{Fibre}
use Rattle.wrp_caldb.specs.Calibration.{tx_key, rx_key, transition_key, module_err_key, tx_nm_key, rx_nm_key, kappa_key, fibre_err_key, table_err_key, version_of, IsAccepted}
use Rattle.wrp_caldb.specs.Key.{Key}
use Rattle.wrp_caldb.specs.Name.{same_name, is_name}
use Rattle.wrp_caldb.specs.Points.{stored_points}
use Rattle.wrp_caldb.specs.Repeats.{name_in}
use Rattle.wrp_caldb.specs.Rows.{number_in, tables_at}
use Rattle.wrp_caldb.specs.declared.database.Entry.{Entry}
use Rattle.wrp_caldb.specs.declared.keys.Others.{Others}
use Rattle.wrp_caldb.specs.declared.keys.Version.{Version}
use Rattle.wrp_caldb.specs.declared.keys.Version.TheVariants.{One, Two}

-- a listed module: its name, and its numbers for each pair of wavelengths
pub record ModuleAt : Type 0 where
  pub name : List ℕ
  pub entries : List Entry

-- the points of a fibre's law, and how far they may be from it
pub record TableAt : Type 0 where
  pub points : List (ℤ × ℤ)
  pub err : ℕ

-- a listed fibre
pub record FibreAt : Type 0 where
  pub name : List ℕ
  pub fibre : Fibre
  pub table : Option TableAt

-- the modules and the fibres in the order of the text
pub record Database : Type 0 where
  pub modules : List ModuleAt
  pub fibres : List FibreAt

-- what a name finds

-- the first entry of these two wavelengths
abbrev pub entry_at : ℕ → ℕ → List Entry → Option Module
entry_at tx rx entries =
    option_map (λ e. e.delays) (find (λ e. (e.tx_nm == tx) && (e.rx_nm == rx)) entries)

-- the entry of the pair, else the entry of 0 and 0, which means any pair
abbrev pub delays_at : List Entry → ℕ → ℕ → Option Module
delays_at entries tx rx = option_or (entry_at tx rx entries) (entry_at 0 0 entries)

-- the numbers of a name for a pair of wavelengths
abbrev pub module_at : Database → List ℕ → ℕ → ℕ → Option Module
module_at db name tx rx =
    option_and_then (λ m. delays_at m.entries tx rx) (find (λ m. same_name m.name name) db.modules)

-- the fibre of a name
abbrev pub fibre_named : Database → List ℕ → Option FibreAt
fibre_named db name = find (λ f. same_name f.name name) db.fibres

-- the asymmetry of a name, and its error
abbrev pub fibre_at : Database → List ℕ → Option Fibre
fibre_at db name = option_map (λ f. f.fibre) (fibre_named db name)

-- the points of a name, and their error
abbrev pub table_at : Database → List ℕ → Option TableAt
table_at db name = option_and_then (λ f. f.table) (fibre_named db name)

-- what a text lists

-- the number at a row's key, or its default; 0 if there is no number of its kind, for which the text is refused
abbrev pub number_at : Key → Members → ℤ
number_at key table = unwrap_or (number_in key (get_member key.name table)) (pos 0)

-- the same, without a sign
abbrev pub natural_at : Key → Members → ℕ
natural_at key table = unsigned_abs (number_at key table)

-- the text if it is a name
abbrev pub name_or_none : Option (List ℕ) → List ℕ
name_or_none None = []
name_or_none (Some name) = if is_name name then name else []

-- the name at `name`; none if there is no name, for which the text is refused
abbrev pub name_at : Members → List ℕ
name_at table = name_or_none (name_in table)

-- the delays of a table
abbrev pub delays_of : Members → Module
delays_of table = record {
  tx = natural_at tx_key table;
  rx = natural_at rx_key table;
  transition = natural_at transition_key table;
  err = natural_at module_err_key table;
}

-- the entry of a pair
abbrev pub entry_of : Members → Entry
entry_of pair = record {
  tx_nm = natural_at tx_nm_key pair;
  rx_nm = natural_at (rx_nm_key None) pair;
  delays = delays_of pair;
}

-- what each table of these values gives
abbrev pub each_table : {X : Type 0} → (Members → X) → List Data → List X
each_table f ds = filter_map (λ d. option_map f (as_table d)) ds

-- a module of version 1 has one entry, for any pair of wavelengths
abbrev pub entries_of : Version → Members → List Entry
entries_of One table = record { tx_nm = 0; rx_nm = 0; delays = delays_of table } ∷ []
entries_of Two table = each_table entry_of (tables_at (codes "pair") table)

-- the module of a table
abbrev pub module_of : Version → Members → ModuleAt
module_of version table = record { name = name_at table; entries = entries_of version table }

-- the stored points, if the fibre has `table`
abbrev pub table_of : Members → Option TableAt
table_of fibre =
    option_map (λ ps. record { points = ps; err = natural_at table_err_key fibre })
    (option_and_then stored_points (get_member (codes "table") fibre))

-- the fibre of a table
abbrev pub fibre_of : Members → FibreAt
fibre_of table = record {
  name = name_at table;
  fibre = record { kappa = number_at kappa_key table; err = natural_at fibre_err_key table };
  table = table_of table;
}

-- the database of a text
abbrev pub database_of : Members → Database
database_of doc = record {
  modules = each_table (module_of (version_of doc)) (tables_at (codes "module") doc);
  fibres = each_table fibre_of (tables_at (codes "fibre") doc);
}

-- the database is the one of an accepted document
abbrev pub IsListed : Database → Type 0
IsListed db = (others : Others) × (doc : Members) × IsAccepted others doc × (db ≡ database_of doc)
