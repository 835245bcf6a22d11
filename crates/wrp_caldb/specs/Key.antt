-- A row: a key of a table of a TOML text, whether it is needed, and the sort of its value (this
-- project's profile).
use Rattle.std.specs.Prelude.{ℕ, ℤ, List, codes}
use Rattle.wrp_caldb.specs.declared.row.Sort.{Sort}
use Rattle.wrp_caldb.specs.declared.row.Sort.TheVariants as so
use Rattle.wrp_caldb.specs.declared.row.Need.{Need}
use Rattle.wrp_caldb.specs.declared.row.Need.TheVariants as ne

-- a key of a table
pub record Key : Type 0 where
  pub name : List ℕ
  pub need : Need
  pub sort : Sort

-- a key that has to be there
abbrev pub required_key : List ℕ → Sort → Key
required_key name sort = record { name = name; need = ne.Required; sort = sort }

-- the key `name` of a table whose entry has a name
abbrev pub name_key : Key
name_key = required_key (codes "name") so.Name

-- a key that may be missing
abbrev pub optional_key : List ℕ → Sort → Key
optional_key name sort = record { name = name; need = ne.Optional; sort = sort }

-- a key of a whole number from least to greatest that has to be there
abbrev pub number_key : List ℕ → ℤ → ℤ → Key
number_key name least greatest = required_key name (so.Number least greatest)

-- a key of a whole number from least to greatest, with the value used if it is missing
abbrev pub default_key : List ℕ → ℤ → ℤ → ℤ → Key
default_key name least greatest default =
    record { name = name; need = ne.Default default; sort = so.Number least greatest }

-- a key with the value used if it is missing
abbrev pub defaulted_key : List ℕ → Sort → ℤ → Key
defaulted_key name sort default = record { name = name; need = ne.Default default; sort = sort }
