-- The names that a pass over some values has met, and the repeats that it finds with them (this project's profile).
use Rattle.std.specs.Prelude.{◌≡◌, ℕ, List, Bool, false, Option, Some, option_and_then}
use Rattle.std.specs.Borrow.{Bor}
use Rattle.std.specs.BTreeSet.{BTreeSet, contains_by}
use Rattle.std.specs.Cmp.Lexicographic.{slice_cmp}
use Rattle.std.specs.List.{list_any}
use Rattle.std.specs.Option.{option_map_or}
use Rattle.std.specs.Ordering.{nat_cmp}
use Rattle.toml.specs.Data.{Data, Members, as_table}
use Rattle.wrp_caldb.specs.Repeats.{are_same_texts, name_in, has_name_of}
use Rattle.wrp_caldb.specs.declared.row.Code.{Code}
use Rattle.wrp_caldb.specs.declared.row.Code.TheVariants as co

-- the text at `name` of a value that is a table
abbrev pub name_of_value : Data → Option (List ℕ)
name_of_value d = option_and_then name_in (as_table d)

-- the value is a table with this name
abbrev pub is_called : List ℕ → Data → Bool
is_called name d = are_same_texts (name_of_value d) (Some name)

-- the value is a table with the name of an earlier one
abbrev pub repeats_name : List Data → Data → Bool
repeats_name earlier d =
    option_map_or (λ table. list_any (has_name_of table) earlier) (as_table d) false

-- the text is one of the names
abbrev pub is_met : List ℕ → BTreeSet (Bor (List ℕ)) → Bool
is_met name names = contains_by (λ k. slice_cmp nat_cmp name k.now) names

-- the names are those of the tables among these values
abbrev pub AreNamesOf : BTreeSet (Bor (List ℕ)) → List Data → Type 0
AreNamesOf names values = (name : List ℕ) → is_met name names ≡ list_any (is_called name) values

-- the names are kept if the code is `Twice`
abbrev pub AreMet : Code → BTreeSet (Bor (List ℕ)) → List Data → Type 0
AreMet code names values = code ≡ co.Twice → AreNamesOf names values

-- if the code is `Twice`, a table's name is reported as the name of an earlier table if and only if it is
abbrev pub IsTold : Code → List Data → Members → Bool → Type 0
IsTold code earlier table repeats =
    code ≡ co.Twice → repeats ≡ list_any (has_name_of table) earlier
