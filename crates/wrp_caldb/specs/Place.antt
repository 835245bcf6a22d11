-- A place of a text: a table, or a key of it, as a refusal's line writes it (this project's
-- profile).
use Rattle.std.specs.Prelude.{◌++◌, ℕ, List, Option, None, Some, codes, decimal}
use Rattle.wrp_caldb.specs.declared.place.At.TheVariants as tables
use Rattle.wrp_caldb.specs.declared.place.At.{At}

-- a table, and a key of it or none
pub record PlaceAt : Type 0 where
  pub at : At
  pub key : Option (List ℕ)

-- a table by its kind and its number
abbrev pub table_text : At → List ℕ
table_text tables.Top = codes "top"
table_text tables.Network = codes "network"
table_text (tables.Node n) = codes "node." ++ decimal n
table_text (tables.Link n) = codes "link." ++ decimal n
table_text (tables.Module n) = codes "module." ++ decimal n
table_text (tables.Pair n m) = codes "module." ++ decimal n ++ codes ".pair." ++ decimal m
table_text (tables.Fibre n) = codes "fibre." ++ decimal n

-- a key of the top by its name alone, another by its table and its name
abbrev pub key_text : At → List ℕ → List ℕ
key_text tables.Top key = key
key_text at key = table_text at ++ codes "." ++ key

-- a table or a key of it
abbrev pub text_of : At → Option (List ℕ) → List ℕ
text_of at None = table_text at
text_of at (Some key) = key_text at key

-- how a place is written
abbrev pub place_text : PlaceAt → List ℕ
place_text place = text_of place.at place.key
