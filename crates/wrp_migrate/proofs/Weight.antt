-- The weight of a table: a text of it has at least half as many octets, less one. The weight counts each octet that the
-- text cannot do without twice: keys, `=`, quotes, brackets and what ends a value; of a number half its digits.
use Rattle.std.specs.Prelude.{◌+◌, ◌*◌, ℕ, List, length}
use Rattle.std.specs.Fmt.{signed_decimal}
use Rattle.toml.specs.Data.{Data, string, integer, array, table, Items, no_items, item, Members, no_members, member}

-- what an inline table has more than its members: two braces
abbrev pub brace_weight : Data → ℕ
brace_weight (table ms) = 4
brace_weight _ = 0

-- a key, with `=`; the key of a table may stand in front of many
abbrev pub key_weight : List ℕ → Data → ℕ
key_weight k (table ms) = 0
key_weight k _ = 2 * length k + 2

abbrev mutual
  pub weight : Data → ℕ
  weight (string s) = 2 * length s + 6
  weight (integer z) = length (signed_decimal z) + 3
  weight (array ds) = 4 + items_weight ds
  weight (table ms) = members_weight ms
  weight _ = 0

  pub items_weight : Items → ℕ
  items_weight no_items = 0
  items_weight (item d ds) = (brace_weight d + weight d) + items_weight ds

  pub members_weight : Members → ℕ
  members_weight no_members = 0
  members_weight (member k d ms) = (key_weight k d + weight d) + members_weight ms
