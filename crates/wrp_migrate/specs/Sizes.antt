-- How large the text that `migrate` writes is (this project's profile).
use Rattle.std.specs.Prelude.{◌≤◌, ◌+◌, ◌*◌, ◌/◌, max, ℕ, List, [], length}
use Rattle.wrp_io.specs.declared.link.LinkCall.{LinkCall}
use Rattle.wrp_migrate.specs.Migration.{IsWithin, migration}
use Rattle.wrp_records.specs.declared.status.Status.TheVariants.{Done}

-- The most octets that a text of n octets may give. If nothing is listed, 35 octets are written. The rest is the size
-- of a module of version 1 on one line, whose name is one letter and whose numbers are digits: with the comma after
-- it, the module has 40 octets, and 97 are written for it.
abbrev pub most_octets : ℕ → ℕ
most_octets n = max 35 ((97 * n + 144) / 40)

-- no more are written
abbrev pub MigrationSize : Type 0
MigrationSize = (input text : List ℕ) (calls : List LinkCall) → migration.answers input calls Done text
    → length text ≤ most_octets (length input)

-- what is written for a text of at most 108,099 octets may be read again, and migrates to itself
abbrev pub SmallTextsFit : Type 0
SmallTextsFit = (input text : List ℕ) (calls : List LinkCall) → migration.answers input calls Done text
    → length input ≤ 108_099 → IsWithin text × migration.answers text [] Done text
