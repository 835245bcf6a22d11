-- The text of version 2 as which a database is written (this project's profile).
use Rattle.std.specs.Prelude.{◌≡◌, ℕ, ℤ, pos, List, Option, Some, None, map, min, codes, false, Result, Ok, Err}
use Rattle.std.specs.Ordering.{nat_cmp, match_ordering}
use Rattle.std.specs.Cmp.Lexicographic.{slice_cmp}
use Rattle.toml.specs.Data.{Data, string, integer, array, table, no_items, item, Members, no_members, member}
use Rattle.toml.specs.Text.{IsDocumentText}
use Rattle.toml.specs.View.{items_of}
use Rattle.wrp_caldb.specs.Database.{Database, ModuleAt, FibreAt, TableAt, IsListed}
use Rattle.wrp_base.specs.declared.fault.ConfFault.{ConfFault}
use Rattle.wrp_base.specs.declared.fault.ConfFault.TheVariants.{Fault, Memory}
use Rattle.wrp_caldb.specs.declared.database.Entry.{Entry}

-- a whole number of a text, which has at most 63 bits
abbrev pub number : ℕ → Data
number n = integer (pos (min n 9_223_372_036_854_775_807))

-- the members with this value at this key
abbrev pub with_member : List ℕ → Data → Members → Members
with_member key d no_members = member key d no_members
with_member key d (member l e rest) = match_ordering (slice_cmp nat_cmp key l)
    (member key d (member l e rest)) (member l d rest) (member l e (with_member key d rest))

-- an entry as a pair, its keys in the order of their octets
abbrev pub pair_members : Entry → Members
pair_members entry =
    member (codes "err") (number entry.delays.err)
    (member (codes "rx") (number entry.delays.rx)
    (member (codes "rx_nm") (number entry.rx_nm)
    (member (codes "transition") (number entry.delays.transition)
    (member (codes "tx") (number entry.delays.tx)
    (member (codes "tx_nm") (number entry.tx_nm) no_members)))))

-- a module with its pairs
abbrev pub module_members : ModuleAt → Members
module_members m =
    member (codes "name") (string m.name)
    (member (codes "pair") (array (items_of (map (λ e. table (pair_members e)) m.entries))) no_members)

-- a point as an array of two numbers
abbrev pub point_data : ℤ × ℤ → Data
point_data p = array (item (integer p.0) (item (integer p.1) no_items))

-- the points and their error, if there are any
abbrev pub table_members : Option TableAt → Members
table_members None = no_members
table_members (Some t) =
    member (codes "table") (array (items_of (map point_data t.points)))
    (member (codes "table_err") (number t.err) no_members)

-- a fibre, before these members
abbrev pub linear_members : FibreAt → Members → Members
linear_members f more =
    member (codes "err") (number f.fibre.err)
    (member (codes "kappa") (integer f.fibre.kappa)
    (member (codes "name") (string f.name) more))

-- a fibre with its points
abbrev pub fibre_members : FibreAt → Members
fibre_members f = linear_members f (table_members f.table)

-- the document of a database
abbrev pub document_of : Database → Members
document_of db =
    member (codes "fibre") (array (items_of (map (λ f. table (fibre_members f)) db.fibres)))
    (member (codes "module") (array (items_of (map (λ m. table (module_members m)) db.modules)))
    (member (codes "version") (number 2) no_members))

-- the octets are what `toml` writes for the document of a database: the values of a table, in the order
-- of their keys' octets and each on one line, before its arrays of tables, whose tables have headers
abbrev pub IsTextDue : Database → List ℕ → Type 0
IsTextDue db octets = IsDocumentText false (document_of db) octets

-- two such texts of one database are the same octets
abbrev pub OneText : Type 0
OneText = (db : Database) (octets other : List ℕ) → IsTextDue db octets → IsTextDue db other → octets ≡ other

-- the database of an accepted document has such a text
abbrev pub EachHasText : Type 0
EachHasText = (db : Database) → IsListed db → (octets : List ℕ) × IsTextDue db octets

-- an answer that is this database, or out of memory
abbrev pub IsSame : Database → Result Database ConfFault → Type 0
IsSame db (Ok back) = back ≡ db
IsSame db (Err (Fault number place)) = ⊥
IsSame db (Err (Memory e)) = Unit {0}
