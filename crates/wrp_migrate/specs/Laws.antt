-- What `migrate` keeps (this project's profile).
use Rattle.std.specs.Prelude.{◌≡◌, ℕ, List, [], Result, Ok, Err}
use Rattle.wrp_base.specs.declared.fault.ConfFault.{ConfFault}
use Rattle.wrp_base.specs.declared.fault.ConfFault.TheVariants.{Fault, Memory}
use Rattle.wrp_caldb.specs.Database.{Database, module_at, fibre_at, table_at}
use Rattle.wrp_calibration_text.specs.Reading.{IsReadingOf}
use Rattle.wrp_io.specs.declared.link.LinkCall.{LinkCall}
use Rattle.wrp_migrate.specs.Migration.{migration}
use Rattle.wrp_records.specs.declared.status.Status.{Status}
use Rattle.wrp_records.specs.declared.status.Status.TheVariants.{Done}

-- every name, and every pair of wavelengths, finds the same in two databases
pub record FindsSame (db back : Database) : Type 0 where
  pub modules : (name : List ℕ) (tx rx : ℕ) → module_at back name tx rx ≡ module_at db name tx rx
  pub fibres : (name : List ℕ) → fibre_at back name ≡ fibre_at db name
  pub tables : (name : List ℕ) → table_at back name ≡ table_at db name
  pub same : back ≡ db

-- an answer of the reader that is a database with the same in it, or says that memory ran out
abbrev pub IsKept : Database → Result Database ConfFault → Type 0
IsKept db (Ok back) = FindsSame db back
IsKept db (Err (Fault code place)) = ⊥
IsKept db (Err (Memory e)) = Unit {0}

-- what is written for a text of a database is a text of the same one, and reads back as it
abbrev pub MigrationKeeps : Type 0
MigrationKeeps = (input text : List ℕ) (calls : List LinkCall) (db : Database)
    → migration.answers input calls Done text → IsReadingOf input (Ok db)
    → IsReadingOf text (Ok db)
    × ((answer : Result Database ConfFault) → IsReadingOf text answer → IsKept db answer)

-- each input has an answer
abbrev pub EachHasMigration : Type 0
EachHasMigration = (input : List ℕ) → (status : Status) × (text : List ℕ) × migration.answers input [] status text

-- and no other: one status, and one text
abbrev pub OneMigration : Type 0
OneMigration = (input : List ℕ) (calls : List LinkCall) (a b : Status) (t u : List ℕ)
    → migration.answers input calls a t → migration.answers input calls b u → (a ≡ b) × (t ≡ u)
