-- What is written for a text of a database is a text of the same one.
use Rattle.std.proofs.Common.{◌≡◌, true, false, ℕ, Option, None, Some, Result, Ok, Err, List, [], ◌∷◌, map, refl, sym, ap, ◌∙◌, subst}
use Rattle.toml.proofs.ReadBack.{parse_document-printed}
use Rattle.toml.specs.Data.{Data, table, has_valid_dates, items_have_valid_dates, members_have_valid_dates, is_sorted, items_are_sorted, members_are_sorted}
use Rattle.toml.specs.View.{items_of}
use Rattle.wrp_base.specs.declared.fault.ConfFault.{ConfFault}
use Rattle.wrp_base.specs.declared.fault.ConfFault.TheVariants.{Fault, Memory}
use Rattle.wrp_calibration_text.proofs.Depth.{document_depth}
use Rattle.wrp_calibration_text.proofs.Migration.{accepted_again, same_again}
use Rattle.wrp_calibration_text.proofs.ReadBack.{database_again}
use Rattle.wrp_caldb.specs.Calibration.{IsAccepted}
use Rattle.wrp_caldb.specs.Database.{Database, ModuleAt, FibreAt, TableAt, module_at, fibre_at, table_at, database_of, IsListed}
use Rattle.wrp_calibration_text.specs.Reading.{IsReadingOf, IsTextOf}
use Rattle.wrp_calibration_text.specs.Text.{pair_members, module_members, point_data, table_members, fibre_members, document_of, IsSame, IsTextDue}
use Rattle.wrp_caldb.specs.declared.keys.Others.TheVariants.{Refused}
use Rattle.wrp_migrate.specs.Laws.{IsKept, MigrationKeeps}
use Rattle.wrp_migrate.proofs.PlainNames.{utf8_text}
use Rattle.wrp_migrate.proofs.Unique.{one_database}

-- ---- the document of a database has no dates, and the keys of its tables ascend

all_valid : {X : Type 0} (f : X → Data) → ((x : X) → has_valid_dates (f x) ≡ true) → (xs : List X) → items_have_valid_dates (items_of (map f xs)) ≡ true
all_valid f h [] = refl
all_valid f h (x ∷ xs) = rw (h x, all_valid f h xs) refl

all_sorted : {X : Type 0} (f : X → Data) → ((x : X) → is_sorted (f x) ≡ true) → (xs : List X) → items_are_sorted (items_of (map f xs)) ≡ true
all_sorted f h [] = refl
all_sorted f h (x ∷ xs) = rw (h x, all_sorted f h xs) refl

valid_module : (m : ModuleAt) → has_valid_dates (table (module_members m)) ≡ true
valid_module m = rw (all_valid (λ e. table (pair_members e)) (λ e. refl) m.entries) refl

sorted_module : (m : ModuleAt) → is_sorted (table (module_members m)) ≡ true
sorted_module m = rw (all_sorted (λ e. table (pair_members e)) (λ e. refl) m.entries) refl

valid_points : (t : Option TableAt) → members_have_valid_dates (table_members t) ≡ true
valid_points None = refl
valid_points (Some t) = rw (all_valid point_data (λ p. refl) t.points) refl

valid_fibre : (f : FibreAt) → has_valid_dates (table (fibre_members f)) ≡ true
valid_fibre f = rw (valid_points f.table) refl

sorted_if : (f : FibreAt) (t : Option TableAt) → f.table ≡ t → is_sorted (table (fibre_members f)) ≡ true
sorted_if f None is = rw is refl
sorted_if f (Some t) is = rw (is, all_sorted point_data (λ p. refl) t.points) refl

sorted_fibre : (f : FibreAt) → is_sorted (table (fibre_members f)) ≡ true
sorted_fibre f = sorted_if f f.table refl

valid_document : (db : Database) → members_have_valid_dates (document_of db) ≡ true
valid_document db =
    rw (all_valid (λ f. table (fibre_members f)) valid_fibre db.fibres, all_valid (λ m. table (module_members m)) valid_module db.modules) refl

sorted_document : (db : Database) → members_are_sorted (document_of db) ≡ true
sorted_document db =
    rw (all_sorted (λ f. table (fibre_members f)) sorted_fibre db.fibres, all_sorted (λ m. table (module_members m)) sorted_module db.modules) refl

-- ---- the law

-- the same database finds the same
kept : (db : Database) (answer : Result Database ConfFault) → IsSame db answer → IsKept db answer
kept db (Ok back) is = record {
  modules = λ name tx rx. ap (λ d. module_at d name tx rx) is;
  fibres = λ name. ap (λ d. fibre_at d name) is;
  tables = λ name. ap (λ d. table_at d name) is;
  same = is;
}
kept db (Err (Fault code place)) is = is
kept db (Err (Memory e)) is = tt

-- the text of a listed database is read as it
reads_listed : (db : Database) (text : List ℕ) → IsListed db → IsTextOf (document_of db) text → IsReadingOf text (Ok db)
reads_listed db text listed is =
    let written : database_of (document_of db) ≡ db =
    ap (λ d. database_of (document_of d)) listed.3 ∙ database_again listed.1 ∙ sym listed.3 in (
      document_of db,
      is,
      subst (λ d. IsAccepted Refused (document_of d)) (sym listed.3) (accepted_again listed.0 listed.1 listed.2),
      sym written,
    )

-- what is written is a text of the same database
pub keeps : MigrationKeeps
keeps input text calls db is read =
    let migrated = is.1.1 in
    let due : IsTextDue db text = subst (λ d. IsTextDue d text) (one_database input migrated.db db migrated.read read) migrated.due in
    let listed : IsListed db = (Refused, read.0, read.2, read.3) in
    let text_is : IsTextOf (document_of db) text = (
      utf8_text db text listed due,
      parse_document-printed false (document_of db) text due (document_depth db) (valid_document db) (sorted_document db),
    ) in
    (reads_listed db text listed text_is, λ answer reading. kept db answer (same_again db text listed text_is answer reading))
