-- How large the text that `migrate` writes is.
use Rattle.std.proofs.Common.{◌≤◌, ℕ, List, length, codes, refl, subst, inl, inr, arith}
use Rattle.wrp_caldb.specs.Calibration.{version_of}
use Rattle.wrp_caldb.specs.Database.{fibre_of, module_of, database_of}
use Rattle.wrp_caldb.specs.Repeats.{name_in}
use Rattle.wrp_caldb.specs.Rows.{tables_at}
use Rattle.wrp_calibration_text.specs.Text.{IsTextDue}
use Rattle.wrp_caldb.specs.declared.keys.Others.TheVariants.{Refused}
use Rattle.wrp_migrate.specs.Migration.{IsMigrated}
use Rattle.wrp_migrate.specs.Sizes.{MigrationSize, SmallTextsFit, most_octets}
use Rattle.wrp_migrate.proofs.Keeping.{keeps}
use Rattle.wrp_migrate.proofs.Listed.{document_light}
use Rattle.wrp_migrate.proofs.PlainNames.{each_has}
use Rattle.wrp_migrate.proofs.Printed.{IsShortName, printed_le, read_short}
use Rattle.wrp_migrate.proofs.WeightTexts.{weight_le}

migrated_size : (input text : List ℕ) → IsMigrated input text → length text ≤ most_octets (length input)
migrated_size input text has =
    let (doc, is_text, accepted, db_is) = has.read in
    let due = subst (λ d. IsTextDue d text) db_is has.due in
    let printed = printed_le (database_of doc) text
    (each_has (λ f. IsShortName f.name) fibre_of (λ t. read_short (name_in t)) (tables_at (codes "fibre") doc))
    (each_has (λ m. IsShortName m.name) (module_of (version_of doc)) (λ t. read_short (name_in t)) (tables_at (codes "module") doc)) due in
    let heavy = weight_le input doc is_text.1 in
    elim (document_light Refused doc accepted) [
      | inl none ↦ omega (arith, printed, none)
      | inr light ↦ omega (arith, printed, heavy, light)
    ]

pub migration_size : MigrationSize
migration_size input text calls has = migrated_size input text has.1.1

pub small_texts_fit : SmallTextsFit
small_texts_fit input text calls has few =
    let size = migrated_size input text has.1.1 in
    let within : length text ≤ 262144 = omega (arith, size, few) in
    let again = keeps input text calls has.1.1.db has has.1.1.read in
    (within, (refl, (within, record { db = has.1.1.db; read = again.0; due = has.1.1.due })))
