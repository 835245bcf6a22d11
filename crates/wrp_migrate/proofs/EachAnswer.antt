-- Each input has an answer.
use Rattle.std.proofs.Common.{◌≡◌, inl, inr, ℕ, Bool, true, false, Option, None, Some, Ok, List, [], codes, length, refl, sym, ◌∙◌, arith}
use Rattle.std.proofs.lemmas.Bool.{cases_lt, false≢true}
use Rattle.std.proofs.lemmas.Str.{IsUtf8-from_is_utf8, is_utf8-from_IsUtf8}
use Rattle.std.specs.Str.{IsUtf8, is_utf8}
use Rattle.toml.specs.Data.{Members}
use Rattle.toml.specs.Parse.{parse_document}
use Rattle.wrp_calibration_text.proofs.OneText.{each_has_text}
use Rattle.wrp_calibration_text.proofs.Refusals.{least_exact, least_none}
use Rattle.wrp_caldb.specs.Calibration.{first_place}
use Rattle.wrp_caldb.specs.Database.{Database, database_of, IsListed}
use Rattle.wrp_caldb.specs.Place.{PlaceAt, place_text}
use Rattle.wrp_calibration_text.specs.Reading.{IsFaultIn, IsReadingOf, IsTextOf}
use Rattle.wrp_caldb.specs.Refusal.{least_of, number_of}
use Rattle.wrp_caldb.specs.declared.keys.Others.TheVariants.{Refused}
use Rattle.wrp_caldb.specs.declared.row.Code.{Code}
use Rattle.wrp_migrate.specs.Laws.{EachHasMigration}
use Rattle.wrp_migrate.specs.Migration.{IsWithin, migration}
use Rattle.wrp_records.specs.Refusals.{bad_network_line, too_large_line}
use Rattle.wrp_records.specs.declared.status.Status.{Status}
use Rattle.wrp_records.specs.declared.status.Status.TheVariants.{Done, BadNetwork, TooLarge}

abbrev HasAnswer : List ℕ → Type 0
HasAnswer input = (status : Status) × (text : List ℕ) × migration.answers input [] status text

-- a fault is answered
for_fault : (input : List ℕ) (code : ℕ) (place : List ℕ) → IsWithin input → IsFaultIn input code place → HasAnswer input
for_fault input code place within fault =
    (BadNetwork, bad_network_line code place, (refl, (within, record { code = code; place = place; fault = fault; line = refl })))

-- a database has a text
for_database : (input : List ℕ) (db : Database) → IsWithin input → IsReadingOf input (Ok db) → HasAnswer input
for_database input db within read =
    let listed : IsListed db = (Refused, read.0, read.2, read.3) in
    let text = each_has_text db listed in
    (Done, text.0, (refl, (within, record { db = db; read = read; due = text.1 })))

-- a table is accepted, or has a least fault
for_table : (input : List ℕ) (doc : Members) (o : Option (Code × PlaceAt)) → IsWithin input → IsTextOf doc input → least_of (first_place Refused doc) ≡ o → HasAnswer input
for_table input doc None within is e =
    for_database input (database_of doc) within (doc, is, (least_none (first_place Refused doc)).0 e, refl)
for_table input doc (Some least) within is e =
    let refused = (least_exact (first_place Refused doc) least.0 least.1).0 e in
    for_fault input (number_of least.0) (place_text least.1) within (inr (doc, is, (least.0, least.1, refused, refl, refl)))

-- octets of UTF-8 are a table, or none
for_text : (input : List ℕ) (o : Option Members) → IsWithin input → IsUtf8 input → parse_document input ≡ o → HasAnswer input
for_text input None within utf8 e = for_fault input 1 (codes "-") within (inl (inr e, refl, refl))
for_text input (Some doc) within utf8 e = for_table input doc (least_of (first_place Refused doc)) within (utf8, e) refl

-- octets are UTF-8, or not
for_octets : (input : List ℕ) (b : Bool) → IsWithin input → is_utf8 input ≡ b → HasAnswer input
for_octets input false within e =
    for_fault input 1 (codes "-") within (inl (inl (λ is. false≢true (sym e ∙ is_utf8-from_IsUtf8 input is)), refl, refl))
for_octets input true within e = for_text input (parse_document input) within (IsUtf8-from_is_utf8 input e) refl

-- each input has an answer
pub each_has_migration : EachHasMigration
each_has_migration input =
    elim (cases_lt 262_144 (length input)) [
      | inl long ↦ (TooLarge, too_large_line, (refl, (long, refl)))
      | inr within ↦ for_octets input (is_utf8 input) (omega (arith, within)) refl
    ]
