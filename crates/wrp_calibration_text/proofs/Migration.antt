-- The text of a database of an accepted text is accepted, and is of the same database.
use Rattle.std.proofs.Common.{◌≡◌, ℕ, List, true, None, Ok, Err, map, refl, sym, ap, subst, ◌∙◌, [], ◌∷◌, inl, inr}
use Rattle.std.specs.Prelude.{option_and_then, codes, Result}
use Rattle.std.specs.Option.{option_or}
use Rattle.toml.specs.Data.{Members, table, get_member}
use Rattle.toml.specs.View.{items_of}
use Rattle.wrp_base.specs.declared.fault.ConfFault.{ConfFault}
use Rattle.wrp_base.specs.declared.fault.ConfFault.TheVariants.{Fault, Memory}
use Rattle.wrp_caldb.specs.Calibration.{module_key, fibre_key, version_of, place_in_modules, place_in_fibres, place_in_lists, place_in_top, IsAccepted}
use Rattle.wrp_caldb.specs.Database.{Database, database_of, IsListed}
use Rattle.wrp_caldb.specs.Points.{list_of, values_of}
use Rattle.wrp_calibration_text.specs.Reading.{IsTextOf, IsReadingOf, IsFaultOf, IsNoText}
use Rattle.wrp_caldb.specs.Refusal.{place_of_keys}
use Rattle.wrp_caldb.specs.Rows.{are_tables, tables_at}
use Rattle.wrp_calibration_text.specs.Text.{module_members, fibre_members, document_of, IsSame}
use Rattle.wrp_caldb.specs.declared.keys.Others.{Others}
use Rattle.wrp_caldb.specs.declared.keys.Others.TheVariants.{Refused}
use Rattle.wrp_caldb.specs.declared.place.At.TheVariants as tables
use Rattle.wrp_caldb.specs.declared.row.Code.{Code}
use Rattle.wrp_caldb.specs.declared.row.Code.TheVariants as co
use Rattle.wrp_calibration_text.proofs.Kept.{none_parts, all_fit}
use Rattle.wrp_calibration_text.proofs.KeptModules.{modules_kept}
use Rattle.wrp_calibration_text.proofs.KeptFibres.{fibres_kept}
use Rattle.wrp_calibration_text.proofs.ReadBack.{database_again, tables_again}
use Rattle.wrp_calibration_text.proofs.Values.{list_of-items_of}

-- an array of only tables, however many
any_tables : {X : Type 0} (g : X → Members) (xs : List X)
    → are_tables 0 None (list_of (items_of (map (λ x. table (g x)) xs))) ≡ true
any_tables g xs = ap (are_tables 0 None) (list_of-items_of (map (λ x. table (g x)) xs)) ∙ all_fit (map (λ x. table (g x)) xs) (tables_again g xs)

top_again : (code : Code) (db : Database) → place_in_top Refused code (document_of db) ≡ None
top_again co.UnknownKey db = refl
top_again co.Missing db = refl
top_again co.Range db = refl
top_again co.Twice db = refl

module_key_again : (code : Code) (db : Database) → place_of_keys code tables.Top (module_key ∷ []) (document_of db) ≡ None
module_key_again co.UnknownKey db = refl
module_key_again co.Missing db = refl
module_key_again co.Range db = rw (any_tables module_members db.modules) refl
module_key_again co.Twice db = refl

fibre_key_again : (code : Code) (db : Database) → place_of_keys code tables.Top (fibre_key ∷ []) (document_of db) ≡ None
fibre_key_again co.UnknownKey db = refl
fibre_key_again co.Missing db = refl
fibre_key_again co.Range db = rw (any_tables fibre_members db.fibres) refl
fibre_key_again co.Twice db = refl

-- the text of a database of an accepted text is accepted
pub accepted_again : (others : Others) (doc : Members) → IsAccepted others doc → IsAccepted Refused (document_of (database_of doc))
accepted_again others doc accepted code =
    let db = database_of doc in
    let v = version_of doc in
    let modules = tables_at (codes "module") doc in
    let fibres = tables_at (codes "fibre") doc in
    let lists = λ (b : Code). (none_parts (place_in_top others b doc) (place_in_lists b doc) (accepted b)).1 in
    let behind = λ (b : Code). (none_parts (place_of_keys b tables.Top (module_key ∷ []) doc)
    (option_or (place_in_modules v b modules) (option_or (place_of_keys b tables.Top (fibre_key ∷ []) doc) (place_in_fibres b fibres))) (lists b)).1 in
    let parts = λ (b : Code). none_parts (place_in_modules v b modules)
    (option_or (place_of_keys b tables.Top (fibre_key ∷ []) doc) (place_in_fibres b fibres)) (behind b) in
    let last = λ (b : Code). (none_parts (place_of_keys b tables.Top (fibre_key ∷ []) doc) (place_in_fibres b fibres) (parts b).1).1 in
    let kept_modules = modules_kept v (option_and_then values_of (get_member (codes "module") doc)) (λ b. (parts b).0) code in
    let kept_fibres = fibres_kept (option_and_then values_of (get_member (codes "fibre") doc)) last code in
    rw (top_again code db, module_key_again code db, kept_modules, fibre_key_again code db, kept_fibres) refl

-- octets of a text are a text
no_text : (octets : List ℕ) (doc : Members) → IsTextOf doc octets → IsNoText octets → ⊥
no_text octets doc text (inl none) = none text.0
no_text octets doc text (inr none) = cc (none, text.1)

-- any reading of the text is this database, or out of memory
pub same_again : (db : Database) (octets : List ℕ) → IsListed db → IsTextOf (document_of db) octets
    → (answer : Result Database ConfFault) → IsReadingOf octets answer → IsSame db answer
same_again db octets listed text (Ok back) reading =
    let same_doc : reading.0 ≡ document_of db = cc (reading.1.1, text.1) in
    let written : database_of (document_of db) ≡ db =
    ap (λ d. database_of (document_of d)) listed.3 ∙ database_again listed.1 ∙ sym listed.3 in
    reading.3 ∙ ap database_of same_doc ∙ written
same_again db octets listed text (Err (Memory e)) reading = tt
same_again db octets listed text (Err (Fault number place)) (inl none) = no_text octets (document_of db) text none.0
same_again db octets listed text (Err (Fault number place)) (inr read) =
    let same_doc : read.0 ≡ document_of db = cc (read.1.1, text.1) in
    let accepted = subst (λ d. IsAccepted Refused (document_of d)) (sym listed.3) (accepted_again listed.0 listed.1 listed.2) in
    let refused = subst (λ d. IsFaultOf Refused d number place.bytes) same_doc read.2 in
    cc (refused.2.0, accepted refused.0)
