-- The names of a database that was read are of octets below 128, and so is its text.
use Rattle.std.proofs.Common.{◌≡◌, ◌<◌, ℕ, ℤ, nat_lt, List, [], ◌∷◌, Option, None, Some, Bool, true, false, if◌then◌else◌, map, refl, sym, subst, arith}
use Rattle.std.proofs.lemmas.Bool.{and_parts}
use Rattle.std.proofs.lemmas.Bool.Decides.{nat_tests}
use Rattle.std.specs.List.{AllByRecursion, cons_option, list_all}
use Rattle.std.specs.Prelude.{codes, option_map}
use Rattle.std.specs.Str.{IsUtf8}
use Rattle.toml.specs.Data.{Data, table, Members, as_table}
use Rattle.toml.specs.View.{items_of}
use Rattle.wrp_caldb.specs.Calibration.{version_of}
use Rattle.wrp_caldb.specs.Database.{Database, ModuleAt, FibreAt, TableAt, database_of, each_table, name_or_none, module_of, fibre_of, IsListed}
use Rattle.wrp_caldb.specs.Name.{is_letter, is_name, is_name_octet}
use Rattle.wrp_caldb.specs.Repeats.{name_in}
use Rattle.wrp_caldb.specs.Rows.{tables_at}
use Rattle.wrp_calibration_text.specs.Text.{pair_members, module_members, point_data, table_members, fibre_members, document_of, IsTextDue}
use Rattle.wrp_caldb.specs.declared.database.Entry.{Entry}
use Rattle.wrp_migrate.proofs.PlainOctets.{AreLow, IsLow, ItemsArePlain, MembersArePlain, utf8_document}

-- octets that are below 128 by a test
pub all_low : (cs : List ℕ) → list_all (λ c. nat_lt c 128) cs ≡ true → AreLow cs
all_low [] is = tt
all_low (c ∷ cs) is =
    let parts = and_parts (nat_lt c 128) (list_all (λ o. nat_lt o 128) cs) is in
    let here : nat_lt c 128 ≡ true = parts.0 in
    let low : c < 128 = grind (arith, nat_tests, here) in
    (low, all_low cs parts.1)

low_name_octet : (c : ℕ) → is_name_octet c ≡ true → IsLow c
low_name_octet c is = grind (arith, nat_tests, is)

low_letter : (c : ℕ) → is_letter c ≡ true → IsLow c
low_letter c is = grind (arith, nat_tests, is)

low_octets : (cs : List ℕ) → list_all is_name_octet cs ≡ true → AreLow cs
low_octets [] is = tt
low_octets (c ∷ cs) is =
    let parts = and_parts (is_name_octet c) (list_all is_name_octet cs) is in
    (low_name_octet c parts.0, low_octets cs parts.1)

low_if_name : (name : List ℕ) (b : Bool) → is_name name ≡ b → AreLow (if b then name else [])
low_if_name name false is = tt
low_if_name [] true is = tt
low_if_name (c ∷ cs) true is =
    let parts = and_parts (is_letter c) _ is in
    let rest = and_parts (list_all is_name_octet cs) _ parts.1 in
    (low_letter c parts.0, low_octets cs rest.0)

-- a name that was read, or none
low_read : (o : Option (List ℕ)) → AreLow (name_or_none o)
low_read None = tt
low_read (Some name) = low_if_name name (is_name name) refl

-- what holds of each table's value holds of all
added : {X : Type 0} (P : X → Type 0) (f : Members → X) → ((t : Members) → P (f t)) → (o : Option Members) (xs : List X) → AllByRecursion P xs
    → AllByRecursion P (cons_option (option_map f o) xs)
added P f h None xs all = all
added P f h (Some t) xs all = (h t, all)

pub each_has : {X : Type 0} (P : X → Type 0) (f : Members → X) → ((t : Members) → P (f t)) → (ds : List Data) → AllByRecursion P (each_table f ds)
each_has P f h [] = tt
each_has P f h (d ∷ ds) = added P f h (as_table d) (each_table f ds) (each_has P f h ds)

-- ---- the document of a database

abbrev IsModulePlain : ModuleAt → Type 0
IsModulePlain m = AreLow m.name

abbrev IsFibrePlain : FibreAt → Type 0
IsFibrePlain f = AreLow f.name

plain_points : (ps : List (ℤ × ℤ)) → ItemsArePlain (items_of (map point_data ps))
plain_points [] = tt
plain_points (p ∷ ps) = ((tt, (tt, tt)), plain_points ps)

plain_table : (t : Option TableAt) → MembersArePlain (table_members t)
plain_table None = tt
plain_table (Some t) = (all_low (codes "table") refl, plain_points t.points, (all_low (codes "table_err") refl, tt, tt))

plain_pair : (e : Entry) → MembersArePlain (pair_members e)
plain_pair e = (
  all_low (codes "err") refl,
  tt,
  (
    all_low (codes "rx") refl,
    tt,
    (
      all_low (codes "rx_nm") refl,
      tt,
      (
        all_low (codes "transition") refl,
        tt,
        (all_low (codes "tx") refl, tt, (all_low (codes "tx_nm") refl, tt, tt)),
      ),
    ),
  ),
)

plain_pairs : (es : List Entry) → ItemsArePlain (items_of (map (λ e. table (pair_members e)) es))
plain_pairs [] = tt
plain_pairs (e ∷ es) = (plain_pair e, plain_pairs es)

plain_modules : (ms : List ModuleAt) → AllByRecursion IsModulePlain ms → ItemsArePlain (items_of (map (λ m. table (module_members m)) ms))
plain_modules [] h = tt
plain_modules (m ∷ ms) h =
    ((all_low (codes "name") refl, h.0, (all_low (codes "pair") refl, plain_pairs m.entries, tt)), plain_modules ms h.1)

plain_fibres : (fs : List FibreAt) → AllByRecursion IsFibrePlain fs → ItemsArePlain (items_of (map (λ f. table (fibre_members f)) fs))
plain_fibres [] h = tt
plain_fibres (f ∷ fs) h =
    ((all_low (codes "err") refl, tt, (all_low (codes "kappa") refl, tt, (all_low (codes "name") refl, h.0, plain_table f.table))), plain_fibres fs h.1)

plain_document : (db : Database) → AllByRecursion IsModulePlain db.modules → AllByRecursion IsFibrePlain db.fibres → MembersArePlain (document_of db)
plain_document db modules fibres = (
  all_low (codes "fibre") refl,
  plain_fibres db.fibres fibres,
  (all_low (codes "module") refl, plain_modules db.modules modules, (all_low (codes "version") refl, tt, tt)),
)

plain_read : (doc : Members) → MembersArePlain (document_of (database_of doc))
plain_read doc =
    plain_document (database_of doc)
    (each_has IsModulePlain (module_of (version_of doc)) (λ t. low_read (name_in t)) (tables_at (codes "module") doc))
    (each_has IsFibrePlain fibre_of (λ t. low_read (name_in t)) (tables_at (codes "fibre") doc))

-- the text of a database that was read is UTF-8
pub utf8_text : (db : Database) (text : List ℕ) → IsListed db → IsTextDue db text → IsUtf8 text
utf8_text db text listed due =
    utf8_document false (document_of db) text (subst (λ d. MembersArePlain (document_of d)) (sym listed.3) (plain_read listed.1)) due
