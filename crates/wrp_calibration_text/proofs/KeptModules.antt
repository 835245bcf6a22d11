-- The modules of a text that has no place of any code, written again, have none.
use Rattle.std.proofs.Common.{◌≡◌, ◌+◌, ◌&&◌, not, ℕ, pos, List, [], ◌∷◌, Bool, true, false, Option, None, Some, map, take, length, refl, sym, ap, subst, ◌∙◌, arith}
use Rattle.std.proofs.lemmas.Bool.{and_parts, false≢true, not-false}
use Rattle.std.proofs.lemmas.List.{length-map}
use Rattle.std.specs.Prelude.{option_and_then, codes, nat_le}
use Rattle.std.specs.Option.{is_some, option_or}
use Rattle.std.specs.List.{find, list_all}
use Rattle.toml.specs.Data.{Data, Members, table, array, as_table, get_member}
use Rattle.toml.specs.View.{items_of}
use Rattle.wrp_base.proofs.Lists.{first_passed, passes_first}
use Rattle.wrp_caldb.specs.Calibration.{tx_key, rx_key, transition_key, module_err_key, tx_nm_key, rx_nm_key, module_keys, module_name_key, pair_keys, place_in_pair, place_in_pairs, place_in_module, place_in_modules}
use Rattle.wrp_caldb.specs.Database.{delays_of, entry_of, each_table, entries_of, module_of}
use Rattle.wrp_caldb.specs.Key.{Key, required_key}
use Rattle.wrp_caldb.specs.Points.{values_of}
use Rattle.wrp_caldb.specs.Refusal.{place_in_table}
use Rattle.wrp_caldb.specs.Repeats.{name_in, place_of_name}
use Rattle.wrp_caldb.specs.Rows.{has_fault, are_tables, is_array_of_tables, tables_of, tables_at}
use Rattle.wrp_caldb.specs.Name.{is_module_name}
use Rattle.wrp_calibration_text.specs.Text.{pair_members, module_members}
use Rattle.wrp_caldb.specs.declared.database.Entry.{Entry}
use Rattle.wrp_caldb.specs.declared.keys.Version.{Version}
use Rattle.wrp_caldb.specs.declared.keys.Version.TheVariants.{One, Two}
use Rattle.wrp_caldb.specs.declared.place.At.{At}
use Rattle.wrp_caldb.specs.declared.place.At.TheVariants as tables
use Rattle.wrp_caldb.specs.declared.row.Code.{Code}
use Rattle.wrp_caldb.specs.declared.row.Code.TheVariants as co
use Rattle.wrp_caldb.specs.declared.row.Sort.TheVariants as so
use Rattle.wrp_calibration_text.proofs.Kept.{none_parts, at_fault, no_key, no_place, among, each_passes, members_in, tables_of-members, each_table-map, map-map, length_step}
use Rattle.wrp_calibration_text.proofs.KeptNames.{IsText, module_text, is_plain, module_named, names_kept}
use Rattle.wrp_calibration_text.proofs.KeptPairs.{delays_fit, delay_keys, has_waves, has_waves_in, waves_in, pair_again, pair_kept}
use Rattle.wrp_calibration_text.proofs.ReadBack.{tables_again, tables_of-array}
use Rattle.wrp_calibration_text.proofs.Values.{list_of-items_of}

abbrev pair_key : Key
pair_key = required_key (codes "pair") (so.Tables 1 (Some 16))

-- the module written again
abbrev pub module_again_of : Version → Members → Members
module_again_of v t = module_members (module_of v t)

-- the first row of a module is its name
name_row : (v : Version) (code : Code) (t : Members) → find (at_fault code t) (module_keys v) ≡ None → at_fault code t module_name_key ≡ false
name_row One code t none = (first_passed (at_fault code t) module_name_key (tx_key ∷ rx_key ∷ transition_key ∷ module_err_key ∷ []) none).0
name_row Two code t none = (first_passed (at_fault code t) module_name_key (pair_key ∷ []) none).0

-- a module's entries are 1 to 16
abbrev are_some : ℕ → Bool
are_some n = nat_le 1 n && nat_le n 16

length-each : {X : Type 0} (f : Members → X) (ds : List Data) → list_all (λ d. is_some (as_table d)) ds ≡ true → length (each_table f ds) ≡ length ds
length-each f [] e = refl
length-each f (d ∷ ds) e =
    let parts = and_parts (is_some (as_table d)) (list_all (λ x. is_some (as_table x)) ds) e in
    let more = length_step f (as_table d) ds parts.0 (length-each f ds parts.1) in
    omega arith

count_if : (values : Option (List Data)) → is_array_of_tables 1 (Some 16) values ≡ true → are_some (length (each_table entry_of (tables_of values))) ≡ true
count_if None e = absurd (false≢true e)
count_if (Some ds) e =
    let parts = and_parts (list_all (λ d. is_some (as_table d)) ds) (are_some (length ds)) e in
    rw parts.0 (rw (length-each entry_of ds parts.0) parts.1)

count_in : (found : Option Data) → has_fault co.Missing pair_key found ≡ false → has_fault co.Range pair_key found ≡ false
    → are_some (length (each_table entry_of (tables_of (option_and_then values_of found)))) ≡ true
count_in None missing range = cc missing
count_in (Some d) missing range = count_if (values_of d) (not-false (is_array_of_tables 1 (Some 16) (values_of d)) range)

entry_count : (v : Version) (t : Members) → find (at_fault co.Missing t) (module_keys v) ≡ None → find (at_fault co.Range t) (module_keys v) ≡ None
    → are_some (length (entries_of v t)) ≡ true
entry_count One t missing range = refl
entry_count Two t missing range =
    let m = first_passed (at_fault co.Missing t) module_name_key (pair_key ∷ []) missing in
    let r = first_passed (at_fault co.Range t) module_name_key (pair_key ∷ []) range in
    count_in (get_member (codes "pair") t) (first_passed (at_fault co.Missing t) pair_key [] m.1).0 (first_passed (at_fault co.Range t) pair_key [] r.1).0

-- an array of this many pairs
pairs_fit : (es : List Entry) → are_some (length es) ≡ true
    → is_array_of_tables 1 (Some 16) (values_of (array (items_of (map (λ e. table (pair_members e)) es)))) ≡ true
pairs_fit es some =
    let ds = map (λ e. table (pair_members e)) es in
    ap (are_tables 1 (Some 16)) (list_of-items_of ds)
    ∙ rw (tables_again pair_members es, length-map es (λ e. table (pair_members e))) some

-- the rows of a module that is written again
rows_again : (code : Code) (at : At) (v : Version) (t : Members) → IsText is_module_name (name_in t) → are_some (length (entries_of v t)) ≡ true
    → place_in_table code at (module_keys Two) (module_again_of v t) ≡ None
rows_again co.UnknownKey at v t name some = refl
rows_again co.Missing at v t name some = refl
rows_again co.Range at v t name some =
    no_place co.Range at (module_keys Two) (module_again_of v t) refl
    (passes_first (at_fault co.Range (module_again_of v t)) module_name_key (pair_key ∷ []) (ap not (module_named (name_in t) name))
    (passes_first (at_fault co.Range (module_again_of v t)) pair_key [] (ap not (pairs_fit (entries_of v t) some)) refl))
rows_again co.Twice at v t name some = refl

-- the tables of a list, read and written again
pub relisted : {X : Type 0} (f : Members → X) (g : X → Members) (values : Option (List Data))
    → tables_of (values_of (array (items_of (map (λ x. table (g x)) (each_table f (tables_of values))))))
    ≡ map table (map (λ t. g (f t)) (members_in (tables_of values)))
relisted f g values =
    let ms = members_in (tables_of values) in
    tables_of-array g (each_table f (tables_of values))
    ∙ ap (map (λ x. table (g x))) (ap (each_table f) (tables_of-members values) ∙ each_table-map f ms)
    ∙ map-map (λ x. table (g x)) f ms ∙ sym (map-map table (λ t. g (f t)) ms)

-- the only pair of a module of version 1
abbrev only_pair : Members → Members
only_pair t = pair_members (record { tx_nm = 0; rx_nm = 0; delays = delays_of t })

only_pair_fits : (code : Code) (owner : ℕ) (pairs : List Data) (t : Members) → place_in_pair code owner pairs 0 (only_pair t) ≡ None
only_pair_fits co.UnknownKey owner pairs t = refl
only_pair_fits co.Missing owner pairs t = refl
only_pair_fits co.Range owner pairs t =
    let keys = passes_first (at_fault co.Range (only_pair t)) tx_nm_key (rx_nm_key (Some (pos 0)) ∷ delay_keys) refl
    (passes_first (at_fault co.Range (only_pair t)) (rx_nm_key (Some (pos 0))) delay_keys refl (delays_fit t 0 0)) in
    rw (no_place co.Range (tables.Pair owner 1) (pair_keys (only_pair t)) (only_pair t) refl keys) refl
only_pair_fits co.Twice owner pairs t = refl

-- the pairs of a module
all_pairs : (v : Version) (owner : ℕ) (t : Members)
    → ((code : Code) → place_in_pairs v code owner (tables_at (codes "pair") t) ≡ None)
    → (code : Code) → place_in_pairs Two code owner (tables_at (codes "pair") (module_again_of v t)) ≡ None
all_pairs One owner t none code =
    let pairs = map (λ e. table (pair_members e)) (entries_of One t) in
    ap (place_in_pairs Two code owner) (tables_of-array pair_members (entries_of One t))
    ∙ rw (only_pair_fits code owner pairs t) refl
all_pairs Two owner t none code =
    let values = option_and_then values_of (get_member (codes "pair") t) in
    let ps = members_in (tables_of values) in
    let listed = λ (b : Code). subst (λ ds. place_in_pairs Two b owner ds ≡ None) (tables_of-members values) (none b) in
    let all = each_passes (λ b. place_in_pair b owner (map table ps)) has_waves
    (λ n p free. has_waves_in p (waves_in owner (map table ps) n p free)) 0 ps listed in
    ap (place_in_pairs Two code owner) (relisted entry_of pair_members values)
    ∙ among (λ b. place_in_pair b owner (map table ps)) (λ b. place_in_pair b owner (map table (map pair_again ps)))
    pair_again (pair_kept owner ps all) 0 ps listed code

-- a module without a place, written again, has none
module_kept : (v : Version) (ts : List Members) (n : ℕ) (t : Members)
    → ((code : Code) → place_in_module v code (map table ts) n t ≡ None)
    → (code : Code) → place_in_module Two code (map table (map (module_again_of v) ts)) n (module_again_of v t) ≡ None
module_kept v ts n t none code =
    let at = tables.Module (n + 1) in
    let parts = λ (b : Code). none_parts (place_in_table b at (module_keys v) t)
    (option_or (place_of_name b at (take n (map table ts)) t) (place_in_pairs v b (n + 1) (tables_at (codes "pair") t))) (none b) in
    let more = λ (b : Code). none_parts (place_of_name b at (take n (map table ts)) t)
    (place_in_pairs v b (n + 1) (tables_at (codes "pair") t)) (parts b).1 in
    let keys = λ (b : Code). no_key b at (module_keys v) t (parts b).0 in
    let name = module_text (codes "name") (get_member (codes "name") t) (name_row v co.Missing t (keys co.Missing)) (name_row v co.Range t (keys co.Range)) in
    let some = entry_count v t (keys co.Missing) (keys co.Range) in
    let names = names_kept code at (module_again_of v) n ts t (λ s. refl) (is_plain (name_in t) name) (more code).0 in
    rw (rows_again code at v t name some, names) (all_pairs v (n + 1) t (λ b. (more b).1) code)

-- modules without a place, written again, have none
pub modules_kept : (v : Version) (values : Option (List Data))
    → ((code : Code) → place_in_modules v code (tables_of values) ≡ None)
    → (code : Code) → place_in_modules Two code
    (tables_of (values_of (array (items_of (map (λ m. table (module_members m)) (each_table (module_of v) (tables_of values))))))) ≡ None
modules_kept v values none code =
    let ts = members_in (tables_of values) in
    let listed = λ (b : Code). subst (λ ds. place_in_modules v b ds ≡ None) (tables_of-members values) (none b) in
    ap (place_in_modules Two code) (relisted (module_of v) module_members values)
    ∙ among (λ b. place_in_module v b (map table ts)) (λ b. place_in_module Two b (map table (map (module_again_of v) ts)))
    (module_again_of v) (module_kept v ts) 0 ts listed code
