-- A database that is written and read again: the entries of its text are its own.
use Rattle.std.proofs.Common.{◌≡◌, ◌≤◌, ◌+◌, ◌&&◌, ℕ, ℤ, pos, negsuc, List, [], ◌∷◌, Bool, true, false, Option, None, Some, map, option_map, length, unsigned_abs, min, refl, sym, ap, ap₂, ◌∙◌, arith}
use Rattle.std.proofs.lemmas.Bool.{and_parts, false≢true}
use Rattle.std.proofs.lemmas.Bool.Decides.{nat_tests}
use Rattle.std.proofs.lemmas.List.{length-map}
use Rattle.wrp_base.specs.declared.link.Module.{Module}
use Rattle.wrp_base.specs.declared.link.Fibre.{Fibre}
use Rattle.std.specs.Prelude.{unwrap_or, option_and_then, codes, nat_le, if◌then◌else◌}
use Rattle.std.specs.Option.{is_some}
use Rattle.std.specs.List.{list_all, cons_option}
use Rattle.toml.specs.Data.{Data, Members, array, table, integer, as_table, as_integer, get_member}
use Rattle.toml.specs.View.{items_of}
use Rattle.wrp_caldb.specs.Calibration.{tx_nm_key, rx_nm_key, kappa_key, table_err_key, version_of}
use Rattle.wrp_caldb.specs.Database.{Database, ModuleAt, FibreAt, TableAt, natural_at, name_at, name_or_none, delays_of, entry_of, each_table, entries_of, module_of, table_of, fibre_of, database_of}
use Rattle.wrp_caldb.specs.Key.{number_key, default_key}
use Rattle.wrp_caldb.specs.Name.{is_name}
use Rattle.wrp_caldb.specs.Points.{few_points, point_of, points_of, stored_points, values_of, with_point}
use Rattle.wrp_caldb.specs.Repeats.{name_in}
use Rattle.wrp_caldb.specs.Rows.{all_tables, tables_of, tables_at, in_range, is_wavelength, fits_first, number_in}
use Rattle.wrp_calibration_text.specs.Text.{number, pair_members, module_members, point_data, fibre_members, document_of}
use Rattle.wrp_caldb.specs.declared.database.Entry.{Entry}
use Rattle.wrp_caldb.specs.declared.keys.Version.{Version}
use Rattle.wrp_caldb.specs.declared.keys.Version.TheVariants.{One, Two}
use Rattle.wrp_calibration_text.proofs.Values.{list_of-items_of}

-- the number that is read if this one is there, and the test of it has this answer
abbrev pub value : Bool → Option ℤ → ℤ
value fits found = unwrap_or (if fits then found else None) (pos 0)

zero_either : (b : Bool) → value b (Some (pos 0)) ≡ pos 0
zero_either true = refl
zero_either false = refl

-- a test of numbers that only numbers from 0 on pass, of at most 63 bits
pub record IsSmallTest (test : Option ℤ → Bool) : Type 0 where
  pub none : test None ≡ false
  pub negative : (m : ℕ) → test (Some (negsuc m)) ≡ false
  pub small : (m : ℕ) → test (Some (pos m)) ≡ true → m ≤ 9_223_372_036_854_775_807

-- a number that was read is read again as the same
pub value_again : (test : Option ℤ → Bool) → IsSmallTest test → (o : Option ℤ) (b : Bool) → test o ≡ b
    → value (test (Some (pos (min (unsigned_abs (value b o)) 9_223_372_036_854_775_807)))) (Some (pos (min (unsigned_abs (value b o)) 9_223_372_036_854_775_807)))
    ≡ pos (unsigned_abs (value b o))
value_again test is o false e = zero_either (test (Some (pos 0)))
value_again test is None true e = zero_either (test (Some (pos 0)))
value_again test is (Some (pos m)) true e =
    let held : min m 9_223_372_036_854_775_807 ≡ m = let small = is.small m e in omega arith in
    rw held (rw e refl)
value_again test is (Some (negsuc m)) true e = absurd (false≢true (sym (is.negative m) ∙ e))

-- a signed number too
signed_again : (test : Option ℤ → Bool) (o : Option ℤ) (b : Bool) → test o ≡ b
    → value (test (Some (value b o))) (Some (value b o)) ≡ value b o
signed_again test o false e = zero_either (test (Some (pos 0)))
signed_again test None true e = zero_either (test (Some (pos 0)))
signed_again test (Some z) true e = rw e refl

pub in_range_small : (a b : ℕ) → b ≤ 9_223_372_036_854_775_807 → IsSmallTest (in_range (pos a) (pos b))
in_range_small a b h = record {
  none = refl;
  negative = λ m. refl;
  small = λ m e. let ends = and_parts (nat_le a m) (nat_le m b) e in let last = ends.1 in grind (arith, nat_tests);
}

wavelength_at_most : (m : ℕ) → is_wavelength (Some (pos m)) ≡ true → m ≤ 9_223_372_036_854_775_807
wavelength_at_most m e = grind (arith, nat_tests)

pub wavelength_small : IsSmallTest is_wavelength
wavelength_small = record {
  none = refl;
  negative = λ m. refl;
  small = wavelength_at_most;
}

-- the number at a required key, read again
number_again : (name : List ℕ) (a b : ℕ) → b ≤ 9_223_372_036_854_775_807 → (found : Option Data)
    → let n = unsigned_abs (unwrap_or (number_in (number_key name (pos a) (pos b)) found) (pos 0)) in
    unwrap_or (number_in (number_key name (pos a) (pos b)) (Some (number n))) (pos 0) ≡ pos n
number_again name a b h None = zero_either (in_range (pos a) (pos b) (Some (pos 0)))
number_again name a b h (Some d) =
    value_again (in_range (pos a) (pos b)) (in_range_small a b h) (as_integer d) (in_range (pos a) (pos b) (as_integer d)) refl

default_again : (name : List ℕ) (b : ℕ) → b ≤ 9_223_372_036_854_775_807 → (found : Option Data)
    → let n = unsigned_abs (unwrap_or (number_in (default_key name (pos 0) (pos b) (pos 0)) found) (pos 0)) in
    unwrap_or (number_in (default_key name (pos 0) (pos b) (pos 0)) (Some (number n))) (pos 0) ≡ pos n
default_again name b h None = zero_either (in_range (pos 0) (pos b) (Some (pos 0)))
default_again name b h (Some d) =
    value_again (in_range (pos 0) (pos b)) (in_range_small 0 b h) (as_integer d) (in_range (pos 0) (pos b) (as_integer d)) refl

wavelength_again : (found : Option Data)
    → let n = unsigned_abs (unwrap_or (number_in tx_nm_key found) (pos 0)) in
    unwrap_or (number_in tx_nm_key (Some (number n))) (pos 0) ≡ pos n
wavelength_again None = zero_either (is_wavelength (Some (pos 0)))
wavelength_again (Some d) =
    value_again is_wavelength wavelength_small (as_integer d) (is_wavelength (as_integer d)) refl

second_small : IsSmallTest (λ o. is_wavelength o && fits_first None o)
second_small = record {
  none = refl;
  negative = λ m. refl;
  small = λ m e. wavelength_at_most m (and_parts (is_wavelength (Some (pos m))) true e).0;
}

second_again : (found : Option Data)
    → let n = unsigned_abs (unwrap_or (number_in (rx_nm_key None) found) (pos 0)) in
    unwrap_or (number_in (rx_nm_key None) (Some (number n))) (pos 0) ≡ pos n
second_again None = zero_either (is_wavelength (Some (pos 0)))
second_again (Some d) =
    value_again (λ o. is_wavelength o && fits_first None o) second_small (as_integer d)
    (is_wavelength (as_integer d) && fits_first None (as_integer d)) refl

kappa_again : (found : Option Data)
    → let z = unwrap_or (number_in kappa_key found) (pos 0) in
    unwrap_or (number_in kappa_key (Some (integer z))) (pos 0) ≡ z
kappa_again None = zero_either (in_range (negsuc 274_877_906_943) (pos 274_877_906_944) (Some (pos 0)))
kappa_again (Some d) =
    signed_again (in_range (negsuc 274_877_906_943) (pos 274_877_906_944)) (as_integer d)
    (in_range (negsuc 274_877_906_943) (pos 274_877_906_944) (as_integer d)) refl

abbrev delays : ℕ → ℕ → ℕ → ℕ → Module
delays tx rx transition err = record { tx = tx; rx = rx; transition = transition; err = err }

delays_same : {a b c d i j k l : ℕ} → a ≡ i → b ≡ j → c ≡ k → d ≡ l → delays a b c d ≡ delays i j k l
delays_same {c = c} {d = d} {i = i} {j = j} e f g h = ap₂ (λ x y. delays x y c d) e f ∙ ap₂ (λ x y. delays i j x y) g h

-- the delays of an entry
delays_again : (t : Members) (tx rx : ℕ)
    → delays_of (pair_members (record { tx_nm = tx; rx_nm = rx; delays = delays_of t })) ≡ delays_of t
delays_again t tx rx =
    let a = ap unsigned_abs (number_again (codes "tx") 0 1_000_000_000_000 (omega arith) (get_member (codes "tx") t)) in
    let b = ap unsigned_abs (number_again (codes "rx") 0 1_000_000_000_000 (omega arith) (get_member (codes "rx") t)) in
    let c = ap unsigned_abs (number_again (codes "transition") 0 16383 (omega arith) (get_member (codes "transition") t)) in
    let d = ap unsigned_abs (number_again (codes "err") 0 1_000_000_000 (omega arith) (get_member (codes "err") t)) in
    delays_same a b c d

abbrev entry : ℕ → ℕ → Module → Entry
entry tx rx ds = record { tx_nm = tx; rx_nm = rx; delays = ds }

entry_again : (p : Members) → entry_of (pair_members (entry_of p)) ≡ entry_of p
entry_again p =
    let a = ap unsigned_abs (wavelength_again (get_member (codes "tx_nm") p)) in
    let b = ap unsigned_abs (second_again (get_member (codes "rx_nm") p)) in
    let ds = delays_again p (natural_at tx_nm_key p) (natural_at (rx_nm_key None) p) in
    ap₂ (λ x y. entry x y (delays_of (pair_members (entry_of p)))) a b
    ∙ ap (entry (natural_at tx_nm_key p) (natural_at (rx_nm_key None) p)) ds

-- tables are all tables
pub tables_again : {X : Type 0} (g : X → Members) (xs : List X) → list_all (λ d. is_some (as_table d)) (map (λ x. table (g x)) xs) ≡ true
tables_again g [] = refl
tables_again g (x ∷ xs) = tables_again g xs

each_step : {X : Type 0} (f : Members → X) (g : X → Members) (k : Members → X) → ((t : Members) → k (g (f t)) ≡ f t)
    → (o : Option Members) (xs : List X) → each_table k (map (λ x. table (g x)) xs) ≡ xs
    → each_table k (map (λ x. table (g x)) (cons_option (option_map f o) xs)) ≡ cons_option (option_map f o) xs
each_step f g k h None xs ih = ih
each_step f g k h (Some t) xs ih = ap₂ (λ x rest. x ∷ rest) (h t) ih

-- what each table gives, written as a table and read again
each_again : {X : Type 0} (f : Members → X) (g : X → Members) (k : Members → X) → ((t : Members) → k (g (f t)) ≡ f t) → (ds : List Data)
    → each_table k (map (λ x. table (g x)) (each_table f ds)) ≡ each_table f ds
each_again f g k h [] = refl
each_again f g k h (d ∷ ds) = each_step f g k h (as_table d) (each_table f ds) (each_again f g k h ds)

-- the tables of an array that is made of tables
pub tables_of-array : {X : Type 0} (g : X → Members) (xs : List X)
    → tables_of (values_of (array (items_of (map (λ x. table (g x)) xs)))) ≡ map (λ x. table (g x)) xs
tables_of-array g xs =
    ap all_tables (list_of-items_of (map (λ x. table (g x)) xs))
    ∙ ap (λ b. if b then map (λ x. table (g x)) xs else []) (tables_again g xs)

name_if : (text : List ℕ) (b : Bool) → is_name text ≡ b
    → name_or_none (Some (if b then text else [])) ≡ (if b then text else [])
name_if text true e = rw e refl
name_if text false e = refl

name_again : (o : Option (List ℕ)) → name_or_none (Some (name_or_none o)) ≡ name_or_none o
name_again None = refl
name_again (Some text) = name_if text (is_name text) refl

abbrev listed_module : List ℕ → List Entry → ModuleAt
listed_module name entries = record { name = name; entries = entries }

entries_again : (v : Version) (t : Members)
    → each_table entry_of (map (λ e. table (pair_members e)) (entries_of v t)) ≡ entries_of v t
entries_again One t = ap (λ ds. entry 0 0 ds ∷ []) (delays_again t 0 0)
entries_again Two t = each_again entry_of pair_members entry_of entry_again (tables_at (codes "pair") t)

module_again : (v : Version) (t : Members) → module_of Two (module_members (module_of v t)) ≡ module_of v t
module_again v t =
    ap₂ listed_module (name_again (name_in t))
    (ap (each_table entry_of) (tables_of-array pair_members (entries_of v t)) ∙ entries_again v t)

pub points_again : (ps : List (ℤ × ℤ)) → points_of (map point_data ps) ≡ Some ps
points_again [] = refl
points_again (p ∷ ps) = ap (with_point (Some p)) (points_again ps)

with_length : (o : Option (ℤ × ℤ)) (r : Option (List (ℤ × ℤ))) (n : ℕ) (ps : List (ℤ × ℤ))
    → ((qs : List (ℤ × ℤ)) → r ≡ Some qs → length qs ≡ n) → with_point o r ≡ Some ps → length ps ≡ n + 1
with_length None r n ps h e = cc e
with_length (Some p) None n ps h e = cc e
with_length (Some p) (Some qs) n ps h e =
    let same : p ∷ qs ≡ ps = cc e in
    let len = h qs refl in
    rw (← same) (omega arith)

pub points_length : (ds : List Data) (ps : List (ℤ × ℤ)) → points_of ds ≡ Some ps → length ps ≡ length ds
points_length [] ps e = let same : [] ≡ ps = cc e in rw (← same) refl
points_length (d ∷ ds) ps e =
    let more = with_length (point_of d) (points_of ds) (length ds) ps (points_length ds) e in omega arith

abbrev are_few : ℕ → Bool
are_few n = nat_le 2 n && nat_le n 32

few_if : (ds : List Data) (ps : List (ℤ × ℤ)) (b : Bool) → are_few (length ds) ≡ b
    → (if b then points_of ds else None) ≡ Some ps → few_points (map point_data ps) ≡ Some ps
few_if ds ps false e is = cc is
few_if ds ps true e is =
    let len : length (map point_data ps) ≡ length ds = length-map ps point_data ∙ points_length ds ps is in
    rw len (rw e (points_again ps))

-- points that were read are read again
pub few_again : (ds : List Data) (ps : List (ℤ × ℤ)) → few_points ds ≡ Some ps → few_points (map point_data ps) ≡ Some ps
few_again ds ps is = few_if ds ps (are_few (length ds)) refl is

stored_if : (values : Option (List Data)) (ps : List (ℤ × ℤ)) → option_and_then few_points values ≡ Some ps
    → few_points (map point_data ps) ≡ Some ps
stored_if None ps is = cc is
stored_if (Some ds) ps is = few_again ds ps is

pub stored_again : (found : Option Data) (ps : List (ℤ × ℤ)) → option_and_then stored_points found ≡ Some ps
    → few_points (map point_data ps) ≡ Some ps
stored_again None ps is = cc is
stored_again (Some d) ps is = stored_if (values_of d) ps is

abbrev pub table_with : ℕ → List (ℤ × ℤ) → TableAt
table_with err ps = record { points = ps; err = err }

abbrev pub listed_fibre : List ℕ → Fibre → Option TableAt → FibreAt
listed_fibre name fibre points = record { name = name; fibre = fibre; table = points }

table_if : (t : Members) (name : List ℕ) (fibre : Fibre) (o : Option (List (ℤ × ℤ)))
    → ((ps : List (ℤ × ℤ)) → o ≡ Some ps → few_points (map point_data ps) ≡ Some ps)
    → table_of (fibre_members (listed_fibre name fibre (option_map (table_with (natural_at table_err_key t)) o)))
    ≡ option_map (table_with (natural_at table_err_key t)) o
table_if t name fibre None h = refl
table_if t name fibre (Some ps) h =
    let err = ap unsigned_abs (default_again (codes "table_err") 1_000_000_000 (omega arith) (get_member (codes "table_err") t)) in
    let n = natural_at table_err_key (fibre_members (listed_fibre name fibre (Some (table_with (natural_at table_err_key t) ps)))) in
    ap (λ ds. option_map (table_with n) (few_points ds)) (list_of-items_of (map point_data ps))
    ∙ ap (option_map (table_with n)) (h ps refl) ∙ ap (λ k. Some (table_with k ps)) err

abbrev pub fibre_with : ℤ → ℕ → Fibre
fibre_with kappa err = record { kappa = kappa; err = err }

fibre_again : (t : Members) → fibre_of (fibre_members (fibre_of t)) ≡ fibre_of t
fibre_again t =
    let kappa = kappa_again (get_member (codes "kappa") t) in
    let err = ap unsigned_abs (number_again (codes "err") 1 1_000_000_000 (omega arith) (get_member (codes "err") t)) in
    let points = table_if t (name_at t) (fibre_of t).fibre (option_and_then stored_points (get_member (codes "table") t)) (stored_again (get_member (codes "table") t)) in
    ap₂ (λ name fibre. listed_fibre name fibre (table_of (fibre_members (fibre_of t)))) (name_again (name_in t)) (ap₂ fibre_with kappa err)
    ∙ ap (listed_fibre (name_at t) (fibre_of t).fibre) points

abbrev listed : List ModuleAt → List FibreAt → Database
listed modules fibres = record { modules = modules; fibres = fibres }

-- the text of a database lists what the database lists
pub database_again : (doc : Members) → database_of (document_of (database_of doc)) ≡ database_of doc
database_again doc =
    let modules = tables_at (codes "module") doc in
    let fibres = tables_at (codes "fibre") doc in
    ap₂ listed
    (ap (each_table (module_of Two)) (tables_of-array module_members (each_table (module_of (version_of doc)) modules))
    ∙ each_again (module_of (version_of doc)) module_members (module_of Two) (module_again (version_of doc)) modules)
    (ap (each_table fibre_of) (tables_of-array fibre_members (each_table fibre_of fibres))
    ∙ each_again fibre_of fibre_members fibre_of fibre_again fibres)
