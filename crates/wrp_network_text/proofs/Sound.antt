-- The modules and the fibres of a text whose tables are taken are sound.
use Rattle.std.proofs.Common.{◌≡◌, ◌≤◌, ◌+◌, ◌^◌, ◌*◌, ◌&&◌, ℕ, zero, suc, ℤ, pos, negsuc, neg_ℤ, ◌+ℤ◌, ◌-ℤ◌, ◌*ℤ◌, List, [], ◌∷◌, Bool, true, false, Option, None, Some, cond, take, length, unsigned_abs, refl, sym, ap, subst, arith}
use Rattle.std.proofs.lemmas.Bool.{and_parts, false≢true, not-false}
use Rattle.std.proofs.lemmas.Bool.Decides.{nat_tests}
use Rattle.std.proofs.lemmas.Int.{ints}
use Rattle.std.proofs.Math.IntN.{*ℤ_comm}
use Rattle.std.specs.Prelude.{codes, option_and_then, option_map, slice_get, unwrap_or, nat_le, IfSome, if◌then◌else◌, ◌≤ℤ◌}
use Rattle.std.specs.Option.{is_some, option_or}
use Rattle.std.specs.Int.Signed.{le_z, lt_z}
use Rattle.std.specs.List.{AllByRecursion, cons_option, list_all, list_any}
use Rattle.toml.specs.Data.{Data, Members, as_integer, as_table, get_member}
use Rattle.std.proofs.lemmas.Option.{same_Some}
use Rattle.wrp_caldb.specs.Calibration.{module_key, fibre_key, module_keys, module_name_key, fibre_keys, kappa_key, fibre_err_key, table_err_key, table_key, law_of, version_of, place_in_module, place_in_modules, place_in_fibre, place_in_fibres, place_in_pairs}
use Rattle.wrp_caldb.specs.Database.{ModuleAt, FibreAt, name_or_none, delays_of, entry_of, entries_of, each_table, module_of, fibre_of, natural_at, number_at, database_of}
use Rattle.wrp_caldb.specs.Key.{number_key}
use Rattle.wrp_caldb.specs.Name.{is_name, is_module_name}
use Rattle.wrp_caldb.specs.Points.{stored_points, few_points, points_of, values_of, has_bounds, is_step, rises_from, rises, is_near, is_sound, is_table}
use Rattle.wrp_caldb.specs.Refusal.{place_of_keys, place_in_table}
use Rattle.wrp_caldb.specs.Repeats.{name_in, has_name_of, place_of_name}
use Rattle.wrp_caldb.specs.Rows.{has_fault, in_range, number_in, tables_at}
use Rattle.wrp_caldb.specs.declared.database.Entry.{Entry}
use Rattle.wrp_caldb.specs.declared.keys.Version.{Version}
use Rattle.wrp_caldb.specs.declared.keys.Version.TheVariants.{One, Two}
use Rattle.wrp_caldb.specs.declared.place.At.TheVariants as tables
use Rattle.wrp_caldb.specs.declared.row.Code.{Code}
use Rattle.wrp_caldb.specs.declared.row.Code.TheVariants as co
use Rattle.wrp_calibration_text.proofs.Kept.{none_parts, if_none, at_fault, map-map}
use Rattle.wrp_calibration_text.proofs.KeptNames.{IsText, plain_text, module_text, is_plain, module_named, name_read}
use Rattle.wrp_base.specs.Ranges.{IsAmong}
use Rattle.wrp_law.specs.Law.{IsNear}
use Rattle.wrp_law.specs.Table.{FitsPoint, Rises, IsWithin}
use Rattle.wrp_law.specs.declared.delay.LawKind.TheVariants as la
use Rattle.wrp_calibration_text.proofs.ReadBack.{points_length}
use Rattle.wrp_config.specs.Accepted.{HasDelayRanges, IsSoundModule, IsSoundTable, IsSoundFibre, IsSoundDatabase}
use Rattle.wrp_network_text.specs.Places.{IsTaken}
use Rattle.wrp_config.proofs.Lists.{made_of}
use Rattle.wrp_network_text.proofs.NamesApart.{HasNewNames, names_once}
use Rattle.wrp_network_text.proofs.Numbers.{in_range_between, natural_between}
use Rattle.wrp_network_text.proofs.Texts.{chosen}
use Rattle.wrp_network_text.proofs.Taken.{parts_of, no_faults, each_first, tables_in, tables_are, each_of}

-- Numbers

if_small : (most : ℕ) (b : Bool) (o : Option ℤ) → in_range (pos 0) (pos most) o ≡ b → unsigned_abs (unwrap_or (if b then o else None) (pos 0)) ≤ most
if_small most true o e = let range = in_range_between 0 most o e in omega (arith, ints, range.0, range.1)
if_small most false o e = omega arith

-- a number from 0 on is at most the greatest of its row, whatever is there
number_small : (name : List ℕ) (most : ℕ) (found : Option Data)
    → unsigned_abs (unwrap_or (number_in (number_key name (pos 0) (pos most)) found) (pos 0)) ≤ most
number_small name most None = omega arith
number_small name most (Some d) = if_small most (in_range (pos 0) (pos most) (as_integer d)) (as_integer d) refl

delays_fit : (t : Members) → HasDelayRanges (delays_of t)
delays_fit t = record {
  tx = number_small (codes "tx") 1_000_000_000_000 (get_member (codes "tx") t);
  rx = number_small (codes "rx") 1_000_000_000_000 (get_member (codes "rx") t);
  transition = number_small (codes "transition") 16_383 (get_member (codes "transition") t);
  err = number_small (codes "err") 1_000_000_000 (get_member (codes "err") t);
}

-- Modules

-- what tables give, one by one
made_first : {X : Type 0} (f : Members → X) (o : Option Members) (ds : List Data)
    → ((k : ℕ) (x : X) → slice_get (each_table f ds) k ≡ Some x → (t : Members) × (x ≡ f t))
    → (k : ℕ) (x : X) → slice_get (cons_option (option_map f o) (each_table f ds)) k ≡ Some x → (t : Members) × (x ≡ f t)
made_first f None ds rest k x e = rest k x e
made_first f (Some t) ds rest zero x e = (t, sym (same_Some (f t) x e))
made_first f (Some t) ds rest (suc k) x e = rest k x e

made_by : {X : Type 0} (f : Members → X) (ds : List Data) (k : ℕ) (x : X) → slice_get (each_table f ds) k ≡ Some x → (t : Members) × (x ≡ f t)
made_by f [] k x e = cc e
made_by f (d ∷ ds) k x e = made_first f (as_table d) ds (made_by f ds) k x e

abbrev only_entry : Members → Entry
only_entry t = record { tx_nm = 0; rx_nm = 0; delays = delays_of t }

entries_fit : (v : Version) (t : Members) (k : ℕ) (entry : Entry) → slice_get (entries_of v t) k ≡ Some entry → HasDelayRanges entry.delays
entries_fit One t zero entry e = subst HasDelayRanges (ap (λ (x : Entry). x.delays) (same_Some (only_entry t) entry e)) (delays_fit t)
entries_fit One t (suc k) entry e = cc e
entries_fit Two t k entry e =
    let made = made_by entry_of (tables_at (codes "pair") t) k entry e in
    subst HasDelayRanges (sym (ap (λ (x : Entry). x.delays) made.1)) (delays_fit made.0)

-- the name of a module's table
name_row : (v : Version) (t : Members) → (code : Code) → AllByRecursion (λ key. at_fault code t key ≡ false) (module_keys v)
    → at_fault code t module_name_key ≡ false
name_row One t code all = all.0
name_row Two t code all = all.0

module_name : (v : Version) (modules : List Data) (k : ℕ) (t : Members) → ((code : Code) → place_in_module v code modules k t ≡ None)
    → IsText is_module_name (name_in t)
module_name v modules k t none =
    let at = tables.Module (k + 1) in
    let own = λ (code : Code). (none_parts (place_in_table code at (module_keys v) t)
    (option_or (place_of_name code at (take k modules) t) (place_in_pairs v code (k + 1) (tables_at (codes "pair") t))) (none code)).0 in
    module_text (codes "name") (get_member (codes "name") t)
    (name_row v t co.Missing (no_faults co.Missing at (module_keys v) t (own co.Missing)))
    (name_row v t co.Range (no_faults co.Range at (module_keys v) t (own co.Range)))

module_new : (v : Version) (modules : List Data) (k : ℕ) (t : Members) → ((code : Code) → place_in_module v code modules k t ≡ None)
    → list_any (has_name_of t) (take k modules) ≡ false
module_new v modules k t none =
    let at = tables.Module (k + 1) in
    let behind = (none_parts (place_in_table co.Twice at (module_keys v) t)
    (option_or (place_of_name co.Twice at (take k modules) t) (place_in_pairs v co.Twice (k + 1) (tables_at (codes "pair") t))) (none co.Twice)).1 in
    if_none (list_any (has_name_of t) (take k modules)) _
    (none_parts (place_of_name co.Twice at (take k modules) t) (place_in_pairs v co.Twice (k + 1) (tables_at (codes "pair") t)) behind).0

module_sound : (v : Version) (t : Members) → IsText is_module_name (name_in t) → IsSoundModule (module_of v t)
module_sound v t name = record {
  name = module_named (name_in t) name;
  entries = entries_fit v t;
}

-- Fibres

if_wide : (b : Bool) (o : Option ℤ) → in_range (negsuc 274_877_906_943) (pos 274_877_906_944) o ≡ b
    → unsigned_abs (unwrap_or (if b then o else None) (pos 0)) ≤ 2 ^ 38
if_wide true None e = absurd (false≢true e)
if_wide true (Some z) e =
    let parts = and_parts (le_z (negsuc 274_877_906_943) z) (le_z z (pos 274_877_906_944)) e in
    let low : negsuc 274_877_906_943 ≤ℤ z = grind (arith, ints, parts.0) in
    let high : z ≤ℤ pos 274_877_906_944 = grind (arith, ints, parts.1) in
    omega (arith, ints, low, high)
if_wide false o e = omega arith

kappa_small : (found : Option Data) → unsigned_abs (unwrap_or (number_in kappa_key found) (pos 0)) ≤ 2 ^ 38
kappa_small None = omega arith
kappa_small (Some d) = if_wide (in_range (negsuc 274_877_906_943) (pos 274_877_906_944) (as_integer d)) (as_integer d) refl

-- a required number that is there and fits
required_between : (name : List ℕ) (least most : ℕ) (found : Option Data) → has_fault co.Missing (number_key name (pos least) (pos most)) found ≡ false
    → has_fault co.Range (number_key name (pos least) (pos most)) found ≡ false
    → IsAmong least most (unsigned_abs (unwrap_or (number_in (number_key name (pos least) (pos most)) found) (pos 0)))
required_between name least most None missing range = cc missing
required_between name least most (Some d) missing range =
    let fits = not-false (in_range (pos least) (pos most) (as_integer d)) range in
    rw fits (natural_between least most (unwrap_or (as_integer d) (pos 0)) (in_range_between least most (as_integer d) fits))

-- Points

bool_rises : (p : ℤ × ℤ) (ps : List (ℤ × ℤ)) → rises_from p ps ≡ true → Rises (p ∷ ps)
bool_rises p [] e = tt
bool_rises p (q ∷ qs) e =
    let parts = and_parts (is_step p q) (rises_from q qs) e in
    let step = and_parts (lt_z p.0 q.0) (le_z p.1 q.1) parts.0 in
    (grind (arith, ints, step.0), grind (arith, ints, step.1), bool_rises q qs parts.1)

all_rise : (ps : List (ℤ × ℤ)) → rises ps ≡ true → Rises ps
all_rise [] e = tt
all_rise (p ∷ ps) e = bool_rises p ps e

point_fits : (p : ℤ × ℤ) → has_bounds p ≡ true → FitsPoint p
point_fits p e =
    let parts = and_parts (le_z (neg_ℤ (pos (2 ^ 30))) p.0 && le_z p.0 (pos (2 ^ 53))) (le_z (neg_ℤ (pos (2 ^ 53))) p.1 && le_z p.1 (pos (2 ^ 53))) e in
    let x = and_parts (le_z (neg_ℤ (pos (2 ^ 30))) p.0) (le_z p.0 (pos (2 ^ 53))) parts.0 in
    let y = and_parts (le_z (neg_ℤ (pos (2 ^ 53))) p.1) (le_z p.1 (pos (2 ^ 53))) parts.1 in
    let low : neg_ℤ (pos (2 ^ 53)) ≤ℤ p.1 = grind (arith, ints, y.0) in
    let high : p.1 ≤ℤ pos (2 ^ 53) = grind (arith, ints, y.1) in
    record {
      least = grind (arith, ints, x.0);
      most = grind (arith, ints, x.1);
      value = omega (arith, ints, low, high);
    }

point_near : (kappa : ℤ) (err : ℕ) (p : ℤ × ℤ) → is_near (Some (record { kappa = kappa; err = err })) p ≡ true → IsNear (la.Linear kappa) err p.0 p.1
point_near kappa err p e =
    let told : unsigned_abs ((pos (2 ^ 40) *ℤ p.1) -ℤ ((pos (2 ^ 39) +ℤ kappa) *ℤ p.0)) ≤ 2 ^ 40 * err = grind (arith, nat_tests, e) in
    rw (*ℤ_comm p.0 (pos (2 ^ 39) +ℤ kappa)) told

all_points : (kappa : ℤ) (err : ℕ) (ps : List (ℤ × ℤ)) → list_all (is_sound (Some (record { kappa = kappa; err = err }))) ps ≡ true
    → AllByRecursion FitsPoint ps × IsWithin kappa err ps
all_points kappa err [] e = (tt, tt)
all_points kappa err (p ∷ ps) e =
    let law = Some (record { kappa = kappa; err = err }) in
    let parts = and_parts (is_sound law p) (list_all (is_sound law) ps) e in
    let here = and_parts (has_bounds p) (is_near law p) parts.0 in
    let later = all_points kappa err ps parts.1 in
    ((point_fits p here.0, later.0), (point_near kappa err p here.1, later.1))

few_as_many : (values : Option (List Data)) (ps : List (ℤ × ℤ)) → option_and_then few_points values ≡ Some ps → (2 ≤ length ps) × (length ps ≤ 32)
few_as_many None ps e = cc e
few_as_many (Some ds) ps e =
    let parts = chosen (nat_le 2 (length ds) && nat_le (length ds) 32) (points_of ds) ps e in
    let size = and_parts (nat_le 2 (length ds)) (nat_le (length ds) 32) parts.0 in
    let many = points_length ds ps parts.1 in
    let low : 2 ≤ length ds = grind (arith, nat_tests, size.0) in
    let high : length ds ≤ 32 = grind (arith, nat_tests, size.1) in
    (omega (arith, low, many), omega (arith, high, many))

table_sound : (kappa : ℤ) (err : ℕ) (ps : List (ℤ × ℤ)) → err ≤ 1_000_000_000 → (2 ≤ length ps) × (length ps ≤ 32)
    → is_table (Some (record { kappa = kappa; err = err })) (Some ps) ≡ true → IsSoundTable kappa (record { points = ps; err = err })
table_sound kappa err ps small size e =
    let law = Some (record { kappa = kappa; err = err }) in
    let parts = and_parts (list_all (is_sound law) ps) (rises ps) e in
    let each = all_points kappa err ps parts.0 in
    record {
      err = small;
      points = record { least = size.0; most = size.1; fits = each.0; rises = all_rise ps parts.1 };
      near = each.1;
    }

-- the error of a table is at most 10^9, whatever is there
err_small : (found : Option Data) → unsigned_abs (unwrap_or (number_in table_err_key found) (pos 0)) ≤ 1_000_000_000
err_small None = omega arith
err_small (Some d) = if_small 1_000_000_000 (in_range (pos 0) (pos 1_000_000_000) (as_integer d)) (as_integer d) refl

integer_in_range : (o : Option ℤ) (least most : ℤ) → in_range least most o ≡ true → (z : ℤ) × (o ≡ Some z)
integer_in_range None least most e = absurd (false≢true e)
integer_in_range (Some z) least most e = (z, refl)

fits_gives : (b : Bool) → b ≡ true → (o : Option ℤ) (z : ℤ) → o ≡ Some z → cond b o None ≡ Some z
fits_gives b holds o z is = rw holds is

-- the law that the points keep to, if its numbers fit
kappa_there : (found : Option Data) → has_fault co.Missing kappa_key found ≡ false → has_fault co.Range kappa_key found ≡ false
    → (z : ℤ) × (number_in kappa_key found ≡ Some z)
kappa_there None missing range = cc missing
kappa_there (Some d) missing range =
    let fits = not-false (in_range (negsuc 274_877_906_943) (pos 274_877_906_944) (as_integer d)) range in
    let some = integer_in_range (as_integer d) (negsuc 274_877_906_943) (pos 274_877_906_944) fits in
    (some.0, fits_gives (in_range (negsuc 274_877_906_943) (pos 274_877_906_944) (as_integer d)) fits (as_integer d) some.0 some.1)

err_there : (found : Option Data) → has_fault co.Range table_err_key found ≡ false → (z : ℤ) × (number_in table_err_key found ≡ Some z)
err_there None range = (pos 0, refl)
err_there (Some d) range =
    let fits = not-false (in_range (pos 0) (pos 1_000_000_000) (as_integer d)) range in
    let some = integer_in_range (as_integer d) (pos 0) (pos 1_000_000_000) fits in
    (some.0, fits_gives (in_range (pos 0) (pos 1_000_000_000) (as_integer d)) fits (as_integer d) some.0 some.1)

-- a fibre's table as it is read
fibre_table_sound : (t : Members) (found : Option Data) → get_member (codes "table") t ≡ found
    → has_fault co.Missing kappa_key (get_member (codes "kappa") t) ≡ false → has_fault co.Range kappa_key (get_member (codes "kappa") t) ≡ false
    → has_fault co.Range (table_key (law_of t)) (get_member (codes "table") t) ≡ false
    → ((is_some found ≡ true) → has_fault co.Range table_err_key (get_member (codes "table_err") t) ≡ false)
    → (stored : Option (List (ℤ × ℤ))) → option_and_then stored_points found ≡ stored
    → IfSome (option_map (λ ps. record { points = ps; err = natural_at table_err_key t }) stored) (IsSoundTable (number_at kappa_key t))
fibre_table_sound t found is missing range points err None e = tt
fibre_table_sound t None is missing range points err (Some ps) e = cc e
fibre_table_sound t (Some d) is missing range points err (Some ps) e =
    let kappa = kappa_there (get_member (codes "kappa") t) missing range in
    let bound = err_there (get_member (codes "table_err") t) (err refl) in
    let law : law_of t ≡ Some (record { kappa = number_at kappa_key t; err = natural_at table_err_key t }) = rw (kappa.1, bound.1) refl in
    let told = rw is at points in
    let fits : is_table (Some (record { kappa = number_at kappa_key t; err = natural_at table_err_key t })) (Some ps) ≡ true =
    rw (law, e) at (not-false (is_table (law_of t) (stored_points d)) told) in
    table_sound (number_at kappa_key t) (natural_at table_err_key t) ps (err_small (get_member (codes "table_err") t))
    (few_as_many (values_of d) ps e) fits

-- a fibre
pub record IsSoundFibreTable (t : Members) : Type 0 where
  pub name : IsText is_name (name_in t)
  pub kappa_missing : has_fault co.Missing kappa_key (get_member (codes "kappa") t) ≡ false
  pub kappa : has_fault co.Range kappa_key (get_member (codes "kappa") t) ≡ false
  pub err_missing : has_fault co.Missing fibre_err_key (get_member (codes "err") t) ≡ false
  pub err : has_fault co.Range fibre_err_key (get_member (codes "err") t) ≡ false
  pub points : has_fault co.Range (table_key (law_of t)) (get_member (codes "table") t) ≡ false
  pub table_err : is_some (get_member (codes "table") t) ≡ true → has_fault co.Range table_err_key (get_member (codes "table_err") t) ≡ false

last_row : (t : Members) (b : Bool) → AllByRecursion (λ key. at_fault co.Range t key ≡ false) (if b then table_err_key ∷ [] else [])
    → b ≡ true → has_fault co.Range table_err_key (get_member (codes "table_err") t) ≡ false
last_row t true all is = all.0
last_row t false all is = cc is

fibre_table : (fibres : List Data) (k : ℕ) (t : Members) → ((code : Code) → place_in_fibre code fibres k t ≡ None) → IsSoundFibreTable t
fibre_table fibres k t none =
    let at = tables.Fibre (k + 1) in
    let own = λ (code : Code). (none_parts (place_in_table code at (fibre_keys t) t) (place_of_name code at (take k fibres) t) (none code)).0 in
    let m = no_faults co.Missing at (fibre_keys t) t (own co.Missing) in
    let r = no_faults co.Range at (fibre_keys t) t (own co.Range) in
    record {
      name = plain_text (codes "name") (get_member (codes "name") t) m.0 r.0;
      kappa_missing = m.1.0;
      kappa = r.1.0;
      err_missing = m.1.1.0;
      err = r.1.1.0;
      points = r.1.1.1.0;
      table_err = last_row t (is_some (get_member (codes "table") t)) r.1.1.1.1;
    }

fibre_new : (fibres : List Data) (k : ℕ) (t : Members) → ((code : Code) → place_in_fibre code fibres k t ≡ None)
    → list_any (has_name_of t) (take k fibres) ≡ false
fibre_new fibres k t none =
    let at = tables.Fibre (k + 1) in
    if_none (list_any (has_name_of t) (take k fibres)) _
    (none_parts (place_in_table co.Twice at (fibre_keys t) t) (place_of_name co.Twice at (take k fibres) t) (none co.Twice)).1

name_is : (found : Option (List ℕ)) (n : IsText is_name found) → is_name (name_or_none found) ≡ true
name_is found n = rw (name_read found n) n.passes

fibre_sound : (t : Members) → IsSoundFibreTable t → IsSoundFibre (fibre_of t)
fibre_sound t s =
    let err = required_between (codes "err") 1 1_000_000_000 (get_member (codes "err") t) s.err_missing s.err in
    record {
      name = name_is (name_in t) s.name;
      kappa = kappa_small (get_member (codes "kappa") t);
      least_err = err.0;
      err = err.1;
      table = fibre_table_sound t (get_member (codes "table") t) refl s.kappa_missing s.kappa s.points s.table_err
          (option_and_then stored_points (get_member (codes "table") t)) refl;
    }

-- The database

-- the parts of the calibration part that have no place of a code
pub record HasNoListPlace (doc : Members) (code : Code) : Type 0 where
  pub modules : place_in_modules (version_of doc) code (tables_at (codes "module") doc) ≡ None
  pub fibres : place_in_fibres code (tables_at (codes "fibre") doc) ≡ None

list_parts : (doc : Members) → IsTaken doc → (code : Code) → HasNoListPlace doc code
list_parts doc taken code =
    let modules = place_in_modules (version_of doc) code (tables_at (codes "module") doc) in
    let fibres = place_in_fibres code (tables_at (codes "fibre") doc) in
    let fibre_place = place_of_keys code tables.Top (fibre_key ∷ []) doc in
    let a = (none_parts (place_of_keys code tables.Top (module_key ∷ []) doc) (option_or modules (option_or fibre_place fibres)) (parts_of doc taken code).lists).1 in
    let b = none_parts modules (option_or fibre_place fibres) a in
    record { modules = b.0; fibres = (none_parts fibre_place fibres b.1).1 }

module_at_place : (doc : Members) → IsTaken doc → (k : ℕ) (t : Members) → slice_get (tables_in (codes "module") doc) k ≡ Some t
    → (code : Code) → place_in_module (version_of doc) code (tables_at (codes "module") doc) k t ≡ None
module_at_place doc taken k t e =
    let ds = tables_at (codes "module") doc in
    each_first (λ code n. place_in_module (version_of doc) code ds n) (tables_in (codes "module") doc)
    (λ code. rw (sym (tables_are (codes "module") doc)) (list_parts doc taken code).modules) k t e

fibre_at_place : (doc : Members) → IsTaken doc → (k : ℕ) (t : Members) → slice_get (tables_in (codes "fibre") doc) k ≡ Some t
    → (code : Code) → place_in_fibre code (tables_at (codes "fibre") doc) k t ≡ None
fibre_at_place doc taken k t e =
    let ds = tables_at (codes "fibre") doc in
    each_first (λ code n. place_in_fibre code ds n) (tables_in (codes "fibre") doc)
    (λ code. rw (sym (tables_are (codes "fibre") doc)) (list_parts doc taken code).fibres) k t e

module_names : (doc : Members) → IsTaken doc → HasNewNames (tables_in (codes "module") doc)
module_names doc taken = record {
  name = λ k t e. is_plain (name_in t) (module_name (version_of doc) (tables_at (codes "module") doc) k t (module_at_place doc taken k t e));
  new = λ k t e. rw (sym (tables_are (codes "module") doc)) (module_new (version_of doc) (tables_at (codes "module") doc) k t (module_at_place doc taken k t e));
}

fibre_names : (doc : Members) → IsTaken doc → HasNewNames (tables_in (codes "fibre") doc)
fibre_names doc taken = record {
  name = λ k t e. (fibre_table (tables_at (codes "fibre") doc) k t (fibre_at_place doc taken k t e)).name;
  new = λ k t e. rw (sym (tables_are (codes "fibre") doc)) (fibre_new (tables_at (codes "fibre") doc) k t (fibre_at_place doc taken k t e));
}

pub sound_database : (doc : Members) → IsTaken doc → IsSoundDatabase (database_of doc)
sound_database doc taken =
    let modules = each_of (module_of (version_of doc)) (codes "module") doc in
    let fibres = each_of fibre_of (codes "fibre") doc in
    record {
      modules = λ k m e.
          let made = made_of (module_of (version_of doc)) (tables_in (codes "module") doc) k m (rw (sym modules) e) in
          rw made.is (module_sound (version_of doc) made.x
          (module_name (version_of doc) (tables_at (codes "module") doc) k made.x (module_at_place doc taken k made.x made.at)));
      fibres = λ k f e.
          let made = made_of fibre_of (tables_in (codes "fibre") doc) k f (rw (sym fibres) e) in
          rw made.is (fibre_sound made.x (fibre_table (tables_at (codes "fibre") doc) k made.x (fibre_at_place doc taken k made.x made.at)));
      modules_apart = rw (modules, map-map (λ (m : ModuleAt). m.name) (module_of (version_of doc)) (tables_in (codes "module") doc)) (names_once (tables_in (codes "module") doc) (module_names doc taken));
      fibres_apart = rw (fibres, map-map (λ (f : FibreAt). f.name) fibre_of (tables_in (codes "fibre") doc)) (names_once (tables_in (codes "fibre") doc) (fibre_names doc taken));
    }
