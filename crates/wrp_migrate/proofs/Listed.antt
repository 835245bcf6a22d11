-- What the tables of an accepted text weigh at least, by the database that they give.
use Rattle.std.proofs.Common.{◌≡◌, ◌≤◌, ◌+◌, ◌*◌, ◌&&◌, not, ℕ, ℤ, pos, negsuc, min, unsigned_abs, Ordering, Less, Equal, Greater, nat_cmp, is_eq, true, false, Bool, List, [], ◌∷◌, length, map, take, codes, bytes_eq, Option, Some, None, option_map, option_and_then, refl, sym, ap, ◌∙◌, subst, inl, inr, ◌⊎◌, arith, lit<}
use Rattle.std.proofs.lemmas.Bool.{and_parts, cases_Bool, false≢true, not-false}
use Rattle.std.proofs.lemmas.Fmt.{decimal_nonempty, length-decimal-le}
use Rattle.std.proofs.lemmas.Map.Text.{is_eq-slice_cmp}
use Rattle.std.proofs.lemmas.Option.{none-some, same_Some}
use Rattle.std.specs.Cmp.Lexicographic.{slice_cmp, same_text}
use Rattle.std.specs.Fmt.{signed_decimal}
use Rattle.std.specs.Ordering.{match_ordering}
use Rattle.std.specs.List.{find, list_all}
use Rattle.std.specs.Option.{is_some, option_or}
use Rattle.std.specs.Prelude.{unwrap_or, if◌then◌else◌}
use Rattle.toml.specs.Data.{Data, string, integer, float, boolean, datetime, array, table, Items, no_items, item, Members, no_members, member, as_integer, as_str, as_table, get_member, same_key}
use Rattle.wrp_base.proofs.Lists.{first_passed}
use Rattle.wrp_calibration_text.proofs.Kept.{at_fault, each_table-map, members_in, no_key, none_parts, tables_of-members}
use Rattle.wrp_calibration_text.proofs.KeptNames.{IsText, is_plain, module_text, name_read, plain_text}
use Rattle.wrp_calibration_text.proofs.KeptNumbers.{IsWave, first_read, second_read}
use Rattle.wrp_calibration_text.proofs.KeptPairs.{delay_keys, waves_of}
use Rattle.wrp_calibration_text.proofs.ReadBack.{IsSmallTest, in_range_small, wavelength_small}
use Rattle.wrp_caldb.specs.Calibration.{tx_key, rx_key, transition_key, module_err_key, tx_nm_key, rx_nm_key, first_wavelength, module_keys, module_name_key, pair_keys, place_in_pair, place_in_pairs, place_in_module, place_in_modules, kappa_key, fibre_err_key, table_err_key, table_key, law_of, fibre_keys, place_in_fibre, place_in_fibres, module_key, fibre_key, version_of, place_in_lists, place_in_top, IsAccepted}
use Rattle.wrp_caldb.specs.Database.{ModuleAt, FibreAt, TableAt, database_of, fibre_of, number_at, natural_at, name_at, each_table, entries_of, entry_of, module_of}
use Rattle.wrp_caldb.specs.Key.{Key, name_key, number_key, required_key}
use Rattle.wrp_caldb.specs.Name.{is_name}
use Rattle.wrp_caldb.specs.Place.{PlaceAt}
use Rattle.wrp_caldb.specs.Points.{both, list_of, point_of, stored_points, points_of, values_of, with_point}
use Rattle.wrp_caldb.specs.Refusal.{first_among, on_table, place_in_table, place_of_keys}
use Rattle.wrp_caldb.specs.Repeats.{name_in, place_of_name, place_of_pair}
use Rattle.wrp_caldb.specs.Rows.{has_fault, in_range, is_array_of_tables, number_in, tables_at, tables_of}
use Rattle.wrp_caldb.specs.declared.place.At.TheVariants as tables
use Rattle.wrp_caldb.specs.declared.row.Code.{Code}
use Rattle.wrp_caldb.specs.declared.row.Code.TheVariants as co
use Rattle.wrp_caldb.specs.declared.row.Sort.TheVariants as so
use Rattle.wrp_caldb.specs.declared.database.Entry.{Entry}
use Rattle.wrp_caldb.specs.declared.keys.Others.{Others}
use Rattle.wrp_caldb.specs.declared.keys.Version.{Version}
use Rattle.wrp_caldb.specs.declared.keys.Version.TheVariants.{One, Two}
use Rattle.wrp_migrate.proofs.Printed.{digits, document_octets, entries_octets, fibre_octets, fibres_octets, fibres_part, module_octets, modules_octets, modules_part, pair_octets, pairs_octets, point_octets, points_octets, table_octets}
use Rattle.wrp_migrate.proofs.Weight.{brace_weight, key_weight, weight, items_weight, members_weight}

-- ---- the members of a table

cases_ordering : (o : Ordering) → (o ≡ Less) ⊎ ((o ≡ Equal) ⊎ (o ≡ Greater))
cases_ordering Less = inl refl
cases_ordering Equal = inr (inl refl)
cases_ordering Greater = inr (inr refl)

tied_same : (k l : List ℕ) → slice_cmp nat_cmp k l ≡ Equal → k ≡ l
tied_same k l tie =
    let same : true ≡ bytes_eq k l = sym (ap is_eq tie) ∙ is_eq-slice_cmp k l in
    same_text k l same

-- the members without the first of a key
without : List ℕ → Members → Members
without k no_members = no_members
without k (member l d ms) = match_ordering (slice_cmp nat_cmp k l) (member l d (without k ms)) ms (member l d (without k ms))

-- the weight of a member, and of the others
taken_weight : (k : List ℕ) (d : Data) (t : Members) → get_member k t ≡ Some d → (key_weight k d + weight d) + members_weight (without k t) ≡ members_weight t
unfolding without
taken_weight k d no_members found = absurd (none-some d found)
taken_weight k d (member l e ms) found =
    elim (cases_ordering (slice_cmp nat_cmp k l)) [
      | inl less ↦ let on = taken_weight k d ms (rw less at found) in rw less (omega (arith, on))
      | inr (inl tie) ↦
          let here : e ≡ d = same_Some e d (rw tie at found) in
          let same = tied_same k l tie in
          let weighs : key_weight l e + weight e ≡ key_weight k d + weight d = ap (λ x. key_weight l x + weight x) here
          ∙ ap (λ x. key_weight x d + weight d) (sym same) in
          rw tie (omega (arith, weighs))
      | inr (inr more) ↦ let on = taken_weight k d ms (rw more at found) in rw more (omega (arith, on))
    ]

-- another key is still there
kept_there : (k l m : List ℕ) (d e : Data) (ms more : Members) → (get_member k ms ≡ Some d → get_member k more ≡ Some d)
    → get_member k (member m e ms) ≡ Some d → get_member k (member m e more) ≡ Some d
kept_there k l m d e ms more on found =
    elim (cases_ordering (slice_cmp nat_cmp k m)) [
      | inl less ↦ rw less (on (rw less at found))
      | inr (inl tie) ↦ rw tie (rw tie at found)
      | inr (inr after) ↦ rw after (on (rw after at found))
    ]

dropped_other : (k l m : List ℕ) (d e : Data) (ms : Members) → same_key k l ≡ false → l ≡ m → get_member k (member m e ms) ≡ Some d → get_member k ms ≡ Some d
dropped_other k l m d e ms other same found =
    elim (cases_ordering (slice_cmp nat_cmp k m)) [
      | inl less ↦ rw less at found
      | inr (inl tie) ↦
          let as_l : same_key k l ≡ true = ap (same_key k) same ∙ ap is_eq tie in
          absurd (false≢true (sym other ∙ as_l))
      | inr (inr after) ↦ rw after at found
    ]

still_there : (k l : List ℕ) (d : Data) (t : Members) → same_key k l ≡ false → get_member k t ≡ Some d → get_member k (without l t) ≡ Some d
unfolding without
still_there k l d no_members other found = found
still_there k l d (member m e ms) other found =
    elim (cases_ordering (slice_cmp nat_cmp l m)) [
      | inl less ↦ rw less (kept_there k l m d e ms (without l ms) (still_there k l d ms other) found)
      | inr (inl tie) ↦ rw tie (dropped_other k l m d e ms other (tied_same l m tie) found)
      | inr (inr more) ↦ rw more (kept_there k l m d e ms (without l ms) (still_there k l d ms other) found)
    ]

-- some keys with their values
abbrev Entries : Type 0
Entries = List (List ℕ × Data)

abbrev entries_weight : Entries → ℕ
entries_weight [] = 0
entries_weight (e ∷ es) = (key_weight e.0 e.1 + weight e.1) + entries_weight es

abbrev Holds : Entries → Members → Type 0
Holds [] t = Unit {0}
Holds (e ∷ es) t = (get_member e.0 t ≡ Some e.1) × Holds es t

abbrev is_apart : List ℕ → Entries → Bool
is_apart k [] = true
is_apart k (e ∷ es) = not (same_key e.0 k) && is_apart k es

abbrev are_apart : Entries → Bool
are_apart [] = true
are_apart (e ∷ es) = is_apart e.0 es && are_apart es

not_true : (b : Bool) → not b ≡ true → b ≡ false
not_true false h = refl
not_true true h = absurd cc

holds_without : (k : List ℕ) (es : Entries) (t : Members) → is_apart k es ≡ true → Holds es t → Holds es (without k t)
holds_without k [] t apart holds = tt
holds_without k (e ∷ es) t apart holds =
    let parts = and_parts (not (same_key e.0 k)) (is_apart k es) apart in
    (still_there e.0 k e.1 t (not_true (same_key e.0 k) parts.0) holds.0, holds_without k es t parts.1 holds.1)

-- a table weighs at least what some of its keys do
entries_le : (es : Entries) (t : Members) → are_apart es ≡ true → Holds es t → entries_weight es ≤ members_weight t
entries_le [] t apart holds = omega arith
entries_le (e ∷ es) t apart holds =
    let parts = and_parts (is_apart e.0 es) (are_apart es) apart in
    let own = taken_weight e.0 e.1 t holds.0 in
    let more = entries_le es (without e.0 t) parts.1 (holds_without e.0 es t parts.0 holds.1) in
    omega (arith, own, more)

-- ---- numbers

-- the greatest number of 63 bits
abbrev most : ℕ
most = 9_223_372_036_854_775_807

-- the value is this number, from 0 on
record IsNumber (n : ℕ) (found : Option Data) : Type 0 where
  is : found ≡ Some (integer (pos n))
  small : n ≤ most

-- it has the digits that it is printed with
number_digits : (n : ℕ) → n ≤ most → digits n ≡ length (signed_decimal (pos n))
number_digits n small =
    let same : min n most ≡ n = omega (arith, small) in
    ap (λ m. length (signed_decimal (pos m))) same

integer_is : (d : Data) (z : ℤ) → as_integer d ≡ Some z → d ≡ integer z
integer_is (integer y) z e = ap integer (same_Some y z e)
integer_is (string s) z e = absurd (none-some z e)
integer_is (float x) z e = absurd (none-some z e)
integer_is (boolean b) z e = absurd (none-some z e)
integer_is (datetime dt) z e = absurd (none-some z e)
integer_is (array ds) z e = absurd (none-some z e)
integer_is (table ms) z e = absurd (none-some z e)

string_is : (d : Data) (s : List ℕ) → as_str d ≡ Some s → d ≡ string s
string_is (string t) s e = ap string (same_Some t s e)
string_is (integer z) s e = absurd (none-some s e)
string_is (float x) s e = absurd (none-some s e)
string_is (boolean b) s e = absurd (none-some s e)
string_is (datetime dt) s e = absurd (none-some s e)
string_is (array ds) s e = absurd (none-some s e)
string_is (table ms) s e = absurd (none-some s e)

-- a number that passes a test of those from 0 on
passing : (test : Option ℤ → Bool) → IsSmallTest test → (o : Option ℤ) → test o ≡ true → (n : ℕ) × (o ≡ Some (pos n)) × (n ≤ most)
passing test is None fits = absurd (false≢true (sym is.none ∙ fits))
passing test is (Some (pos n)) fits = (n, refl, is.small n fits)
passing test is (Some (negsuc n)) fits = absurd (false≢true (sym (is.negative n) ∙ fits))

-- what is read if it is there
fitting_number_at : (test : Option ℤ → Bool) → IsSmallTest test → (d : Data) → test (as_integer d) ≡ true
    → IsNumber (unsigned_abs (unwrap_or (if test (as_integer d) then as_integer d else None) (pos 0))) (Some d)
fitting_number_at test is d fits =
    let found = passing test is (as_integer d) fits in
    let read : unsigned_abs (unwrap_or (if test (as_integer d) then as_integer d else None) (pos 0)) ≡ found.0 =
    ap (λ (b : Bool). unsigned_abs (unwrap_or (if b then as_integer d else None) (pos 0))) fits
    ∙ ap (λ (o : Option ℤ). unsigned_abs (unwrap_or o (pos 0))) found.1 in
    let there : Some d ≡ Some (integer (pos found.0)) = ap Some (integer_is d (pos found.0) found.1) in
    subst (λ (n : ℕ). IsNumber n (Some d)) (sym read) (record { is = there; small = found.2 })

number_there : (name : List ℕ) (a b : ℕ) → b ≤ most → (found : Option Data) → has_fault co.Missing (number_key name (pos a) (pos b)) found ≡ false
    → has_fault co.Range (number_key name (pos a) (pos b)) found ≡ false
    → IsNumber (unsigned_abs (unwrap_or (number_in (number_key name (pos a) (pos b)) found) (pos 0))) found
number_there name a b h None missing range = cc missing
number_there name a b h (Some d) missing range =
    fitting_number_at (in_range (pos a) (pos b)) (in_range_small a b h) d (not-false (in_range (pos a) (pos b) (as_integer d)) range)

wave_there : (found : Option Data) (w : IsWave found) → IsNumber w.nm found
wave_there None w = absurd (none-some (pos w.nm) w.is)
wave_there (Some d) w = record { is = ap Some (integer_is d (pos w.nm) w.is); small = wavelength_small.small w.nm w.passes }

-- ---- pairs of wavelengths

-- the number at a key weighs its digits, and what ends it
number_weight : (n : ℕ) → n ≤ most → weight (integer (pos n)) ≡ digits n + 3
number_weight n small = let same = number_digits n small in omega (arith, same)

-- the delays of a table
record HasDelays (t : Members) : Type 0 where
  tx : IsNumber (natural_at tx_key t) (get_member (codes "tx") t)
  rx : IsNumber (natural_at rx_key t) (get_member (codes "rx") t)
  transition : IsNumber (natural_at transition_key t) (get_member (codes "transition") t)
  err : IsNumber (natural_at module_err_key t) (get_member (codes "err") t)

-- no key of these has a fault
abbrev Fits : Members → List Key → Code → Type 0
Fits t keys code = find (at_fault code t) keys ≡ None

delays_in : (t : Members) → Fits t delay_keys co.Missing → Fits t delay_keys co.Range → HasDelays t
delays_in t missing range =
    let m1 = first_passed (at_fault co.Missing t) tx_key (rx_key ∷ transition_key ∷ module_err_key ∷ []) missing in
    let r1 = first_passed (at_fault co.Range t) tx_key (rx_key ∷ transition_key ∷ module_err_key ∷ []) range in
    let m2 = first_passed (at_fault co.Missing t) rx_key (transition_key ∷ module_err_key ∷ []) m1.1 in
    let r2 = first_passed (at_fault co.Range t) rx_key (transition_key ∷ module_err_key ∷ []) r1.1 in
    let m3 = first_passed (at_fault co.Missing t) transition_key (module_err_key ∷ []) m2.1 in
    let r3 = first_passed (at_fault co.Range t) transition_key (module_err_key ∷ []) r2.1 in
    let m4 = first_passed (at_fault co.Missing t) module_err_key [] m3.1 in
    let r4 = first_passed (at_fault co.Range t) module_err_key [] r3.1 in
    record {
      tx = number_there (codes "tx") 0 1_000_000_000_000 (omega arith) (get_member (codes "tx") t) m1.0 r1.0;
      rx = number_there (codes "rx") 0 1_000_000_000_000 (omega arith) (get_member (codes "rx") t) m2.0 r2.0;
      transition = number_there (codes "transition") 0 16383 (omega arith) (get_member (codes "transition") t) m3.0 r3.0;
      err = number_there (codes "err") 0 1_000_000_000 (omega arith) (get_member (codes "err") t) m4.0 r4.0;
    }

-- the keys of a table with delays, and their numbers
abbrev delay_entries : Members → Entries
delay_entries t =
    (codes "tx", integer (pos (natural_at tx_key t))) ∷ (codes "rx", integer (pos (natural_at rx_key t)))
    ∷ (codes "transition", integer (pos (natural_at transition_key t))) ∷ (codes "err", integer (pos (natural_at module_err_key t))) ∷ []

delays_hold : (t : Members) → HasDelays t → Holds (delay_entries t) t
delays_hold t has = let tx = has.tx.is in let rx = has.rx.is in let transition = has.transition.is in let err = has.err.is in
    (tx, (rx, (transition, (err, tt))))

pair_light : (owner : ℕ) (pairs : List Data) (n : ℕ) (p : Members) → ((code : Code) → place_in_pair code owner pairs n p ≡ None)
    → 80 * pair_octets (entry_of p) ≤ 97 * (4 + members_weight p)
pair_light owner pairs n p none =
    let at = tables.Pair owner (n + 1) in
    let rows = λ (code : Code). no_key code at (pair_keys p) p
    (none_parts (place_in_table code at (pair_keys p) p) (place_of_pair code at (take n pairs) p) (none code)).0 in
    let waves = waves_of p (rows co.Missing) (rows co.Range) in
    let behind = λ (code : Code). (first_passed (at_fault code p) (rx_nm_key (first_wavelength p)) delay_keys
    (first_passed (at_fault code p) tx_nm_key (rx_nm_key (first_wavelength p) ∷ delay_keys) (rows code)).1).1 in
    let has = delays_in p (behind co.Missing) (behind co.Range) in
    let first_there = wave_there (get_member (codes "tx_nm") p) waves.first in
    let second_there = wave_there (get_member (codes "rx_nm") p) waves.second in
    let entries : Entries = (codes "tx_nm", integer (pos waves.first.nm)) ∷ (codes "rx_nm", integer (pos waves.second.nm)) ∷ delay_entries p in
    let heavy = entries_le entries p refl (first_there.is, (second_there.is, delays_hold p has)) in
    let tx_nm : digits (natural_at tx_nm_key p) ≡ digits waves.first.nm = ap digits (first_read (get_member (codes "tx_nm") p) waves.first) in
    let rx_nm : digits (natural_at (rx_nm_key None) p) ≡ digits waves.second.nm = ap digits (second_read (get_member (codes "rx_nm") p) waves.second) in
    let a = number_weight (natural_at tx_key p) has.tx.small in
    let b = number_weight (natural_at rx_key p) has.rx.small in
    let c = number_weight (natural_at transition_key p) has.transition.small in
    let d = number_weight (natural_at module_err_key p) has.err.small in
    let e = number_weight waves.first.nm first_there.small in
    let f = number_weight waves.second.nm second_there.small in
    omega (arith, heavy, tx_nm, rx_nm, a, b, c, d, e, f)

-- ---- arrays of tables

abbrev tables_weight : List Data → ℕ
tables_weight [] = 0
tables_weight (d ∷ ds) = (brace_weight d + weight d) + tables_weight ds

items_are : (items : Items) → items_weight items ≡ tables_weight (list_of items)
items_are no_items = refl
items_are (item d ds) = let more = items_are ds in omega (arith, more)

abbrev sum_of : (Members → ℕ) → List Members → ℕ
sum_of cost [] = 0
sum_of cost (t ∷ ts) = cost t + sum_of cost ts

-- what each table without a place costs at most, all of them do
all_light : (F : Code → ℕ → Members → Option PlaceAt) (cost : Members → ℕ)
    → ((n : ℕ) (t : Members) → ((code : Code) → F code n t ≡ None) → cost t ≤ 97 * (4 + members_weight t))
    → (k : ℕ) (ts : List Members) → ((code : Code) → first_among (λ n d. on_table (F code n) d) k (map table ts) ≡ None)
    → sum_of cost ts ≤ 97 * tables_weight (map table ts)
all_light F cost step k [] none = omega arith
all_light F cost step k (t ∷ ts) none =
    let parts = λ (code : Code). none_parts (F code k t) (first_among (λ n d. on_table (F code n) d) (k + 1) (map table ts)) (none code) in
    let own = step k t (λ code. (parts code).0) in
    let more = all_light F cost step (k + 1) ts (λ code. (parts code).1) in
    omega (arith, own, more)

-- the array whose tables are read, if there is one
record IsArray (found : Option Data) : Type 0 where
  elements : Items
  is : found ≡ Some (array elements)
  tables : tables_of (option_and_then values_of found) ≡ list_of elements

array_if : (elements : Items) (b : Bool) → list_all (λ d. is_some (as_table d)) (list_of elements) ≡ b
    → (tables_of (Some (list_of elements)) ≡ []) ⊎ IsArray (Some (array elements))
array_if elements true all = inr (record { elements = elements; is = refl; tables = rw all refl })
array_if elements false all = inl (rw all refl)

array_there : (found : Option Data) → (tables_of (option_and_then values_of found) ≡ []) ⊎ IsArray found
array_there None = inl refl
array_there (Some (array elements)) = array_if elements (list_all (λ d. is_some (as_table d)) (list_of elements)) refl
array_there (Some (string s)) = inl refl
array_there (Some (integer z)) = inl refl
array_there (Some (float x)) = inl refl
array_there (Some (boolean b)) = inl refl
array_there (Some (datetime dt)) = inl refl
array_there (Some (table ms)) = inl refl

-- ---- names

text_there : (found : Option Data) (n : IsText is_name (option_and_then as_str found)) → found ≡ Some (string n.text)
text_there None n = absurd (none-some n.text n.is)
text_there (Some d) n = ap Some (string_is d n.text n.is)

name_there : (t : Members) → IsText is_name (name_in t) → get_member (codes "name") t ≡ Some (string (name_at t))
name_there t n = text_there (get_member (codes "name") t) n ∙ ap (λ s. Some (string s)) (sym (name_read (name_in t) n))

some_octets : (text : List ℕ) → is_name text ≡ true → 1 ≤ length text
some_octets [] is = absurd (false≢true is)
some_octets (c ∷ cs) is = omega arith

name_length : (t : Members) → IsText is_name (name_in t) → 1 ≤ length (name_at t)
name_length t n = let some = some_octets n.text n.passes in let same = ap length (name_read (name_in t) n) in omega (arith, some, same)

-- ---- modules

some_digits : (n : ℕ) → n ≤ most → 1 ≤ digits n
some_digits n small = let some = decimal_nonempty n (omega (arith, small)) in let same = number_digits n small in omega (arith, some, same)

zero_digit : digits 0 ≤ 1
zero_digit = length-decimal-le 1 0 (omega arith) (lit< tt) (lit< tt)

abbrev array_of_pairs : Key
array_of_pairs = required_key (codes "pair") (so.Tables 1 (Some 16))

-- a module of version 1 has the numbers of its pair beside its name
one_light : (t : Members) → Fits t (module_keys One) co.Missing → Fits t (module_keys One) co.Range
    → 80 * module_octets (module_of One t) ≤ 97 * (4 + members_weight t)
one_light t missing range =
    let m = first_passed (at_fault co.Missing t) module_name_key delay_keys missing in
    let r = first_passed (at_fault co.Range t) module_name_key delay_keys range in
    let name = is_plain (name_in t) (module_text (codes "name") (get_member (codes "name") t) m.0 r.0) in
    let has = delays_in t m.1 r.1 in
    let entries : Entries = (codes "name", string (name_at t)) ∷ delay_entries t in
    let heavy = entries_le entries t refl (name_there t name, delays_hold t has) in
    let long = name_length t name in
    let zero = zero_digit in
    let a = number_weight (natural_at tx_key t) has.tx.small in
    let b = number_weight (natural_at rx_key t) has.rx.small in
    let c = number_weight (natural_at transition_key t) has.transition.small in
    let d = number_weight (natural_at module_err_key t) has.err.small in
    let some_a = some_digits (natural_at tx_key t) has.tx.small in
    let some_b = some_digits (natural_at rx_key t) has.rx.small in
    let some_c = some_digits (natural_at transition_key t) has.transition.small in
    let some_d = some_digits (natural_at module_err_key t) has.err.small in
    omega (arith, heavy, long, zero, a, b, c, d, some_a, some_b, some_c, some_d)

-- the array of the pairs of a module of version 2
pairs_there : (found : Option Data) → has_fault co.Missing array_of_pairs found ≡ false → has_fault co.Range array_of_pairs found ≡ false → IsArray found
pairs_there None missing range = cc missing
pairs_there (Some (array elements)) missing range =
    let all = (and_parts (list_all (λ d. is_some (as_table d)) (list_of elements)) _
    (not-false (is_array_of_tables 1 (Some 16) (values_of (array elements))) range)).0 in
    record { elements = elements; is = refl; tables = rw all refl }
pairs_there (Some (string s)) missing range = cc range
pairs_there (Some (integer z)) missing range = cc range
pairs_there (Some (float x)) missing range = cc range
pairs_there (Some (boolean b)) missing range = cc range
pairs_there (Some (datetime dt)) missing range = cc range
pairs_there (Some (table ms)) missing range = cc range

pairs_sum : (ps : List Members) → 80 * pairs_octets (map entry_of ps) ≡ sum_of (λ p. 80 * pair_octets (entry_of p)) ps
pairs_sum [] = refl
pairs_sum (p ∷ ps) = let more = pairs_sum ps in omega (arith, more)

entries_le_pairs : (es : List Entry) → entries_octets es ≤ 10 + pairs_octets es
entries_le_pairs [] = omega arith
entries_le_pairs (e ∷ es) = omega arith

two_light : (n : ℕ) (t : Members) → Fits t (module_keys Two) co.Missing → Fits t (module_keys Two) co.Range
    → ((code : Code) → place_in_pairs Two code n (tables_at (codes "pair") t) ≡ None)
    → 80 * module_octets (module_of Two t) ≤ 97 * (4 + members_weight t)
two_light n t missing range none =
    let m = first_passed (at_fault co.Missing t) module_name_key (array_of_pairs ∷ []) missing in
    let r = first_passed (at_fault co.Range t) module_name_key (array_of_pairs ∷ []) range in
    let name = is_plain (name_in t) (module_text (codes "name") (get_member (codes "name") t) m.0 r.0) in
    let found = get_member (codes "pair") t in
    let values = option_and_then values_of found in
    let has = pairs_there found (first_passed (at_fault co.Missing t) array_of_pairs [] m.1).0 (first_passed (at_fault co.Range t) array_of_pairs [] r.1).0 in
    let ps = members_in (tables_of values) in
    let listed = λ (code : Code). subst (λ ds. place_in_pairs Two code n ds ≡ None) (tables_of-members values) (none code) in
    let light = all_light (λ code. place_in_pair code n (map table ps)) (λ p. 80 * pair_octets (entry_of p)) (pair_light n (map table ps)) 0 ps listed in
    let entries : Entries = (codes "name", string (name_at t)) ∷ (codes "pair", array has.elements) ∷ [] in
    let heavy = entries_le entries t refl (name_there t name, (has.is, tt)) in
    let same : entries_of Two t ≡ map entry_of ps = ap (each_table entry_of) (tables_of-members values) ∙ each_table-map entry_of ps in
    let size = entries_le_pairs (entries_of Two t) in
    let sums = ap pairs_octets same in
    let total = pairs_sum ps in
    let inside = items_are has.elements in
    let weighs : tables_weight (list_of has.elements) ≡ tables_weight (map table ps) = ap tables_weight (sym has.tables ∙ tables_of-members values) in
    let long = name_length t name in
    omega (arith, light, heavy, size, sums, total, inside, weighs, long)

either_light : (v : Version) (n : ℕ) (t : Members) → Fits t (module_keys v) co.Missing → Fits t (module_keys v) co.Range
    → ((code : Code) → place_in_pairs v code n (tables_at (codes "pair") t) ≡ None)
    → 80 * module_octets (module_of v t) ≤ 97 * (4 + members_weight t)
either_light One n t missing range none = one_light t missing range
either_light Two n t missing range none = two_light n t missing range none

module_light : (v : Version) (modules : List Data) (n : ℕ) (t : Members) → ((code : Code) → place_in_module v code modules n t ≡ None)
    → 80 * module_octets (module_of v t) ≤ 97 * (4 + members_weight t)
module_light v modules n t none =
    let at = tables.Module (n + 1) in
    let parts = λ (code : Code). none_parts (place_in_table code at (module_keys v) t)
    (option_or (place_of_name code at (take n modules) t) (place_in_pairs v code (n + 1) (tables_at (codes "pair") t))) (none code) in
    let pairs = λ (code : Code).
    (none_parts (place_of_name code at (take n modules) t) (place_in_pairs v code (n + 1) (tables_at (codes "pair") t)) (parts code).1).1 in
    let keys = λ (code : Code). no_key code at (module_keys v) t (parts code).0 in
    either_light v (n + 1) t (keys co.Missing) (keys co.Range) pairs

modules_sum : (v : Version) (ts : List Members) → 80 * modules_octets (map (module_of v) ts) ≡ sum_of (λ t. 80 * module_octets (module_of v t)) ts
modules_sum v [] = refl
modules_sum v (t ∷ ts) = let more = modules_sum v ts in omega (arith, more)

-- ---- fibres

-- ---- fibres

both_parts : (o q : Option ℤ) (p : ℤ × ℤ) → both o q ≡ Some p → (o ≡ Some p.0) × (q ≡ Some p.1)
both_parts None q p is = absurd (none-some p is)
both_parts (Some x) None p is = absurd (none-some p is)
both_parts (Some x) (Some y) p is = let same = same_Some (x, y) p is in (ap (λ r. Some r.0) same, ap (λ r. Some r.1) same)

-- an array of two numbers
array_light : (x y : Data) (p : ℤ × ℤ) → both (as_integer x) (as_integer y) ≡ Some p → point_octets p ≤ weight (array (item x (item y no_items)))
array_light x y p is =
    let parts = both_parts (as_integer x) (as_integer y) p is in
    let first_is : brace_weight x + weight x ≡ brace_weight (integer p.0) + weight (integer p.0) = ap (λ d. brace_weight d + weight d)
    (integer_is x p.0 parts.0) in
    let second_is : brace_weight y + weight y ≡ brace_weight (integer p.1) + weight (integer p.1) = ap (λ d. brace_weight d + weight d)
    (integer_is y p.1 parts.1) in
    omega (arith, first_is, second_is)

point_light : (d : Data) (p : ℤ × ℤ) → point_of d ≡ Some p → point_octets p ≤ brace_weight d + weight d
point_light (array no_items) p is = absurd (none-some p is)
point_light (array (item x no_items)) p is = absurd (none-some p is)
point_light (array (item x (item y no_items))) p is = let light = array_light x y p is in omega (arith, light)
point_light (array (item x (item y (item z more)))) p is = absurd (none-some p is)
point_light (string s) p is = absurd (none-some p is)
point_light (integer z) p is = absurd (none-some p is)
point_light (float x) p is = absurd (none-some p is)
point_light (boolean b) p is = absurd (none-some p is)
point_light (datetime dt) p is = absurd (none-some p is)
point_light (table ms) p is = absurd (none-some p is)

with_first : (d : Data) (ds : List Data) (p : Option (ℤ × ℤ)) (more : Option (List (ℤ × ℤ))) (ps : List (ℤ × ℤ)) → point_of d ≡ p
    → ((qs : List (ℤ × ℤ)) → more ≡ Some qs → points_octets qs ≤ tables_weight ds) → with_point p more ≡ Some ps → points_octets ps ≤ tables_weight (d ∷ ds)
with_first d ds None more ps here on all = absurd (none-some ps all)
with_first d ds (Some p) None ps here on all = absurd (none-some ps all)
with_first d ds (Some p) (Some qs) ps here on all =
    let same = ap points_octets (same_Some (p ∷ qs) ps all) in
    let own = point_light d p here in
    let rest = on qs refl in
    omega (arith, same, own, rest)

points_light : (ds : List Data) (ps : List (ℤ × ℤ)) → points_of ds ≡ Some ps → points_octets ps ≤ tables_weight ds
points_light [] ps is = let same = ap points_octets (same_Some [] ps is) in omega (arith, same)
points_light (d ∷ ds) ps is = with_first d ds (point_of d) (points_of ds) ps refl (λ qs more. points_light ds qs more) is

-- the array of the points that are read
record IsStored (found : Option Data) (ps : List (ℤ × ℤ)) : Type 0 where
  elements : Items
  is : found ≡ Some (array elements)
  points : points_of (list_of elements) ≡ Some ps

few_is : (ds : List Data) (b : Bool) (ps : List (ℤ × ℤ)) → (if b then points_of ds else None) ≡ Some ps → points_of ds ≡ Some ps
few_is ds true ps is = is
few_is ds false ps is = absurd (none-some ps is)

stored_there : (found : Option Data) (ps : List (ℤ × ℤ)) → option_and_then stored_points found ≡ Some ps → IsStored found ps
stored_there None ps is = absurd (none-some ps is)
stored_there (Some (array elements)) ps is =
    record { elements = elements; is = refl; points = few_is (list_of elements) _ ps is }
stored_there (Some (string s)) ps is = absurd (none-some ps is)
stored_there (Some (integer z)) ps is = absurd (none-some ps is)
stored_there (Some (float x)) ps is = absurd (none-some ps is)
stored_there (Some (boolean b)) ps is = absurd (none-some ps is)
stored_there (Some (datetime dt)) ps is = absurd (none-some ps is)
stored_there (Some (table ms)) ps is = absurd (none-some ps is)

-- the asymmetry that is there
abbrev least : ℤ
least = negsuc 274_877_906_943

abbrev greatest : ℤ
greatest = pos 274_877_906_944

in_range_some : (o : Option ℤ) → in_range least greatest o ≡ true → (z : ℤ) × (o ≡ Some z)
in_range_some None is = absurd (false≢true is)
in_range_some (Some z) is = (z, refl)

kappa_there : (found : Option Data) → has_fault co.Missing kappa_key found ≡ false → has_fault co.Range kappa_key found ≡ false
    → found ≡ Some (integer (unwrap_or (number_in kappa_key found) (pos 0)))
kappa_there None missing range = cc missing
kappa_there (Some d) missing range =
    let fits = not-false (in_range least greatest (as_integer d)) range in
    let there = in_range_some (as_integer d) fits in
    let read : unwrap_or (if in_range least greatest (as_integer d) then as_integer d else None) (pos 0) ≡ there.0 =
    ap (λ (b : Bool). unwrap_or (if b then as_integer d else None) (pos 0)) fits ∙ ap (λ (o : Option ℤ). unwrap_or o (pos 0)) there.1 in
    ap Some (integer_is d there.0 there.1 ∙ ap integer (sym read))

-- the error of points, which may be missing
optional_there : (found : Option Data)
    → (digits (unsigned_abs (unwrap_or (number_in table_err_key found) (pos 0))) ≤ 1)
    ⊎ IsNumber (unsigned_abs (unwrap_or (number_in table_err_key found) (pos 0))) found
optional_there None = inl zero_digit
optional_there (Some d) = elim (cases_Bool (in_range (pos 0) (pos 1_000_000_000) (as_integer d))) [
  | inl fits ↦ inr (fitting_number_at (in_range (pos 0) (pos 1_000_000_000)) (in_range_small 0 1_000_000_000 (omega arith)) d fits)
  | inr other ↦
      let none : unsigned_abs (unwrap_or (if in_range (pos 0) (pos 1_000_000_000) (as_integer d) then as_integer d else None) (pos 0)) ≡ 0 =
      ap (λ (b : Bool). unsigned_abs (unwrap_or (if b then as_integer d else None) (pos 0))) other in
      inl (subst (λ (n : ℕ). digits n ≤ 1) (sym none) zero_digit)
]

-- the line of a fibre
record HasLine (t : Members) : Type 0 where
  name : IsText is_name (name_in t)
  kappa : get_member (codes "kappa") t ≡ Some (integer (number_at kappa_key t))
  err : IsNumber (natural_at fibre_err_key t) (get_member (codes "err") t)

abbrev line_entries : Members → Entries
line_entries t = (codes "name", string (name_at t)) ∷ (codes "kappa", integer (number_at kappa_key t))
    ∷ (codes "err", integer (pos (natural_at fibre_err_key t))) ∷ []

line_holds : (t : Members) → HasLine t → Holds (line_entries t) t
line_holds t has = let err = has.err.is in (name_there t has.name, (has.kappa, (err, tt)))

abbrev table_made : Members → List (ℤ × ℤ) → TableAt
table_made t ps = record { points = ps; err = natural_at table_err_key t }

fibre_by : (t : Members) (o : Option (List (ℤ × ℤ))) → option_and_then stored_points (get_member (codes "table") t) ≡ o → HasLine t
    → 80 * (((37 + length (name_at t)) + (digits (natural_at fibre_err_key t) + length (signed_decimal (number_at kappa_key t))))
    + table_octets (option_map (table_made t) o)) + 370
    ≤ 97 * (4 + members_weight t)
fibre_by t None is has =
    let heavy = entries_le (line_entries t) t refl (line_holds t has) in
    let a = number_weight (natural_at fibre_err_key t) has.err.small in
    let long = name_length t has.name in
    omega (arith, heavy, a, long)
fibre_by t (Some ps) is has =
    let stored = stored_there (get_member (codes "table") t) ps is in
    let inside = items_are stored.elements in
    let light = points_light (list_of stored.elements) ps stored.points in
    let a = number_weight (natural_at fibre_err_key t) has.err.small in
    let long = name_length t has.name in
    elim (optional_there (get_member (codes "table_err") t)) [
      | inl few ↦
          let heavy = entries_le ((codes "table", array stored.elements) ∷ line_entries t) t refl (stored.is, line_holds t has) in
          let one : digits (natural_at table_err_key t) ≤ 1 = few in
          omega (arith, heavy, a, long, inside, light, one)
      | inr number ↦
          let n = natural_at table_err_key t in
          let there : get_member (codes "table_err") t ≡ Some (integer (pos n)) = number.is in
          let heavy = entries_le ((codes "table_err", integer (pos n)) ∷ (codes "table", array stored.elements) ∷ line_entries t) t refl
          (there, (stored.is, line_holds t has)) in
          let b = number_weight n number.small in
          omega (arith, heavy, a, b, long, inside, light)
    ]

fibre_light : (fibres : List Data) (n : ℕ) (t : Members) → ((code : Code) → place_in_fibre code fibres n t ≡ None)
    → 80 * fibre_octets (fibre_of t) + 370 ≤ 97 * (4 + members_weight t)
fibre_light fibres n t none =
    let at = tables.Fibre (n + 1) in
    let more = table_key (law_of t) ∷ (if is_some (get_member (codes "table") t) then table_err_key ∷ [] else []) in
    let rows = λ (code : Code). no_key code at (fibre_keys t) t
    (none_parts (place_in_table code at (fibre_keys t) t) (place_of_name code at (take n fibres) t) (none code)).0 in
    let behind_name = λ (code : Code). first_passed (at_fault code t) name_key (kappa_key ∷ fibre_err_key ∷ more) (rows code) in
    let behind_kappa = λ (code : Code). first_passed (at_fault code t) kappa_key (fibre_err_key ∷ more) (behind_name code).1 in
    let behind_err = λ (code : Code). first_passed (at_fault code t) fibre_err_key more (behind_kappa code).1 in
    let has : HasLine t = record {
      name = plain_text (codes "name") (get_member (codes "name") t) (behind_name co.Missing).0 (behind_name co.Range).0;
      kappa = kappa_there (get_member (codes "kappa") t) (behind_kappa co.Missing).0 (behind_kappa co.Range).0;
      err = number_there (codes "err") 1 1_000_000_000 (omega arith) (get_member (codes "err") t) (behind_err co.Missing).0 (behind_err co.Range).0;
    } in
    fibre_by t (option_and_then stored_points (get_member (codes "table") t)) refl has

fibres_sum : (ts : List Members) → 80 * fibres_octets (map fibre_of ts) ≤ sum_of (λ t. 80 * fibre_octets (fibre_of t) + 370) ts
fibres_sum [] = omega arith
fibres_sum (t ∷ ts) = let more = fibres_sum ts in omega (arith, more)

-- ---- the lists of a document

-- the list of a document gives nothing, or its array weighs enough for the text of all
abbrev IsPart : ℕ → ℕ → ℕ → Option Data → Type 0
IsPart least more octets found = (octets ≡ least) ⊎ ((elements : Items) × (found ≡ Some (array elements)) × (80 * octets + more ≤ 97 * items_weight elements))

modules_are : (ms : List ModuleAt) → (modules_part ms ≡ 12) ⊎ (modules_part ms ≡ modules_octets ms)
modules_are [] = inl refl
modules_are (m ∷ ms) = inr refl

modules_light : (v : Version) (found : Option Data) → let values = option_and_then values_of found in
    ((code : Code) → place_in_modules v code (tables_of values) ≡ None)
    → IsPart 12 0 (modules_part (each_table (module_of v) (tables_of values))) found
modules_light v found none =
    let values = option_and_then values_of found in
    let ts = members_in (tables_of values) in
    let listed = λ (code : Code). subst (λ ds. place_in_modules v code ds ≡ None) (tables_of-members values) (none code) in
    let light = all_light (λ code. place_in_module v code (map table ts)) (λ t. 80 * module_octets (module_of v t))
    (module_light v (map table ts)) 0 ts listed in
    let same : each_table (module_of v) (tables_of values) ≡ map (module_of v) ts = ap (each_table (module_of v)) (tables_of-members values)
    ∙ each_table-map (module_of v) ts in
    elim (modules_are (each_table (module_of v) (tables_of values))) [
      | inl none_listed ↦ inl none_listed
      | inr some ↦ elim (array_there found) [
        | inl empty ↦ inl (ap (λ ds. modules_part (each_table (module_of v) ds)) empty)
        | inr has ↦
            let octets = some ∙ ap modules_octets same in
            let total = modules_sum v ts in
            let inside = items_are has.elements in
            let weighs : tables_weight (list_of has.elements) ≡ tables_weight (map table ts) = ap tables_weight (sym has.tables ∙ tables_of-members values) in
            inr (has.elements, has.is, omega (arith, light, octets, total, inside, weighs))
      ]
    ]

fibres_are : (fs : List FibreAt) → (fibres_part fs ≡ 11) ⊎ ((fibres_part fs ≡ fibres_octets fs) × (1 ≤ length fs))
fibres_are [] = inl refl
fibres_are (f ∷ fs) = inr (refl, omega arith)

fibres_slack : (ts : List Members) → 1 ≤ length (map fibre_of ts)
    → 80 * fibres_octets (map fibre_of ts) + 370 ≤ sum_of (λ t. 80 * fibre_octets (fibre_of t) + 370) ts
fibres_slack [] some = absurd (omega (arith, some))
fibres_slack (t ∷ ts) some = let more = fibres_sum ts in omega (arith, more)

fibres_light : (found : Option Data) → let values = option_and_then values_of found in
    ((code : Code) → place_in_fibres code (tables_of values) ≡ None)
    → IsPart 11 370 (fibres_part (each_table fibre_of (tables_of values))) found
fibres_light found none =
    let values = option_and_then values_of found in
    let ts = members_in (tables_of values) in
    let listed = λ (code : Code). subst (λ ds. place_in_fibres code ds ≡ None) (tables_of-members values) (none code) in
    let light = all_light (λ code. place_in_fibre code (map table ts)) (λ t. 80 * fibre_octets (fibre_of t) + 370) (fibre_light (map table ts)) 0 ts listed in
    let same : each_table fibre_of (tables_of values) ≡ map fibre_of ts = ap (each_table fibre_of) (tables_of-members values) ∙ each_table-map fibre_of ts in
    elim (fibres_are (each_table fibre_of (tables_of values))) [
      | inl none_listed ↦ inl none_listed
      | inr some ↦ elim (array_there found) [
        | inl empty ↦ inl (ap (λ ds. fibres_part (each_table fibre_of ds)) empty)
        | inr has ↦
            let octets = some.0 ∙ ap fibres_octets same in
            let count : length (each_table fibre_of (tables_of values)) ≡ length (map fibre_of ts) = ap length same in
            let one = some.1 in
            let total = fibres_slack ts (omega (arith, one, count)) in
            let inside = items_are has.elements in
            let weighs : tables_weight (list_of has.elements) ≡ tables_weight (map table ts) = ap tables_weight (sym has.tables ∙ tables_of-members values) in
            inr (has.elements, has.is, omega (arith, light, octets, total, inside, weighs))
      ]
    ]

-- of both lists
lists_light : (doc : Members) (fibres modules : ℕ) → IsPart 11 370 fibres (get_member (codes "fibre") doc)
    → IsPart 12 0 modules (get_member (codes "module") doc)
    → ((12 + fibres) + modules ≤ 35) ⊎ (80 * ((12 + fibres) + modules) ≤ 97 * members_weight doc + 94)
lists_light doc fibres modules (inl f) (inl m) = inl (omega (arith, f, m))
lists_light doc fibres modules (inl f) (inr (elements, is, light)) =
    let heavy = entries_le ((codes "module", array elements) ∷ []) doc refl (is, tt) in
    inr (omega (arith, f, light, heavy))
lists_light doc fibres modules (inr (elements, is, light)) (inl m) =
    let heavy = entries_le ((codes "fibre", array elements) ∷ []) doc refl (is, tt) in
    inr (omega (arith, m, light, heavy))
lists_light doc fibres modules (inr (elements, is, light)) (inr (others, are, also)) =
    let heavy = entries_le ((codes "fibre", array elements) ∷ (codes "module", array others) ∷ []) doc refl (is, (are, tt)) in
    inr (omega (arith, light, also, heavy))

-- the text of the database of an accepted table: 35 octets if nothing is listed, or by the weight
pub document_light : (others : Others) (doc : Members) → IsAccepted others doc
    → (document_octets (database_of doc) ≤ 35) ⊎ (80 * document_octets (database_of doc) ≤ 97 * members_weight doc + 94)
document_light others doc accepted =
    let v = version_of doc in
    let modules = tables_at (codes "module") doc in
    let fibres = tables_at (codes "fibre") doc in
    let lists = λ (code : Code). (none_parts (place_in_top others code doc) (place_in_lists code doc) (accepted code)).1 in
    let behind = λ (code : Code). (none_parts (place_of_keys code tables.Top (module_key ∷ []) doc)
    (option_or (place_in_modules v code modules) (option_or (place_of_keys code tables.Top (fibre_key ∷ []) doc) (place_in_fibres code fibres)))
    (lists code)).1 in
    let parts = λ (code : Code). none_parts (place_in_modules v code modules)
    (option_or (place_of_keys code tables.Top (fibre_key ∷ []) doc) (place_in_fibres code fibres)) (behind code) in
    let last = λ (code : Code). (none_parts (place_of_keys code tables.Top (fibre_key ∷ []) doc) (place_in_fibres code fibres) (parts code).1).1 in
    lists_light doc (fibres_part (database_of doc).fibres) (modules_part (database_of doc).modules)
    (fibres_light (get_member (codes "fibre") doc) last) (modules_light v (get_member (codes "module") doc) (λ code. (parts code).0))
