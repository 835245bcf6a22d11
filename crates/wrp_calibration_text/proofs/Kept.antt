-- The parts of a text that has no place of any code.
use Rattle.std.proofs.Common.{◌≡◌, ◌+◌, ◌&&◌, ℕ, zero, suc, List, [], ◌∷◌, Bool, true, false, Option, None, Some, map, option_map, length, take, refl, ap, arith}
use Rattle.std.proofs.lemmas.Bool.{and_parts, or_parts}
use Rattle.std.proofs.lemmas.Bool.Decides.{nat_tests}
use Rattle.std.specs.Prelude.{nat_le, if◌then◌else◌}
use Rattle.std.specs.Option.{option_or, is_some}
use Rattle.std.specs.List.{find, list_all, list_any, cons_option}
use Rattle.toml.specs.Data.{Data, Members, table, string, integer, float, boolean, datetime, array, as_table, get_member}
use Rattle.wrp_caldb.specs.Database.{each_table}
use Rattle.wrp_caldb.specs.Key.{Key}
use Rattle.wrp_caldb.specs.Place.{PlaceAt}
use Rattle.wrp_caldb.specs.Refusal.{key_place, place_of_keys, place_of_others, place_in_table, on_table, first_among}
use Rattle.wrp_caldb.specs.Rows.{has_fault, are_tables, tables_of}
use Rattle.wrp_caldb.specs.declared.place.At.{At}
use Rattle.wrp_caldb.specs.declared.row.Code.{Code}

pub none_parts : {T : Type 0} (a b : Option T) → option_or a b ≡ None → (a ≡ None) × (b ≡ None)
none_parts None b e = (refl, e)
none_parts (Some x) b e = cc e

pub if_none : {T : Type 0} (b : Bool) (x : T) → (if b then Some x else None) ≡ None → b ≡ false
if_none true x e = cc e
if_none false x e = refl

-- the test of a key with a fault
abbrev pub at_fault : Code → Members → Key → Bool
at_fault code t key = has_fault code key (get_member key.name t)

named_none : (at : At) (o : Option Key) → key_place at (option_map (λ key. key.name) o) ≡ None → o ≡ None
named_none at None e = refl
named_none at (Some key) e = cc e

-- a table without a place of a code has no key with a fault of it
pub no_key : (code : Code) (at : At) (keys : List Key) (t : Members) → place_in_table code at keys t ≡ None → find (at_fault code t) keys ≡ None
no_key code at keys t e =
    named_none at (find (at_fault code t) keys)
    (none_parts (place_of_others code at keys t) (place_of_keys code at keys t) e).1

-- and the other way round, if no key is unknown
pub no_place : (code : Code) (at : At) (keys : List Key) (t : Members) → place_of_others code at keys t ≡ None
    → find (at_fault code t) keys ≡ None → place_in_table code at keys t ≡ None
no_place code at keys t others e = rw (others, e) refl

-- what one list of tables has none of, the list of what is made of them has none of
pub among : (F G : Code → ℕ → Members → Option PlaceAt) (h : Members → Members)
    → ((n : ℕ) (t : Members) → ((c : Code) → F c n t ≡ None) → (c : Code) → G c n (h t) ≡ None)
    → (k : ℕ) (ts : List Members) → ((c : Code) → first_among (λ n d. on_table (F c n) d) k (map table ts) ≡ None)
    → (c : Code) → first_among (λ n d. on_table (G c n) d) k (map table (map h ts)) ≡ None
among F G h step k [] none c = refl
among F G h step k (t ∷ ts) none c =
    let parts = λ (b : Code). none_parts (F b k t) (first_among (λ n d. on_table (F b n) d) (k + 1) (map table ts)) (none b) in
    let here = step k t (λ b. (parts b).0) c in
    rw here (among F G h step (k + 1) ts (λ b. (parts b).1) c)

-- each of the tables passes a test that follows
pub each_passes : (F : Code → ℕ → Members → Option PlaceAt) (ok : Members → Bool)
    → ((n : ℕ) (t : Members) → ((c : Code) → F c n t ≡ None) → ok t ≡ true)
    → (k : ℕ) (ts : List Members) → ((c : Code) → first_among (λ n d. on_table (F c n) d) k (map table ts) ≡ None)
    → list_all ok ts ≡ true
each_passes F ok step k [] none = refl
each_passes F ok step k (t ∷ ts) none =
    let parts = λ (b : Code). none_parts (F b k t) (first_among (λ n d. on_table (F b n) d) (k + 1) (map table ts)) (none b) in
    rw (step k t (λ b. (parts b).0), each_passes F ok step (k + 1) ts (λ b. (parts b).1)) refl

-- no earlier one is the same, nor is what is made of it
pub any_kept : (p q : Data → Bool) (h : Members → Members) (ok : Members → Bool)
    → ((s : Members) → ok s ≡ true → p (table s) ≡ false → q (table (h s)) ≡ false)
    → (n : ℕ) (ts : List Members) → list_all ok ts ≡ true
    → list_any p (take n (map table ts)) ≡ false → list_any q (take n (map table (map h ts))) ≡ false
any_kept p q h ok step zero ts all none = refl
any_kept p q h ok step (suc n) [] all none = refl
any_kept p q h ok step (suc n) (t ∷ ts) all none =
    let well = and_parts (ok t) (list_all ok ts) all in
    let fresh = or_parts (p (table t)) (list_any p (take n (map table ts))) none in
    rw (step t well.0 fresh.0, any_kept p q h ok step n ts well.1 fresh.1) refl

pub all_true : (ts : List Members) → list_all (λ t. true) ts ≡ true
all_true [] = refl
all_true (t ∷ ts) = all_true ts

-- a list of only tables is the list of the tables in it
abbrev pub members_in : List Data → List Members
members_in ds = each_table (λ t. t) ds

pub all_members : (ds : List Data) → list_all (λ d. is_some (as_table d)) ds ≡ true → ds ≡ map table (members_in ds)
all_members [] e = refl
all_members (table t ∷ ds) e = ap (λ rest. table t ∷ rest) (all_members ds e)
all_members (string s ∷ ds) e = cc e
all_members (integer z ∷ ds) e = cc e
all_members (float x ∷ ds) e = cc e
all_members (boolean b ∷ ds) e = cc e
all_members (datetime x ∷ ds) e = cc e
all_members (array xs ∷ ds) e = cc e

all_members_if : (ds : List Data) (b : Bool) → list_all (λ d. is_some (as_table d)) ds ≡ b
    → (if b then ds else []) ≡ map table (members_in (if b then ds else []))
all_members_if ds true e = all_members ds e
all_members_if ds false e = refl

pub tables_of-members : (values : Option (List Data)) → tables_of values ≡ map table (members_in (tables_of values))
tables_of-members None = refl
tables_of-members (Some ds) = all_members_if ds (list_all (λ d. is_some (as_table d)) ds) refl

-- what each table of a list of tables gives
pub each_table-map : {X : Type 0} (f : Members → X) (ts : List Members) → each_table f (map table ts) ≡ map f ts
each_table-map f [] = refl
each_table-map f (t ∷ ts) = ap (λ rest. f t ∷ rest) (each_table-map f ts)

pub map-map : {X Y Z : Type 0} (g : Y → Z) (f : X → Y) (xs : List X) → map g (map f xs) ≡ map (λ x. g (f x)) xs
map-map g f [] = refl
map-map g f (x ∷ xs) = ap (λ rest. g (f x) ∷ rest) (map-map g f xs)

pub length_step : {X : Type 0} (f : Members → X) (o : Option Members) (ds : List Data) → is_some o ≡ true
    → length (each_table f ds) ≡ length ds → length (cons_option (option_map f o) (each_table f ds)) ≡ length ds + 1
length_step f None ds some e = cc some
length_step f (Some t) ds some e = omega arith

any_number : (n : ℕ) → (nat_le 0 n && true) ≡ true
any_number n = grind (arith, nat_tests)

-- as many tables as there are
pub all_fit : (ds : List Data) → list_all (λ d. is_some (as_table d)) ds ≡ true → are_tables 0 None ds ≡ true
all_fit ds e = rw e (any_number (length ds))
