-- The parts of a text whose tables are taken: no table of it has a place of any code.
use Rattle.std.proofs.Common.{◌≡◌, ◌+◌, ℕ, zero, suc, List, [], ◌∷◌, Bool, true, false, Option, None, Some, map, cond, refl, sym, ap, subst, ◌∙◌, arith}
use Rattle.std.specs.Prelude.{codes, option_and_then, option_map, slice_get}
use Rattle.std.specs.Option.{option_or}
use Rattle.std.specs.List.{AllByRecursion, find}
use Rattle.toml.specs.Data.{Members, table, get_member}
use Rattle.wrp_caldb.specs.Calibration.{version_key, place_in_lists, IsAccepted}
use Rattle.wrp_caldb.specs.Database.{each_table}
use Rattle.wrp_caldb.specs.Key.{Key}
use Rattle.wrp_caldb.specs.Place.{PlaceAt}
use Rattle.wrp_caldb.specs.Points.{values_of}
use Rattle.wrp_caldb.specs.Refusal.{key_place, place_of_keys, place_of_others, place_in_table, on_table, first_among}
use Rattle.wrp_caldb.specs.Rows.{tables_at}
use Rattle.wrp_caldb.specs.declared.keys.Others.TheVariants.{Ignored}
use Rattle.wrp_caldb.specs.declared.place.At.{At}
use Rattle.wrp_caldb.specs.declared.place.At.TheVariants as tables
use Rattle.wrp_caldb.specs.declared.row.Code.{Code}
use Rattle.wrp_calibration_text.proofs.Kept.{none_parts, at_fault, no_key, members_in, tables_of-members, each_table-map}
use Rattle.wrp_config.proofs.Lists.{none_at}
use Rattle.wrp_network_text.specs.Keys.{top_keys, network_key, node_key, link_key, network_keys, network_in, clock_in}
use Rattle.wrp_network_text.specs.Places.{no_node, context_of, place_in_head, place_at_nodes, place_at_links, place_in_nodes, place_in_links, IsTaken}

-- the parts of the text that have no place of a code
pub record HasNoPlace (doc : Members) (code : Code) : Type 0 where
  pub version : place_of_keys code tables.Top (version_key ∷ network_key ∷ []) doc ≡ None
  pub network : place_in_table code tables.Network network_keys (network_in doc) ≡ None
  pub some_node : no_node code (tables_at (codes "node") doc) ≡ None
  pub node_key : place_of_keys code tables.Top (node_key ∷ []) doc ≡ None
  pub nodes : place_in_nodes (clock_in doc) code (tables_at (codes "node") doc) ≡ None
  pub link_key : place_of_keys code tables.Top (link_key ∷ []) doc ≡ None
  pub links : place_in_links code (context_of doc) (tables_at (codes "link") doc) ≡ None
  pub lists : place_in_lists code doc ≡ None

pub parts_of : (doc : Members) → IsTaken doc → (code : Code) → HasNoPlace doc code
parts_of doc taken code =
    let lists = place_in_lists code doc in
    let nodes = tables_at (codes "node") doc in
    let links = tables_at (codes "link") doc in
    let a = none_parts (place_in_head code doc)
    (option_or (place_at_nodes code doc) (option_or (place_at_links code doc) lists)) (taken code) in
    let b = none_parts (place_at_nodes code doc) (option_or (place_at_links code doc) lists) a.1 in
    let c = none_parts (place_at_links code doc) lists b.1 in
    let head = none_parts (place_of_others code tables.Top top_keys doc)
    (option_or (place_of_keys code tables.Top (version_key ∷ network_key ∷ []) doc)
    (place_in_table code tables.Network network_keys (network_in doc))) a.0 in
    let behind = none_parts (place_of_keys code tables.Top (version_key ∷ network_key ∷ []) doc)
    (place_in_table code tables.Network network_keys (network_in doc)) head.1 in
    let some = none_parts (no_node code nodes)
    (option_or (place_of_keys code tables.Top (node_key ∷ []) doc) (place_in_nodes (clock_in doc) code nodes)) b.0 in
    let all = none_parts (place_of_keys code tables.Top (node_key ∷ []) doc) (place_in_nodes (clock_in doc) code nodes) some.1 in
    let each = none_parts (place_of_keys code tables.Top (link_key ∷ []) doc) (place_in_links code (context_of doc) links) c.0 in
    record {
      version = behind.0;
      network = behind.1;
      some_node = some.0;
      node_key = all.0;
      nodes = all.1;
      link_key = each.0;
      links = each.1;
      lists = c.1;
    }

-- no key of a table has a fault of a code
pub no_faults : (code : Code) (at : At) (keys : List Key) (t : Members) → place_in_table code at keys t ≡ None
    → AllByRecursion (λ key. at_fault code t key ≡ false) keys
no_faults code at keys t e = none_at (at_fault code t) keys (no_key code at keys t e)

-- each of the tables, at its place
pub each_at : (F : Code → ℕ → Members → Option PlaceAt) (k : ℕ) (ts : List Members)
    → ((c : Code) → first_among (λ n d. on_table (F c n) d) k (map table ts) ≡ None)
    → (n : ℕ) (t : Members) → slice_get ts n ≡ Some t → (c : Code) → F c (k + n) t ≡ None
each_at F k [] none n t e c = cc e
each_at F k (s ∷ ts) none zero t e c =
    let here = (none_parts (F c k s) (first_among (λ n d. on_table (F c n) d) (k + 1) (map table ts)) (none c)).0 in
    let same : s ≡ t = cc e in
    let at : k + 0 ≡ k = omega arith in
    rw (at, sym same) here
each_at F k (s ∷ ts) none (suc n) t e c =
    let later = λ (b : Code). (none_parts (F b k s) (first_among (λ n d. on_table (F b n) d) (k + 1) (map table ts)) (none b)).1 in
    let at : k + suc n ≡ (k + 1) + n = omega arith in
    rw at (each_at F (k + 1) ts later n t e c)

-- the same from the first on
pub each_first : (F : Code → ℕ → Members → Option PlaceAt) (ts : List Members)
    → ((c : Code) → first_among (λ n d. on_table (F c n) d) 0 (map table ts) ≡ None)
    → (n : ℕ) (t : Members) → slice_get ts n ≡ Some t → (c : Code) → F c n t ≡ None
each_first F ts none n t e c =
    let at : 0 + n ≡ n = omega arith in
    subst (λ m. F c m t ≡ None) at (each_at F 0 ts none n t e c)

-- the tables of the array at a key
abbrev pub tables_in : List ℕ → Members → List Members
tables_in key doc = members_in (tables_at key doc)

pub tables_are : (key : List ℕ) (doc : Members) → tables_at key doc ≡ map table (tables_in key doc)
tables_are key doc = tables_of-members (option_and_then values_of (get_member key doc))

-- what each of them gives
pub each_of : {X : Type 0} (f : Members → X) (key : List ℕ) (doc : Members) → each_table f (tables_at key doc) ≡ map f (tables_in key doc)
each_of f key doc = ap (each_table f) (tables_are key doc) ∙ each_table-map f (tables_in key doc)

-- without a fault among two keys the first has none
front_if : (at : At) (b : Bool) (a : Key) (rest : Option Key)
    → key_place at (option_map (λ key. key.name) (cond b (Some a) rest)) ≡ None
    → key_place at (option_map (λ key. key.name) (cond b (Some a) None)) ≡ None
front_if at true a rest e = e
front_if at false a rest e = refl

front : (code : Code) (at : At) (a b : Key) (t : Members) → place_of_keys code at (a ∷ b ∷ []) t ≡ None → place_of_keys code at (a ∷ []) t ≡ None
front code at a b t e = front_if at (at_fault code t a) a (find (at_fault code t) (b ∷ [])) e

-- the calibration part of the text is accepted by itself
pub lists_accepted : (doc : Members) → IsTaken doc → IsAccepted Ignored doc
lists_accepted doc taken code =
    let parts = parts_of doc taken code in
    rw (front code tables.Top version_key network_key doc parts.version, parts.lists) refl

-- a key alone that has no place has no fault
only_if : (at : At) (b : Bool) (a : Key) → key_place at (option_map (λ key. key.name) (cond b (Some a) None)) ≡ None → b ≡ false
only_if at true a e = cc e
only_if at false a e = refl

pub only_key : (code : Code) (at : At) (a : Key) (t : Members) → place_of_keys code at (a ∷ []) t ≡ None → at_fault code t a ≡ false
only_key code at a t e = only_if at (at_fault code t a) a e
