-- The place in a network file that a refusal names is one word: names of tables and keys are words, and so are numbers.
use Rattle.std.proofs.Common.{◌≡◌, inl, inr, refl, sym, subst, ℕ, ◌+◌, Bool, true, false, if◌then◌else◌, find, List, [], ◌∷◌, ◌++◌, map, take, Option, None, Some, option_map, codes}
use Rattle.std.specs.Prelude.{Err, option_and_then}
use Rattle.std.specs.Fmt.{decimal, signed_decimal}
use Rattle.std.specs.List.{list_all, list_any}
use Rattle.std.specs.Option.{is_some, option_or}
use Rattle.std.proofs.lemmas.Bool.{and_parts}
use Rattle.arrayvec.specs.ArrayString.{ArrayString}
use Rattle.toml.specs.Data.{Data, Members, as_table, get_member}
use Rattle.wrp_base.specs.declared.fault.ConfFault.TheVariants.{Fault}
use Rattle.wrp_base.specs.declared.time.Clock.{Clock}
use Rattle.wrp_base.specs.declared.time.Clock.TheVariants.{Mhz125, Mhz62}
use Rattle.wrp_bounds.specs.declared.inequality.Clash.{Clash}
use Rattle.wrp_caldb.specs.Calibration.{fibre_key, fibre_keys, linear_keys, module_key, module_keys, pair_keys, place_in_fibre, place_in_fibres, place_in_lists, place_in_module, place_in_modules, place_in_pair, place_in_pairs, table_err_key, version_key, version_of}
use Rattle.wrp_caldb.specs.Key.{Key}
use Rattle.wrp_caldb.specs.Place.{PlaceAt, place_text, table_text}
use Rattle.wrp_caldb.specs.Refusal.{first_among, key_place, on_table, place_in_table, place_of_keys, place_of_others, table_place}
use Rattle.wrp_caldb.specs.Repeats.{has_name_of, has_wavelengths_of, place_of_name, place_of_pair}
use Rattle.wrp_caldb.specs.Rows.{has_fault, has_unknown, tables_at}
use Rattle.wrp_caldb.specs.declared.keys.Version.{Version}
use Rattle.wrp_caldb.specs.declared.keys.Version.TheVariants.{One, Two}
use Rattle.wrp_caldb.specs.declared.place.At.{At}
use Rattle.wrp_caldb.specs.declared.place.At.TheVariants as tables
use Rattle.wrp_caldb.specs.declared.row.Code.{Code}
use Rattle.wrp_caldb.specs.declared.row.Code.TheVariants as co
use Rattle.wrp_network_text.specs.Keys.{clock_in, link_key, network_in, network_key, network_keys, node_key, node_keys}
use Rattle.wrp_network_text.specs.Links.{Context, LinkKey, has_link_fault, link_keys, place_in_link_table}
use Rattle.wrp_network_text.specs.Places.{context_of, first_place, no_node, place_at_links, place_at_nodes, place_in_head, place_in_link, place_in_links, place_in_node, place_in_nodes, place_of_identity, place_of_port, has_text_of, repeats_lower, repeats_upper}
use Rattle.wrp_network_text.specs.Reading.{IsReadingOf, clash_text}
use Rattle.wrp_records.specs.Words.{IsWord, is_word_octet}
use Rattle.wrp_records.proofs.WordLemmas.{decimal_word, signed_word}
use Rattle.wrp_asked.proofs.InputLines.{word_append}

-- A place that there is, is a word

abbrev IsWordly : Option PlaceAt → Type 0
IsWordly None = Unit {0}
IsWordly (Some place) = IsWord (place_text place)

table_word : (at : At) → IsWord (table_text at)
table_word tables.Top = refl
table_word tables.Network = refl
table_word (tables.Node n) = word_append (codes "node.") (decimal n) refl (decimal_word n)
table_word (tables.Link n) = word_append (codes "link.") (decimal n) refl (decimal_word n)
table_word (tables.Module n) = word_append (codes "module.") (decimal n) refl (decimal_word n)
table_word (tables.Pair n m) =
    word_append ((codes "module." ++ decimal n) ++ codes ".pair.") (decimal m)
    (word_append (codes "module." ++ decimal n) (codes ".pair.") (word_append (codes "module.") (decimal n) refl (decimal_word n)) refl) (decimal_word m)
table_word (tables.Fibre n) = word_append (codes "fibre.") (decimal n) refl (decimal_word n)

in_table : (at : At) (key : List ℕ) → IsWord key → IsWord ((table_text at ++ codes ".") ++ key)
in_table at key h = word_append (table_text at ++ codes ".") key (word_append (table_text at) (codes ".") (table_word at) refl) h

key_word : (at : At) (key : List ℕ) → IsWord key → IsWordly (Some (record { at = at; key = Some key }))
key_word tables.Top key h = h
key_word tables.Network key h = in_table tables.Network key h
key_word (tables.Node n) key h = in_table (tables.Node n) key h
key_word (tables.Link n) key h = in_table (tables.Link n) key h
key_word (tables.Module n) key h = in_table (tables.Module n) key h
key_word (tables.Pair n m) key h = in_table (tables.Pair n m) key h
key_word (tables.Fibre n) key h = in_table (tables.Fibre n) key h

-- One of several

either : (b : Bool) (o : Option PlaceAt) → IsWordly o → IsWordly (if b then o else None)
either true o h = h
either false o h = tt

one_of : (a b : Option PlaceAt) → IsWordly a → IsWordly b → IsWordly (option_or a b)
one_of None b h k = k
one_of (Some place) b h k = h

on_some : (f : Members → Option PlaceAt) (o : Option Members) → ((table : Members) → IsWordly (f table)) → IsWordly (option_and_then f o)
on_some f None h = tt
on_some f (Some table) h = h table

among : (f : ℕ → Data → Option PlaceAt) (n : ℕ) (ds : List Data) → ((m : ℕ) (d : Data) → IsWordly (f m d)) → IsWordly (first_among f n ds)
among f n [] h = tt
among f n (d ∷ ds) h = one_of (f n d) (first_among f (n + 1) ds) (h n d) (among f (n + 1) ds h)

-- in each of some tables, by how many come before it
in_tables : (f : ℕ → Members → Option PlaceAt) (ds : List Data) → ((m : ℕ) (table : Members) → IsWordly (f m table))
    → IsWordly (first_among (λ m d. on_table (f m) d) 0 ds)
in_tables f ds h = among (λ m d. on_table (f m) d) 0 ds (λ m d. on_some (f m) (as_table d) (h m))

-- Keys

abbrev AreKeys : List Key → Type 0
AreKeys keys = list_all (λ (key : Key). list_all is_word_octet key.name) keys ≡ true

-- the name of what was found, or none
abbrev IsNameWord : Option (List ℕ) → Type 0
IsNameWord None = Unit {0}
IsNameWord (Some name) = IsWord name

found_by : {X : Type 0} (name : X → List ℕ) (b : Bool) (x : X) (rest : Option X) → IsWord (name x) → IsNameWord (option_map name rest)
    → IsNameWord (option_map name (if b then Some x else rest))
found_by name true x rest h k = h
found_by name false x rest h k = k

found_word : {X : Type 0} (name : X → List ℕ) (test : X → Bool) (xs : List X) → list_all (λ (x : X). list_all is_word_octet (name x)) xs ≡ true
    → IsNameWord (option_map name (find test xs))
found_word name test [] h = tt
found_word name test (x ∷ xs) h =
    let both = and_parts (list_all is_word_octet (name x)) (list_all (λ y. list_all is_word_octet (name y)) xs) h in
    found_by name (test x) x (find test xs) both.0 (found_word name test xs both.1)

at_key : (at : At) (o : Option (List ℕ)) → IsNameWord o → IsWordly (key_place at o)
at_key at None h = tt
at_key at (Some name) h = key_word at name h

of_keys : (code : Code) (at : At) (keys : List Key) (table : Members) → AreKeys keys → IsWordly (place_of_keys code at keys table)
of_keys code at keys table are =
    at_key at (option_map (λ (key : Key). key.name) (find (λ (key : Key). has_fault code key (get_member key.name table)) keys))
    (found_word (λ (key : Key). key.name) (λ (key : Key). has_fault code key (get_member key.name table)) keys are)

of_others : (code : Code) (at : At) (keys : List Key) (table : Members) → IsWordly (place_of_others code at keys table)
of_others co.UnknownKey at keys table = either (has_unknown keys table) (Some (table_place at)) (table_word at)
of_others co.Missing at keys table = tt
of_others co.Range at keys table = tt
of_others co.Twice at keys table = tt

in_rows : (code : Code) (at : At) (keys : List Key) (table : Members) → AreKeys keys → IsWordly (place_in_table code at keys table)
in_rows code at keys table are =
    one_of (place_of_others code at keys table) (place_of_keys code at keys table) (of_others code at keys table) (of_keys code at keys table are)

of_name : (code : Code) (at : At) (earlier : List Data) (table : Members) → IsWordly (place_of_name code at earlier table)
of_name co.UnknownKey at earlier table = tt
of_name co.Missing at earlier table = tt
of_name co.Range at earlier table = tt
of_name co.Twice at earlier table =
    either (list_any (has_name_of table) earlier) (Some (record { at = at; key = Some (codes "name") })) (key_word at (codes "name") refl)

-- Modules and fibres

of_pair : (code : Code) (at : At) (earlier : List Data) (table : Members) → IsWordly (place_of_pair code at earlier table)
of_pair co.UnknownKey at earlier table = tt
of_pair co.Missing at earlier table = tt
of_pair co.Range at earlier table = tt
of_pair co.Twice at earlier table = either (list_any (has_wavelengths_of table) earlier) (Some (table_place at)) (table_word at)

in_pair : (code : Code) (n : ℕ) (pairs : List Data) (m : ℕ) (table : Members) → IsWordly (place_in_pair code n pairs m table)
in_pair code n pairs m table =
    one_of (place_in_table code (tables.Pair n (m + 1)) (pair_keys table) table) (place_of_pair code (tables.Pair n (m + 1)) (take m pairs) table)
    (in_rows code (tables.Pair n (m + 1)) (pair_keys table) table refl) (of_pair code (tables.Pair n (m + 1)) (take m pairs) table)

in_pairs : (version : Version) (code : Code) (n : ℕ) (pairs : List Data) → IsWordly (place_in_pairs version code n pairs)
in_pairs One code n pairs = tt
in_pairs Two code n pairs = in_tables (λ m table. place_in_pair code n pairs m table) pairs (λ m table. in_pair code n pairs m table)

module_rows : (version : Version) → AreKeys (module_keys version)
module_rows One = refl
module_rows Two = refl

in_module : (version : Version) (code : Code) (modules : List Data) (n : ℕ) (table : Members) → IsWordly (place_in_module version code modules n table)
in_module version code modules n table =
    one_of (place_in_table code (tables.Module (n + 1)) (module_keys version) table) _
    (in_rows code (tables.Module (n + 1)) (module_keys version) table (module_rows version))
    (one_of (place_of_name code (tables.Module (n + 1)) (take n modules) table) (place_in_pairs version code (n + 1) (tables_at (codes "pair") table))
    (of_name code (tables.Module (n + 1)) (take n modules) table) (in_pairs version code (n + 1) (tables_at (codes "pair") table)))

with_table : (fibre : Members) (b : Bool) → AreKeys (linear_keys fibre (if b then table_err_key ∷ [] else []))
with_table fibre true = refl
with_table fibre false = refl

in_fibre : (code : Code) (fibres : List Data) (n : ℕ) (table : Members) → IsWordly (place_in_fibre code fibres n table)
in_fibre code fibres n table =
    one_of (place_in_table code (tables.Fibre (n + 1)) (fibre_keys table) table) (place_of_name code (tables.Fibre (n + 1)) (take n fibres) table)
    (in_rows code (tables.Fibre (n + 1)) (fibre_keys table) table (with_table table (is_some (get_member (codes "table") table))))
    (of_name code (tables.Fibre (n + 1)) (take n fibres) table)

in_lists : (code : Code) (doc : Members) → IsWordly (place_in_lists code doc)
in_lists code doc =
    let modules : List Data = tables_at (codes "module") doc in
    let fibres : List Data = tables_at (codes "fibre") doc in
    one_of (place_of_keys code tables.Top (module_key ∷ []) doc) _ (of_keys code tables.Top (module_key ∷ []) doc refl)
    (one_of (place_in_modules (version_of doc) code modules) _ (in_tables (λ n table. place_in_module (version_of doc) code modules n table) modules (λ n table. in_module (version_of doc) code modules n table))
    (one_of (place_of_keys code tables.Top (fibre_key ∷ []) doc) (place_in_fibres code fibres) (of_keys code tables.Top (fibre_key ∷ []) doc refl)
    (in_tables (λ n table. place_in_fibre code fibres n table) fibres (λ n table. in_fibre code fibres n table))))

-- Nodes and links

node_rows : (clock : Clock) → AreKeys (node_keys clock)
node_rows Mhz125 = refl
node_rows Mhz62 = refl

of_identity : (code : Code) (at : At) (earlier : List Data) (node : Members) → IsWordly (place_of_identity code at earlier node)
of_identity co.UnknownKey at earlier node = tt
of_identity co.Missing at earlier node = tt
of_identity co.Range at earlier node = tt
of_identity co.Twice at earlier node =
    either (list_any (has_text_of (codes "identity") node) earlier) (Some (record { at = at; key = Some (codes "identity") }))
    (key_word at (codes "identity") refl)

in_node : (clock : Clock) (code : Code) (nodes : List Data) (n : ℕ) (node : Members) → IsWordly (place_in_node clock code nodes n node)
in_node clock code nodes n node =
    one_of (place_in_table code (tables.Node (n + 1)) (node_keys clock) node) _ (in_rows code (tables.Node (n + 1)) (node_keys clock) node (node_rows clock))
    (one_of (place_of_name code (tables.Node (n + 1)) (take n nodes) node) (place_of_identity code (tables.Node (n + 1)) (take n nodes) node)
    (of_name code (tables.Node (n + 1)) (take n nodes) node) (of_identity code (tables.Node (n + 1)) (take n nodes) node))

port_by : (at : At) (upper lower : Bool) →
    IsWordly (if upper then Some (record { at = at; key = Some (codes "upper") }) else (if lower then Some (record { at = at; key = Some (codes "lower") }) else None))
port_by at true lower = key_word at (codes "upper") refl
port_by at false true = key_word at (codes "lower") refl
port_by at false false = tt

of_port : (code : Code) (at : At) (earlier : List Data) (link : Members) → IsWordly (place_of_port code at earlier link)
of_port co.UnknownKey at earlier link = tt
of_port co.Missing at earlier link = tt
of_port co.Range at earlier link = tt
of_port co.Twice at earlier link = port_by at (repeats_upper earlier link) (repeats_lower earlier link)

in_link_rows : (code : Code) (at : At) (file : Context) (link : Members) → IsWordly (place_in_link_table code at file link)
in_link_rows code at file link =
    one_of (place_of_others code at (map (λ (k : LinkKey). k.key) (link_keys link)) link) _
    (of_others code at (map (λ (k : LinkKey). k.key) (link_keys link)) link)
    (at_key at (option_map (λ (k : LinkKey). k.key.name) (find (has_link_fault code file link) (link_keys link)))
    (found_word (λ (k : LinkKey). k.key.name) (has_link_fault code file link) (link_keys link) refl))

in_link : (code : Code) (file : Context) (links : List Data) (l : ℕ) (link : Members) → IsWordly (place_in_link code file links l link)
in_link code file links l link =
    one_of (place_in_link_table code (tables.Link (l + 1)) file link) _ (in_link_rows code (tables.Link (l + 1)) file link)
    (one_of (place_of_name code (tables.Link (l + 1)) file.nodes link) _ (of_name code (tables.Link (l + 1)) file.nodes link)
    (one_of (place_of_name code (tables.Link (l + 1)) (take l links) link) (place_of_port code (tables.Link (l + 1)) (take l links) link)
    (of_name code (tables.Link (l + 1)) (take l links) link) (of_port code (tables.Link (l + 1)) (take l links) link)))

-- A whole text

without_node : (code : Code) (nodes : List Data) → IsWordly (no_node code nodes)
without_node co.UnknownKey nodes = tt
without_node co.Missing [] = refl
without_node co.Missing (node ∷ nodes) = tt
without_node co.Range nodes = tt
without_node co.Twice nodes = tt

in_head : (code : Code) (doc : Members) → IsWordly (place_in_head code doc)
in_head code doc =
    one_of _ _ (of_others code tables.Top _ doc)
    (one_of (place_of_keys code tables.Top (version_key ∷ network_key ∷ []) doc) (place_in_table code tables.Network network_keys (network_in doc))
    (of_keys code tables.Top (version_key ∷ network_key ∷ []) doc refl) (in_rows code tables.Network network_keys (network_in doc) refl))

at_nodes : (code : Code) (doc : Members) → IsWordly (place_at_nodes code doc)
at_nodes code doc =
    let nodes : List Data = tables_at (codes "node") doc in
    one_of (no_node code nodes) _ (without_node code nodes)
    (one_of (place_of_keys code tables.Top (node_key ∷ []) doc) (place_in_nodes (clock_in doc) code nodes) (of_keys code tables.Top (node_key ∷ []) doc refl)
    (in_tables (λ n node. place_in_node (clock_in doc) code nodes n node) nodes (λ n node. in_node (clock_in doc) code nodes n node)))

at_links : (code : Code) (doc : Members) → IsWordly (place_at_links code doc)
at_links code doc =
    let links : List Data = tables_at (codes "link") doc in
    one_of (place_of_keys code tables.Top (link_key ∷ []) doc) (place_in_links code (context_of doc) links) (of_keys code tables.Top (link_key ∷ []) doc refl)
    (in_tables (λ l link. place_in_link code (context_of doc) links l link) links (λ l link. in_link code (context_of doc) links l link))

first_wordly : (doc : Members) (code : Code) → IsWordly (first_place doc code)
first_wordly doc code =
    one_of (place_in_head code doc) _ (in_head code doc)
    (one_of (place_at_nodes code doc) _ (at_nodes code doc) (one_of (place_at_links code doc) (place_in_lists code doc) (at_links code doc) (in_lists code doc)))

clash_word : (clash : Clash) → IsWord (clash_text clash)
clash_word clash =
    word_append (((codes "c" ++ decimal clash.number) ++ codes ":") ++ signed_decimal clash.left ++ codes ":") (signed_decimal clash.right)
    (word_append ((((codes "c" ++ decimal clash.number) ++ codes ":") ++ signed_decimal clash.left)) (codes ":")
    (word_append ((codes "c" ++ decimal clash.number) ++ codes ":") (signed_decimal clash.left)
    (word_append (codes "c" ++ decimal clash.number) (codes ":") (word_append (codes "c") (decimal clash.number) refl (decimal_word clash.number)) refl) (signed_word clash.left))
    refl) (signed_word clash.right)

node_word : (n : ℕ) → IsWord (codes "node." ++ decimal n)
node_word n = word_append (codes "node.") (decimal n) refl (decimal_word n)

-- the place at which a text is refused
pub place_word : (text : List ℕ) (number : ℕ) (place : ArrayString) → IsReadingOf text (Err (Fault number place)) → IsWord place.bytes
place_word text number place (inl none) = subst IsWord (sym none.2) refl
place_word text number place (inr (doc, _, inl fault)) =
    subst IsWord (sym fault.4) (subst IsWordly fault.2.0 (first_wordly doc fault.0))
place_word text number place (inr (doc, _, inr (cfg, _, _, inl tree))) = subst IsWord (sym tree.4) (node_word (tree.1 + 1))
place_word text number place (inr (doc, _, inr (cfg, _, _, inr clash))) = subst IsWord (sym clash.4) (clash_word clash.0)
