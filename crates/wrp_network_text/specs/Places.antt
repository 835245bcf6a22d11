-- Where a network file is refused for what one of its tables says: the first place of each code, in the order of the
-- places (this project's profile).
use Rattle.std.specs.Prelude.{◌+◌, ◌||◌, ℕ, List, [], ◌∷◌, Bool, Option, Some, None, codes, take, option_and_then, if◌then◌else◌}
use Rattle.std.specs.Option.{option_or}
use Rattle.std.specs.List.{list_any}
use Rattle.toml.specs.Data.{Data, Members, as_table}
use Rattle.wrp_base.specs.declared.time.Clock.{Clock}
use Rattle.wrp_caldb.specs.Calibration.{version_key, place_in_lists}
use Rattle.wrp_caldb.specs.Database.{database_of}
use Rattle.wrp_caldb.specs.Place.{PlaceAt}
use Rattle.wrp_caldb.specs.Refusal.{place_of_keys, place_of_others, place_in_table, on_table, first_among, IsLeast, HasNone}
use Rattle.wrp_caldb.specs.Repeats.{are_same_texts, place_of_name}
use Rattle.wrp_caldb.specs.Rows.{tables_at}
use Rattle.wrp_caldb.specs.declared.place.At.{At}
use Rattle.wrp_caldb.specs.declared.place.At.TheVariants as tables
use Rattle.wrp_caldb.specs.declared.row.Code.{Code}
use Rattle.wrp_caldb.specs.declared.row.Code.TheVariants as co
use Rattle.wrp_network_text.specs.Ends.{text_at}
use Rattle.wrp_network_text.specs.Keys.{top_keys, network_key, node_key, link_key, network_keys, node_keys, network_in, clock_in}
use Rattle.wrp_network_text.specs.Links.{Context, place_in_link_table}

-- Nodes

-- the value is a table with the same text at a key
abbrev pub has_text_of : List ℕ → Members → Data → Bool
has_text_of key table d =
    are_same_texts (option_and_then (text_at key) (as_table d)) (text_at key table)

-- a node's identity, if an earlier node has the same
abbrev pub place_of_identity : Code → At → List Data → Members → Option PlaceAt
place_of_identity co.UnknownKey at earlier node = None
place_of_identity co.Missing at earlier node = None
place_of_identity co.Range at earlier node = None
place_of_identity co.Twice at earlier node =
    if list_any (has_text_of (codes "identity") node) earlier
    then Some (record { at = at; key = Some (codes "identity") }) else None

-- in a node with n nodes before it
abbrev pub place_in_node : Clock → Code → List Data → ℕ → Members → Option PlaceAt
place_in_node clock code nodes n node =
    option_or (place_in_table code (tables.Node (n + 1)) (node_keys clock) node)
    (option_or (place_of_name code (tables.Node (n + 1)) (take n nodes) node)
    (place_of_identity code (tables.Node (n + 1)) (take n nodes) node))

-- in the nodes, each in its turn
abbrev pub place_in_nodes : Clock → Code → List Data → Option PlaceAt
place_in_nodes clock code nodes =
    first_among (λ n d. on_table (place_in_node clock code nodes n) d) 0 nodes

-- Links

-- the value is a table that has this text at one of its ends
abbrev pub has_end : Option (List ℕ) → Data → Bool
has_end text d =
    are_same_texts (option_and_then (text_at (codes "upper")) (as_table d)) text
    || are_same_texts (option_and_then (text_at (codes "lower")) (as_table d)) text

-- the port of the upper end is a port of an earlier link
abbrev pub repeats_upper : List Data → Members → Bool
repeats_upper earlier link = list_any (has_end (text_at (codes "upper") link)) earlier

-- the port of the lower end is the port of the upper end, or a port of an earlier link
abbrev pub repeats_lower : List Data → Members → Bool
repeats_lower earlier link =
    are_same_texts (text_at (codes "upper") link) (text_at (codes "lower") link)
    || list_any (has_end (text_at (codes "lower") link)) earlier

-- an end of a link, if its port is the port of an earlier end
abbrev pub place_of_port : Code → At → List Data → Members → Option PlaceAt
place_of_port co.UnknownKey at earlier link = None
place_of_port co.Missing at earlier link = None
place_of_port co.Range at earlier link = None
place_of_port co.Twice at earlier link =
    if repeats_upper earlier link then Some (record { at = at; key = Some (codes "upper") })
    else (if repeats_lower earlier link then Some (record { at = at; key = Some (codes "lower") }) else None)

-- in a link with l links before it: a name is repeated if a node or an earlier link has it
abbrev pub place_in_link : Code → Context → List Data → ℕ → Members → Option PlaceAt
place_in_link code file links l link =
    option_or (place_in_link_table code (tables.Link (l + 1)) file link)
    (option_or (place_of_name code (tables.Link (l + 1)) file.nodes link)
    (option_or (place_of_name code (tables.Link (l + 1)) (take l links) link)
    (place_of_port code (tables.Link (l + 1)) (take l links) link)))

-- in the links, each in its turn
abbrev pub place_in_links : Code → Context → List Data → Option PlaceAt
place_in_links code file links =
    first_among (λ l d. on_table (place_in_link code file links l) d) 0 links

-- The text

-- the key `node` if there is no node
abbrev pub no_node : Code → List Data → Option PlaceAt
no_node co.UnknownKey nodes = None
no_node co.Missing [] = Some (record { at = tables.Top; key = Some (codes "node") })
no_node co.Missing (node ∷ nodes) = None
no_node co.Range nodes = None
no_node co.Twice nodes = None

-- what the names of the links are looked up in
abbrev pub context_of : Members → Context
context_of doc = record { nodes = tables_at (codes "node") doc; db = database_of doc }

-- at the top: a key that has no row, then `version`, then `network`, as a key and as a table
abbrev pub place_in_head : Code → Members → Option PlaceAt
place_in_head code doc =
    option_or (place_of_others code tables.Top top_keys doc)
    (option_or (place_of_keys code tables.Top (version_key ∷ network_key ∷ []) doc)
    (place_in_table code tables.Network network_keys (network_in doc)))

-- the key `node`, then the nodes
abbrev pub place_at_nodes : Code → Members → Option PlaceAt
place_at_nodes code doc =
    option_or (no_node code (tables_at (codes "node") doc))
    (option_or (place_of_keys code tables.Top (node_key ∷ []) doc)
    (place_in_nodes (clock_in doc) code (tables_at (codes "node") doc)))

-- the key `link`, then the links
abbrev pub place_at_links : Code → Members → Option PlaceAt
place_at_links code doc =
    option_or (place_of_keys code tables.Top (link_key ∷ []) doc)
    (place_in_links code (context_of doc) (tables_at (codes "link") doc))

-- the first place of a code in the text: the modules and the fibres come after the links
abbrev pub first_place : Members → Code → Option PlaceAt
first_place doc code =
    option_or (place_in_head code doc)
    (option_or (place_at_nodes code doc)
    (option_or (place_at_links code doc) (place_in_lists code doc)))

-- the text is refused for this code at this place
abbrev pub IsRefused : Members → Code → PlaceAt → Type 0
IsRefused doc code place = IsLeast (first_place doc) code place

-- no table of the text is refused
abbrev pub IsTaken : Members → Type 0
IsTaken doc = HasNone (first_place doc)
