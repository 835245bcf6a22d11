-- The line of an event of a network is no longer than a record's line may be.
use Rattle.std.proofs.Common.{◌≡◌, ◌∙◌, ap, sym, subst, ℕ, ℤ, pos, negsuc, suc, ◌+◌, ◌*◌, ◌<◌, ◌≤◌, ◌^◌, ◌==◌, ◌&&◌, Bool, true, false, if◌then◌else◌, List, [], ◌∷◌, ◌++◌, map, length, length-append, unsigned_abs, slice_get, Option, None, Some, option_map, refl, codes, arith, lit<}
use Rattle.std.specs.Prelude.{nat_le}
use Rattle.std.specs.Fmt.{decimal, signed_decimal}
use Rattle.std.specs.List.{AllByRecursion, cons_option, join_with_byte, list_all}
use Rattle.std.proofs.lemmas.Bool.{and_parts, leb-true}
use Rattle.std.proofs.lemmas.Fmt.{length-decimal-le_wide}
use Rattle.std.proofs.lemmas.Int.{ints}
use Rattle.byteorder.specs.Endian.{big_bytes}
use Rattle.byteorder.specs.Numbers.{length-bytes_high_first}
use Rattle.hex.specs.Hex.{encode_lower, lower_digits}
use Rattle.hex.proofs.HexLemmas.{length-encode_with}
use Rattle.toml.specs.Data.{Data, Members, as_table}
use Rattle.wrp_network.specs.declared.configuration.NetCfg.{NetCfg}
use Rattle.wrp_network.specs.declared.network.LinkCfg.{LinkCfg}
use Rattle.wrp_network.specs.declared.network.NodeCfg.{NodeCfg}
use Rattle.wrp_network.specs.Network.{name_at, node_count}
use Rattle.wrp_base.specs.Ranges.{IsFromTo}
use Rattle.wrp_base.proofs.Lists.{has_item, length_map}
use Rattle.wrp_caldb.specs.Database.{database_of, each_table}
use Rattle.wrp_caldb.specs.Name.{is_letter, is_name, is_name_octet}
use Rattle.wrp_caldb.specs.Rows.{tables_at}
use Rattle.wrp_network_text.proofs.Few.{few_links, few_nodes}
use Rattle.wrp_config.specs.Accepted.{HasNames}
use Rattle.wrp_network_text.specs.Config.{link_of, links_of, node_of, nodes_of}
use Rattle.wrp_config.specs.Same.{bare_link, bare_node}
use Rattle.wrp_network_text.specs.Keys.{clock_in}
use Rattle.wrp_course.specs.declared.event.Event.{Event}
use Rattle.wrp_course.specs.declared.event.Event.TheVariants.{Pass, Tick, Sample, Depart, Arrive, Deliver, Noise, Down, Up, Cut, Join}
use Rattle.wrp_course.specs.declared.event.Swap.{Swap}
use Rattle.wrp_course.specs.EventAt.{FitsEvent, IsChange, IsEventOf, IsMove, IsSwap, link_count}
use Rattle.wrp_course.specs.Setting.{Setting}
use Rattle.wrp_trace.proofs.PassReadsBack.{AreLinksFrom, AreNodesFrom, all_links, all_nodes}
use Rattle.wrp_trace.specs.EventPrinting.{drift_texts, drift_words, event_text, event_texts, link_text, move_texts, move_words, swap_text}
use Rattle.wrp_trace.specs.Printing.{bits_text}
use Rattle.wrp_network_world.specs.NetworkSetting.{IsSettingOf}

-- How many nodes and links

few_first : {X : Type 0} (o : Option X) (xs : List X) (n : ℕ) → length xs ≤ n → length (cons_option o xs) ≤ suc n
few_first None xs n few = omega (arith, few)
few_first (Some x) xs n few = omega (arith, few)

few_made : {X : Type 0} (f : Members → X) (ds : List Data) → length (each_table f ds) ≤ length ds
few_made f [] = omega arith
few_made f (d ∷ ds) = few_first (option_map f (as_table d)) (each_table f ds) (length ds) (few_made f ds)

-- a network has at most 64 nodes and 63 links
pub record IsSmall (cfg : NetCfg) : Type 0 where
  pub nodes : node_count cfg ≤ 64
  pub links : link_count cfg ≤ 63

pub small_network : (text : List ℕ) (s : Setting) → IsSettingOf text s → IsSmall s.cfg
small_network text s setting =
    let cfg : NetCfg = setting.net.cfg in
    let doc : Members = setting.reads.0 in
    let of = setting.reads.2.1 in
    let nodes : length cfg.nodes.items ≡ length (nodes_of doc) = sym (length_map bare_node cfg.nodes.items) ∙ ap length of.nodes in
    let links : length cfg.links.items ≡ length (links_of doc) = sym (length_map bare_link cfg.links.items) ∙ ap length of.links in
    let made = few_made (node_of (clock_in doc)) (tables_at (codes "node") doc) in
    let joined = few_made (link_of (tables_at (codes "node") doc) (database_of doc)) (tables_at (codes "link") doc) in
    let few = few_nodes doc setting.reads.2.0 in
    let some = few_links doc setting.reads.2.0 in
    let small : IsSmall cfg = record { nodes = omega (arith, nodes, made, few); links = omega (arith, links, joined, some) } in
    subst (λ (k : Setting). IsSmall k.cfg) (sym setting.is) small

-- How long a text is

-- how many octets texts have, each with one more for a comma
abbrev total : List (List ℕ) → ℕ
total [] = 0
total (text ∷ texts) = suc (length text) + total texts

joined_total : (texts : List (List ℕ)) → length (join_with_byte 44 texts) ≤ total texts
joined_total [] = omega arith
joined_total (text ∷ []) = omega arith
joined_total (text ∷ next ∷ texts) =
    let rest : length (join_with_byte 44 (next ∷ texts)) ≤ total (next ∷ texts) = joined_total (next ∷ texts) in
    let all : length (text ++ 44 ∷ join_with_byte 44 (next ∷ texts)) ≡ length text + suc (length (join_with_byte 44 (next ∷ texts))) =
    length-append text (44 ∷ join_with_byte 44 (next ∷ texts)) in
    omega (arith, rest, all)

total_append : (a b : List (List ℕ)) → total (a ++ b) ≡ total a + total b
total_append [] b = omega arith
total_append (text ∷ a) b = let rest = total_append a b in omega (arith, rest)

-- Numbers and names

number_short : (n : ℕ) → n < 10 ^ 13 → length (decimal n) ≤ 13
number_short n small = length-decimal-le_wide 13 n (lit< tt) small (omega (arith, small))

long_short : (n : ℕ) → n < 10 ^ 19 → length (decimal n) ≤ 19
long_short n small = length-decimal-le_wide 19 n (lit< tt) small (omega (arith, small))

wide_short : (n : ℕ) → n < 10 ^ 28 → length (decimal n) ≤ 28
wide_short n small = length-decimal-le_wide 28 n (lit< tt) small (omega (arith, small))

change_short : (z : ℤ) → IsChange z → length (signed_decimal z) ≤ 20
change_short (pos n) is = let digits = long_short n (omega (arith, is)) in omega (arith, digits)
change_short (negsuc n) is = let digits = long_short (suc n) (omega (arith, is)) in omega (arith, digits)

-- a number of at most this size, with its sign
wide_signed : (z : ℤ) → unsigned_abs z < 10 ^ 28 → length (signed_decimal z) ≤ 29
wide_signed (pos n) is = let digits = wide_short n is in omega (arith, digits)
wide_signed (negsuc n) is = let digits = wide_short (suc n) is in omega (arith, digits)

from_to : (least : ℕ) (z : ℤ) → IsFromTo least 9_223_372_036_854_775_807 z → IsChange z
from_to least (pos n) is = let most = is.1 in omega (arith, ints, most)
from_to least (negsuc n) is = let lowest = is.0 in absurd (omega (arith, ints, lowest))

name_short : (name : List ℕ) → is_name name ≡ true → length name ≤ 16
name_short [] is = omega arith
name_short (c ∷ cs) is =
    let both = and_parts (is_letter c) (list_all is_name_octet cs && nat_le (length cs) 15) is in
    let rest = and_parts (list_all is_name_octet cs) (nat_le (length cs) 15) both.1 in
    let few : length cs ≤ 15 = leb-true (length cs) 15 rest.1 in
    omega (arith, few)

node_short : (cfg : NetCfg) → HasNames cfg → (n : ℕ) → n < node_count cfg → length (name_at cfg n) ≤ 16
node_short cfg names n below =
    let node = has_item cfg.nodes.items n below in
    let short = name_short node.0.name.bytes (names.node n node.0 node.1) in
    rw node.1 short

link_short : (cfg : NetCfg) → HasNames cfg → (l : ℕ) → l < link_count cfg → length (link_text cfg l) ≤ 16
link_short cfg names l below =
    let link = has_item cfg.links.items l below in
    let short = name_short link.0.name.bytes (names.link l link.0 link.1) in
    rw link.1 short

hex_short : (octets : List ℕ) → length octets ≤ 256 → length (encode_lower octets) ≤ 512
hex_short octets few = let size : length (encode_lower octets) ≡ 2 * length octets = length-encode_with lower_digits octets in omega (arith, size, few)

bits_short : (bits : ℕ) → length (bits_text bits) ≤ 512
bits_short bits = let size : length (big_bytes 8 bits) ≡ 8 = length-bytes_high_first 8 bits in hex_short (big_bytes 8 bits) (omega (arith, size))

-- Further texts

drift_short : (node : NodeCfg) (drift : ℤ) → length node.name.bytes ≤ 16 → IsChange drift → length (drift_words node drift) ≤ 37
drift_short node drift name is =
    let number = change_short drift is in
    let all : length (node.name.bytes ++ 61 ∷ signed_decimal drift) ≡ length node.name.bytes + suc (length (signed_decimal drift)) =
    length-append node.name.bytes (61 ∷ signed_decimal drift) in
    omega (arith, name, number, all)

move_short : (link : LinkCfg) (move : ℤ × ℤ) → length link.name.bytes ≤ 16 → IsMove move → length (move_words link move) ≤ 58
move_short link move name is =
    let down = change_short move.0 is.0 in
    let up = change_short move.1 is.1 in
    let moves : length (signed_decimal move.0 ++ 47 ∷ signed_decimal move.1) ≡ length (signed_decimal move.0) + suc (length (signed_decimal move.1)) =
    length-append (signed_decimal move.0) (47 ∷ signed_decimal move.1) in
    let all : length (link.name.bytes ++ 61 ∷ (signed_decimal move.0 ++ 47 ∷ signed_decimal move.1)) ≡ length link.name.bytes + suc (length (signed_decimal move.0 ++ 47 ∷ signed_decimal move.1)) = length-append link.name.bytes (61 ∷ (signed_decimal move.0 ++ 47 ∷ signed_decimal move.1)) in
    omega (arith, name, down, up, moves, all)

maybe_total : (b : Bool) (text : List ℕ) (most : ℕ) → length text ≤ most → total (if b then [] else text ∷ []) ≤ suc most
maybe_total true text most is = omega arith
maybe_total false text most is = omega (arith, is)

drifts_total : (cfg : NetCfg) → HasNames cfg → (k : ℕ) (nodes : List NodeCfg) → AreNodesFrom cfg k nodes → (drifts : List ℤ) → AllByRecursion IsChange drifts
    → total (drift_texts nodes drifts) ≤ 38 * length nodes
drifts_total cfg names k [] at drifts are = omega arith
drifts_total cfg names k (node ∷ nodes) at [] are = omega arith
drifts_total cfg names k (node ∷ nodes) at (d ∷ drifts) are =
    let first : List (List ℕ) = if unsigned_abs d == 0 then [] else drift_words node d ∷ [] in
    let one : total first ≤ 38 =
    maybe_total (unsigned_abs d == 0) (drift_words node d) 37
    (drift_short node d (name_short node.name.bytes (names.node (k + 0) node (at 0 node refl))) are.0) in
    let rest : total (drift_texts nodes drifts) ≤ 38 * length nodes =
    drifts_total cfg names (suc k) nodes (λ i other e. ap (slice_get cfg.nodes.items) (omega arith) ∙ at (suc i) other e) drifts are.1 in
    let all : total (first ++ drift_texts nodes drifts) ≡ total first + total (drift_texts nodes drifts) = total_append first (drift_texts nodes drifts) in
    omega (arith, one, rest, all)

moves_total : (cfg : NetCfg) → HasNames cfg → (k : ℕ) (links : List LinkCfg) → AreLinksFrom cfg k links → (moves : List (ℤ × ℤ)) → AllByRecursion IsMove moves
    → total (move_texts links moves) ≤ 59 * length links
moves_total cfg names k [] at moves are = omega arith
moves_total cfg names k (link ∷ links) at [] are = omega arith
moves_total cfg names k (link ∷ links) at (m ∷ moves) are =
    let none : Bool = (unsigned_abs m.0 == 0) && (unsigned_abs m.1 == 0) in
    let first : List (List ℕ) = if none then [] else move_words link m ∷ [] in
    let one : total first ≤ 59 =
    maybe_total none (move_words link m) 58 (move_short link m (name_short link.name.bytes (names.link (k + 0) link (at 0 link refl))) are.0) in
    let rest : total (move_texts links moves) ≤ 59 * length links =
    moves_total cfg names (suc k) links (λ i other e. ap (slice_get cfg.links.items) (omega arith) ∙ at (suc i) other e) moves are.1 in
    let all : total (first ++ move_texts links moves) ≡ total first + total (move_texts links moves) = total_append first (move_texts links moves) in
    omega (arith, one, rest, all)

swap_short : (swap : Swap) → IsSwap swap → length (swap_text swap) ≤ 58
swap_short swap is =
    let p = is.port in
    let t = is.tx in
    let r = is.rx in
    let port = number_short swap.port (omega (arith, p)) in
    let name = name_short swap.name.bytes is.name in
    let tx = number_short swap.tx (omega (arith, t)) in
    let rx = number_short swap.rx (omega (arith, r)) in
    let last : List ℕ = decimal swap.tx ++ 58 ∷ decimal swap.rx in
    let named : List ℕ = swap.name.bytes ++ 58 ∷ last in
    let a : length last ≡ length (decimal swap.tx) + suc (length (decimal swap.rx)) = length-append (decimal swap.tx) (58 ∷ decimal swap.rx) in
    let b : length named ≡ length swap.name.bytes + suc (length last) = length-append swap.name.bytes (58 ∷ last) in
    let c : length (decimal swap.port ++ 58 ∷ named) ≡ length (decimal swap.port) + suc (length named) = length-append (decimal swap.port) (58 ∷ named) in
    omega (arith, port, name, tx, rx, a, b, c)

swaps_total : (swaps : List Swap) → AllByRecursion IsSwap swaps → total (map swap_text swaps) ≤ 59 * length swaps
swaps_total [] are = omega arith
swaps_total (swap ∷ swaps) are =
    let one = swap_short swap are.0 in
    let rest = swaps_total swaps are.1 in
    omega (arith, one, rest)

-- Lines

texts_total : (cfg : NetCfg) (e : Event) → HasNames cfg → IsSmall cfg → IsEventOf cfg e → FitsEvent e → total (event_texts cfg e) ≤ 8_192
texts_total cfg (Pass dt drifts fibres) names small is fits =
    let span = change_short dt (from_to 1 dt is.span) in
    let a = drifts_total cfg names 0 cfg.nodes.items (all_nodes cfg) drifts.items is.drift in
    let b = moves_total cfg names 0 cfg.links.items (all_links cfg) fibres.items is.move in
    let all = total_append (drift_texts cfg.nodes.items drifts.items) (move_texts cfg.links.items fibres.items) in
    let nodes = small.nodes in
    let links = small.links in
    omega (arith, span, a, b, all, nodes, links)
texts_total cfg (Tick n) names small is fits = let name = node_short cfg names n is in omega (arith, name)
texts_total cfg (Sample n base bits) names small is fits =
    let name = node_short cfg names n is.0 in
    let low = is.1 in
    let number = number_short base (omega (arith, low)) in
    let octets = bits_short bits in
    omega (arith, name, number, octets)
texts_total cfg (Depart n port stamp) names small is fits =
    let name = node_short cfg names n is.0 in
    let number = number_short port (omega (arith, fits)) in
    let most = is.1.greatest in
    let time = wide_signed stamp (omega (arith, most)) in
    omega (arith, name, number, time)
texts_total cfg (Arrive frame raw) names small is fits =
    let a = is.rising.1 in
    let b = is.falling.1 in
    let c = is.tag in
    let number = number_short frame (omega (arith, fits)) in
    let rising = long_short raw.rising (omega (arith, a)) in
    let falling = long_short raw.falling (omega (arith, b)) in
    let tag = number_short raw.tag (omega (arith, c)) in
    omega (arith, number, rising, falling, tag)
texts_total cfg (Deliver frame) names small is fits = let number = number_short frame (omega (arith, fits)) in omega (arith, number)
texts_total cfg (Noise n port octets raw) names small is fits =
    let a = is.1.rising.1 in
    let b = is.1.falling.1 in
    let c = is.1.tag in
    let p = fits.0 in
    let name = node_short cfg names n is.0 in
    let number = number_short port (omega (arith, p)) in
    let digits = hex_short octets.items fits.1.1 in
    let rising = long_short raw.rising (omega (arith, a)) in
    let falling = long_short raw.falling (omega (arith, b)) in
    let tag = number_short raw.tag (omega (arith, c)) in
    omega (arith, name, number, digits, rising, falling, tag)
texts_total cfg (Down n) names small is fits = let name = node_short cfg names n is in omega (arith, name)
texts_total cfg (Up n off swaps) names small is fits =
    let name = node_short cfg names n is.0 in
    let range = is.1 in
    let offset = wide_signed off (omega (arith, range)) in
    let rest = swaps_total swaps.items is.2.each in
    omega (arith, name, offset, rest, fits)
texts_total cfg (Cut l) names small is fits = let name = link_short cfg names l is in omega (arith, name)
texts_total cfg (Join l ms sm) names small is fits =
    let name = link_short cfg names l is.0 in
    let down = change_short ms (from_to 0 ms is.1) in
    let up = change_short sm (from_to 0 sm is.2) in
    omega (arith, name, down, up)

pub event_size : (cfg : NetCfg) (e : Event) → HasNames cfg → IsSmall cfg → IsEventOf cfg e → FitsEvent e → length (event_text cfg e) ≤ 8_192
event_size cfg e names small is fits =
    let all = texts_total cfg e names small is fits in
    let size = joined_total (event_texts cfg e) in
    omega (arith, all, size)
