-- The network of a text whose tables are taken is accepted, if its links make a tree and it keeps the inequalities.
use Rattle.std.proofs.Common.{◌≡◌, ◌<◌, ℕ, List, [], ◌∷◌, true, false, None, Some, map, take, length, refl, sym, ap, ap₂, subst, ◌∙◌, arith}
use Rattle.std.specs.Prelude.{codes, slice_get}
use Rattle.std.specs.List.{list_any, before_first, after_first}
use Rattle.toml.specs.Data.{Data, Members, table}
use Rattle.std.proofs.lemmas.Bool.{or_parts}
use Rattle.wrp_network.specs.declared.configuration.NetCfg.{NetCfg}
use Rattle.wrp_base.specs.declared.link.Fibre.{Fibre}
use Rattle.wrp_network.specs.declared.network.NodeCfg.{NodeCfg}
use Rattle.wrp_network.specs.declared.network.LinkCfg.{LinkCfg}
use Rattle.wrp_network.specs.Network.{End, IsNode, IsLink, HasRanges, HasLinkRanges, IsTree, node_count}
use Rattle.wrp_base.proofs.Lists.{length_map}
use Rattle.wrp_bounds.specs.Inequalities.{KeepsInequalities}
use Rattle.wrp_caldb.specs.Database.{Database, name_at, table_at, database_of}
use Rattle.wrp_caldb.specs.Name.{is_name}
use Rattle.wrp_caldb.specs.Repeats.{are_same_texts, name_in, has_name_of}
use Rattle.wrp_caldb.specs.Rows.{tables_at}
use Rattle.wrp_caldb.specs.declared.row.Code.{Code}
use Rattle.wrp_caldb.specs.declared.row.Code.TheVariants as co
use Rattle.wrp_calibration_text.proofs.Kept.{map-map}
use Rattle.wrp_calibration_text.proofs.KeptNames.{IsText, name_read}
use Rattle.wrp_calibration_text.proofs.ReadBack.{fibre_with}
use Rattle.wrp_config.specs.Accepted.{HasNoRepeat, HasNames, FitsDatabase, IsAccepted, law_error, all_delays}
use Rattle.wrp_network_text.specs.Config.{node_of, link_of, name_of, fibre_of, identity_of, IsNetworkOf}
use Rattle.wrp_config.specs.Same.{bare_node, bare_link}
use Rattle.wrp_network_text.specs.Ends.{text_at, is_colon, is_named}
use Rattle.wrp_network_text.specs.Keys.{clock_in}
use Rattle.wrp_network_text.specs.Links.{down_in, up_in}
use Rattle.wrp_network_text.specs.Places.{has_text_of, has_end, context_of, no_node, place_in_node, place_in_link, IsTaken}
use Rattle.wrp_network_text.specs.Tree.{HasNoFault}
use Rattle.wrp_network_text.proofs.Found.{fibre_found, link_error, delays_fit}
use Rattle.wrp_network_text.proofs.Hex.{identity_once}
use Rattle.wrp_network_text.proofs.LinkFacts.{IsSoundLink, IsNewLink, HasEnd, HasFibre, sound_link, new_link, upper_end, lower_end, link_name, link_fibre, upper_module_there, lower_module_there, link_waves, link_agrees}
use Rattle.wrp_config.proofs.Lists.{IsMadeOf, made_of, map_at, apart_of, none_before, none_passes, found_place, greatest_most}
use Rattle.wrp_network_text.proofs.NamesApart.{HasNewNames, names_once, read_differ}
use Rattle.wrp_network_text.proofs.Nodes.{IsSoundTable, IsNewNode, sound_table, new_node, node_ranges, name_text, identity_text, identity_read}
use Rattle.wrp_config.proofs.Ports.{AreApart, ports_once}
use Rattle.wrp_network_text.proofs.SettingRanges.{setting_ranges}
use Rattle.wrp_network_text.proofs.Sound.{sound_database}
use Rattle.wrp_network_text.proofs.Taken.{parts_of, each_first, tables_in, tables_are, each_of}
use Rattle.wrp_network_text.proofs.Texts.{differ, end_once, port_range, IsEnd}
use Rattle.wrp_network_text.proofs.TreeLaws.{tree_of}

-- Nodes

abbrev node_tables : Members → List Members
node_tables doc = tables_in (codes "node") doc

node_place : (doc : Members) → IsTaken doc → (n : ℕ) (t : Members) → slice_get (node_tables doc) n ≡ Some t
    → (code : Code) → place_in_node (clock_in doc) code (tables_at (codes "node") doc) n t ≡ None
node_place doc taken n t e =
    let ds = tables_at (codes "node") doc in
    each_first (λ code k. place_in_node (clock_in doc) code ds k) (node_tables doc)
    (λ code. rw (sym (tables_are (codes "node") doc)) (parts_of doc taken code).nodes) n t e

node_sound : (doc : Members) → IsTaken doc → (n : ℕ) (t : Members) → slice_get (node_tables doc) n ≡ Some t → IsSoundTable (clock_in doc) t
node_sound doc taken n t e = sound_table (clock_in doc) (tables_at (codes "node") doc) n t (node_place doc taken n t e)

node_new : (doc : Members) → IsTaken doc → (n : ℕ) (t : Members) → slice_get (node_tables doc) n ≡ Some t → IsNewNode (tables_at (codes "node") doc) n t
node_new doc taken n t e = new_node (clock_in doc) (tables_at (codes "node") doc) n t (node_place doc taken n t e)

node_items : (doc : Members) (cfg : NetCfg) → IsNetworkOf doc cfg → map bare_node cfg.nodes.items ≡ map (node_of (clock_in doc)) (node_tables doc)
node_items doc cfg is = is.nodes ∙ each_of (node_of (clock_in doc)) (codes "node") doc

node_from : (doc : Members) (cfg : NetCfg) → IsNetworkOf doc cfg → (n : ℕ) (node : NodeCfg) → IsNode cfg n node
    → IsMadeOf (node_of (clock_in doc)) (node_tables doc) n (bare_node node)
node_from doc cfg is n node e =
    made_of (node_of (clock_in doc)) (node_tables doc) n (bare_node node)
    (rw (sym (node_items doc cfg is)) (map_at bare_node cfg.nodes.items n node e))

count_nodes : (doc : Members) (cfg : NetCfg) → IsNetworkOf doc cfg → node_count cfg ≡ length (tables_at (codes "node") doc)
count_nodes doc cfg is =
    sym (length_map bare_node cfg.nodes.items) ∙ ap length (node_items doc cfg is)
    ∙ length_map (node_of (clock_in doc)) (node_tables doc) ∙ sym (length_map table (node_tables doc))
    ∙ ap length (sym (tables_are (codes "node") doc))

node_names : (doc : Members) → IsTaken doc → HasNewNames (node_tables doc)
node_names doc taken = record {
  name = λ n t e. name_text (clock_in doc) t (node_sound doc taken n t e);
  new = λ n t e. rw (sym (tables_are (codes "node") doc)) (node_new doc taken n t e).name;
}

node_name_list : (doc : Members) (cfg : NetCfg) → IsNetworkOf doc cfg → map (λ node. node.name.bytes) cfg.nodes.items ≡ map name_at (node_tables doc)
node_name_list doc cfg is =
    sym (map-map (λ (node : NodeCfg). node.name.bytes) bare_node cfg.nodes.items)
    ∙ ap (map (λ (node : NodeCfg). node.name.bytes)) (node_items doc cfg is)
    ∙ map-map (λ (node : NodeCfg). node.name.bytes) (node_of (clock_in doc)) (node_tables doc)

abbrev identity_in : Members → ℕ
identity_in t = identity_of (text_at (codes "identity") t)

identity_list : (doc : Members) (cfg : NetCfg) → IsNetworkOf doc cfg → map (λ node. node.identity) cfg.nodes.items ≡ map identity_in (node_tables doc)
identity_list doc cfg is =
    sym (map-map (λ (node : NodeCfg). node.identity) bare_node cfg.nodes.items)
    ∙ ap (map (λ (node : NodeCfg). node.identity)) (node_items doc cfg is)
    ∙ map-map (λ (node : NodeCfg). node.identity) (node_of (clock_in doc)) (node_tables doc)

identities_once : (doc : Members) → IsTaken doc → HasNoRepeat (map identity_in (node_tables doc))
identities_once doc taken = apart_of identity_in (node_tables doc) (λ i j s t before es et same.
    let a = identity_text (clock_in doc) s (node_sound doc taken i s es) in
    let b = identity_text (clock_in doc) t (node_sound doc taken j t et) in
    let new : list_any (has_text_of (codes "identity") t) (take j (map table (node_tables doc))) ≡ false =
    rw (sym (tables_are (codes "node") doc)) (node_new doc taken j t et).identity in
    let told = none_before (has_text_of (codes "identity") t) j (map table (node_tables doc)) new i (table s) before (map_at table (node_tables doc) i s es) in
    let read = sym (identity_read (text_at (codes "identity") s) a) ∙ same ∙ identity_read (text_at (codes "identity") t) b in
    differ (text_at (codes "identity") s) (text_at (codes "identity") t) a.text b.text a.is b.is told
    (identity_once a.text b.text a.passes b.passes read))

-- Links

abbrev link_tables : Members → List Members
link_tables doc = tables_in (codes "link") doc

link_place : (doc : Members) → IsTaken doc → (l : ℕ) (t : Members) → slice_get (link_tables doc) l ≡ Some t
    → (code : Code) → place_in_link code (context_of doc) (tables_at (codes "link") doc) l t ≡ None
link_place doc taken l t e =
    let ds = tables_at (codes "link") doc in
    each_first (λ code k. place_in_link code (context_of doc) ds k) (link_tables doc)
    (λ code. rw (sym (tables_are (codes "link") doc)) (parts_of doc taken code).links) l t e

link_sound : (doc : Members) → IsTaken doc → (l : ℕ) (t : Members) → slice_get (link_tables doc) l ≡ Some t → IsSoundLink (context_of doc) t
link_sound doc taken l t e = sound_link (context_of doc) (tables_at (codes "link") doc) l t (link_place doc taken l t e)

link_new : (doc : Members) → IsTaken doc → (l : ℕ) (t : Members) → slice_get (link_tables doc) l ≡ Some t
    → IsNewLink (tables_at (codes "node") doc) (tables_at (codes "link") doc) l t
link_new doc taken l t e = new_link (context_of doc) (tables_at (codes "link") doc) l t (link_place doc taken l t e)

abbrev link_in : Members → Members → LinkCfg
link_in doc t = link_of (tables_at (codes "node") doc) (database_of doc) t

link_items : (doc : Members) (cfg : NetCfg) → IsNetworkOf doc cfg → map bare_link cfg.links.items ≡ map (link_in doc) (link_tables doc)
link_items doc cfg is = is.links ∙ each_of (link_in doc) (codes "link") doc

link_from : (doc : Members) (cfg : NetCfg) → IsNetworkOf doc cfg → (l : ℕ) (link : LinkCfg) → IsLink cfg l link
    → IsMadeOf (link_in doc) (link_tables doc) l (bare_link link)
link_from doc cfg is l link e =
    made_of (link_in doc) (link_tables doc) l (bare_link link)
    (rw (sym (link_items doc cfg is)) (map_at bare_link cfg.links.items l link e))

link_names : (doc : Members) → IsTaken doc → HasNewNames (link_tables doc)
link_names doc taken = record {
  name = λ l t e. link_name (context_of doc) t (link_sound doc taken l t e);
  new = λ l t e. rw (sym (tables_are (codes "link") doc)) (link_new doc taken l t e).name;
}

link_name_list : (doc : Members) (cfg : NetCfg) → IsNetworkOf doc cfg → map (λ link. link.name.bytes) cfg.links.items ≡ map name_at (link_tables doc)
link_name_list doc cfg is =
    sym (map-map (λ (link : LinkCfg). link.name.bytes) bare_link cfg.links.items)
    ∙ ap (map (λ (link : LinkCfg). link.name.bytes)) (link_items doc cfg is)
    ∙ map-map (λ (link : LinkCfg). link.name.bytes) (link_in doc) (link_tables doc)

-- a link with its table
pub record IsLinkOf (doc : Members) (t : Members) (link : LinkCfg) : Type 0 where
  pub upper : HasEnd (tables_at (codes "node") doc) (codes "upper") t
  pub lower : HasEnd (tables_at (codes "node") doc) (codes "lower") t
  pub upper_node : link.upper ≡ upper.end.0
  pub upper_port : link.upper_port ≡ upper.end.1
  pub lower_node : link.lower ≡ lower.end.0
  pub lower_port : link.lower_port ≡ lower.end.1

ends_of_link : (doc : Members) → IsTaken doc → (l : ℕ) (t : Members) → slice_get (link_tables doc) l ≡ Some t
    → (link : LinkCfg) → bare_link link ≡ link_in doc t → IsLinkOf doc t link
ends_of_link doc taken l t at link is =
    let sound = link_sound doc taken l t at in
    let upper = upper_end (context_of doc) t sound in
    let lower = lower_end (context_of doc) t sound in
    record {
      upper = upper;
      lower = lower;
      upper_node = ap (λ (x : LinkCfg). x.upper) is ∙ ap (λ e. e.0) upper.read;
      upper_port = ap (λ (x : LinkCfg). x.upper_port) is ∙ ap (λ e. e.1) upper.read;
      lower_node = ap (λ (x : LinkCfg). x.lower) is ∙ ap (λ e. e.0) lower.read;
      lower_port = ap (λ (x : LinkCfg). x.lower_port) is ∙ ap (λ e. e.1) lower.read;
    }

-- one end of a link is not another, if their texts are not the same
other_end : (nodes : List Data) (ka kb : List ℕ) (s t : Members) (a : HasEnd nodes ka s) (b : HasEnd nodes kb t)
    → are_same_texts (text_at ka s) (text_at kb t) ≡ false → a.end.0 ≡ b.end.0 → a.end.1 ≡ b.end.1 → ⊥
other_end nodes ka kb s t a b told node port =
    let same : a.end ≡ b.end = ap₂ (λ x y. (x, y)) node port in
    let one : IsEnd nodes a.text b.end = subst (λ e. IsEnd nodes a.text e) same a.names in
    differ (text_at ka s) (text_at kb t) a.text b.text a.is b.is told (end_once nodes a.text b.text b.end one b.names)

ports_apart : (doc : Members) (cfg : NetCfg) → IsTaken doc → IsNetworkOf doc cfg → AreApart cfg.links.items
ports_apart doc cfg taken is =
    let nodes = tables_at (codes "node") doc in
    record {
      own = λ l link e same.
          let from = link_from doc cfg is l link e in
          let x = ends_of_link doc taken l from.x from.at link from.is in
          other_end nodes (codes "upper") (codes "lower") from.x from.x x.upper x.lower (link_new doc taken l from.x from.at).own
          (sym x.upper_node ∙ ap (λ (p : End). p.node) same ∙ x.lower_node)
          (sym x.upper_port ∙ ap (λ (p : End). p.port) same ∙ x.lower_port);
      others = λ i j a b before ea eb.
          let fa = link_from doc cfg is i a ea in
          let fb = link_from doc cfg is j b eb in
          let x = ends_of_link doc taken i fa.x fa.at a fa.is in
          let y = ends_of_link doc taken j fb.x fb.at b fb.is in
          let new = link_new doc taken j fb.x fb.at in
          let place = map_at table (link_tables doc) i fa.x fa.at in
          let of_upper : list_any (has_end (text_at (codes "upper") fb.x)) (take j (map table (link_tables doc))) ≡ false =
          rw (sym (tables_are (codes "link") doc)) new.upper in
          let of_lower : list_any (has_end (text_at (codes "lower") fb.x)) (take j (map table (link_tables doc))) ≡ false =
          rw (sym (tables_are (codes "link") doc)) new.lower in
          let u = none_before (has_end (text_at (codes "upper") fb.x)) j (map table (link_tables doc)) of_upper i (table fa.x) before place in
          let l = none_before (has_end (text_at (codes "lower") fb.x)) j (map table (link_tables doc)) of_lower i (table fa.x) before place in
          let uu = or_parts (are_same_texts (text_at (codes "upper") fa.x) (text_at (codes "upper") fb.x)) (are_same_texts (text_at (codes "lower") fa.x) (text_at (codes "upper") fb.x)) u in
          let ll = or_parts (are_same_texts (text_at (codes "upper") fa.x) (text_at (codes "lower") fb.x)) (are_same_texts (text_at (codes "lower") fa.x) (text_at (codes "lower") fb.x)) l in (
            λ same. other_end nodes (codes "upper") (codes "upper") fa.x fb.x x.upper y.upper uu.0
                (sym x.upper_node ∙ ap (λ (p : End). p.node) same ∙ y.upper_node) (sym x.upper_port ∙ ap (λ (p : End). p.port) same ∙ y.upper_port),
            λ same. other_end nodes (codes "upper") (codes "lower") fa.x fb.x x.upper y.lower ll.0
                (sym x.upper_node ∙ ap (λ (p : End). p.node) same ∙ y.lower_node) (sym x.upper_port ∙ ap (λ (p : End). p.port) same ∙ y.lower_port),
            λ same. other_end nodes (codes "lower") (codes "upper") fa.x fb.x x.lower y.upper uu.1
                (sym x.lower_node ∙ ap (λ (p : End). p.node) same ∙ y.upper_node) (sym x.lower_port ∙ ap (λ (p : End). p.port) same ∙ y.upper_port),
            λ same. other_end nodes (codes "lower") (codes "lower") fa.x fb.x x.lower y.lower ll.1
                (sym x.lower_node ∙ ap (λ (p : End). p.node) same ∙ y.lower_node) (sym x.lower_port ∙ ap (λ (p : End). p.port) same ∙ y.lower_port),
          );
    }

-- a fibre is its numbers
abbrev fibre_in : LinkCfg → Fibre
fibre_in link = record { kappa = link.kappa; err = link.e_asym }

fibre_again : (link : LinkCfg) (f : Fibre) → link.kappa ≡ f.kappa → link.e_asym ≡ f.err → fibre_in link ≡ f
fibre_again link f kappa err = ap₂ fibre_with kappa err

-- the fibre of a link, as it is read
fibre_read : (db : Database) (t : Members) (has : HasFibre db t) → fibre_of db (name_of (codes "fibre") t) ≡ has.fibre
fibre_read db t has = rw (has.read, has.at) refl

link_ranges : (doc : Members) → IsTaken doc → (l : ℕ) (t : Members) → slice_get (link_tables doc) l ≡ Some t
    → (link : LinkCfg) → bare_link link ≡ link_in doc t → HasLinkRanges link
link_ranges doc taken l t at link is =
    let db = database_of doc in
    let sound_db = sound_database doc taken in
    let sound = link_sound doc taken l t at in
    let ends = ends_of_link doc taken l t at link is in
    let has = link_fibre (context_of doc) t sound in
    let read = fibre_read db t has in
    let found = fibre_found db sound_db has.text has.fibre has.at in
    let waves = link_waves (context_of doc) t sound in
    record {
      upper_port = rw ends.upper_port (port_range (after_first is_colon ends.upper.text) ends.upper.end.1 ends.upper.names.port);
      lower_port = rw ends.lower_port (port_range (after_first is_colon ends.lower.text) ends.lower.end.1 ends.lower.names.port);
      kappa = rw (ap (λ (x : LinkCfg). x.kappa) is ∙ ap (λ (f : Fibre). f.kappa) read) found.kappa;
      e_asym = rw (ap (λ (x : LinkCfg). x.e_asym) is ∙ ap (λ (f : Fibre). f.err) read) found.err;
      down_nm = rw (ap (λ (x : LinkCfg). x.down_nm) is) waves.0;
      up_nm = rw (ap (λ (x : LinkCfg). x.up_nm) is) waves.1;
      e_db = rw (ap (λ (x : LinkCfg). x.e_db) is) (link_error db sound_db (down_in t) (up_in t));
      law_err = rw (ap (λ (x : LinkCfg). x.law_err) is ∙ ap (λ name. law_error (table_at db name)) has.read) found.law;
    }

link_fits : (doc : Members) → IsTaken doc → (l : ℕ) (t : Members) → slice_get (link_tables doc) l ≡ Some t
    → (link : LinkCfg) → bare_link link ≡ link_in doc t → FitsDatabase (database_of doc) link
link_fits doc taken l t at link is =
    let db = database_of doc in
    let sound = link_sound doc taken l t at in
    let has = link_fibre (context_of doc) t sound in
    let read = fibre_read db t has in
    let down = ap (λ (x : LinkCfg). x.down_nm) is in
    let up = ap (λ (x : LinkCfg). x.up_nm) is in
    let fibre = ap (λ (x : LinkCfg). x.fibre.bytes) is in
    record {
      wavelengths = rw (down, up) (link_agrees (context_of doc) t sound);
      upper_module = rw (ap (λ (x : LinkCfg). x.upper_module.bytes) is, down, up) (upper_module_there (context_of doc) t sound);
      lower_module = rw (ap (λ (x : LinkCfg). x.lower_module.bytes) is, down, up) (lower_module_there (context_of doc) t sound);
      fibre = rw (fibre, has.read) (has.at ∙ ap Some (sym (fibre_again link has.fibre
          (ap (λ (x : LinkCfg). x.kappa) is ∙ ap (λ (f : Fibre). f.kappa) read) (ap (λ (x : LinkCfg). x.e_asym) is ∙ ap (λ (f : Fibre). f.err) read))));
      e_db = rw (down, up) (ap (λ (x : LinkCfg). x.e_db) is);
      law_err = rw fibre (ap (λ (x : LinkCfg). x.law_err) is);
    }

-- The network

pub ranges : (doc : Members) (cfg : NetCfg) → IsTaken doc → IsNetworkOf doc cfg → HasRanges cfg
ranges doc cfg taken is =
    let s = setting_ranges doc cfg taken is in
    let fit = delays_fit (database_of doc) (sound_database doc taken) in
    let clock = is.clock in
    record {
      epoch = s.epoch;
      domain = s.domain;
      dmin_ns = s.dmin_ns;
      dmax_ns = s.dmax_ns;
      life_ns = s.life_ns;
      reach_ns = s.reach_ns;
      quiet = s.quiet;
      holdover = s.holdover;
      wait = s.wait;
      lock_wait = s.lock_wait;
      holdoff = s.holdoff;
      lease = s.lease;
      age = s.age;
      report = s.report;
      stable = s.stable;
      lock_samples = s.lock_samples;
      retries = s.retries;
      gap = s.gap;
      announce = s.announce;
      sync = s.sync;
      delay = s.delay;
      ring = s.ring;
      track_tau = s.track_tau;
      loop_tau = s.loop_tau;
      phase_step = s.phase_step;
      kp = s.kp;
      ki = s.ki;
      bias = s.bias;
      threshold = s.threshold;
      delock_samples = s.delock_samples;
      e_db = rw is.e_db (greatest_most (λ delays. delays.err) (all_delays (database_of doc)) 1_000_000_000 (λ i d e. (fit i d e).err));
      tx_max = rw is.tx_max (greatest_most (λ delays. delays.tx) (all_delays (database_of doc)) 1_000_000_000_000 (λ i d e. (fit i d e).tx));
      rx_max = rw is.rx_max (greatest_most (λ delays. delays.rx) (all_delays (database_of doc)) 1_000_000_000_000 (λ i d e. (fit i d e).rx));
      nodes = λ n node e.
          let from = node_from doc cfg is n node e in
          rw clock (node_ranges (clock_in doc) from.x (node_sound doc taken n from.x from.at) node from.is);
      links = λ l link e. let from = link_from doc cfg is l link e in link_ranges doc taken l from.x from.at link from.is;
    }

some_table : (ds : List Data) → no_node co.Missing ds ≡ None → 0 < length ds
some_table [] e = cc e
some_table (d ∷ ds) e = omega arith

pub tree : (doc : Members) (cfg : NetCfg) → IsTaken doc → IsNetworkOf doc cfg → HasNoFault cfg → IsTree cfg
tree doc cfg taken is none =
    let count = count_nodes doc cfg is in
    let some = some_table (tables_at (codes "node") doc) (parts_of doc taken co.Missing).some_node in
    tree_of cfg (rw count some) (λ l link e.
    let from = link_from doc cfg is l link e in
    let ends = ends_of_link doc taken l from.x from.at link from.is in (
      rw (ends.upper_node, count) (found_place (is_named (before_first is_colon ends.upper.text)) (tables_at (codes "node") doc) ends.upper.end.0 ends.upper.names.node).within,
      rw (ends.lower_node, count) (found_place (is_named (before_first is_colon ends.lower.text)) (tables_at (codes "node") doc) ends.lower.end.0 ends.lower.names.node).within,
    )) none

name_is : (t : Members) → IsText is_name (name_in t) → is_name (name_at t) ≡ true
name_is t n = rw (name_read (name_in t) n) n.passes

names : (doc : Members) (cfg : NetCfg) → IsTaken doc → IsNetworkOf doc cfg → HasNames cfg
names doc cfg taken is =
    let of_nodes = node_names doc taken in
    let of_links = link_names doc taken in
    record {
      node = λ n node e.
          let from = node_from doc cfg is n node e in
          rw (ap (λ (x : NodeCfg). x.name.bytes) from.is) (name_is from.x (of_nodes.name n from.x from.at));
      link = λ l link e.
          let from = link_from doc cfg is l link e in
          rw (ap (λ (x : LinkCfg). x.name.bytes) from.is) (name_is from.x (of_links.name l from.x from.at));
      nodes_apart = rw (node_name_list doc cfg is) (names_once (node_tables doc) of_nodes);
      links_apart = rw (link_name_list doc cfg is) (names_once (link_tables doc) of_links);
      apart = λ n l node link en el same.
          let a = node_from doc cfg is n node en in
          let b = link_from doc cfg is l link el in
          let told = none_passes (has_name_of b.x) (map table (node_tables doc)) (rw (sym (tables_are (codes "node") doc)) (link_new doc taken l b.x b.at).node_name)
          n (table a.x) (map_at table (node_tables doc) n a.x a.at) in
          read_differ a.x b.x (of_nodes.name n a.x a.at) (of_links.name l b.x b.at) told
          (sym (ap (λ (x : NodeCfg). x.name.bytes) a.is) ∙ same ∙ ap (λ (x : LinkCfg). x.name.bytes) b.is);
      identities = rw (identity_list doc cfg is) (identities_once doc taken);
    }

pub read_accepted : (doc : Members) (cfg : NetCfg) → IsTaken doc → IsNetworkOf doc cfg → HasNoFault cfg → KeepsInequalities cfg
    → IsAccepted cfg (database_of doc)
read_accepted doc cfg taken is none keeps = record {
  ranges = ranges doc cfg taken is;
  ports = ports_once cfg.links.items (ports_apart doc cfg taken is);
  tree = tree doc cfg taken is none;
  inequalities = keeps;
  names = names doc cfg taken is;
  database = sound_database doc taken;
  links = λ l link e. let from = link_from doc cfg is l link e in link_fits doc taken l from.x from.at link from.is;
  e_db = is.e_db;
  tx_max = is.tx_max;
  rx_max = is.rx_max;
}
