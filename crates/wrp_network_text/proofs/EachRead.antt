-- Each text has an answer that is not out of memory.
use Rattle.std.proofs.Common.{◌≡◌, ◌<◌, ◌++◌, ◌+◌, ◌⊎◌, ℕ, zero, suc, List, Bool, true, false, Option, None, Some, Result, Ok, Err, inl, inr, map, refl, sym, ap, subst, ◌∙◌, arith}
use Rattle.std.proofs.lemmas.Bool.{cases_Bool, cases_lt, false≢true}
use Rattle.std.proofs.lemmas.Str.{IsUtf8-from_is_utf8, is_utf8-from_IsUtf8}
use Rattle.std.specs.Prelude.{codes, decimal}
use Rattle.std.specs.List.{find}
use Rattle.std.specs.Str.{is_utf8}
use Rattle.toml.specs.Data.{Members}
use Rattle.toml.specs.Parse.{parse_document}
use Rattle.wrp_network.specs.declared.configuration.NetCfg.{NetCfg}
use Rattle.wrp_base.specs.declared.fault.ConfFault.{ConfFault}
use Rattle.wrp_base.specs.declared.fault.ConfFault.TheVariants.{Fault, Memory}
use Rattle.wrp_network.specs.Network.{node_count}
use Rattle.wrp_bounds.specs.Inequalities.{is_broken, inequalities, answer_of, clash_of}
use Rattle.wrp_bounds.specs.declared.inequality.Inequality.{Inequality}
use Rattle.wrp_calibration_text.proofs.Kept.{map-map}
use Rattle.wrp_calibration_text.proofs.Refusals.{least_exact, least_none}
use Rattle.wrp_caldb.specs.Database.{number_at, database_of}
use Rattle.wrp_caldb.specs.Place.{PlaceAt, place_text}
use Rattle.wrp_calibration_text.specs.Reading.{IsTextOf}
use Rattle.wrp_caldb.specs.Refusal.{least_of, number_of}
use Rattle.wrp_caldb.specs.Rows.{tables_at}
use Rattle.wrp_caldb.specs.declared.row.Code.{Code}
use Rattle.wrp_network_text.proofs.Taken.{tables_in, each_of}
use Rattle.wrp_config.specs.Accepted.{greatest, all_delays}
use Rattle.wrp_network_text.specs.Config.{node_of, link_of, nodes_of, links_of, IsNetworkOf}
use Rattle.wrp_config.specs.Same.{bare, bare_node, bare_link}
use Rattle.wrp_network_text.specs.SameAnswer.{IsSettled, EachIsRead}
use Rattle.wrp_network_text.specs.Keys.{key_of, network_in, clock_in}
use Rattle.wrp_network_text.specs.Places.{first_place, IsTaken}
use Rattle.wrp_network_text.specs.Reading.{IsTableFault, IsNetworkFault, IsAnswerOf, IsReadingOf, clash_text}
use Rattle.wrp_network_text.specs.Tree as tree
use Rattle.wrp_network_text.specs.Tree.{has_fault, NoneBefore, HasNoFault}
use Rattle.wrp_config.specs.declared.network.Network.{Network}
use Rattle.wrp_network_text.specs.declared.settings.NetworkKey.TheVariants as se
use Rattle.wrp_network_text.specs.declared.tree.TreeFault.{TreeFault}
use Rattle.wrp_network_text.specs.declared.tree.TreeFault.TheVariants.{NotATree, TwoSlaves, TooDeep}

-- The network of a text

bare_nodes : (doc : Members) → map bare_node (nodes_of doc) ≡ nodes_of doc
bare_nodes doc =
    let each = each_of (node_of (clock_in doc)) (codes "node") doc in
    ap (map bare_node) each ∙ map-map bare_node (node_of (clock_in doc)) (tables_in (codes "node") doc) ∙ sym each

bare_links : (doc : Members) → map bare_link (links_of doc) ≡ links_of doc
bare_links doc =
    let link = link_of (tables_at (codes "node") doc) (database_of doc) in
    let each = each_of link (codes "link") doc in
    ap (map bare_link) each ∙ map-map bare_link link (tables_in (codes "link") doc) ∙ sym each

abbrev cfg_of : Members → NetCfg
cfg_of doc = record {
  epoch = number_at (key_of se.Epoch) (network_in doc);
  domain = number_at (key_of se.Domain) (network_in doc);
  dmin_ns = number_at (key_of se.DminNs) (network_in doc);
  dmax_ns = number_at (key_of se.DmaxNs) (network_in doc);
  life_ns = number_at (key_of se.LifeNs) (network_in doc);
  reach_ns = number_at (key_of se.ReachNs) (network_in doc);
  quiet = number_at (key_of se.Quiet) (network_in doc);
  holdover = number_at (key_of se.Holdover) (network_in doc);
  wait = number_at (key_of se.Wait) (network_in doc);
  lock_wait = number_at (key_of se.LockWait) (network_in doc);
  holdoff = number_at (key_of se.Holdoff) (network_in doc);
  lease = number_at (key_of se.Lease) (network_in doc);
  age = number_at (key_of se.Age) (network_in doc);
  report = number_at (key_of se.Report) (network_in doc);
  stable = number_at (key_of se.Stable) (network_in doc);
  lock_samples = number_at (key_of se.LockSamples) (network_in doc);
  retries = number_at (key_of se.Retries) (network_in doc);
  gap = number_at (key_of se.Gap) (network_in doc);
  announce = number_at (key_of se.Announce) (network_in doc);
  sync = number_at (key_of se.Sync) (network_in doc);
  delay = number_at (key_of se.Delay) (network_in doc);
  ring = number_at (key_of se.Ring) (network_in doc);
  track_tau = number_at (key_of se.TrackTau) (network_in doc);
  loop_tau = number_at (key_of se.LoopTau) (network_in doc);
  phase_step = number_at (key_of se.PhaseStep) (network_in doc);
  kp = number_at (key_of se.Kp) (network_in doc);
  ki = number_at (key_of se.Ki) (network_in doc);
  bias = number_at (key_of se.Bias) (network_in doc);
  threshold = number_at (key_of se.Threshold) (network_in doc);
  delock_samples = number_at (key_of se.DelockSamples) (network_in doc);
  clock = clock_in doc;
  nodes = record { items = nodes_of doc };
  links = record { items = links_of doc };
  e_db = greatest (map (λ delays. delays.err) (all_delays (database_of doc)));
  tx_max = greatest (map (λ delays. delays.tx) (all_delays (database_of doc)));
  rx_max = greatest (map (λ delays. delays.rx) (all_delays (database_of doc)));
}

network_is : (doc : Members) → IsNetworkOf doc (cfg_of doc)
network_is doc = record {
  epoch = refl;
  domain = refl;
  dmin_ns = refl;
  dmax_ns = refl;
  life_ns = refl;
  reach_ns = refl;
  quiet = refl;
  holdover = refl;
  wait = refl;
  lock_wait = refl;
  holdoff = refl;
  lease = refl;
  age = refl;
  report = refl;
  stable = refl;
  lock_samples = refl;
  retries = refl;
  gap = refl;
  announce = refl;
  sync = refl;
  delay = refl;
  ring = refl;
  track_tau = refl;
  loop_tau = refl;
  phase_step = refl;
  kp = refl;
  ki = refl;
  bias = refl;
  threshold = refl;
  delock_samples = refl;
  clock = refl;
  nodes = bare_nodes doc;
  links = bare_links doc;
  e_db = refl;
  tx_max = refl;
  rx_max = refl;
}

-- Its tree

-- the first of these nodes that has a fault
abbrev FirstBelow : NetCfg → TreeFault → ℕ → Type 0
FirstBelow cfg fault n = (m : ℕ) × (m < n) × (has_fault cfg fault m ≡ true) × NoneBefore cfg fault m

none_more : (cfg : NetCfg) (fault : TreeFault) (n : ℕ) → NoneBefore cfg fault n → has_fault cfg fault n ≡ false → NoneBefore cfg fault (suc n)
none_more cfg fault n none last m h =
    elim (cases_lt m n) [
      | inl before ↦ none m before
      | inr rest ↦
          let same : n ≡ m = omega (arith, h, rest) in
          subst (λ k. has_fault cfg fault k ≡ false) same last
    ]

first_fault : (cfg : NetCfg) (fault : TreeFault) (n : ℕ) → NoneBefore cfg fault n ⊎ FirstBelow cfg fault n
first_fault cfg fault zero = inl (λ m h. absurd (omega (arith, h)))
first_fault cfg fault (suc n) =
    elim (first_fault cfg fault n) [
      | inl none ↦ elim (cases_Bool (has_fault cfg fault n)) [
        | inl here ↦ inr (n, omega arith, here, none)
        | inr fine ↦ inl (none_more cfg fault n none fine)
      ]
      | inr found ↦ inr (found.0, omega (arith, found.1), found.2, found.3)
    ]

tree_fault : (cfg : NetCfg) → HasNoFault cfg ⊎ ((fault : TreeFault) × (n : ℕ) × tree.IsRefused cfg fault n)
tree_fault cfg =
    elim (first_fault cfg NotATree (node_count cfg)) [
      | inr found ↦ inr (NotATree, found.0, (tt, (found.1, found.2, found.3)))
      | inl apart ↦ elim (first_fault cfg TwoSlaves (node_count cfg)) [
        | inr found ↦ inr (TwoSlaves, found.0, (apart, (found.1, found.2, found.3)))
        | inl two ↦ elim (first_fault cfg TooDeep (node_count cfg)) [
          | inr found ↦ inr (TooDeep, found.0, ((apart, two), (found.1, found.2, found.3)))
          | inl deep ↦ inl (apart, two, deep)
        ]
      ]
    ]

-- Answers

abbrev Settled : Members → Type 0
Settled doc = (due : Result Network ConfFault) × IsSettled due × IsAnswerOf doc due

fault_due : (doc : Members) (number : ℕ) (text : List ℕ) → IsTableFault doc number text ⊎ IsNetworkFault doc number text → Settled doc
fault_due doc number text is = (Err (Fault number (bare text)), tt, is)

for_tree : (doc : Members) → IsTaken doc → HasNoFault (cfg_of doc) → (o : Option Inequality)
    → find is_broken (inequalities (cfg_of doc)) ≡ o → Settled doc
for_tree doc taken none None e =
    (Ok (record { cfg = cfg_of doc; db = database_of doc }), tt, (taken, network_is doc, refl, none, e))
for_tree doc taken none (Some i) e =
    fault_due doc 10 (clash_text (clash_of i))
    (inr (cfg_of doc, taken, network_is doc, inr (clash_of i, none, ap answer_of e, refl, refl)))

for_taken : (doc : Members) → IsTaken doc → Settled doc
for_taken doc taken =
    elim (tree_fault (cfg_of doc)) [
      | inl none ↦ for_tree doc taken none (find is_broken (inequalities (cfg_of doc))) refl
      | inr is ↦ fault_due doc (tree.number_of is.0) (codes "node." ++ decimal (is.1 + 1))
          (inr (cfg_of doc, taken, network_is doc, inl (is.0, is.1, is.2, refl, refl)))
    ]

for_table : (doc : Members) (o : Option (Code × PlaceAt)) → least_of (first_place doc) ≡ o → Settled doc
for_table doc None e = for_taken doc ((least_none (first_place doc)).0 e)
for_table doc (Some at) e =
    fault_due doc (number_of at.0) (place_text at.1)
    (inl (at.0, at.1, (least_exact (first_place doc) at.0 at.1).0 e, refl, refl))

-- Texts

reading_of : (octets : List ℕ) (doc : Members) (due : Result Network ConfFault) → IsTextOf doc octets → IsSettled due → IsAnswerOf doc due → IsReadingOf octets due
reading_of octets doc (Ok net) text settled is = (doc, text, is)
reading_of octets doc (Err (Fault number place)) text settled is = inr (doc, text, is)
reading_of octets doc (Err (Memory e)) text settled is = tt

abbrev Due : List ℕ → Type 0
Due octets = (due : Result Network ConfFault) × IsSettled due × IsReadingOf octets due

for_octets : (octets : List ℕ) (utf8 : Bool) → is_utf8 octets ≡ utf8 → (parsed : Option Members) → parse_document octets ≡ parsed → Due octets
for_octets octets false e parsed p =
    (Err (Fault 1 (bare (codes "-"))), tt, inl (inl (λ is. false≢true (sym e ∙ is_utf8-from_IsUtf8 octets is)), refl, refl))
for_octets octets true e None p = (Err (Fault 1 (bare (codes "-"))), tt, inl (inr p, refl, refl))
for_octets octets true e (Some doc) p =
    let due = for_table doc (least_of (first_place doc)) refl in
    (due.0, due.1, reading_of octets doc due.0 (IsUtf8-from_is_utf8 octets e, p) due.1 due.2)

pub each_is_read : EachIsRead
each_is_read octets = for_octets octets (is_utf8 octets) refl (parse_document octets) refl
