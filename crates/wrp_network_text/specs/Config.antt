-- The network that a text describes, for texts whose tables are taken (this project's profile).
use Rattle.std.specs.Prelude.{◌≡◌, ◌+◌, ◌-◌, ◌*◌, ℕ, pos, List, Bool, true, Option, Some, None, codes, map, fold, nat_le, option_and_then, unwrap_or, if◌then◌else◌}
use Rattle.toml.specs.Data.{Data, Members, as_bool, get_member}
use Rattle.wrp_network.specs.declared.configuration.NetCfg.{NetCfg}
use Rattle.wrp_network.specs.declared.network.NodeCfg.{NodeCfg}
use Rattle.wrp_network.specs.declared.network.LinkCfg.{LinkCfg}
use Rattle.wrp_base.specs.declared.link.Fibre.{Fibre}
use Rattle.wrp_base.specs.declared.time.Clock.{Clock}
use Rattle.wrp_caldb.specs.Database.{Database, each_table, fibre_at, table_at, name_at, name_or_none, number_at, natural_at, database_of}
use Rattle.wrp_caldb.specs.Name.{is_identity}
use Rattle.wrp_caldb.specs.Rows.{tables_at}
use Rattle.wrp_config.specs.Accepted.{greatest, error_at_ends, law_error, all_delays}
use Rattle.wrp_config.specs.Same.{bare, bare_node, bare_link}
use Rattle.wrp_network_text.specs.Ends.{end_in, text_at}
use Rattle.wrp_network_text.specs.Keys.{key_of, network_in, clock_in, e_tx_key, e_tag_key, beat_key, slew_key, held_key}
use Rattle.wrp_network_text.specs.Links.{down_in, up_in}
use Rattle.wrp_network_text.specs.declared.settings.NetworkKey.TheVariants as se

-- Nodes

-- the value of a hex digit
abbrev pub hex_value : ℕ → ℕ
hex_value c = if nat_le c 57 then c - 48 else c - 87

-- the number that hex digits spell, the most significant first
abbrev pub hex_number : List ℕ → ℕ
hex_number digits = fold (λ n c. 16 * n + hex_value c) 0 digits

-- the identity that a text spells, 0 if it spells none
abbrev pub identity_of : Option (List ℕ) → ℕ
identity_of None = 0
identity_of (Some text) = if is_identity text then hex_number text else 0

-- a node
abbrev pub node_of : Clock → Members → NodeCfg
node_of clock node = record {
  name = bare (name_at node);
  identity = identity_of (text_at (codes "identity") node);
  e_tx = natural_at e_tx_key node;
  e_tag = natural_at (e_tag_key clock) node;
  beat = natural_at beat_key node;
  slew = natural_at slew_key node;
  held = natural_at held_key node;
}

-- Links

-- the name at a key; none if there is no name
abbrev pub name_of : List ℕ → Members → List ℕ
name_of key table = name_or_none (text_at key table)

-- the node and the port at a key; 0 and 0 if there is no end
abbrev pub end_at : List Data → List ℕ → Members → ℕ × ℕ
end_at nodes key link = unwrap_or (option_and_then (end_in nodes) (text_at key link)) (0, 0)

-- `wr`, which is true if it is missing
abbrev pub wr_in : Members → Bool
wr_in link = unwrap_or (option_and_then as_bool (get_member (codes "wr") link)) true

-- the fibre of a name; without asymmetry and error if it is not listed
abbrev pub fibre_of : Database → List ℕ → Fibre
fibre_of db name = unwrap_or (fibre_at db name) (record { kappa = pos 0; err = 0 })

-- a link
abbrev pub link_of : List Data → Database → Members → LinkCfg
link_of nodes db link = record {
  name = bare (name_at link);
  upper = (end_at nodes (codes "upper") link).0;
  upper_port = (end_at nodes (codes "upper") link).1;
  lower = (end_at nodes (codes "lower") link).0;
  lower_port = (end_at nodes (codes "lower") link).1;
  wr = wr_in link;
  upper_module = bare (name_of (codes "upper_module") link);
  lower_module = bare (name_of (codes "lower_module") link);
  fibre = bare (name_of (codes "fibre") link);
  kappa = (fibre_of db (name_of (codes "fibre") link)).kappa;
  e_asym = (fibre_of db (name_of (codes "fibre") link)).err;
  down_nm = down_in link;
  up_nm = up_in link;
  e_db = greatest (map (error_at_ends (down_in link) (up_in link)) db.modules);
  law_err = law_error (table_at db (name_of (codes "fibre") link));
}

-- The network

-- the nodes of a text
abbrev pub nodes_of : Members → List NodeCfg
nodes_of doc = each_table (node_of (clock_in doc)) (tables_at (codes "node") doc)

-- the links of a text
abbrev pub links_of : Members → List LinkCfg
links_of doc =
    each_table (link_of (tables_at (codes "node") doc) (database_of doc)) (tables_at (codes "link") doc)

-- the network is the one of the text, whatever is in the unused room of its names
pub record IsNetworkOf (doc : Members) (cfg : NetCfg) : Type 0 where
  pub epoch : cfg.epoch ≡ number_at (key_of se.Epoch) (network_in doc)
  pub domain : cfg.domain ≡ number_at (key_of se.Domain) (network_in doc)
  pub dmin_ns : cfg.dmin_ns ≡ number_at (key_of se.DminNs) (network_in doc)
  pub dmax_ns : cfg.dmax_ns ≡ number_at (key_of se.DmaxNs) (network_in doc)
  pub life_ns : cfg.life_ns ≡ number_at (key_of se.LifeNs) (network_in doc)
  pub reach_ns : cfg.reach_ns ≡ number_at (key_of se.ReachNs) (network_in doc)
  pub quiet : cfg.quiet ≡ number_at (key_of se.Quiet) (network_in doc)
  pub holdover : cfg.holdover ≡ number_at (key_of se.Holdover) (network_in doc)
  pub wait : cfg.wait ≡ number_at (key_of se.Wait) (network_in doc)
  pub lock_wait : cfg.lock_wait ≡ number_at (key_of se.LockWait) (network_in doc)
  pub holdoff : cfg.holdoff ≡ number_at (key_of se.Holdoff) (network_in doc)
  pub lease : cfg.lease ≡ number_at (key_of se.Lease) (network_in doc)
  pub age : cfg.age ≡ number_at (key_of se.Age) (network_in doc)
  pub report : cfg.report ≡ number_at (key_of se.Report) (network_in doc)
  pub stable : cfg.stable ≡ number_at (key_of se.Stable) (network_in doc)
  pub lock_samples : cfg.lock_samples ≡ number_at (key_of se.LockSamples) (network_in doc)
  pub retries : cfg.retries ≡ number_at (key_of se.Retries) (network_in doc)
  pub gap : cfg.gap ≡ number_at (key_of se.Gap) (network_in doc)
  pub announce : cfg.announce ≡ number_at (key_of se.Announce) (network_in doc)
  pub sync : cfg.sync ≡ number_at (key_of se.Sync) (network_in doc)
  pub delay : cfg.delay ≡ number_at (key_of se.Delay) (network_in doc)
  pub ring : cfg.ring ≡ number_at (key_of se.Ring) (network_in doc)
  pub track_tau : cfg.track_tau ≡ number_at (key_of se.TrackTau) (network_in doc)
  pub loop_tau : cfg.loop_tau ≡ number_at (key_of se.LoopTau) (network_in doc)
  pub phase_step : cfg.phase_step ≡ number_at (key_of se.PhaseStep) (network_in doc)
  pub kp : cfg.kp ≡ number_at (key_of se.Kp) (network_in doc)
  pub ki : cfg.ki ≡ number_at (key_of se.Ki) (network_in doc)
  pub bias : cfg.bias ≡ number_at (key_of se.Bias) (network_in doc)
  pub threshold : cfg.threshold ≡ number_at (key_of se.Threshold) (network_in doc)
  pub delock_samples : cfg.delock_samples ≡ number_at (key_of se.DelockSamples) (network_in doc)
  pub clock : cfg.clock ≡ clock_in doc
  pub nodes : map bare_node cfg.nodes.items ≡ nodes_of doc
  pub links : map bare_link cfg.links.items ≡ links_of doc
  pub e_db : cfg.e_db ≡ greatest (map (λ delays. delays.err) (all_delays (database_of doc)))
  pub tx_max : cfg.tx_max ≡ greatest (map (λ delays. delays.tx) (all_delays (database_of doc)))
  pub rx_max : cfg.rx_max ≡ greatest (map (λ delays. delays.rx) (all_delays (database_of doc)))
