-- The nodes of a text whose tables are taken: their names, their identities and their numbers.
use Rattle.std.proofs.Common.{◌≡◌, ◌≤◌, ◌+◌, ℕ, List, false, Option, None, Some, take, refl, ap, lit≤}
use Rattle.std.specs.Prelude.{codes, option_and_then}
use Rattle.std.specs.Option.{option_or}
use Rattle.std.specs.List.{AllByRecursion, list_any}
use Rattle.toml.specs.Data.{Data, Members, as_str, get_member}
use Rattle.wrp_network.specs.declared.network.NodeCfg.{NodeCfg}
use Rattle.wrp_base.specs.declared.time.Clock.{Clock}
use Rattle.wrp_base.specs.declared.time.Clock.TheVariants.{Mhz125, Mhz62}
use Rattle.wrp_base.specs.Clock.{step_of}
use Rattle.wrp_network.specs.Network.{HasNodeRanges}
use Rattle.wrp_base.specs.Ranges.{IsAmong}
use Rattle.wrp_caldb.specs.Database.{natural_at, number_at}
use Rattle.wrp_caldb.specs.Name.{is_name, is_identity}
use Rattle.wrp_caldb.specs.Refusal.{place_in_table}
use Rattle.wrp_caldb.specs.Repeats.{name_in, has_name_of, place_of_name}
use Rattle.wrp_caldb.specs.Rows.{has_fault}
use Rattle.wrp_caldb.specs.declared.place.At.TheVariants as tables
use Rattle.wrp_caldb.specs.declared.row.Code.{Code}
use Rattle.wrp_caldb.specs.declared.row.Code.TheVariants as co
use Rattle.wrp_calibration_text.proofs.Kept.{none_parts, if_none, at_fault}
use Rattle.wrp_calibration_text.proofs.KeptNames.{IsText, plain_text, fitting_text}
use Rattle.wrp_network_text.specs.Config.{node_of, identity_of, hex_number}
use Rattle.wrp_config.specs.Same.{bare_node}
use Rattle.wrp_network_text.specs.Ends.{text_at}
use Rattle.wrp_network_text.specs.Keys.{number, identity_key, e_tag_key, node_keys}
use Rattle.wrp_network_text.specs.Places.{has_text_of, place_of_identity, place_in_node}
use Rattle.wrp_network_text.proofs.Hex.{identity_small}
use Rattle.wrp_network_text.proofs.Numbers.{number_between, natural_between}
use Rattle.wrp_network_text.proofs.Taken.{no_faults}

-- what the rows of a node's table have no fault of
pub record IsSoundTable (clock : Clock) (t : Members) : Type 0 where
  pub missing : AllByRecursion (λ key. at_fault co.Missing t key ≡ false) (node_keys clock)
  pub range : AllByRecursion (λ key. at_fault co.Range t key ≡ false) (node_keys clock)

-- a number of a node, without a sign
natural_fit : (t : Members) (name : List ℕ) (least greatest default : ℕ) → least ≤ default → default ≤ greatest
    → at_fault co.Range t (number name least greatest default) ≡ false
    → (n : ℕ) → n ≡ natural_at (number name least greatest default) t → IsAmong least greatest n
natural_fit t name least greatest default low high none n is =
    let key = number name least greatest default in
    rw is (natural_between least greatest (number_at key t) (number_between name least greatest default low high (get_member name t) none))

tag_range : (clock : Clock) (t : Members) → at_fault co.Range t (e_tag_key clock) ≡ false
    → (n : ℕ) → n ≡ natural_at (e_tag_key clock) t → IsAmong (step_of clock) 65_535_999 n
tag_range Mhz125 t none n is = natural_fit t (codes "e_tag") 32_000 65_535_999 64_000 (lit≤ tt) (lit≤ tt) none n is
tag_range Mhz62 t none n is = natural_fit t (codes "e_tag") 64_000 65_535_999 64_000 (lit≤ tt) (lit≤ tt) none n is

pub node_ranges : (clock : Clock) (t : Members) → IsSoundTable clock t → (node : NodeCfg) → bare_node node ≡ node_of clock t → HasNodeRanges clock node
node_ranges clock t sound node is =
    let r = sound.range in
    record {
      identity = rw (ap (λ (n : NodeCfg). n.identity) is) (identity_small (text_at (codes "identity") t));
      e_tx = natural_fit t (codes "e_tx") 1_000 1_000_000_000 655_360 (lit≤ tt) (lit≤ tt) r.1.1.0 node.e_tx (ap (λ (n : NodeCfg). n.e_tx) is);
      e_tag = tag_range clock t r.1.1.1.0 node.e_tag (ap (λ (n : NodeCfg). n.e_tag) is);
      beat = (natural_fit t (codes "beat") 0 24 4 (lit≤ tt) (lit≤ tt) r.1.1.1.1.0 node.beat (ap (λ (n : NodeCfg). n.beat) is)).1;
      slew = (natural_fit t (codes "slew") 0 1_000_000_000 500 (lit≤ tt) (lit≤ tt) r.1.1.1.1.1.0 node.slew (ap (λ (n : NodeCfg). n.slew) is)).1;
      held = (natural_fit t (codes "held") 0 1_000_000_000 10 (lit≤ tt) (lit≤ tt) r.1.1.1.1.1.1.0 node.held (ap (λ (n : NodeCfg). n.held) is)).1;
    }

identity_there : (found : Option Data) → has_fault co.Missing identity_key found ≡ false → has_fault co.Range identity_key found ≡ false
    → IsText is_identity (option_and_then as_str found)
identity_there None missing range = cc missing
identity_there (Some d) missing range = fitting_text is_identity (as_str d) range

-- a node's name and identity, as they are read
pub name_text : (clock : Clock) (t : Members) → IsSoundTable clock t → IsText is_name (name_in t)
name_text clock t sound = plain_text (codes "name") (get_member (codes "name") t) sound.missing.0 sound.range.0

pub identity_text : (clock : Clock) (t : Members) → IsSoundTable clock t → IsText is_identity (text_at (codes "identity") t)
identity_text clock t sound = identity_there (get_member (codes "identity") t) sound.missing.1.0 sound.range.1.0

pub identity_read : (o : Option (List ℕ)) (i : IsText is_identity o) → identity_of o ≡ hex_number i.text
identity_read o i = rw (i.is, i.passes) refl

-- a node that repeats nothing
pub record IsNewNode (nodes : List Data) (n : ℕ) (t : Members) : Type 0 where
  pub name : list_any (has_name_of t) (take n nodes) ≡ false
  pub identity : list_any (has_text_of (codes "identity") t) (take n nodes) ≡ false

-- what a node's table keeps that has no place of any code
pub sound_table : (clock : Clock) (nodes : List Data) (n : ℕ) (t : Members) → ((code : Code) → place_in_node clock code nodes n t ≡ None) → IsSoundTable clock t
sound_table clock nodes n t none =
    let at = tables.Node (n + 1) in
    let own = λ (code : Code). (none_parts (place_in_table code at (node_keys clock) t)
    (option_or (place_of_name code at (take n nodes) t) (place_of_identity code at (take n nodes) t)) (none code)).0 in
    record {
      missing = no_faults co.Missing at (node_keys clock) t (own co.Missing);
      range = no_faults co.Range at (node_keys clock) t (own co.Range);
    }

pub new_node : (clock : Clock) (nodes : List Data) (n : ℕ) (t : Members) → ((code : Code) → place_in_node clock code nodes n t ≡ None) → IsNewNode nodes n t
new_node clock nodes n t none =
    let at = tables.Node (n + 1) in
    let behind = (none_parts (place_in_table co.Twice at (node_keys clock) t)
    (option_or (place_of_name co.Twice at (take n nodes) t) (place_of_identity co.Twice at (take n nodes) t)) (none co.Twice)).1 in
    let each = none_parts (place_of_name co.Twice at (take n nodes) t) (place_of_identity co.Twice at (take n nodes) t) behind in
    record {
      name = if_none (list_any (has_name_of t) (take n nodes)) _ each.0;
      identity = if_none (list_any (has_text_of (codes "identity") t) (take n nodes)) _ each.1;
    }
