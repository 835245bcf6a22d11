-- The numbers that a node's ports are set to fit the octets that carry them.
use Rattle.std.proofs.Common.{◌≡◌, refl, subst, ℕ, zero, suc, ◌<◌, ◌≤◌, ◌^◌, ◌==◌, lit<, Bool, true, false, if◌then◌else◌, List, [], ◌∷◌, flat_map, Option, None, Some, arith}
use Rattle.std.specs.Prelude.{slice_get}
use Rattle.std.specs.List.{AllByRecursion, find}
use Rattle.std.specs.Option.{option_map_or}
use Rattle.std.proofs.lemmas.Int.{ints}
use Rattle.wrp_network.specs.declared.configuration.NetCfg.{NetCfg}
use Rattle.wrp_network.specs.declared.network.LinkCfg.{LinkCfg}
use Rattle.wrp_network.specs.declared.network.NodeCfg.{NodeCfg}
use Rattle.wrp_network.specs.Network.{HasRanges, link_above}
use Rattle.wrp_base.proofs.Lists.{all_append, found_at}
use Rattle.wrp_data.specs.declared.datasets.PortDs.{PortDs}
use Rattle.wrp_frame.specs.Fitting.{FitsIdentity}
use Rattle.wrp_node.specs.NodeAt.{port_of, port_or_none, setting_of}
use Rattle.wrp_node.specs.Set.{identity_of, lower_of, master_at, ports_at, ports_of, set_of, slave_at, steps_up, top_up, upper_of}
use Rattle.wrp_port.specs.declared.setting.Setting.{Setting}

-- what a port is set to fits
pub record FitsPort (set : Setting) : Type 0 where
  pub domain : set.own.domain < 256 ^ 1
  pub own : FitsIdentity set.ds.own
  pub peer : FitsIdentity set.ds.peer
  pub gm : set.own.gm < 256 ^ 8
  pub steps : set.own.steps < 256 ^ 2

-- The node itself

identity_by : (cfg : NetCfg) → HasRanges cfg → (n : ℕ) (o : Option NodeCfg) → slice_get cfg.nodes.items n ≡ o → option_map_or (λ (node : NodeCfg). node.identity) o 0 < 256 ^ 8
identity_by cfg ranges n None is = lit< tt
identity_by cfg ranges n (Some node) is = let small = (ranges.nodes n node is).identity in omega (arith, small)

identity_fits : (cfg : NetCfg) → HasRanges cfg → (n : ℕ) → identity_of cfg n < 256 ^ 8
identity_fits cfg ranges n = identity_by cfg ranges n (slice_get cfg.nodes.items n) refl

no_step : (most : ℕ) (net : NetCfg) (n : ℕ) → link_above net n ≡ None → steps_up (suc most) net n ≡ 0
unfolding steps_up
no_step most net n top = rw (top, steps_up) refl

one_step : (most : ℕ) (net : NetCfg) (n : ℕ) (link : LinkCfg) → link_above net n ≡ Some link → steps_up (suc most) net n ≡ suc (steps_up most net link.upper)
unfolding steps_up
one_step most net n link above = rw (above, steps_up) refl

no_steps : (net : NetCfg) (n : ℕ) → steps_up 0 net n ≡ 0
unfolding steps_up
no_steps net n = refl

few_by : (most : ℕ) (net : NetCfg) (n : ℕ) (o : Option LinkCfg) → link_above net n ≡ o → ((k : ℕ) → steps_up most net k ≤ most) → steps_up (suc most) net n ≤ suc most
few_by most net n None is h = let none = no_step most net n is in omega (arith, none)
few_by most net n (Some link) is h = let one = one_step most net n link is in let up = h link.upper in omega (arith, one, up)

few_steps : (most : ℕ) (net : NetCfg) (n : ℕ) → steps_up most net n ≤ most
few_steps zero net n = let none = no_steps net n in omega (arith, none)
few_steps (suc most) net n = few_by most net n (link_above net n) refl (λ k. few_steps most net k)

-- Its ports

abbrev FitsDs : PortDs → Type 0
FitsDs ds = FitsIdentity ds.own × FitsIdentity ds.peer

-- the ports of links have numbers of two octets
abbrev SmallPorts : List LinkCfg → Type 0
SmallPorts links = (l : ℕ) (link : LinkCfg) → slice_get links l ≡ Some link → (link.upper_port < 256 ^ 2) × (link.lower_port < 256 ^ 2)

one_port : (b : Bool) (ds : PortDs) → FitsDs ds → AllByRecursion FitsDs (if b then ds ∷ [] else [])
one_port true ds h = (h, tt)
one_port false ds h = tt

link_ports : (cfg : NetCfg) → HasRanges cfg → (n : ℕ) (link : LinkCfg) → link.upper_port < 256 ^ 2 → link.lower_port < 256 ^ 2 → AllByRecursion FitsDs (ports_at cfg n link)
link_ports cfg ranges n link upper lower =
    let above : FitsIdentity (upper_of cfg link) = record { clock = identity_fits cfg ranges link.upper; port = upper } in
    let below : FitsIdentity (lower_of cfg link) = record { clock = identity_fits cfg ranges link.lower; port = lower } in
    all_append FitsDs (if link.upper == n then master_at cfg link ∷ [] else []) (if link.lower == n then slave_at cfg link ∷ [] else [])
    (one_port (link.upper == n) (master_at cfg link) (above, below)) (one_port (link.lower == n) (slave_at cfg link) (below, above))

all_ports : (cfg : NetCfg) → HasRanges cfg → (n : ℕ) (links : List LinkCfg) → SmallPorts links → AllByRecursion FitsDs (flat_map (ports_at cfg n) links)
all_ports cfg ranges n [] small = tt
all_ports cfg ranges n (link ∷ links) small =
    let one = small 0 link refl in
    all_append FitsDs (ports_at cfg n link) (flat_map (ports_at cfg n) links) (link_ports cfg ranges n link one.0 one.1)
    (all_ports cfg ranges n links (λ l. small (suc l)))

small_ports : (cfg : NetCfg) → HasRanges cfg → SmallPorts cfg.links.items
small_ports cfg ranges l link is =
    let upper = (ranges.links l link is).upper_port.1 in
    let lower = (ranges.links l link is).lower_port.1 in
    (omega (arith, upper), omega (arith, lower))

item_fits : (xs : List PortDs) (i : ℕ) (ds : PortDs) → AllByRecursion FitsDs xs → slice_get xs i ≡ Some ds → FitsDs ds
item_fits [] i ds all is = absurd (cc)
item_fits (x ∷ xs) zero ds all is = let same : x ≡ ds = cc in subst FitsDs same all.0
item_fits (x ∷ xs) (suc i) ds all is = item_fits xs i ds all.1 is

found_fits : (p : ℕ) (xs : List PortDs) (o : Option PortDs) → AllByRecursion FitsDs xs → find (λ (ds : PortDs). ds.own.port == p) xs ≡ o → FitsDs (port_or_none o)
found_fits p xs None all is = (record { clock = lit< tt; port = lit< tt }, record { clock = lit< tt; port = lit< tt })
found_fits p xs (Some ds) all is = let at = found_at (λ (d : PortDs). d.own.port == p) xs ds is in item_fits xs at.0 ds all at.1

-- this holds for each number
pub port_fits : (cfg : NetCfg) → HasRanges cfg → (n p : ℕ) → FitsPort (setting_of (set_of cfg n) p)
port_fits cfg ranges n p =
    let ds : FitsDs (port_of (set_of cfg n) p) =
    found_fits p (ports_of cfg n) (find (λ (ds : PortDs). ds.own.port == p) (ports_of cfg n)) (all_ports cfg ranges n cfg.links.items (small_ports cfg ranges)) refl in
    let least = ranges.domain.0 in
    let most = ranges.domain.1 in
    let few = few_steps 8 cfg n in
    record {
      domain = omega (arith, ints, least, most);
      own = ds.0;
      peer = ds.1;
      gm = identity_fits cfg ranges (top_up 8 cfg n);
      steps = omega (arith, few);
    }
