-- What a name or a port of a network finds (this project's profile). Nodes and links are identified by their places
-- from 0 in file order.
use Rattle.std.specs.Prelude.{ℕ, ℤ, ◌==◌, ◌&&◌, ◌||◌, Bool, List, Option, slice_get, option_and_then, option_map, if◌then◌else◌, map}
use Rattle.std.specs.List.{find, flat_map, filter, position}
use Rattle.wrp_network.specs.declared.configuration.NetCfg.{NetCfg}
use Rattle.wrp_network.specs.declared.network.LinkCfg.{LinkCfg}
use Rattle.wrp_base.specs.declared.link.Module.{Module}
use Rattle.wrp_network.specs.Network.{End, ends_of}
use Rattle.wrp_caldb.specs.Name.{same_name}
use Rattle.wrp_caldb.specs.Database.{Database, module_at, table_at}

-- the first node of a name
abbrev pub node_named : NetCfg → List ℕ → Option ℕ
node_named cfg name = position (λ node. same_name node.name.bytes name) cfg.nodes.items

-- the first link of a name
abbrev pub link_named : NetCfg → List ℕ → Option ℕ
link_named cfg name = position (λ link. same_name link.name.bytes name) cfg.links.items

-- the end is one of this node
abbrev pub is_end_of : ℕ → End → Bool
is_end_of node end = end.node == node

-- the ports of a node, in the order of the links, of each link the upper end first
abbrev pub ports_of : NetCfg → ℕ → List ℕ
ports_of cfg node =
    map (λ end. end.port) (filter (is_end_of node) (flat_map ends_of cfg.links.items))

-- the link's upper end is this port of this node
abbrev pub is_upper_end : ℕ → ℕ → LinkCfg → Bool
is_upper_end node port link = (link.upper == node) && (link.upper_port == port)

-- the link's lower end is this port of this node
abbrev pub is_lower_end : ℕ → ℕ → LinkCfg → Bool
is_lower_end node port link = (link.lower == node) && (link.lower_port == port)

-- the link has this port of this node at one of its ends
abbrev pub has_port : ℕ → ℕ → LinkCfg → Bool
has_port node port link = is_upper_end node port link || is_lower_end node port link

-- the first link that has this port of this node
abbrev pub link_at : NetCfg → ℕ → ℕ → Option LinkCfg
link_at cfg node port = find (has_port node port) cfg.links.items

-- the wavelengths, in nm, that a port at an end of this link sends and receives: the upper end sends on the way down
abbrev pub pair_of : ℕ → ℕ → LinkCfg → ℕ × ℕ
pair_of node port link =
    if is_upper_end node port link then (link.down_nm, link.up_nm) else (link.up_nm, link.down_nm)

-- the wavelengths, in nm, that a port of a node sends and receives; none if no link has that port
abbrev pub pair_at : NetCfg → ℕ → ℕ → Option (ℕ × ℕ)
pair_at cfg node port = option_map (pair_of node port) (link_at cfg node port)

-- the numbers of a module at a port of a node: its entry for the port's pair of wavelengths
abbrev pub listed_at : NetCfg → Database → ℕ → ℕ → List ℕ → Option Module
listed_at cfg db node port name =
    option_and_then (λ pair. module_at db name pair.0 pair.1) (pair_at cfg node port)

-- the points of the stored law of a link's fibre; none if it has no table
abbrev pub table_of : NetCfg → Database → ℕ → Option (List (ℤ × ℤ))
table_of cfg db l =
    option_map (λ table. table.points)
    (option_and_then (λ link. table_at db link.fibre.bytes) (slice_get cfg.links.items l))
