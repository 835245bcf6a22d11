-- When two networks are the same: what is in the unused room of a name is no part of it (this project's profile).
use Rattle.std.specs.Prelude.{◌≡◌, ℕ, List, [], map}
use Rattle.arrayvec.specs.ArrayString.{ArrayString}
use Rattle.wrp_network.specs.declared.configuration.NetCfg.{NetCfg}
use Rattle.wrp_network.specs.declared.network.NodeCfg.{NodeCfg}
use Rattle.wrp_network.specs.declared.network.LinkCfg.{LinkCfg}
use Rattle.wrp_config.specs.declared.network.Network.{Network}

-- a name of these octets
abbrev pub bare : List ℕ → ArrayString
bare octets = record { bytes = octets; spare = [] }

-- a node without the unused room of its name
abbrev pub bare_node : NodeCfg → NodeCfg
bare_node node = record node { name = bare node.name.bytes }

-- a link without the unused room of its names
abbrev pub bare_link : LinkCfg → LinkCfg
bare_link link = record link {
  name = bare link.name.bytes;
  upper_module = bare link.upper_module.bytes;
  lower_module = bare link.lower_module.bytes;
  fibre = bare link.fibre.bytes;
}

-- the numbers, nodes and links of a network, without the unused room of their names
abbrev pub bare_cfg : NetCfg → NetCfg
bare_cfg cfg = record cfg {
  nodes = record { items = map bare_node cfg.nodes.items };
  links = record { items = map bare_link cfg.links.items };
}

-- the same network, whatever is in the unused room of its names
abbrev pub IsSameNetwork : Network → Network → Type 0
IsSameNetwork a b = (bare_cfg a.cfg ≡ bare_cfg b.cfg) × (a.db ≡ b.db)
