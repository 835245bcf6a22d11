-- What no event of a world changes: its network, and what is where in it, by number (this project's profile).
use Rattle.std.specs.Prelude.{ℕ, zero, suc, ℤ, ◌+◌, ◌==◌, ◌*ℤ◌, Bool, true, false, if◌then◌else◌, List, [], ◌∷◌, length, Option, None, Some, option_map, option_and_then, slice_get}
use Rattle.std.specs.List.{position, list_any}
use Rattle.std.specs.Option.{option_map_or}
use Rattle.wrp_network.specs.declared.configuration.NetCfg.{NetCfg}
use Rattle.wrp_base.specs.declared.link.Module.{Module}
use Rattle.wrp_base.specs.declared.link.Role.{Role}
use Rattle.wrp_base.specs.declared.link.Role.TheVariants.{Master, Slave}
use Rattle.wrp_network.specs.declared.network.LinkCfg.{LinkCfg}
use Rattle.wrp_network.specs.declared.network.NodeCfg.{NodeCfg}
use Rattle.wrp_network.specs.Network.{End, node_count}
use Rattle.wrp_base.specs.Link.{other_of}
use Rattle.wrp_base.specs.Clock.{second}
use Rattle.wrp_caldb.specs.Database.{Database, module_at}
use Rattle.wrp_config.specs.Names.{is_upper_end, is_lower_end}
use Rattle.wrp_node.specs.declared.interface.NodeSet.{NodeSet}
use Rattle.wrp_node.specs.Set.{set_of}
use Rattle.wrp_node.specs.NodeAt.{NodeSetting, numbers_of}
use Rattle.wrp_course.specs.declared.place.Place.{Place}

-- the network, what each node is set to, and the range of the delay law of the link above it
pub record Setting : Type 0 where
  pub cfg : NetCfg
  pub db : Database
  pub set : ℕ → NodeSet
  pub lo : ℕ → ℤ
  pub hi : ℕ → ℤ

-- the setting of a node
abbrev pub node_setting_of : Setting → ℕ → NodeSetting
node_setting_of s n = record { set = s.set n; lo = s.lo n; hi = s.hi n }

-- this many numbers, ascending from the first of them
abbrev pub from_on : (count first : ℕ) → List ℕ
from_on zero first = []
from_on (suc count) first = first ∷ from_on count (first + 1)

-- the numbers of the nodes and of the links, which are their places from 0 in file order
abbrev pub nodes_of : Setting → List ℕ
nodes_of s = from_on (node_count s.cfg) 0

-- the numbers of the links, from 0, in file order
abbrev pub links_of : Setting → List ℕ
links_of s = from_on (length s.cfg.links.items) 0

-- the link of a number; None if there is no such link
abbrev pub link_of : Setting → ℕ → Option LinkCfg
link_of s k = slice_get s.cfg.links.items k

-- a number of a node, as the file gives it
abbrev pub of_node : (NodeCfg → ℕ) → Setting → ℕ → ℕ
of_node number s n = option_map_or number (slice_get s.cfg.nodes.items n) 0

-- the first moment of a world is its epoch, in seconds
abbrev pub start_of : Setting → ℤ
start_of s = s.cfg.epoch *ℤ second

-- Ends of links

-- two roles are the same
abbrev pub is_role : Role → Role → Bool
is_role Master Master = true
is_role Slave Slave = true
is_role _ _ = false

-- the node and the port at an end of a link: the master's is the upper one
abbrev pub end_of : Role → LinkCfg → End
end_of Master link = record { node = link.upper; port = link.upper_port }
end_of Slave link = record { node = link.lower; port = link.lower_port }

-- the end of a link that has this number
abbrev pub end_at : Setting → ℕ → Role → Option End
end_at s k r = option_map (end_of r) (link_of s k)

-- the end is one of this node
abbrev pub is_of : ℕ → Option End → Bool
is_of n None = false
is_of n (Some end) = end.node == n

-- the wavelengths that an end sends and receives: the master sends on the way down
abbrev pub sends_nm : Role → LinkCfg → ℕ
sends_nm Master link = link.down_nm
sends_nm Slave link = link.up_nm

-- the numbers of a module at an end of a link, if it is listed there
abbrev pub entry_at : Setting → ℕ → Role → List ℕ → Option Module
entry_at s k r name =
    option_and_then (λ link. module_at s.db name (sends_nm r link) (sends_nm (other_of r) link)) (link_of s k)

-- Ports of nodes

-- which end of which link a port of a node is: of the first link from number k on that has this port of this node
abbrev pub place_among : (n p k : ℕ) → List LinkCfg → Option Place
place_among n p k [] = None
place_among n p k (link ∷ links) =
    if is_upper_end n p link then Some (record { link = k; role = Master })
    else (if is_lower_end n p link then Some (record { link = k; role = Slave }) else place_among n p (k + 1) links)

-- which end of which link port p of node n is; None if no link has that port
abbrev pub place_of : Setting → (n p : ℕ) → Option Place
place_of s n p = place_among n p 0 s.cfg.links.items

-- the number of the link above a node: the grandmaster has none
abbrev pub above : Setting → ℕ → Option ℕ
above s n = position (λ link. link.lower == n) s.cfg.links.items

-- whether a node has a port of this number
abbrev pub has_port : NetCfg → (n p : ℕ) → Bool
has_port cfg n p = list_any (λ q. q == p) (numbers_of (set_of cfg n))

-- the other end of a link
abbrev pub across : Place → Place
across place = record { link = place.link; role = other_of place.role }
