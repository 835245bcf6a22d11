-- Where the links of a network make no tree: a node that is apart from the tree, a node below two links, a node too
-- deep (this project's profile). A node is identified by its place from 0.
use Rattle.std.specs.Prelude.{◌≡◌, ◌<◌, ◌&&◌, ◌||◌, ◌==◌, not, ℕ, zero, suc, ◌+◌, Bool, true, false, Option, Some, None, nat_lt, option_map, count_by}
use Rattle.std.specs.Option.{is_some}
use Rattle.wrp_network.specs.declared.configuration.NetCfg.{NetCfg}
use Rattle.wrp_network.specs.declared.network.LinkCfg.{LinkCfg}
use Rattle.wrp_network.specs.Network.{link_above, node_count}
use Rattle.wrp_network_text.specs.declared.tree.TreeFault.{TreeFault}
use Rattle.wrp_network_text.specs.declared.tree.TreeFault.TheVariants.{NotATree, TwoSlaves, TooDeep}

-- no link is above the node
abbrev pub is_root : NetCfg → ℕ → Bool
is_root cfg n = not (is_some (link_above cfg n))

-- one of the first nodes passes a test
abbrev pub some_below : (ℕ → Bool) → ℕ → Bool
some_below test zero = false
some_below test (suc n) = some_below test n || test n

-- no link if none is above the node
abbrev pub ended : Option LinkCfg → Option ℕ
ended None = Some 0
ended (Some link) = None

-- no link if none is above the node, else one more than from the node above
abbrev pub one_above : (ℕ → Option ℕ) → Option LinkCfg → Option ℕ
one_above walk None = Some 0
one_above walk (Some link) = option_map (λ depth. depth + 1) (walk link.upper)

-- how many links the walk from a node up its parents takes to a node without a link above it; none if it takes more
-- than this many
unfoldable pub depth_within : ℕ → NetCfg → ℕ → Option ℕ
depth_within zero cfg n = ended (link_above cfg n)
depth_within (suc most) cfg n = one_above (depth_within most cfg) (link_above cfg n)

-- the walk from a node up its parents, at most 64 steps of it, which are as many as there may be nodes
abbrev pub depth_of : NetCfg → ℕ → Option ℕ
depth_of cfg n = depth_within 64 cfg n

-- the node has no parent and is not the first such node, or the walk from it does not end
abbrev pub stands_apart : NetCfg → ℕ → Bool
stands_apart cfg n =
    (is_root cfg n && some_below (is_root cfg) n) || not (is_some (depth_of cfg n))

-- the node is the lower end of two links
abbrev pub has_two_parents : NetCfg → ℕ → Bool
has_two_parents cfg n = nat_lt 1 (count_by (λ link. link.lower == n) cfg.links.items)

-- more than 8 links lead from the node to the grandmaster
abbrev pub is_over_8 : Option ℕ → Bool
is_over_8 None = false
is_over_8 (Some depth) = nat_lt 8 depth

-- the walk from the node takes more than 8 links to a node without a link above it; false if it does not end
abbrev pub is_too_deep : NetCfg → ℕ → Bool
is_too_deep cfg n = is_over_8 (depth_of cfg n)

-- the node has this fault
abbrev pub has_fault : NetCfg → TreeFault → ℕ → Bool
has_fault cfg NotATree n = stands_apart cfg n
has_fault cfg TwoSlaves n = has_two_parents cfg n
has_fault cfg TooDeep n = is_too_deep cfg n

-- no node before this number has the fault
abbrev pub NoneBefore : NetCfg → TreeFault → ℕ → Type 0
NoneBefore cfg fault n = (m : ℕ) → m < n → has_fault cfg fault m ≡ false

-- no node has the fault
abbrev pub HasNone : NetCfg → TreeFault → Type 0
HasNone cfg fault = NoneBefore cfg fault (node_count cfg)

-- the first node that has the fault, or none
abbrev pub IsFirst : NetCfg → TreeFault → Option ℕ → Type 0
IsFirst cfg fault None = HasNone cfg fault
IsFirst cfg fault (Some n) =
    (n < node_count cfg) × (has_fault cfg fault n ≡ true) × NoneBefore cfg fault n

-- no node has a fault that is reported before this one
abbrev pub HasNoneBefore : NetCfg → TreeFault → Type 0
HasNoneBefore cfg NotATree = Unit {0}
HasNoneBefore cfg TwoSlaves = HasNone cfg NotATree
HasNoneBefore cfg TooDeep = HasNone cfg NotATree × HasNone cfg TwoSlaves

-- the network is refused for this fault at this node
abbrev pub IsRefused : NetCfg → TreeFault → ℕ → Type 0
IsRefused cfg fault n = HasNoneBefore cfg fault × IsFirst cfg fault (Some n)

-- no node has a fault
abbrev pub HasNoFault : NetCfg → Type 0
HasNoFault cfg = HasNone cfg NotATree × HasNone cfg TwoSlaves × HasNone cfg TooDeep

-- the first node of the least fault
abbrev pub IsRefusal : NetCfg → Option (TreeFault × ℕ) → Type 0
IsRefusal cfg None = HasNoFault cfg
IsRefusal cfg (Some place) = IsRefused cfg place.0 place.1

-- the number of a fault
abbrev pub number_of : TreeFault → ℕ
number_of NotATree = 7
number_of TwoSlaves = 8
number_of TooDeep = 9
