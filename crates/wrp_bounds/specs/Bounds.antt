-- The bounds of a network's nodes: hop, path and holdover, by the tree of its links (this project's
-- profile).
use Rattle.std.specs.Prelude.{ℕ, zero, suc, ◌+◌, ◌<◌, max, unsigned_abs, if◌then◌else◌, List, [], ◌∷◌, sum_by, Option, None, Some, slice_get}
use Rattle.std.specs.Option.{is_some, option_map_or, option_and_then}
use Rattle.wrp_network.specs.declared.configuration.NetCfg.{NetCfg}
use Rattle.wrp_network.specs.declared.network.NodeCfg.{NodeCfg}
use Rattle.wrp_network.specs.declared.network.LinkCfg.{LinkCfg}
use Rattle.wrp_network.specs.Network.{HasLinkRanges, link_above, node_count}
use Rattle.wrp_bounds.specs.declared.numbers.NodeNumbers.{NodeNumbers}
use Rattle.wrp_bounds.specs.declared.numbers.HopNumbers.{HopNumbers}
use Rattle.wrp_bounds.specs.Hop.{hop_bound}
use Rattle.wrp_bounds.specs.Motion.{motion}
use Rattle.wrp_bounds.specs.Times.{reach, gap_time, age_time, held_time}

-- the greatest rate of a node's clock, in 10^-12: 0 of the grandmaster's
abbrev pub rate_of : NetCfg → ℕ → NodeCfg → ℕ
rate_of net n node = if is_some (link_above net n) then max node.slew node.held else 0

-- what a node brings to the bound of a hop
abbrev pub end_of : NetCfg → ℕ → NodeCfg → NodeNumbers
end_of net n node = record { e_tx = node.e_tx; e_tag = node.e_tag; rate = rate_of net n node }

-- what the bound of a hop is made of: the two nodes', the link's and the network's numbers; there
-- is none if an end is no node
abbrev pub numbers_between :
    NetCfg → LinkCfg → Option NodeCfg → Option NodeCfg → Option HopNumbers
numbers_between net link (Some own) (Some parent) = Some (record {
  clock = net.clock;
  track_tau = unsigned_abs net.track_tau;
  loop_tau = unsigned_abs net.loop_tau;
  own = end_of net link.lower own;
  parent = end_of net link.upper parent;
  beat = own.beat;
  kappa = link.kappa;
  e_db = link.e_db;
  e_asym = link.e_asym;
  law_err = link.law_err;
  gap_time = gap_time net;
  age_time = age_time net;
  reach = reach net;
})
numbers_between net link _ _ = None

-- the numbers of the hop over a link
unfoldable pub numbers_over : NetCfg → LinkCfg → Option HopNumbers
numbers_over net link =
    numbers_between net link
    (slice_get net.nodes.items link.lower) (slice_get net.nodes.items link.upper)

-- the bound of the hop over a link
abbrev pub hop_over : NetCfg → LinkCfg → ℕ
hop_over net link = option_map_or hop_bound (numbers_over net link) 0

-- the numbers of a node's hop, from the node above it
abbrev pub numbers_of : NetCfg → ℕ → Option HopNumbers
numbers_of net n = option_and_then (numbers_over net) (link_above net n)

-- the bound of a node's hop: how far it may be from its parent in TRACK
abbrev pub hop_of : NetCfg → ℕ → ℕ
hop_of net n = option_map_or hop_bound (numbers_of net n) 0

-- how far a node with a link above it may move in HOLDOVER
abbrev pub held_by : NetCfg → Option LinkCfg → Option NodeCfg → ℕ
held_by net (Some link) (Some node) = motion node.held (held_time net)
held_by net _ _ = 0

-- how far a node may move in HOLDOVER, in tau: the grandmaster has none
unfoldable pub held_motion : NetCfg → ℕ → ℕ
held_motion net n = held_by net (link_above net n) (slice_get net.nodes.items n)

-- the links from a node up to the grandmaster, at most so many
unfoldable pub links_up : ℕ → NetCfg → ℕ → List LinkCfg
links_up zero net n = []
links_up (suc most) net n =
    elim (link_above net n) [ None ↦ [] | Some link ↦ link ∷ links_up most net link.upper ]

-- what a link adds to the bounds of all nodes below it: the bound of its hop, and how far the node
-- above it may have moved in HOLDOVER
abbrev pub step_over : NetCfg → LinkCfg → ℕ
step_over net link = hop_over net link + held_motion net link.upper

-- the bound of a node in TRACK: the sum over the links up to the grandmaster, of which there are at
-- most 8
unfoldable pub path_of : NetCfg → ℕ → ℕ
path_of net n = sum_by (step_over net) (links_up 8 net n)

-- the bound of a node in HOLDOVER
abbrev pub holdover_of : NetCfg → ℕ → ℕ
holdover_of net n = path_of net n + held_motion net n

-- a link whose numbers are in their ranges and whose ends are nodes
pub record IsPlaced (net : NetCfg) (link : LinkCfg) : Type 0 where
  pub ranges : HasLinkRanges link
  pub upper : link.upper < node_count net
  pub lower : link.lower < node_count net
