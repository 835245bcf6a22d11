-- Networks: the ranges of their numbers, the ports that their links name, and the tree that the links make (this project's
-- profile).
use Rattle.std.specs.Prelude.{ℕ, suc, zero, ℤ, pos, ◌≡◌, ◌⊎◌, ◌==◌, ◌^◌, ◌<◌, ◌≤◌, ◌≤ℤ◌, unsigned_abs, Option, None, Some, List, [], ◌∷◌, length, slice_get}
use Rattle.std.specs.List.{find, flat_map}
use Rattle.std.specs.Option.{option_map_or}
use Rattle.wrp_base.specs.declared.time.Clock.{Clock}
use Rattle.wrp_network.specs.declared.configuration.NetCfg.{NetCfg}
use Rattle.wrp_network.specs.declared.network.NodeCfg.{NodeCfg}
use Rattle.wrp_network.specs.declared.network.LinkCfg.{LinkCfg}
use Rattle.wrp_base.specs.Clock.{step_of}
use Rattle.wrp_base.specs.Ranges.{IsFromTo, IsAmong}

-- how many nodes a network has
abbrev pub node_count : NetCfg → ℕ
node_count net = length net.nodes.items

-- the node of this number, which is its place from 0 in file order
abbrev pub IsNode : NetCfg → ℕ → NodeCfg → Type 0
IsNode net n node = slice_get net.nodes.items n ≡ Some node

-- the name of the node of this number; no octets if there is none
abbrev pub name_at : NetCfg → ℕ → List ℕ
name_at net n = option_map_or (λ node. node.name.bytes) (slice_get net.nodes.items n) []

-- the link of this number, which is its place from 0 in file order
abbrev pub IsLink : NetCfg → ℕ → LinkCfg → Type 0
IsLink net l link = slice_get net.links.items l ≡ Some link

-- Ranges

-- a wavelength in nm, where 0 means any
abbrev pub IsWavelength : ℕ → Type 0
IsWavelength n = (n ≡ 0) ⊎ IsAmong 800 1_700 n

-- the numbers of a node are in their ranges; a tag's error is at least one step of the detector
pub record HasNodeRanges (clock : Clock) (node : NodeCfg) : Type 0 where
  pub identity : node.identity < 2 ^ 64
  pub e_tx : IsAmong 1_000 1_000_000_000 node.e_tx
  pub e_tag : IsAmong (step_of clock) 65_535_999 node.e_tag
  pub beat : node.beat ≤ 24
  pub slew : node.slew ≤ 1_000_000_000
  pub held : node.held ≤ 1_000_000_000

-- the numbers of a link are in their ranges
pub record HasLinkRanges (link : LinkCfg) : Type 0 where
  pub upper_port : IsAmong 1 18 link.upper_port
  pub lower_port : IsAmong 1 18 link.lower_port
  pub kappa : unsigned_abs link.kappa ≤ 2 ^ 38
  pub e_asym : IsAmong 1 1_000_000_000 link.e_asym
  pub down_nm : IsWavelength link.down_nm
  pub up_nm : IsWavelength link.up_nm
  pub e_db : link.e_db ≤ 1_000_000_000
  pub law_err : IsAmong 1 1_000_000_001 link.law_err

-- the numbers of a network are in the ranges of its file
pub record HasRanges (net : NetCfg) : Type 0 where
  pub epoch : IsFromTo 1_000_000 (2 ^ 35) net.epoch
  pub domain : IsFromTo 0 255 net.domain
  pub dmin_ns : IsFromTo 1_000 1_000_000_000 net.dmin_ns
  pub dmax_ns : IsFromTo 1_000 1_000_000_000 net.dmax_ns
  pub life_ns : IsFromTo 1 10_000_000_000 net.life_ns
  pub reach_ns : IsFromTo 1 1_000_000_000 net.reach_ns
  pub quiet : IsFromTo 2 1_000_000 net.quiet
  pub holdover : IsFromTo 2 1_000_000 net.holdover
  pub wait : IsFromTo 1 1_000_000 net.wait
  pub lock_wait : IsFromTo 1 1_000_000 net.lock_wait
  pub holdoff : IsFromTo 1 1_000_000 net.holdoff
  pub lease : IsFromTo 1 1_000_000 net.lease
  pub age : IsFromTo 1 1_000_000 net.age
  pub report : IsFromTo 1 1_000_000 net.report
  pub stable : IsFromTo 1 1_000_000 net.stable
  pub lock_samples : IsFromTo 1 1_000_000 net.lock_samples
  pub retries : IsFromTo 0 100 net.retries
  pub gap : IsFromTo 1 100 net.gap
  pub announce : IsFromTo 1 10_000 net.announce
  pub sync : IsFromTo 1 10_000 net.sync
  pub delay : IsFromTo 1 10_000 net.delay
  pub ring : IsFromTo 1 4_096 net.ring
  pub track_tau : IsFromTo 1 1_000_000_000 net.track_tau
  pub loop_tau : IsFromTo 1 1_000_000_000 net.loop_tau
  pub phase_step : IsFromTo 1 1_000_000_000 net.phase_step
  pub kp : IsFromTo 0 65_535 net.kp
  pub ki : IsFromTo 0 65_535 net.ki
  pub bias : IsFromTo 0 65_535 net.bias
  pub threshold : IsFromTo 1 (2 ^ 20) net.threshold
  pub delock_samples : IsFromTo 0 1_000_000 net.delock_samples
  pub e_db : net.e_db ≤ 1_000_000_000
  pub tx_max : net.tx_max ≤ 1_000_000_000_000
  pub rx_max : net.rx_max ≤ 1_000_000_000_000
  pub nodes : (n : ℕ) (node : NodeCfg) → IsNode net n node → HasNodeRanges net.clock node
  pub links : (l : ℕ) (link : LinkCfg) → IsLink net l link → HasLinkRanges link

-- Ports

-- one end of a link: a port of a node
pub record End : Type 0 where
  pub node : ℕ
  pub port : ℕ

-- the two ends of a link, the upper one first
abbrev pub ends_of : LinkCfg → List End
ends_of link =
    record { node = link.upper; port = link.upper_port } ∷ (record { node = link.lower; port = link.lower_port } ∷ [])

-- no port of a node is at two ends of links
abbrev pub NamesNoPortTwice : NetCfg → Type 0
NamesNoPortTwice net =
    (i j : ℕ) (end : End) →
    slice_get (flat_map ends_of net.links.items) i ≡ Some end →
    slice_get (flat_map ends_of net.links.items) j ≡ Some end →
    i ≡ j

-- The tree

-- the link above a node: the first in file order that has the node as its lower end
abbrev pub link_above : NetCfg → ℕ → Option LinkCfg
link_above net n = find (λ link. link.lower == n) net.links.items

-- a node that has no link above it, and so gives the time
abbrev pub IsGrandmaster : NetCfg → ℕ → Type 0
IsGrandmaster net n = (n < node_count net) × (link_above net n ≡ None)

-- this many links lead from the node upwards to one that has no link above it
abbrev pub HasDepth : NetCfg → ℕ → ℕ → Type 0
HasDepth net zero n = link_above net n ≡ None
HasDepth net (suc depth) n = (link : LinkCfg) × (link_above net n ≡ Some link) × HasDepth net depth link.upper

-- the links make one tree of all nodes, at most 8 links deep
pub record IsTree (net : NetCfg) : Type 0 where
  pub some_node : 0 < node_count net
  pub ends : (l : ℕ) (link : LinkCfg) → IsLink net l link → (link.upper < node_count net) × (link.lower < node_count net)
  pub one_parent : (k l : ℕ) (a b : LinkCfg) → IsLink net k a → IsLink net l b → a.lower ≡ b.lower → k ≡ l
  pub one_grandmaster : (m n : ℕ) → IsGrandmaster net m → IsGrandmaster net n → m ≡ n
  pub shallow : (n : ℕ) → n < node_count net → (depth : ℕ) × (depth ≤ 8) × HasDepth net depth n
