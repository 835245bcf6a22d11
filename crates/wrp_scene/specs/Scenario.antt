-- Scenarios: for how long a network runs, with which fibres, clocks, losses and faults (this project's profile).
-- Nodes and links are given by their places from 0 in file order; times, delays and offsets are in tau.
use Rattle.std.specs.Prelude.{ℕ, ℤ, pos, ◌*◌, ◌+◌, ◌-◌, ◌≤◌, ◌<◌, ◌≡◌, ◌*ℤ◌, ◌-ℤ◌, unsigned_abs, List, [], map, length, slice_get, unwrap_or}
use Rattle.std.specs.List.{AllByRecursion}
use Rattle.std.specs.Option.{option_map_or}
use Rattle.wrp_network.specs.declared.configuration.NetCfg.{NetCfg}
use Rattle.wrp_network.specs.Network.{IsGrandmaster, node_count}
use Rattle.wrp_base.specs.Ranges.{IsFromTo}
use Rattle.wrp_bounds.specs.Times.{reach}
use Rattle.wrp_law.specs.Law.{floor_at}
use Rattle.wrp_course.specs.EventAt.{link_count}
use Rattle.wrp_scene.specs.declared.scene.fault.Fault.{Fault}
use Rattle.wrp_scene.specs.declared.scene.fault.FaultKind.{FaultKind}
use Rattle.wrp_scene.specs.declared.scene.fault.FaultKind.TheVariants.{Down, Up, Cut, Join}

-- a scenario of a network: for each link the delay of both ways of its fibre; for each node the offset that its
-- clock has when the node comes up, and the rate in 10^-12 of its clock at rest; how many of 1000 arrivals are
-- lost, and how many come twice; and the faults in the order of their lines
pub record SceneAt : Type 0 where
  pub duration : ℤ
  pub sums : List ℕ
  pub offsets : List ℤ
  pub frees : List ℤ
  pub loss : ℕ
  pub repeat : ℕ
  pub faults : List Fault

-- so many ms
abbrev pub tau_of_ms : ℕ → ℤ
tau_of_ms ms = pos (65_536_000_000_000 * ms)

-- an offset of so many ns
abbrev pub off_of_ns : ℤ → ℤ
off_of_ns ns = pos 65_536_000 *ℤ ns

-- the scenario of which no line says anything: 10,000 ms, fibres without delay, clocks without offset or rate of
-- their own
abbrev pub new_scene : NetCfg → SceneAt
new_scene cfg = record {
  duration = tau_of_ms 10_000;
  sums = map (λ link. 0) cfg.links.items;
  offsets = map (λ node. pos 0) cfg.nodes.items;
  frees = map (λ node. pos 0) cfg.nodes.items;
  loss = 0;
  repeat = 0;
  faults = [];
}

-- What it says of a link or a node

-- the delay of both ways of a link's fibre
abbrev pub sum_of : SceneAt → ℕ → ℕ
sum_of scene l = unwrap_or (slice_get scene.sums l) 0

-- the offset that a node's clock has when the node comes up
abbrev pub offset_of : SceneAt → ℕ → ℤ
offset_of scene n = unwrap_or (slice_get scene.offsets n) (pos 0)

-- the rate of a node's clock at rest, in 10^-12
abbrev pub free_of : SceneAt → ℕ → ℤ
free_of scene n = unwrap_or (slice_get scene.frees n) (pos 0)

-- the delay down of a fibre with this asymmetry and this delay of both ways: (2^39 + kappa) / 2^40 of the delay of
-- both ways, rounded down
abbrev pub delta_ms : ℤ → ℕ → ℤ
delta_ms kappa sum = floor_at kappa (pos sum)

-- the delay up
abbrev pub delta_sm : ℤ → ℕ → ℤ
delta_sm kappa sum = pos sum -ℤ delta_ms kappa sum

-- the asymmetry of a link's fibre
abbrev pub kappa_of : NetCfg → ℕ → ℤ
kappa_of cfg l = option_map_or (λ link. link.kappa) (slice_get cfg.links.items l) (pos 0)

-- the delays down and up of a link's fibre
abbrev pub ms_of : NetCfg → SceneAt → ℕ → ℤ
ms_of cfg scene l = delta_ms (kappa_of cfg l) (sum_of scene l)

abbrev pub sm_of : NetCfg → SceneAt → ℕ → ℤ
sm_of cfg scene l = delta_sm (kappa_of cfg l) (sum_of scene l)

-- Ranges

-- what a one-way delay leaves for the fibre, whichever ports are at its ends: the sides of the ninth inequality
abbrev pub fibre_room : NetCfg → ℕ
fibre_room cfg = reach cfg - (cfg.tx_max + cfg.rx_max + 2 * cfg.e_db)

-- three times this sum is at most four times that room
abbrev pub IsSum : NetCfg → ℕ → Type 0
IsSum cfg sum = 3 * sum ≤ 4 * fibre_room cfg

-- an offset within 10^12 ns
abbrev pub IsOffset : ℤ → Type 0
IsOffset off = unsigned_abs off ≤ 65_536_000_000_000_000_000

-- a rate within 100,000
abbrev pub IsFree : ℤ → Type 0
IsFree rate = unsigned_abs rate ≤ 100_000

-- the node or the link of a fault is one of the network's
abbrev pub IsFaultKind : NetCfg → FaultKind → Type 0
IsFaultKind cfg (Down node) = node < node_count cfg
IsFaultKind cfg (Up node) = node < node_count cfg
IsFaultKind cfg (Cut link) = link < link_count cfg
IsFaultKind cfg (Join link) = link < link_count cfg

-- a fault that a line can say: 0 to 10^7 ms after the start
pub record IsFault (cfg : NetCfg) (fault : Fault) : Type 0 where
  pub at : IsFromTo 0 655_360_000_000_000_000_000 fault.at
  pub kind : IsFaultKind cfg fault.kind

-- a scenario that lines can say for a network: one number for each link and two for each node, all in their ranges,
-- and 0 as the offset of the grandmaster
pub record IsSceneOf (cfg : NetCfg) (scene : SceneAt) : Type 0 where
  pub duration : IsFromTo 0 655_360_000_000_000_000_000 scene.duration
  pub links : length scene.sums ≡ link_count cfg
  pub offset_count : length scene.offsets ≡ node_count cfg
  pub free_count : length scene.frees ≡ node_count cfg
  pub sum : AllByRecursion (IsSum cfg) scene.sums
  pub offset : AllByRecursion IsOffset scene.offsets
  pub free : AllByRecursion IsFree scene.frees
  pub grandmaster : (n : ℕ) → IsGrandmaster cfg n → offset_of scene n ≡ pos 0
  pub loss : scene.loss ≤ 1_000
  pub repeat : scene.repeat ≤ 1_000
  pub fault_count : length scene.faults ≤ 64
  pub fault : AllByRecursion (IsFault cfg) scene.faults
