-- A worked row of what nodes are set to: a grandmaster, a switch below it and a leaf below the switch, in a network each of whose numbers is another (this project's profile).
use Rattle.std.specs.Prelude.{◌≡◌, ℕ, pos, Bool, true, false, List, [], ◌∷◌}
use Rattle.wrp_network.specs.declared.configuration.NetCfg.{NetCfg}
use Rattle.wrp_base.specs.declared.link.Role.TheVariants.{Master, Slave}
use Rattle.wrp_base.specs.declared.message.PortIdentity.{PortIdentity}
use Rattle.wrp_network.specs.declared.network.LinkCfg.{LinkCfg}
use Rattle.wrp_network.specs.declared.network.NodeCfg.{NodeCfg}
use Rattle.wrp_base.specs.declared.time.Clock.TheVariants.{Mhz125}
use Rattle.wrp_data.specs.declared.datasets.DefaultDs.{DefaultDs}
use Rattle.wrp_data.specs.declared.datasets.PortDs.{PortDs}
use Rattle.wrp_node.specs.declared.interface.NodeSet.{NodeSet}
use Rattle.wrp_node.specs.Set.{set_of}

-- ---- the network

-- a node with this clockIdentity; its errors `e_tx` and `e_tag` are in tau, `beat` in steps of the detector, and the rates
-- `slew` and `held` in 10^-12
abbrev pub node_cfg : ℕ → NodeCfg
node_cfg identity = record {
  name = record { bytes = []; spare = [] };
  identity = identity;
  e_tx = 655_360;
  e_tag = 64_000;
  beat = 4;
  slew = 500;
  held = 10;
}

-- a link between these ports of the nodes at these places in the file, the first at 0; `wr` is whether it may leave plain
-- PTP; its errors are in tau
abbrev pub link_cfg : (upper upper_port lower lower_port : ℕ) → Bool → LinkCfg
link_cfg upper upper_port lower lower_port wr = record {
  name = record { bytes = []; spare = [] };
  upper = upper;
  upper_port = upper_port;
  lower = lower;
  lower_port = lower_port;
  wr = wr;
  upper_module = record { bytes = []; spare = [] };
  lower_module = record { bytes = []; spare = [] };
  fibre = record { bytes = []; spare = [] };
  kappa = pos 73_622_176;
  e_asym = 1_310_720;
  down_nm = 0;
  up_nm = 0;
  e_db = 1_310_720;
  law_err = 1;
}

-- a grandmaster, a switch and a leaf: port 1 of the grandmaster leads to port 1 of the switch by a White Rabbit link, and
-- port 2 of the switch to port 1 of the leaf by a link of plain PTP
abbrev pub three_nodes : NetCfg
three_nodes = record {
  epoch = pos 1_000_000;
  domain = pos 7;
  dmin_ns = pos 9_000_000;
  dmax_ns = pos 11_000_000;
  life_ns = pos 100_000_000;
  reach_ns = pos 100_000;
  quiet = pos 24;
  holdover = pos 320;
  wait = pos 30;
  lock_wait = pos 1_500;
  holdoff = pos 299;
  lease = pos 250;
  age = pos 300;
  report = pos 99;
  stable = pos 50;
  lock_samples = pos 100;
  retries = pos 3;
  gap = pos 2;
  announce = pos 98;
  sync = pos 25;
  delay = pos 26;
  ring = pos 64;
  track_tau = pos 3_276_800;
  loop_tau = pos 3_276_799;
  phase_step = pos 100_001;
  kp = pos 125;
  ki = pos 5;
  bias = pos 32_768;
  threshold = pos 6_400;
  delock_samples = pos 49;
  clock = Mhz125;
  nodes = record { items = node_cfg 11 ∷ (node_cfg 12 ∷ (node_cfg 13 ∷ [])) };
  links = record { items = link_cfg 0 1 1 1 true ∷ (link_cfg 1 2 2 1 false ∷ []) };
  e_db = 1_310_720;
  tx_max = 14_811_136_000;
  rx_max = 14_876_672_000;
}

-- ---- what its nodes are set to

-- the numbers are the same for all nodes
abbrev pub set_with : DefaultDs → List PortDs → NodeSet
set_with own ports = record {
  own = own;
  ports = record { items = ports };
  link = record { quiet = 24; wait = 30; lock_wait = 1_500; retries = 3; holdoff = 299; wr = true };
  sched = record { announce = 98; sync = 25; delay = 26; lease = 250 };
  servo = record {
    holdover = 320;
    age = 300;
    stable = 50;
    gap = 2;
    lock_samples = 100;
    delock_samples = 49;
    threshold = 6_400;
    track_tau = pos 3_276_800;
    loop_tau = pos 3_276_799;
    phase_step = pos 100_001;
    kp = 125;
    ki = 5;
    bias = 32_768;
    clock = Mhz125;
  };
  ring = 64;
  report = 99;
}

-- portIdentity: the clockIdentity of the node, and the number of the port
abbrev pub port : (clock number : ℕ) → PortIdentity
port clock number = record { clock = clock; port = number }

-- what each of the three nodes is set to: how many steps it is below the grandmaster, and its ports with their peers and
-- roles
pub record WorkedSets : Type 0 where
  pub grandmaster :
      set_of three_nodes 0
      ≡ set_with (record { identity = 11; domain = 7; gm = 11; steps = 0 })
      (record { own = port 11 1; peer = port 12 1; role = Master; wr = true } ∷ [])
  pub switch :
      set_of three_nodes 1
      ≡ set_with (record { identity = 12; domain = 7; gm = 11; steps = 1 })
      (record { own = port 12 1; peer = port 11 1; role = Slave; wr = true }
      ∷ (record { own = port 12 2; peer = port 13 1; role = Master; wr = false } ∷ []))
  pub leaf :
      set_of three_nodes 2
      ≡ set_with (record { identity = 13; domain = 7; gm = 11; steps = 2 })
      (record { own = port 13 1; peer = port 12 2; role = Slave; wr = false } ∷ [])
