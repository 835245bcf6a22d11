-- Worked rows, computed over a network of two nodes with the numbers that a file without keys has: a grandmaster, number
-- 0, a switch, number 1, and the link between them (this project's profile).
use Rattle.std.specs.Prelude.{◌≡◌, ◌==◌, ℕ, ℤ, pos, negsuc, ◌^◌, codes, true, if◌then◌else◌, List, [], ◌∷◌, map, Option, None, Some, Err}
use Rattle.wrp_network.specs.declared.configuration.NetCfg.{NetCfg}
use Rattle.wrp_base.specs.declared.link.LinkWord.{LinkWord}
use Rattle.wrp_base.specs.declared.link.LinkWord.TheVariants.{Quiet}
use Rattle.wrp_base.specs.declared.link.Module.{Module}
use Rattle.wrp_base.specs.declared.link.Role.TheVariants.{Master, Slave}
use Rattle.wrp_network.specs.declared.network.LinkCfg.{LinkCfg}
use Rattle.wrp_network.specs.declared.network.NodeCfg.{NodeCfg}
use Rattle.wrp_base.specs.declared.time.Clock.TheVariants.{Mhz125}
use Rattle.wrp_caldb.specs.Database.{Database}
use Rattle.wrp_data.specs.declared.datasets.PortDs.{PortDs}
use Rattle.wrp_frame.specs.declared.fault.FrameFault.TheVariants.{Short}
use Rattle.wrp_link.specs.Table.{word_of}
use Rattle.wrp_node.specs.declared.interface.Input.TheVariants.{Carrier, Reset}
use Rattle.wrp_node.specs.declared.interface.NodeSet.{NodeSet}
use Rattle.wrp_node.specs.NodeAt.{link_at}
use Rattle.wrp_servo.specs.declared.interface.ServoSet.{ServoSet}
use Rattle.wrp_course.specs.declared.event.Event.{Event}
use Rattle.wrp_course.specs.declared.event.Event.TheVariants.{Pass, Tick, Up, Join}
use Rattle.wrp_course.specs.Checks.{Check}
use Rattle.wrp_course.specs.Premises.{broken}
use Rattle.wrp_course.specs.Run.{Happened, world_after}
use Rattle.wrp_course.specs.Setting.{Setting}
use Rattle.wrp_course.specs.WorldAt.{WorldAt}

-- The network

-- module blue: 225 ns in each direction, to within 20 ps; its period begins at tag 0
abbrev pub blue : Module
blue = record { tx = 14_745_600_000; rx = 14_745_600_000; transition = 0; err = 1_310_720 }

-- module violet: 226 ns as it sends, 227 ns as it receives, to within 20 ps; its period begins at tag 0
abbrev pub violet : Module
violet = record { tx = 14_811_136_000; rx = 14_876_672_000; transition = 0; err = 1_310_720 }

-- the calibration database: both modules, each with one entry for any wavelengths, and a fibre smf without a table, whose delay
-- down is within 20 ps of its share
abbrev pub database : Database
database = record {
  modules =
      record { name = codes "blue"; entries = record { tx_nm = 0; rx_nm = 0; delays = blue } ∷ [] }
      ∷ (record { name = codes "violet"; entries = record { tx_nm = 0; rx_nm = 0; delays = violet } ∷ [] } ∷ []);
  fibres = record { name = codes "smf"; fibre = record { kappa = pos 73_622_176; err = 1_310_720 }; table = None } ∷ [];
}

-- a node of the file without keys: send stamps to within 10 ps, tags to within 64,000 tau, 4 beat steps on either side,
-- and a clock rate of 500 * 10^-12 when it is locked, of 10 * 10^-12 in HOLDOVER
abbrev pub node_cfg : List ℕ → ℕ → NodeCfg
node_cfg name identity = record {
  name = record { bytes = name; spare = [] };
  identity = identity;
  e_tx = 655_360;
  e_tag = 64_000;
  beat = 4;
  slew = 500;
  held = 10;
}

-- the link f1, White Rabbit on: port 1 of the grandmaster with module blue, over fibre smf, port 1 of the switch with violet
abbrev pub the_link : LinkCfg
the_link = record {
  name = record { bytes = codes "f1"; spare = [] };
  upper = 0;
  upper_port = 1;
  lower = 1;
  lower_port = 1;
  wr = true;
  upper_module = record { bytes = codes "blue"; spare = [] };
  lower_module = record { bytes = codes "violet"; spare = [] };
  fibre = record { bytes = codes "smf"; spare = [] };
  kappa = pos 73_622_176;
  e_asym = 1_310_720;
  down_nm = 0;
  up_nm = 0;
  e_db = 1_310_720;
  law_err = 1;
}

-- the network, at 125 MHz: ticks 9 to 11 ms apart, a frame's life of 100 ms and a reach of 100 us; timers are in ticks,
-- track_tau, loop_tau and phase_step in tau, threshold in 1,000 tau
abbrev pub network : NetCfg
network = record {
  epoch = pos 1_000_000;
  domain = pos 0;
  dmin_ns = pos 9_000_000;
  dmax_ns = pos 11_000_000;
  life_ns = pos 100_000_000;
  reach_ns = pos 100_000;
  quiet = pos 24;
  holdover = pos 320;
  wait = pos 30;
  lock_wait = pos 1_500;
  holdoff = pos 300;
  lease = pos 250;
  age = pos 300;
  report = pos 100;
  stable = pos 50;
  lock_samples = pos 100;
  retries = pos 3;
  gap = pos 2;
  announce = pos 100;
  sync = pos 25;
  delay = pos 25;
  ring = pos 64;
  track_tau = pos 3_276_800;
  loop_tau = pos 3_276_800;
  phase_step = pos 100_000;
  kp = pos 125;
  ki = pos 5;
  bias = pos 32_768;
  threshold = pos 6_400;
  delock_samples = pos 50;
  clock = Mhz125;
  nodes = record { items = node_cfg (codes "gm") 1 ∷ (node_cfg (codes "sw1") 2 ∷ []) };
  links = record { items = the_link ∷ [] };
  e_db = 1_310_720;
  tx_max = 14_811_136_000;
  rx_max = 14_876_672_000;
}

-- the servo of each node, with the network's numbers; threshold is in 1,000 tau, kp and ki are in 1/4096
abbrev pub servo_set : ServoSet
servo_set = record {
  holdover = 320;
  age = 300;
  stable = 50;
  gap = 2;
  lock_samples = 100;
  delock_samples = 50;
  threshold = 6_400;
  track_tau = pos 3_276_800;
  loop_tau = pos 3_276_800;
  phase_step = pos 100_000;
  kp = 125;
  ki = 5;
  bias = 32_768;
  clock = Mhz125;
}

-- what a node is set to, with its identity, how many links it is from the grandmaster, and its one port
abbrev pub node_set : ℕ → ℕ → PortDs → NodeSet
node_set identity steps ds = record {
  own = record { identity = identity; domain = 0; gm = 1; steps = steps };
  ports = record { items = ds ∷ [] };
  link = record { quiet = 24; wait = 30; lock_wait = 1_500; retries = 3; holdoff = 300; wr = true };
  sched = record { announce = 100; sync = 25; delay = 25; lease = 250 };
  servo = servo_set;
  ring = 64;
  report = 100;
}

-- port 1 of the grandmaster: the master of the link
abbrev pub upper_ds : PortDs
upper_ds = record { own = record { clock = 1; port = 1 }; peer = record { clock = 2; port = 1 }; role = Master; wr = true }

-- port 1 of the switch: its slave
abbrev pub lower_ds : PortDs
lower_ds = record { own = record { clock = 2; port = 1 }; peer = record { clock = 1; port = 1 }; role = Slave; wr = true }

-- the setting of all rows; the delay law of each node is asked for fibre delays, both ways together, of -2^30 to 2^53 tau
abbrev pub two_nodes : Setting
two_nodes = record {
  cfg = network;
  db = database;
  set = λ n. if n == 0 then node_set 1 0 upper_ds else node_set 2 1 lower_ds;
  lo = λ n. negsuc 1_073_741_823;
  hi = λ n. pos (2 ^ 53);
}

-- Events

-- an event without octets, in which no law is asked
abbrev pub plain : Event → Happened
plain event = record { event = event; says = Err Short; answer = pos 0 }

-- time passes, and nothing moves
abbrev pub still : ℕ → Event
still dt = Pass (pos dt) (record { items = [] }) (record { items = [] })

-- a node comes up with true time and with the modules that it had
abbrev pub comes_up : ℕ → Event
comes_up n = Up n (pos 0) (record { items = [] })

-- the world after these events, the newest first
abbrev pub after : List Event → WorldAt
after events = world_after two_nodes (map plain events)

-- the check that refuses an event after these others; None if it is accepted
abbrev pub refused_by : List Event → Event → Option Check
refused_by events event = broken two_nodes (after events) (Err Short) event

-- the answer that this premise is broken, with both sides, times in tau
abbrev pub is_broken : ℕ → ℤ → ℤ → Option Check
is_broken premise shown bound = Some (record { premise = premise; fails = true; shown = shown; bound = bound })

-- the link joined, the grandmaster up, and then the switch, the newest first
abbrev pub joined : List Event
joined = comes_up 0 ∷ (Join 0 (pos 0) (pos 0) ∷ [])

-- the word for the link's state at port 1 of a node, once the link is joined and both nodes are up
abbrev pub word_at : ℕ → LinkWord
word_at n = word_of (link_at (two_nodes.set n) ((after (comes_up 1 ∷ joined)).node n) 1)

-- The rows

-- what is computed: the first four rows say which premise an event breaks, if it breaks one, the last three what comes with the
-- carrier
pub record WorkedRows : Type 0 where
  -- a node that is down does not tick
  pub down : refused_by [] (Tick 1) ≡ is_broken 13 (pos 0) (pos 1)
  -- no time passes beyond dmax, and a node that came up does not tick at once
  pub late :
      refused_by (still 720_896_000_000_000 ∷ (comes_up 0 ∷ [])) (still 1)
      ≡ is_broken 2 (pos 720_896_000_000_001) (pos 720_896_000_000_000)
  pub early : refused_by (comes_up 0 ∷ []) (Tick 0) ≡ is_broken 1 (pos 0) (pos 589_824_000_000_000)
  -- with both nodes up the carrier comes at both ends, and the switch was reset and given its module
  pub accepted : refused_by joined (comes_up 1) ≡ None
  pub upper_quiet : word_at 0 ≡ Quiet
  pub lower_quiet : word_at 1 ≡ Quiet
  pub inputs :
      map (λ taken. taken.input) ((after (comes_up 1 ∷ joined)).inputs 1)
      ≡ Carrier 1 true (Some violet) ∷ (Reset ∷ [])
