-- What a node is set to: its part of the network's numbers, and a port for each end of a link that it has (this project's profile).
use Rattle.std.specs.Prelude.{ℕ, zero, suc, ◌==◌, if◌then◌else◌, unsigned_abs, true, List, [], ◌∷◌, ◌++◌, None, Some, slice_get}
use Rattle.std.specs.List.{flat_map}
use Rattle.std.specs.Option.{option_map_or}
use Rattle.wrp_network.specs.declared.configuration.NetCfg.{NetCfg}
use Rattle.wrp_base.specs.declared.link.Role.TheVariants.{Master, Slave}
use Rattle.wrp_base.specs.declared.message.PortIdentity.{PortIdentity}
use Rattle.wrp_network.specs.declared.network.LinkCfg.{LinkCfg}
use Rattle.wrp_network.specs.Network.{link_above}
use Rattle.wrp_data.specs.declared.datasets.DefaultDs.{DefaultDs}
use Rattle.wrp_data.specs.declared.datasets.PortDs.{PortDs}
use Rattle.wrp_link.specs.declared.interface.LinkSet.{LinkSet}
use Rattle.wrp_node.specs.declared.interface.NodeSet.{NodeSet}
use Rattle.wrp_port.specs.declared.interface.Sched.{Sched}
use Rattle.wrp_servo.specs.declared.interface.ServoSet.{ServoSet}

-- ---- the way up

-- how many links lead from a node upwards, counted up to so many
unfoldable pub steps_up : ℕ → NetCfg → ℕ → ℕ
steps_up zero net n = 0
steps_up (suc most) net n =
    elim (link_above net n) [ None ↦ 0 | Some link ↦ suc (steps_up most net link.upper) ]

-- the node to which they lead
unfoldable pub top_up : ℕ → NetCfg → ℕ → ℕ
top_up zero net n = n
top_up (suc most) net n =
    elim (link_above net n) [ None ↦ n | Some link ↦ top_up most net link.upper ]

-- ---- what it knows of itself

-- clockIdentity of the node of this number
abbrev pub identity_of : NetCfg → ℕ → ℕ
identity_of net n = option_map_or (λ node. node.identity) (slice_get net.nodes.items n) 0

-- the links of a network are at most 8 deep
abbrev pub own_of : NetCfg → ℕ → DefaultDs
own_of net n = record {
  identity = identity_of net n;
  domain = unsigned_abs net.domain;
  gm = identity_of net (top_up 8 net n);
  steps = steps_up 8 net n;
}

-- ---- its ports

-- portIdentity of the upper end of a link
abbrev pub upper_of : NetCfg → LinkCfg → PortIdentity
upper_of net link = record { clock = identity_of net link.upper; port = link.upper_port }

-- portIdentity of the lower end of a link
abbrev pub lower_of : NetCfg → LinkCfg → PortIdentity
lower_of net link = record { clock = identity_of net link.lower; port = link.lower_port }

-- the port at the upper end is the master, that at the lower end the slave
abbrev pub master_at : NetCfg → LinkCfg → PortDs
master_at net link = record { own = upper_of net link; peer = lower_of net link; role = Master; wr = link.wr }

-- the port at the lower end of a link: the slave of the port at the upper end
abbrev pub slave_at : NetCfg → LinkCfg → PortDs
slave_at net link = record { own = lower_of net link; peer = upper_of net link; role = Slave; wr = link.wr }

-- the ports that a node has at a link
abbrev pub ports_at : NetCfg → ℕ → LinkCfg → List PortDs
ports_at net n link =
    (if link.upper == n then master_at net link ∷ [] else [])
    ++ (if link.lower == n then slave_at net link ∷ [] else [])

-- its ports, in file order of their links
abbrev pub ports_of : NetCfg → ℕ → List PortDs
ports_of net n = flat_map (ports_at net n) net.links.items

-- ---- the numbers of the network

-- the settings of link setup; each port reads its own `wr`
abbrev pub link_set_of : NetCfg → LinkSet
link_set_of net = record {
  quiet = unsigned_abs net.quiet;
  wait = unsigned_abs net.wait;
  lock_wait = unsigned_abs net.lock_wait;
  retries = unsigned_abs net.retries;
  holdoff = unsigned_abs net.holdoff;
  wr = true;
}

-- the settings of a port's schedule and of the lease
abbrev pub sched_of : NetCfg → Sched
sched_of net = record {
  announce = unsigned_abs net.announce;
  sync = unsigned_abs net.sync;
  delay = unsigned_abs net.delay;
  lease = unsigned_abs net.lease;
}

-- the settings of the servo
abbrev pub servo_set_of : NetCfg → ServoSet
servo_set_of net = record {
  holdover = unsigned_abs net.holdover;
  age = unsigned_abs net.age;
  stable = unsigned_abs net.stable;
  gap = unsigned_abs net.gap;
  lock_samples = unsigned_abs net.lock_samples;
  delock_samples = unsigned_abs net.delock_samples;
  threshold = unsigned_abs net.threshold;
  track_tau = net.track_tau;
  loop_tau = net.loop_tau;
  phase_step = net.phase_step;
  kp = unsigned_abs net.kp;
  ki = unsigned_abs net.ki;
  bias = unsigned_abs net.bias;
  clock = net.clock;
}

-- ---- all of it

-- what the node of this number is set to
abbrev pub set_of : NetCfg → ℕ → NodeSet
set_of net n = record {
  own = own_of net n;
  ports = record { items = ports_of net n };
  link = link_set_of net;
  sched = sched_of net;
  servo = servo_set_of net;
  ring = unsigned_abs net.ring;
  report = unsigned_abs net.report;
}
