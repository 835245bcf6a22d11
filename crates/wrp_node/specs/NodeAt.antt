-- A node at a moment: what each of its parts was given, newest first; and what its settings are to its parts (this
-- project's profile).
use Rattle.std.specs.Prelude.{ℕ, ℤ, ◌==◌, Bool, true, false, if◌then◌else◌, nat_lt, List, [], ◌∷◌, map, Option, None, Some, is_some, Result}
use Rattle.std.specs.List.{find}
use Rattle.std.specs.Option.{option_map}
use Rattle.wrp_base.specs.declared.link.Deltas.{Deltas}
use Rattle.wrp_base.specs.declared.link.Role.{Role}
use Rattle.wrp_base.specs.declared.link.Role.TheVariants.{Master, Slave}
use Rattle.wrp_base.specs.declared.link.ServoState.{ServoState}
use Rattle.wrp_base.specs.declared.link.ServoState.TheVariants.{Uninit}
use Rattle.wrp_base.specs.declared.message.PtpMsg.{PtpMsg}
use Rattle.wrp_data.specs.declared.datasets.PortDs.{PortDs}
use Rattle.wrp_exch.specs.Call.{Call as ExchangeCall}
use Rattle.wrp_frame.specs.declared.fault.FrameFault.{FrameFault}
use Rattle.wrp_link.specs.LinkAt.{LinkAt}
use Rattle.wrp_node.specs.declared.interface.Input.{Input}
use Rattle.wrp_node.specs.declared.interface.NodeSet.{NodeSet}
use Rattle.wrp_port.specs.declared.interface.PortIn.{PortIn}
use Rattle.wrp_port.specs.declared.line.Rest.{Rest}
use Rattle.wrp_port.specs.declared.setting.Setting.{Setting}
use Rattle.wrp_port.specs.History.{rest_after, calls_of, is_fresh}
use Rattle.wrp_port.specs.PortAt.{deltas_of as port_deltas_of}
use Rattle.wrp_servo.specs.Call.{Call, ServoSetting, run}
use Rattle.wrp_servo.specs.declared.machine.Core.{Core}
use Rattle.wrp_servo.specs.Servo.{est_now}
use Rattle.wrp_servo.specs.Table.{is_track}

-- an input that was taken: beside it, what its octets say, if it is a frame, and the law's answer, if the law is asked
pub record Taken : Type 0 where
  pub input : Input
  pub says : Result PtpMsg FrameFault
  pub answer : ℤ

-- the setting of a node: what it is set to, and the range of its delay law
pub record NodeSetting : Type 0 where
  pub set : NodeSet
  pub lo : ℤ
  pub hi : ℤ

-- a node at a moment, as the inputs up to it made it
pub record NodeAt : Type 0 where
  -- the ticks since the last reset
  pub ticks : ℕ
  -- what each port was given, by its number, newest first
  pub told : ℕ → List PortIn
  -- what the servo was given, newest first
  pub calls : List Call
  -- the counters of each port
  pub counters : ℕ → List ℕ

-- ---- the ports that a node is set to

-- a port with a lower number than another
abbrev pub is_before : PortDs → PortDs → Bool
is_before one other = nat_lt one.own.port other.own.port

-- a port at its place among ports in ascending order: after the ports of lower numbers
abbrev pub placed : PortDs → List PortDs → List PortDs
placed ds [] = ds ∷ []
placed ds (other ∷ ports) = if is_before other ds then other ∷ placed ds ports else ds ∷ other ∷ ports

-- the ports in ascending order
abbrev pub in_order : List PortDs → List PortDs
in_order [] = []
in_order (ds ∷ ports) = placed ds (in_order ports)

-- the numbers of the ports, ascending
abbrev pub numbers_of : NodeSet → List ℕ
numbers_of set = map (λ ds. ds.own.port) (in_order set.ports.items)

-- whether a role is the slave's
abbrev pub is_slave : Role → Bool
is_slave Master = false
is_slave Slave = true

-- the number of the slave port, if there is one
abbrev pub slave_in : List PortDs → Option ℕ
slave_in ports = option_map (λ ds. ds.own.port) (find (λ ds. is_slave ds.role) ports)

-- the number of the slave port among the ports that a node is set to; a node without one has no servo
abbrev pub slave_of : NodeSet → Option ℕ
slave_of set = slave_in set.ports.items

-- the port that is used for a number which no port has
abbrev pub no_port : PortDs
no_port = record { own = record { clock = 0; port = 0 }; peer = record { clock = 0; port = 0 }; role = Master; wr = false }

-- a port that was looked for, or the one in its place if none was found
abbrev pub port_or_none : Option PortDs → PortDs
port_or_none None = no_port
port_or_none (Some ds) = ds

-- the port of a number
abbrev pub port_of : NodeSet → ℕ → PortDs
port_of set p = port_or_none (find (λ ds. ds.own.port == p) set.ports.items)

-- what a port is set to: the numbers of link setup are the node's, with the port's own `wr`
abbrev pub setting_by : NodeSet → PortDs → Setting
setting_by set ds =
    record { own = set.own; ds = ds; link = record set.link { wr = ds.wr }; sched = set.sched; ring = set.ring }

-- what the port of a number is set to
abbrev pub setting_of : NodeSet → ℕ → Setting
setting_of set p = setting_by set (port_of set p)

-- ---- what its parts have come to

-- a port: its link, its lease, its schedule and its sequenceIds
abbrev pub line_at : NodeSet → NodeAt → ℕ → Rest
line_at set n p = rest_after (setting_of set p) (n.told p)

-- the link of a port, as link setup has left it
abbrev pub link_at : NodeSet → NodeAt → ℕ → LinkAt
link_at set n p = (line_at set n p).link

-- the calls that a port's exchange was given, newest first
abbrev pub pieces_at : NodeSet → NodeAt → ℕ → List ExchangeCall
pieces_at set n p = calls_of (setting_of set p) (n.told p)

-- what the servo is set to
abbrev pub servo_setting_of : NodeSetting → ServoSetting
servo_setting_of fixed = record { set = fixed.set.servo; lo = fixed.lo; hi = fixed.hi }

-- the servo
abbrev pub servo_at : NodeSetting → NodeAt → Core
servo_at fixed n = run (servo_setting_of fixed) n.calls

-- a node without a slave port has no servo: it is UNINIT, unlocked, and its DAC value is the bias
abbrev pub state_of : NodeSetting → NodeAt → ServoState
state_of fixed n = if is_some (slave_of fixed.set) then (servo_at fixed n).state else Uninit

-- whether the lock detector is locked; false for a node without a servo
abbrev pub locked_of : NodeSetting → NodeAt → Bool
locked_of fixed n = if is_some (slave_of fixed.set) then (servo_at fixed n).phase.lock.locked else false

-- the DAC value that the loop of the servo holds; the bias for a node without a servo
abbrev pub dac_of : NodeSetting → NodeAt → ℕ
dac_of fixed n = if is_some (slave_of fixed.set) then (servo_at fixed n).phase.dac else fixed.set.servo.bias

-- its time is certain: it is the grandmaster, or in TRACK
abbrev pub certain_of : NodeSetting → NodeAt → Bool
certain_of fixed n = if is_some (slave_of fixed.set) then is_track (servo_at fixed n).state else true

-- the offset from the parent, if there is a four
abbrev pub est_of : NodeSetting → NodeAt → Option ℤ
est_of fixed n = est_now (servo_at fixed n)

-- the lease of the slave port is fresh
abbrev pub is_fresh_at : NodeSet → NodeAt → Option ℕ → Bool
is_fresh_at set n None = false
is_fresh_at set n (Some p) = is_fresh (setting_of set p) (n.told p)

-- whether the lease of the node's slave port is fresh; false if it has none
abbrev pub is_fresh_in : NodeSet → NodeAt → Bool
is_fresh_in set n = is_fresh_at set n (slave_of set)

-- the four delays of the slave port's link, if it is in WR_LINK_ON
abbrev pub deltas_at : NodeSet → NodeAt → Option ℕ → Option Deltas
deltas_at set n None = None
deltas_at set n (Some p) = port_deltas_of (port_of set p).role (link_at set n p)

-- the four delays, in tau, of the link of the node's slave port, in WR_LINK_ON alone
abbrev pub deltas_in : NodeSet → NodeAt → Option Deltas
deltas_in set n = deltas_at set n (slave_of set)
