-- What each input makes of a node: which of its parts is given what, and in which order (this project's profile).
use Rattle.std.specs.Prelude.{ℕ, ℤ, pos, ◌+◌, ◌%◌, ◌==◌, Bool, false, if◌then◌else◌, List, Option, None, Some, Result, Ok, Err}
use Rattle.wrp_base.specs.declared.link.Module.{Module}
use Rattle.wrp_base.specs.declared.measurement.Four.{Four}
use Rattle.wrp_base.specs.declared.message.PtpMsg.{PtpMsg}
use Rattle.wrp_base.specs.declared.time.Raw.{Raw}
use Rattle.wrp_base.specs.declared.time.Stamp.{Stamp}
use Rattle.wrp_base.specs.Clock.{steps_of_period}
use Rattle.wrp_data.specs.declared.reason.Reason.{Reason}
use Rattle.wrp_data.specs.Reason.{number_of as reason_number}
use Rattle.wrp_frame.specs.declared.fault.FrameFault.{FrameFault}
use Rattle.wrp_frame.specs.Faults.{fault_number}
use Rattle.wrp_node.specs.declared.interface.Input.{Input}
use Rattle.wrp_node.specs.declared.interface.Input.TheVariants.{Tick, Sample, Frame, Sent, Carrier, Reset}
use Rattle.wrp_node.specs.NodeAt.{Taken, NodeSetting, NodeAt, slave_of, setting_of, line_at, link_at, pieces_at, locked_of, certain_of}
use Rattle.wrp_node.specs.Telling.{Step, step_from, told_at, told_all, only_at, counted_at, called, for_slave, tell, with_lease, settled}
use Rattle.wrp_port.specs.declared.interface.PortIn.{PortIn}
use Rattle.wrp_port.specs.declared.interface.PortIn.TheVariants.{Msg, Lease, Tick as PortTick, Sent as PortSent, Carrier as PortCarrier, Reset as PortReset}
use Rattle.wrp_port.specs.Hearing.{early_reason}
use Rattle.wrp_port.specs.Outputs.{sends_of, drop_of, measured_by}
use Rattle.wrp_servo.specs.Call.{Call, CallSample, CallMeasured, CallTick, CallCarrier, CallReset}
use Rattle.wrp_stamp.specs.Merge.{merged, transition_of}

-- one port is given an input, and sends what follows from it
abbrev pub handed : NodeSetting → ℕ → PortIn → NodeAt → Step
handed fixed p input n =
    record (step_from (record n { told = told_at n.told p input })) {
      sends = only_at p (sends_of (setting_of fixed.set p) (line_at fixed.set n p) input);
    }

-- ---- a tick: it is counted; then the servo is given the lease; then the servo's tick; then the ports

-- the slave port is given an input, if there is one
abbrev pub told_slave : Option ℕ → PortIn → (ℕ → List PortIn) → ℕ → List PortIn
told_slave None input told q = told q
told_slave (Some p) input told q = told_at told p input q

-- first: the tick is counted, and the lease of the slave port has its turn
abbrev pub counted_tick : NodeSetting → NodeAt → NodeAt
counted_tick fixed n = record n { ticks = n.ticks + 1; told = told_slave (slave_of fixed.set) Lease n.told }

-- second: the servo is given the lease, if this changed
abbrev pub lease_ticked : NodeSetting → NodeAt → Step
lease_ticked fixed n = with_lease fixed (step_from (counted_tick fixed n))

-- third: the servo has its tick
abbrev pub servo_ticked : NodeSetting → NodeAt → Step
servo_ticked fixed n = tell fixed (for_slave fixed (Some CallTick)) (lease_ticked fixed n)

-- the ports' tick: whether the lock detector is locked, and whether the node's time is certain
abbrev pub tick_of : NodeSetting → NodeAt → PortIn
tick_of fixed n = PortTick (locked_of fixed n) (certain_of fixed n)

-- last: every port has its tick, and sends what follows from it
abbrev pub ports_ticked : NodeSetting → Step → Step
ports_ticked fixed s = record s {
  node = record s.node { told = told_all s.node.told (tick_of fixed s.node) };
  sends = λ p. sends_of (setting_of fixed.set p) (line_at fixed.set s.node p) (tick_of fixed s.node);
}

-- ---- a frame

-- the stamp of its reception, merged with the transition of the port's module, which is 0 if the module is not listed
abbrev pub stamp_of : NodeSetting → NodeAt → ℕ → Raw → ℕ → Stamp
stamp_of fixed n p raw sample =
    record {
      value = pos (merged fixed.set.servo.clock raw (transition_of (link_at fixed.set n p).own_module % steps_of_period));
      sample = sample;
    }

-- a dropped frame: one counter rises, and nothing else changes
abbrev pub dropped : ℕ → ℕ → NodeAt → Step
dropped p reason n = step_from (record n { counters = counted_at n.counters p (Some reason) })

-- the message that reaches a port
abbrev pub message_of : NodeSetting → NodeAt → ℕ → PtpMsg → Raw → ℕ → PortIn
message_of fixed n p message raw sample = Msg message (stamp_of fixed n p raw sample) n.ticks

-- a message that the port takes, which may still be of no use there
abbrev pub counted_use : NodeSetting → ℕ → PortIn → NodeAt → NodeAt
counted_use fixed p input n =
    record n {
      told = told_at n.told p input;
      counters = counted_at n.counters p (drop_of (setting_of fixed.set p) (line_at fixed.set n p) (pieces_at fixed.set n p) input);
    }

-- a port takes a message, and sends what follows from it
abbrev pub used : NodeSetting → ℕ → PortIn → NodeAt → Step
used fixed p input n =
    record (step_from (counted_use fixed p input n)) {
      sends = only_at p (sends_of (setting_of fixed.set p) (line_at fixed.set n p) input);
    }

-- the servo is given a new measurement, with the law's answer
abbrev pub measurement_by : Option Four → ℤ → Option Call
measurement_by None answer = None
measurement_by (Some four) answer = Some (CallMeasured four answer)

-- the four stamps of the measurement that a message makes at a port, if it makes one
abbrev pub measured_at : NodeSetting → NodeAt → ℕ → PortIn → Option Four
measured_at fixed n p input = measured_by (setting_of fixed.set p) (line_at fixed.set n p) (pieces_at fixed.set n p) input

-- a port takes a message; if this makes a measurement, the servo is given it
abbrev pub measured : NodeSetting → ℕ → PortIn → ℤ → NodeAt → Step
measured fixed p input answer n =
    tell fixed (for_slave fixed (measurement_by (measured_at fixed n p input) answer)) (used fixed p input n)

-- a message is dropped for the reason given, or taken if there is none
abbrev pub heard_unless : Option Reason → NodeSetting → ℕ → PortIn → ℤ → NodeAt → Step
heard_unless None fixed p input answer n = measured fixed p input answer n
heard_unless (Some reason) fixed p input answer n = dropped p (reason_number reason) n

-- a frame that came to a port: it is dropped for its first fault; without a fault, its message is dropped or taken
abbrev pub heard : NodeSetting → ℕ → Result PtpMsg FrameFault → Raw → ℕ → ℤ → NodeAt → Step
heard fixed p (Err fault) raw sample answer n = dropped p (fault_number fault) n
heard fixed p (Ok message) raw sample answer n =
    heard_unless (early_reason (setting_of fixed.set p) (link_at fixed.set n p) message)
    fixed p (message_of fixed n p message raw sample) answer n

-- ---- a carrier, and a reset

-- whether a number is the slave port's, if there is one
abbrev pub is_slave_port : Option ℕ → ℕ → Bool
is_slave_port None p = false
is_slave_port (Some q) p = q == p

-- the servo is given the slave port's carrier
abbrev pub carried : NodeSetting → ℕ → Bool → Option Module → NodeAt → Step
carried fixed p up own_module n =
    tell fixed (for_slave fixed (if is_slave_port (slave_of fixed.set) p then Some (CallCarrier up) else None)) (handed fixed p (PortCarrier up own_module) n)

-- the node's servo, if it has one, is given a reset
abbrev pub called_reset : NodeSetting → List Call → List Call
called_reset fixed calls = called (for_slave fixed (Some CallReset)) calls

-- the node after a reset: its tick count is 0, every port and the servo are reset, and the counters stay
abbrev pub restarted : NodeSetting → NodeAt → NodeAt
restarted fixed n =
    record { ticks = 0; told = told_all n.told PortReset; calls = called_reset fixed n.calls; counters = n.counters }

-- ---- each input

-- what an input makes of a node, before the servo is given what changed
abbrev pub stepped : NodeSetting → Input → Result PtpMsg FrameFault → ℤ → NodeAt → Step
stepped fixed Tick says answer n = ports_ticked fixed (servo_ticked fixed n)
stepped fixed (Sample number base bits) says answer n = tell fixed (for_slave fixed (Some (CallSample number base bits))) (step_from n)
stepped fixed (Frame p octets raw sample) says answer n = heard fixed p says raw sample answer n
stepped fixed (Sent p seq delay stamp) says answer n = handed fixed p (PortSent delay seq stamp n.ticks) n
stepped fixed (Carrier p up own_module) says answer n = carried fixed p up own_module n
stepped fixed Reset says answer n = step_from (restarted fixed n)

-- after every input the servo is given a changed lease and a changed WR_LINK_ON
abbrev pub node_step : NodeSetting → Taken → NodeAt → Step
node_step fixed t n = settled fixed (stepped fixed t.input t.says t.answer n)
