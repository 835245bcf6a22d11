-- A law that is a function has an answer to each measurement, so each input of a node can be taken with one.
use Rattle.std.proofs.Common.{◌≡◌, ◌∙◌, refl, sym, ap, ℕ, ℤ, pos, Bool, true, false, if◌then◌else◌, List, Option, None, Some, is_some, Result, Ok, Err}
use Rattle.std.proofs.lemmas.Bool.{true≢false}
use Rattle.std.proofs.lemmas.Option.{same_Some}
use Rattle.wrp_base.specs.declared.link.Deltas.{Deltas}
use Rattle.wrp_base.specs.declared.measurement.Four.{Four}
use Rattle.wrp_base.specs.declared.message.PtpMsg.{PtpMsg}
use Rattle.wrp_base.specs.declared.time.Raw.{Raw}
use Rattle.wrp_data.specs.declared.reason.Reason.{Reason}
use Rattle.wrp_frame.specs.declared.fault.FrameFault.{FrameFault}
use Rattle.wrp_node.specs.declared.interface.Input.{Input}
use Rattle.wrp_node.specs.declared.interface.Input.TheVariants.{Tick, Sample, Frame, Sent, Carrier, Reset}
use Rattle.wrp_node.specs.NodeAt.{NodeAt, NodeSetting, Taken, link_at, servo_setting_of, setting_of, is_fresh_in, deltas_in, slave_of}
use Rattle.wrp_node.specs.NodeStep.{counted_tick, heard, heard_unless, is_slave_port, lease_ticked, measured_at, measurement_by, message_of, node_step, stepped}
use Rattle.wrp_node.specs.OneRun.{answers_by}
use Rattle.wrp_node.specs.StepLaws.{is_frame}
use Rattle.wrp_node.specs.Telling.{Step, called, for_slave, is_changed, lease_change, link_change, settled, with_lease}
use Rattle.wrp_port.specs.declared.interface.PortIn.{PortIn}
use Rattle.wrp_port.specs.Hearing.{early_reason}
use Rattle.wrp_servo.specs.declared.machine.Core.{Core}
use Rattle.wrp_servo.specs.Call.{Call, CallSample, CallMeasured, CallTick, CallLease, CallLink, CallCarrier, CallReset, ServoSetting, run}
use Rattle.wrp_servo.specs.Measuring.{deltas_in_chain, x_of}
use Rattle.wrp_servo.specs.Servo.{AllAnswered, IsAnswer}
use Rattle.wrp_servo.specs.Told.{lease_told, link_told}

-- the law's answer to a measurement, if it is asked
answer_by : (law : ℤ → ℤ) (x : ServoSetting) (v : Core) (f : Four) (o : Option Deltas) → deltas_in_chain v ≡ o → (y : ℤ) × IsAnswer (answers_by law) x v f y
answer_by law x v f None is = (pos 0, λ d there within. let both : None ≡ Some d = sym is ∙ there in absurd (cc))
answer_by law x v f (Some e) is = (law (x_of e f), λ d there within. ap (λ (k : Deltas). law (x_of k f)) (same_Some e d (sym is ∙ there)))

-- Calls that are not measurements

abbrev IsQuiet : Option Call → Type 0
IsQuiet (Some (CallMeasured f y)) = ⊥
IsQuiet _ = Unit {0}

quiet_called : (answers : ℤ → ℤ → Type 0) (x : ServoSetting) (call : Option Call) (calls : List Call) → IsQuiet call → AllAnswered answers x calls → AllAnswered answers x (called call calls)
quiet_called answers x None calls quiet h = h
quiet_called answers x (Some (CallSample n base bits)) calls quiet h = h
quiet_called answers x (Some (CallMeasured f y)) calls quiet h = absurd quiet
quiet_called answers x (Some CallTick) calls quiet h = h
quiet_called answers x (Some (CallLease fresh)) calls quiet h = h
quiet_called answers x (Some (CallLink on)) calls quiet h = h
quiet_called answers x (Some (CallCarrier up)) calls quiet h = h
quiet_called answers x (Some CallReset) calls quiet h = h

quiet_one : (a : Bool) (c : Call) → IsQuiet (Some c) → IsQuiet (if a then Some c else None)
quiet_one true c h = h
quiet_one false c h = tt

quiet_where : (a b : Bool) (c : Call) → IsQuiet (Some c) → IsQuiet (if a then (if b then Some c else None) else None)
quiet_where true b c h = quiet_one b c h
quiet_where false b c h = tt

lease_quiet : (fixed : NodeSetting) (n : NodeAt) → IsQuiet (lease_change fixed n)
lease_quiet fixed n = quiet_where (is_some (slave_of fixed.set)) (is_changed (lease_told n.calls) (is_fresh_in fixed.set n)) (CallLease (is_fresh_in fixed.set n)) tt

link_quiet : (fixed : NodeSetting) (n : NodeAt) → IsQuiet (link_change fixed n)
link_quiet fixed n =
    quiet_where (is_some (slave_of fixed.set)) (is_changed (is_some (link_told n.calls)) (is_some (deltas_in fixed.set n))) (CallLink (deltas_in fixed.set n)) tt

-- A node that was given an input

settled_answered : (answers : ℤ → ℤ → Type 0) (x : ServoSetting) (fixed : NodeSetting) (s : Step) → AllAnswered answers x s.node.calls → AllAnswered answers x (settled fixed s).node.calls
settled_answered answers x fixed s h =
    let leased : Step = with_lease fixed s in
    quiet_called answers x (link_change fixed leased.node) leased.node.calls (link_quiet fixed leased.node)
    (quiet_called answers x (lease_change fixed s.node) s.node.calls (lease_quiet fixed s.node) h)

-- only a frame makes a measurement
plain_stepped : (answers : ℤ → ℤ → Type 0) (x : ServoSetting) (fixed : NodeSetting) (input : Input) (says : Result PtpMsg FrameFault) (y : ℤ) (n : NodeAt) → is_frame input ≡ false
    → AllAnswered answers x n.calls → AllAnswered answers x (stepped fixed input says y n).node.calls
plain_stepped answers x fixed Tick says y n plain h =
    quiet_called answers x (for_slave fixed (Some CallTick)) (lease_ticked fixed n).node.calls (quiet_one (is_some (slave_of fixed.set)) CallTick tt)
    (quiet_called answers x (lease_change fixed (counted_tick fixed n)) n.calls (lease_quiet fixed (counted_tick fixed n)) h)
plain_stepped answers x fixed (Sample number base bits) says y n plain h =
    quiet_called answers x (for_slave fixed (Some (CallSample number base bits))) n.calls (quiet_one (is_some (slave_of fixed.set)) (CallSample number base bits) tt) h
plain_stepped answers x fixed (Frame p octets raw sample) says y n plain h = absurd (true≢false plain)
plain_stepped answers x fixed (Sent p seq delay stamp) says y n plain h = h
plain_stepped answers x fixed (Carrier p up own_module) says y n plain h =
    quiet_called answers x (for_slave fixed (if is_slave_port (slave_of fixed.set) p then Some (CallCarrier up) else None)) n.calls
    (quiet_where (is_some (slave_of fixed.set)) (is_slave_port (slave_of fixed.set) p) (CallCarrier up) tt) h
plain_stepped answers x fixed Reset says y n plain h = quiet_called answers x (for_slave fixed (Some CallReset)) n.calls (quiet_one (is_some (slave_of fixed.set)) CallReset tt) h

pub plain_answered : (answers : ℤ → ℤ → Type 0) (fixed : NodeSetting) (t : Taken) (n : NodeAt) → is_frame t.input ≡ false → AllAnswered answers (servo_setting_of fixed) n.calls
    → AllAnswered answers (servo_setting_of fixed) (node_step fixed t n).node.calls
plain_answered answers fixed t n plain h =
    settled_answered answers (servo_setting_of fixed) fixed (stepped fixed t.input t.says t.answer n)
    (plain_stepped answers (servo_setting_of fixed) fixed t.input t.says t.answer n plain h)

-- a frame makes at most one
measured_answered : (law : ℤ → ℤ) (x : ServoSetting) (o : Option Four) (calls : List Call) (b : Bool) → AllAnswered (answers_by law) x calls
    → (y : ℤ) × AllAnswered (answers_by law) x (called (if b then measurement_by o y else None) calls)
measured_answered law x None calls true h = (pos 0, h)
measured_answered law x None calls false h = (pos 0, h)
measured_answered law x (Some f) calls true h = let due = answer_by law x (run x calls) f (deltas_in_chain (run x calls)) refl in (due.0, (due.1, h))
measured_answered law x (Some f) calls false h = (pos 0, h)

unless_answered : (law : ℤ → ℤ) (fixed : NodeSetting) (p : ℕ) (input : PortIn) (n : NodeAt) (o : Option Reason) → AllAnswered (answers_by law) (servo_setting_of fixed) n.calls
    → (y : ℤ) × AllAnswered (answers_by law) (servo_setting_of fixed) (heard_unless o fixed p input y n).node.calls
unless_answered law fixed p input n None h = measured_answered law (servo_setting_of fixed) (measured_at fixed n p input) n.calls (is_some (slave_of fixed.set)) h
unless_answered law fixed p input n (Some reason) h = (pos 0, h)

heard_answered : (law : ℤ → ℤ) (fixed : NodeSetting) (p : ℕ) (says : Result PtpMsg FrameFault) (raw : Raw) (sample : ℕ) (n : NodeAt) → AllAnswered (answers_by law) (servo_setting_of fixed) n.calls
    → (y : ℤ) × AllAnswered (answers_by law) (servo_setting_of fixed) (heard fixed p says raw sample y n).node.calls
heard_answered law fixed p (Err fault) raw sample n h = (pos 0, h)
heard_answered law fixed p (Ok m) raw sample n h =
    unless_answered law fixed p (message_of fixed n p m raw sample) n (early_reason (setting_of fixed.set p) (link_at fixed.set n p) m) h

stepped_answered : (law : ℤ → ℤ) (fixed : NodeSetting) (input : Input) (says : Result PtpMsg FrameFault) (n : NodeAt) → AllAnswered (answers_by law) (servo_setting_of fixed) n.calls
    → (y : ℤ) × AllAnswered (answers_by law) (servo_setting_of fixed) (stepped fixed input says y n).node.calls
stepped_answered law fixed (Frame p octets raw sample) says n h = heard_answered law fixed p says raw sample n h
stepped_answered law fixed Tick says n h = (pos 0, plain_stepped (answers_by law) (servo_setting_of fixed) fixed Tick says (pos 0) n refl h)
stepped_answered law fixed (Sample number base bits) says n h =
    (pos 0, plain_stepped (answers_by law) (servo_setting_of fixed) fixed (Sample number base bits) says (pos 0) n refl h)
stepped_answered law fixed (Sent p seq delay stamp) says n h =
    (pos 0, plain_stepped (answers_by law) (servo_setting_of fixed) fixed (Sent p seq delay stamp) says (pos 0) n refl h)
stepped_answered law fixed (Carrier p up own_module) says n h =
    (pos 0, plain_stepped (answers_by law) (servo_setting_of fixed) fixed (Carrier p up own_module) says (pos 0) n refl h)
stepped_answered law fixed Reset says n h = (pos 0, plain_stepped (answers_by law) (servo_setting_of fixed) fixed Reset says (pos 0) n refl h)

-- an input, whatever its octets say, has an answer
pub step_answered : (law : ℤ → ℤ) (fixed : NodeSetting) (input : Input) (says : Result PtpMsg FrameFault) (n : NodeAt) → AllAnswered (answers_by law) (servo_setting_of fixed) n.calls
    → (y : ℤ) × AllAnswered (answers_by law) (servo_setting_of fixed) (node_step fixed (record { input = input; says = says; answer = y }) n).node.calls
step_answered law fixed input says n h =
    let due = stepped_answered law fixed input says n h in
    (due.0, settled_answered (answers_by law) (servo_setting_of fixed) fixed (stepped fixed input says due.0 n) due.1)
