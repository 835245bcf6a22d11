-- A node commands a step of its clock only in SYNC_TAI and in SYNC_NSEC.
use Rattle.std.proofs.Common.{◌≡◌, ◌⊎◌, inl, inr, refl, sym, subst, ℕ, ◌==◌, ℤ, pos, unsigned_abs, Bool, true, false, cond, if◌then◌else◌, Option, None, Some, is_some, Result, Ok, Err}
use Rattle.wrp_base.specs.declared.link.Deltas.{Deltas}
use Rattle.wrp_base.specs.declared.link.ServoState.{ServoState}
use Rattle.wrp_base.specs.declared.link.ServoState.TheVariants.{Uninit, SyncTai, SyncNsec, SyncPhase, WaitStable, Track, Holdover}
use Rattle.wrp_base.specs.declared.measurement.Four.{Four}
use Rattle.wrp_base.specs.declared.message.PtpMsg.{PtpMsg}
use Rattle.wrp_base.specs.declared.time.Raw.{Raw}
use Rattle.wrp_data.specs.declared.reason.Reason.{Reason}
use Rattle.wrp_frame.specs.declared.fault.FrameFault.{FrameFault}
use Rattle.wrp_node.specs.declared.interface.Input.{Input}
use Rattle.wrp_node.specs.declared.interface.Input.TheVariants.{Tick, Sample, Frame, Sent, Carrier, Reset}
use Rattle.wrp_node.specs.NodeAt.{NodeAt, NodeSetting, Taken, link_at, servo_setting_of, setting_of, slave_of, state_of}
use Rattle.wrp_node.specs.NodeStep.{heard, heard_unless, measured_at, measurement_by, message_of, node_step, stepped, used}
use Rattle.wrp_node.specs.StepLaws.{CommandsAreHeld}
use Rattle.wrp_node.specs.Telling.{Step, tell}
use Rattle.wrp_node.proofs.StepLaws.{settled_cycles}
use Rattle.wrp_port.specs.declared.interface.PortIn.{PortIn}
use Rattle.wrp_port.specs.Hearing.{early_reason}
use Rattle.wrp_servo.specs.Call.{ServoSetting, run}
use Rattle.wrp_servo.specs.declared.machine.Core.{Core}
use Rattle.wrp_servo.specs.Measuring.{answered_cycles, cycles_in, deltas_in_chain, is_in, kept_of, x_of}
use Rattle.wrp_servo.specs.Sampling.{est_of}

-- a state in which steps are commanded
abbrev pub IsSync : ServoState → Type 0
IsSync state = (state ≡ SyncTai) ⊎ (state ≡ SyncNsec)

-- no step, or such a state
abbrev pub IsMeant : ServoState → ℤ → Type 0
IsMeant state cycles = (cycles ≡ pos 0) ⊎ IsSync state

in_state : (v : Core) (est : ℤ) (state : ServoState) → IsMeant state (cycles_in v est state)
in_state v est SyncTai = inr (inl refl)
in_state v est SyncNsec = inr (inr refl)
in_state v est Uninit = inl refl
in_state v est SyncPhase = inl refl
in_state v est WaitStable = inl refl
in_state v est Track = inl refl
in_state v est Holdover = inl refl

meant_where : (b : Bool) (state : ServoState) (x : ℤ) → IsMeant state x → IsMeant state (cond b x (pos 0))
meant_where true state x h = h
meant_where false state x h = inl refl

answered_meant : (lo hi : ℤ) (v : Core) (f : Four) (y : ℤ) (o : Option Deltas) → IsMeant v.state (answered_cycles lo hi v f y o)
answered_meant lo hi v f y None = inl refl
answered_meant lo hi v f y (Some d) =
    meant_where (is_in lo hi (x_of d f)) v.state (cycles_in v (est_of v.phase.u (kept_of f d y)) v.state)
    (in_state v (est_of v.phase.u (kept_of f d y)) v.state)

newest_meant : (b : Bool) (state : ServoState) (x : ℤ) → IsMeant state x → IsMeant state (if b then pos 0 else x)
newest_meant true state x h = inl refl
newest_meant false state x h = h

-- the servo of a node with a slave port is given a measurement
measured_meant : (fixed : NodeSetting) (o : Option Four) (y : ℤ) (n : NodeAt) (b : Bool) (s : Step) → s.node.calls ≡ n.calls → s.cycles ≡ pos 0 →
    IsMeant (if b then (run (servo_setting_of fixed) n.calls).state else Uninit) (tell fixed (if b then measurement_by o y else None) s).cycles
measured_meant fixed o y n false s same none = inl none
measured_meant fixed None y n true s same none = inl none
measured_meant fixed (Some f) y n true s same none =
    let x : ServoSetting = servo_setting_of fixed in
    let v : Core = run x s.node.calls in
    let told : ℤ = answered_cycles x.lo x.hi v f y (deltas_in_chain v) in
    subst (λ calls. IsMeant (run x calls).state (if unsigned_abs told == 0 then s.cycles else told)) same
    (subst (λ (z : ℤ). IsMeant v.state (if unsigned_abs told == 0 then z else told)) (sym none)
    (newest_meant (unsigned_abs told == 0) v.state told (answered_meant x.lo x.hi v f y (deltas_in_chain v))))

unless_meant : (reason : Option Reason) (fixed : NodeSetting) (p : ℕ) (input : PortIn) (y : ℤ) (n : NodeAt)
    → IsMeant (state_of fixed n) (heard_unless reason fixed p input y n).cycles
unless_meant None fixed p input y n = measured_meant fixed (measured_at fixed n p input) y n (is_some (slave_of fixed.set)) (used fixed p input n) refl refl
unless_meant (Some reason) fixed p input y n = inl refl

heard_meant : (fixed : NodeSetting) (p : ℕ) (says : Result PtpMsg FrameFault) (raw : Raw) (sample : ℕ) (y : ℤ) (n : NodeAt)
    → IsMeant (state_of fixed n) (heard fixed p says raw sample y n).cycles
heard_meant fixed p (Err fault) raw sample y n = inl refl
heard_meant fixed p (Ok m) raw sample y n =
    unless_meant (early_reason (setting_of fixed.set p) (link_at fixed.set n p) m) fixed p (message_of fixed n p m raw sample) y n

by_input : CommandsAreHeld → (fixed : NodeSetting) (input : Input) (says : Result PtpMsg FrameFault) (y : ℤ) (n : NodeAt)
    → IsMeant (state_of fixed n) (node_step fixed (record { input = input; says = says; answer = y }) n).cycles
by_input commands fixed (Frame p octets raw sample) says y n =
    subst (IsMeant (state_of fixed n)) (sym (settled_cycles fixed (stepped fixed (Frame p octets raw sample) says y n)))
    (heard_meant fixed p says raw sample y n)
by_input commands fixed Tick says y n = inl ((commands fixed (record { input = Tick; says = says; answer = y }) n).by_frame refl)
by_input commands fixed (Sample number base bits) says y n =
    inl ((commands fixed (record { input = Sample number base bits; says = says; answer = y }) n).by_frame refl)
by_input commands fixed (Sent p seq delay stamp) says y n =
    inl ((commands fixed (record { input = Sent p seq delay stamp; says = says; answer = y }) n).by_frame refl)
by_input commands fixed (Carrier p up own_module) says y n =
    inl ((commands fixed (record { input = Carrier p up own_module; says = says; answer = y }) n).by_frame refl)
by_input commands fixed Reset says y n = inl ((commands fixed (record { input = Reset; says = says; answer = y }) n).by_frame refl)

pub commands_meant : CommandsAreHeld → (fixed : NodeSetting) (t : Taken) (n : NodeAt) → IsMeant (state_of fixed n) (node_step fixed t n).cycles
commands_meant commands fixed t n = by_input commands fixed t.input t.says t.answer n
