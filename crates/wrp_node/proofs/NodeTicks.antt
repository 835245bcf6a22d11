-- The servo's count of ticks is the node's.
use Rattle.std.proofs.Common.{◌≡◌, ◌∙◌, refl, ap, ℕ, ℤ, ◌+◌, Bool, true, false, if◌then◌else◌, List, [], ◌∷◌, Option, None, Some, is_some, Result, Ok, Err}
use Rattle.wrp_base.specs.declared.measurement.Four.{Four}
use Rattle.wrp_base.specs.declared.message.PtpMsg.{PtpMsg}
use Rattle.wrp_data.specs.declared.reason.Reason.{Reason}
use Rattle.wrp_frame.specs.declared.fault.FrameFault.{FrameFault}
use Rattle.wrp_node.specs.declared.interface.Input.{Input}
use Rattle.wrp_node.specs.declared.interface.Input.TheVariants.{Tick, Sample, Frame, Sent, Carrier, Reset}
use Rattle.wrp_node.specs.NodeAt.{Taken, NodeSetting, NodeAt, slave_of, link_at, setting_of, is_fresh_in, deltas_in}
use Rattle.wrp_node.specs.NodeRun.{node_after}
use Rattle.wrp_node.specs.NodeStep.{stepped, measurement_by, measured_at, message_of, heard_unless, is_slave_port, lease_ticked, counted_tick}
use Rattle.wrp_node.specs.Telling.{Step, for_slave, called, is_changed, settled, with_lease}
use Rattle.wrp_port.specs.declared.interface.PortIn.{PortIn}
use Rattle.wrp_port.specs.Hearing.{early_reason}
use Rattle.wrp_servo.specs.Call.{Call, CallSample, CallTick, CallLease, CallLink, CallCarrier, CallReset}
use Rattle.wrp_servo.specs.Told.{ticks_told, lease_told, link_told}

-- a call that counts no tick
abbrev IsQuiet : Call → Type 0
IsQuiet call = (calls : List Call) → ticks_told (call ∷ calls) ≡ ticks_told calls

quiet_where : (a b : Bool) (call : Call) (calls : List Call) → IsQuiet call → ticks_told (called (if a then (if b then Some call else None) else None) calls) ≡ ticks_told calls
quiet_where true true call calls q = q calls
quiet_where true false call calls q = refl
quiet_where false b call calls q = refl

quiet_one : (fixed : NodeSetting) (call : Call) (calls : List Call) → IsQuiet call → ticks_told (called (for_slave fixed (Some call)) calls) ≡ ticks_told calls
quiet_one fixed call calls q = quiet_where (is_some (slave_of fixed.set)) true call calls q

settled_quiet : (fixed : NodeSetting) (s : Step) → ticks_told (settled fixed s).node.calls ≡ ticks_told s.node.calls
settled_quiet fixed s =
    let lease : Step = with_lease fixed s in
    quiet_where (is_some (slave_of fixed.set)) (is_changed (is_some (link_told lease.node.calls)) (is_some (deltas_in fixed.set lease.node))) (CallLink (deltas_in fixed.set lease.node)) lease.node.calls (λ cs. refl)
    ∙ quiet_where (is_some (slave_of fixed.set)) (is_changed (lease_told s.node.calls) (is_fresh_in fixed.set s.node)) (CallLease (is_fresh_in fixed.set s.node)) s.node.calls (λ cs. refl)

measured_quiet : (b : Bool) (four : Option Four) (y : ℤ) (calls : List Call) → ticks_told (called (if b then measurement_by four y else None) calls) ≡ ticks_told calls
measured_quiet true (Some four) y calls = refl
measured_quiet true None y calls = refl
measured_quiet false four y calls = refl

abbrev Agree : NodeAt → Type 0
Agree n = ticks_told n.calls ≡ n.ticks

heard_agree : (fixed : NodeSetting) (p : ℕ) (input : PortIn) (y : ℤ) (n : NodeAt) (reason : Option Reason) → Agree n → Agree (heard_unless reason fixed p input y n).node
heard_agree fixed p input y n None h = measured_quiet (is_some (slave_of fixed.set)) (measured_at fixed n p input) y n.calls ∙ h
heard_agree fixed p input y n (Some reason) h = h

for_some : (fixed : NodeSetting) (call : Call) → is_some (slave_of fixed.set) ≡ true → for_slave fixed (Some call) ≡ Some call
for_some fixed call e = ap (λ (b : Bool). if b then Some call else None) e

stepped_agree : (fixed : NodeSetting) (input : Input) (says : Result PtpMsg FrameFault) (y : ℤ) (n : NodeAt) → is_some (slave_of fixed.set) ≡ true → Agree n → Agree (stepped fixed input says y n).node
stepped_agree fixed Tick says y n e h =
    ap (λ (o : Option Call). ticks_told (called o (lease_ticked fixed n).node.calls)) (for_some fixed CallTick e)
    ∙ ap (λ (k : ℕ). k + 1) (quiet_where (is_some (slave_of fixed.set)) (is_changed (lease_told n.calls) (is_fresh_in fixed.set (counted_tick fixed n))) (CallLease (is_fresh_in fixed.set (counted_tick fixed n))) n.calls (λ cs. refl) ∙ h)
stepped_agree fixed (Sample number base bits) says y n e h = quiet_one fixed (CallSample number base bits) n.calls (λ cs. refl) ∙ h
stepped_agree fixed (Frame p octets raw sample) (Err fault) y n e h = h
stepped_agree fixed (Frame p octets raw sample) (Ok m) y n e h =
    heard_agree fixed p (message_of fixed n p m raw sample) y n (early_reason (setting_of fixed.set p) (link_at fixed.set n p) m) h
stepped_agree fixed (Sent p seq delay stamp) says y n e h = h
stepped_agree fixed (Carrier p up own_module) says y n e h = quiet_where (is_some (slave_of fixed.set)) (is_slave_port (slave_of fixed.set) p) (CallCarrier up) n.calls (λ cs. refl) ∙ h
stepped_agree fixed Reset says y n e h = ap (λ (o : Option Call). ticks_told (called o n.calls)) (for_some fixed CallReset e)

pub ticks_agree : (fixed : NodeSetting) (inputs : List Taken) → is_some (slave_of fixed.set) ≡ true → ticks_told (node_after fixed inputs).calls ≡ (node_after fixed inputs).ticks
ticks_agree fixed [] e = refl
ticks_agree fixed (t ∷ before) e =
    settled_quiet fixed (stepped fixed t.input t.says t.answer (node_after fixed before))
    ∙ stepped_agree fixed t.input t.says t.answer (node_after fixed before) e (ticks_agree fixed before e)
