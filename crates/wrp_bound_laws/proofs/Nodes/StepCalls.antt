-- What an input of a node adds to the list of its servo's calls.
use Rattle.std.proofs.Common.{◌≡◌, sym, subst, ℕ, ℤ, Bool, true, false, if◌then◌else◌, is_some, List, ◌∷◌, Option, None, Some, Result, Ok, Err}
use Rattle.wrp_base.specs.declared.measurement.Four.{Four}
use Rattle.wrp_base.specs.declared.message.PtpMsg.{PtpMsg}
use Rattle.wrp_base.specs.declared.time.Raw.{Raw}
use Rattle.wrp_data.specs.declared.reason.Reason.{Reason}
use Rattle.wrp_frame.specs.declared.fault.FrameFault.{FrameFault}
use Rattle.wrp_node.specs.declared.interface.Input.{Input}
use Rattle.wrp_node.specs.declared.interface.Input.TheVariants.{Tick, Sample, Frame, Sent, Carrier, Reset}
use Rattle.wrp_node.specs.NodeAt.{NodeSetting, NodeAt, Taken, slave_of, setting_of, link_at, is_fresh_in, deltas_in}
use Rattle.wrp_node.specs.NodeStep.{counted_tick, lease_ticked, servo_ticked, ports_ticked, measurement_by, measured_at, message_of, is_slave_port, heard, heard_unless, stepped, node_step}
use Rattle.wrp_node.specs.Telling.{Step, called, step_from, is_changed, with_lease, settled}
use Rattle.wrp_port.specs.declared.interface.PortIn.{PortIn}
use Rattle.wrp_port.specs.Hearing.{early_reason}
use Rattle.wrp_servo.specs.Call.{Call, CallSample, CallMeasured, CallTick, CallLease, CallLink, CallCarrier, CallReset}
use Rattle.wrp_servo.specs.Told.{lease_told, link_told}
use Rattle.wrp_bound_laws.proofs.Sources.Holding.{IsCalmCall}

-- what a call of this kind keeps
abbrev pub KeptBy : (Call → Type 0) → (List Call → Type 0) → Type 0
KeptBy C P = (calls : List Call) (call : Call) → C call → P calls → P (call ∷ calls)

-- a call that gives news of the lease or of the link
abbrev pub IsTelling : Call → Type 0
IsTelling (CallLease fresh) = Unit {0}
IsTelling (CallLink on) = Unit {0}
IsTelling _ = ⊥

-- the calls that an input brings by itself are of this kind
abbrev pub Brings : (Call → Type 0) → Input → Type 0
Brings C Tick = C CallTick
Brings C (Sample number base bits) = C (CallSample number base bits)
Brings C (Frame p octets raw sample) = (four : Four) (answer : ℤ) → C (CallMeasured four answer)
Brings C (Sent p seq delay stamp) = Unit {0}
Brings C (Carrier p up own_module) = C (CallCarrier up)
Brings C Reset = C CallReset

called_where : (C : Call → Type 0) (P : List Call → Type 0) → KeptBy C P → (has : Bool) (call : Call) (calls : List Call) → C call → P calls → P (called (if has then Some call else None) calls)
called_where C P k true call calls c h = k calls call c h
called_where C P k false call calls c h = h

called_if : (C : Call → Type 0) (P : List Call → Type 0) → KeptBy C P → (has changes : Bool) (call : Call) (calls : List Call) → C call → P calls → P (called (if has then (if changes then Some call else None) else None) calls)
called_if C P k true changes call calls c h = called_where C P k changes call calls c h
called_if C P k false changes call calls c h = h

-- the servo is given the news of the lease and of the link
leased : (P : List Call → Type 0) → KeptBy IsTelling P → (fixed : NodeSetting) (s : Step) → P s.node.calls → P (with_lease fixed s).node.calls
leased P k fixed s h =
    called_if IsTelling P k (is_some (slave_of fixed.set)) (is_changed (lease_told s.node.calls) (is_fresh_in fixed.set s.node)) (CallLease (is_fresh_in fixed.set s.node)) s.node.calls tt h

pub settled_keeps : (P : List Call → Type 0) → KeptBy IsTelling P → (fixed : NodeSetting) (s : Step) → P s.node.calls → P (settled fixed s).node.calls
settled_keeps P k fixed s h =
    let w : Step = with_lease fixed s in
    called_if IsTelling P k (is_some (slave_of fixed.set)) (is_changed (is_some (link_told w.node.calls)) (is_some (deltas_in fixed.set w.node))) (CallLink (deltas_in fixed.set w.node)) w.node.calls tt
    (leased P k fixed s h)

-- a measurement
measured_where : (C : Call → Type 0) (P : List Call → Type 0) → KeptBy C P → ((four : Four) (answer : ℤ) → C (CallMeasured four answer)) → (has : Bool) (four : Option Four) (answer : ℤ) (calls : List Call) → P calls →
    P (called (if has then measurement_by four answer else None) calls)
measured_where C P k c true None answer calls h = h
measured_where C P k c true (Some four) answer calls h = k calls (CallMeasured four answer) (c four answer) h
measured_where C P k c false four answer calls h = h

heard_keeps : (C : Call → Type 0) (P : List Call → Type 0) → KeptBy C P → ((four : Four) (answer : ℤ) → C (CallMeasured four answer)) → (fixed : NodeSetting) (n : NodeAt) (p : ℕ) (input : PortIn) (answer : ℤ) (reason : Option Reason) → P n.calls →
    P (heard_unless reason fixed p input answer n).node.calls
heard_keeps C P k c fixed n p input answer None h = measured_where C P k c (is_some (slave_of fixed.set)) (measured_at fixed n p input) answer n.calls h
heard_keeps C P k c fixed n p input answer (Some reason) h = h

frame_keeps : (C : Call → Type 0) (P : List Call → Type 0) → KeptBy C P → ((four : Four) (answer : ℤ) → C (CallMeasured four answer)) → (fixed : NodeSetting) (n : NodeAt) (p : ℕ) (says : Result PtpMsg FrameFault) (raw : Raw) (sample : ℕ) (answer : ℤ) → P n.calls →
    P (heard fixed p says raw sample answer n).node.calls
frame_keeps C P k c fixed n p (Err fault) raw sample answer h = h
frame_keeps C P k c fixed n p (Ok m) raw sample answer h =
    heard_keeps C P k c fixed n p (message_of fixed n p m raw sample) answer (early_reason (setting_of fixed.set p) (link_at fixed.set n p) m) h

stepped_keeps : (C : Call → Type 0) (P : List Call → Type 0) → KeptBy C P → KeptBy IsTelling P → (fixed : NodeSetting) (n : NodeAt) (input : Input) (says : Result PtpMsg FrameFault) (answer : ℤ) → Brings C input → P n.calls → P (stepped fixed input says answer n).node.calls
stepped_keeps C P k l fixed n Tick says answer c h =
    called_where C P k (is_some (slave_of fixed.set)) CallTick (lease_ticked fixed n).node.calls c (leased P l fixed (step_from (counted_tick fixed n)) h)
stepped_keeps C P k l fixed n (Sample number base bits) says answer c h = called_where C P k (is_some (slave_of fixed.set)) (CallSample number base bits) n.calls c h
stepped_keeps C P k l fixed n (Frame p octets raw sample) says answer c h = frame_keeps C P k c fixed n p says raw sample answer h
stepped_keeps C P k l fixed n (Sent p seq delay stamp) says answer c h = h
stepped_keeps C P k l fixed n (Carrier p up own_module) says answer c h =
    called_if C P k (is_some (slave_of fixed.set)) (is_slave_port (slave_of fixed.set) p) (CallCarrier up) n.calls c h
stepped_keeps C P k l fixed n Reset says answer c h = called_where C P k (is_some (slave_of fixed.set)) CallReset n.calls c h

-- what calls of these kinds keep is kept by an input that brings no others
pub step_keeps : (C : Call → Type 0) (P : List Call → Type 0) → KeptBy C P → KeptBy IsTelling P → (fixed : NodeSetting) (t : Taken) (n : NodeAt) → Brings C t.input → P n.calls → P (node_step fixed t n).node.calls
step_keeps C P k l fixed t n c h = settled_keeps P l fixed (stepped fixed t.input t.says t.answer n) (stepped_keeps C P k l fixed n t.input t.says t.answer c h)

-- Calls that are neither a tick nor a reset

telling_calm : (P : List Call → Type 0) → KeptBy IsCalmCall P → KeptBy IsTelling P
telling_calm P k calls (CallLease fresh) c h = k calls (CallLease fresh) tt h
telling_calm P k calls (CallLink on) c h = k calls (CallLink on) tt h
telling_calm P k calls (CallSample n base bits) c h = absurd c
telling_calm P k calls (CallMeasured four answer) c h = absurd c
telling_calm P k calls CallTick c h = absurd c
telling_calm P k calls (CallCarrier up) c h = absurd c
telling_calm P k calls CallReset c h = absurd c

-- inputs that are neither a tick nor a reset
abbrev pub IsCalm : Input → Type 0
IsCalm Tick = ⊥
IsCalm Reset = ⊥
IsCalm _ = Unit {0}

brings_calm : (input : Input) → IsCalm input → Brings IsCalmCall input
brings_calm Tick h = absurd h
brings_calm (Sample number base bits) h = tt
brings_calm (Frame p octets raw sample) h = λ four answer. tt
brings_calm (Sent p seq delay stamp) h = tt
brings_calm (Carrier p up own_module) h = tt
brings_calm Reset h = absurd h

pub calls_kept : (P : List Call → Type 0) → KeptBy IsCalmCall P → (fixed : NodeSetting) (t : Taken) (n : NodeAt) → IsCalm t.input → P n.calls → P (node_step fixed t n).node.calls
calls_kept P k fixed t n calm h = step_keeps IsCalmCall P k (telling_calm P k) fixed t n (brings_calm t.input calm) h

-- A tick

one_tick : (P Q : List Call → Type 0) → ((calls : List Call) → P calls → Q (CallTick ∷ calls)) → (has : Bool) (calls : List Call) → has ≡ true → P calls → Q (called (if has then Some CallTick else None) calls)
one_tick P Q f true calls e h = f calls h
one_tick P Q f false calls e h = absurd cc

-- the servo is given it once: after the news of the lease that may lapse, and before what the ports' tick makes
calls_before_ports : (P Q : List Call → Type 0) → KeptBy IsTelling P → ((calls : List Call) → P calls → Q (CallTick ∷ calls)) → (fixed : NodeSetting) (n : NodeAt) → is_some (slave_of fixed.set) ≡ true → P n.calls → Q (servo_ticked fixed n).node.calls
calls_before_ports P Q k f fixed n has h =
    one_tick P Q f (is_some (slave_of fixed.set)) (lease_ticked fixed n).node.calls has (leased P k fixed (step_from (counted_tick fixed n)) h)

ports_keep : (Q : List Call → Type 0) → KeptBy IsTelling Q → (fixed : NodeSetting) (t : Taken) (n : NodeAt) → t.input ≡ Tick → Q (servo_ticked fixed n).node.calls → Q (node_step fixed t n).node.calls
ports_keep Q k fixed t n is h =
    let stepped_tick : Q (node_step fixed (record t { input = Tick }) n).node.calls = settled_keeps Q k fixed (ports_ticked fixed (servo_ticked fixed n)) h in
    subst (λ (i : Input). Q (node_step fixed (record t { input = i }) n).node.calls) (sym is) stepped_tick

pub calls_after_ports : (Q : List Call → Type 0) → KeptBy IsCalmCall Q → (fixed : NodeSetting) (t : Taken) (n : NodeAt) → t.input ≡ Tick → Q (servo_ticked fixed n).node.calls → Q (node_step fixed t n).node.calls
calls_after_ports Q k fixed t n is h = ports_keep Q (telling_calm Q k) fixed t n is h

-- what is there before it, and what it makes of that
pub told_tick : (P Q : List Call → Type 0) → KeptBy IsTelling P → KeptBy IsTelling Q → ((calls : List Call) → P calls → Q (CallTick ∷ calls)) → (fixed : NodeSetting) (t : Taken) (n : NodeAt) → t.input ≡ Tick → is_some (slave_of fixed.set) ≡ true →
    P n.calls → Q (node_step fixed t n).node.calls
told_tick P Q k l f fixed t n is has h = ports_keep Q l fixed t n is (calls_before_ports P Q k f fixed n has h)

pub calls_ticked : (P Q : List Call → Type 0) → KeptBy IsCalmCall P → KeptBy IsCalmCall Q → ((calls : List Call) → P calls → Q (CallTick ∷ calls)) → (fixed : NodeSetting) (t : Taken) (n : NodeAt) → t.input ≡ Tick → is_some (slave_of fixed.set) ≡ true →
    P n.calls → Q (node_step fixed t n).node.calls
calls_ticked P Q k l f fixed t n is has h = told_tick P Q (telling_calm P k) (telling_calm Q l) f fixed t n is has h
