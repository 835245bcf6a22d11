-- A node commands no step of its clock in TRACK or HOLDOVER, nor at an input after which its servo has a chain.
use Rattle.std.proofs.Common.{◌≡◌, ◌∙◌, refl, ap, sym, ℕ, ℤ, pos, ◌||◌, cond, Bool, true, false, if◌then◌else◌, is_some, List, ◌∷◌, Option, None, Some, Result, Ok, Err}
use Rattle.wrp_base.specs.declared.link.Deltas.{Deltas}
use Rattle.wrp_base.specs.declared.link.ServoState.{ServoState}
use Rattle.wrp_base.specs.declared.link.ServoState.TheVariants.{Uninit, SyncTai, SyncNsec, SyncPhase, WaitStable, Track, Holdover}
use Rattle.wrp_base.specs.declared.measurement.Four.{Four}
use Rattle.wrp_base.specs.declared.message.PtpMsg.{PtpMsg}
use Rattle.wrp_base.specs.declared.time.Raw.{Raw}
use Rattle.wrp_data.specs.declared.reason.Reason.{Reason}
use Rattle.wrp_frame.specs.declared.fault.FrameFault.{FrameFault}
use Rattle.wrp_node.specs.declared.interface.Input.{Input}
use Rattle.wrp_node.specs.declared.interface.Input.TheVariants.{Tick, Sample, Frame, Sent, Carrier, Reset}
use Rattle.wrp_node.specs.NodeAt.{NodeSetting, NodeAt, Taken, servo_setting_of, slave_of, setting_of, link_at}
use Rattle.wrp_node.specs.NodeStep.{measurement_by, measured_at, message_of, heard, heard_unless, stepped, node_step}
use Rattle.wrp_node.specs.StepLaws.{CommandsAreHeld, is_frame}
use Rattle.wrp_node.specs.Telling.{Step, answer_of, called, newest_step, settled}
use Rattle.wrp_port.specs.declared.interface.PortIn.{PortIn}
use Rattle.wrp_port.specs.Hearing.{early_reason}
use Rattle.wrp_servo.specs.Call.{Call, CallSample, CallMeasured, CallTick, CallLease, CallLink, CallCarrier, CallReset, ServoSetting, run}
use Rattle.wrp_servo.specs.declared.machine.Core.{Core}
use Rattle.wrp_servo.specs.declared.machine.Measurement.{Measurement}
use Rattle.wrp_servo.specs.Laws.{NoStepInTrack}
use Rattle.wrp_servo.specs.Measuring.{aimed, answered, answered_cycles, by_period, cycles_in, deltas_in_chain, is_below_second, is_half, is_in, kept_of, period_cycles, placed, placed_in, second_cycles, step_by_period, stepped as stepped_by, x_of}
use Rattle.wrp_servo.specs.Sampling.{est_of, is_holdover}
use Rattle.wrp_servo.specs.Servo.{answer_to}
use Rattle.wrp_servo.specs.Table.{ended, ended_in, is_track, linked, uninit_outside_holdover, with_link, with_lease as lease_by}
use Rattle.wrp_node.proofs.StepLaws.{settled_cycles}
use Rattle.wrp_bound_laws.proofs.Nodes.StepCalls.{IsTelling, settled_keeps}

-- News of the lease and of the link commands nothing

-- A measurement

-- the servo, given this measurement after these calls, commands no step, if it is one that the step allows
abbrev Stills : NodeSetting → NodeAt → (List Call → Type 0) → Type 0
Stills fixed n P = (four : Four) (answer : ℤ) → P (CallMeasured four answer ∷ n.calls) → (answer_to (servo_setting_of fixed) (run (servo_setting_of fixed) n.calls) (CallMeasured four answer)).cycles ≡ pos 0

measured_still : (fixed : NodeSetting) (n : NodeAt) (P : List Call → Type 0) (has : Bool) (four : Option Four) (answer : ℤ) → (has ≡ true → Stills fixed n P) → P (called (if has then measurement_by four answer else None) n.calls) →
    newest_step (answer_of fixed (if has then measurement_by four answer else None) n.calls).cycles (pos 0) ≡ pos 0
measured_still fixed n P true None answer still h = refl
measured_still fixed n P true (Some four) answer still h = ap (λ (c : ℤ). newest_step c (pos 0)) (still refl four answer h)
measured_still fixed n P false four answer still h = refl

heard_still : (fixed : NodeSetting) (n : NodeAt) (P : List Call → Type 0) (p : ℕ) (input : PortIn) (answer : ℤ) (reason : Option Reason) → (is_some (slave_of fixed.set) ≡ true → Stills fixed n P) → P (heard_unless reason fixed p input answer n).node.calls → (heard_unless reason fixed p input answer n).cycles ≡ pos 0
heard_still fixed n P p input answer None still h = measured_still fixed n P (is_some (slave_of fixed.set)) (measured_at fixed n p input) answer still h
heard_still fixed n P p input answer (Some reason) still h = refl

frame_still : (fixed : NodeSetting) (n : NodeAt) (P : List Call → Type 0) (p : ℕ) (says : Result PtpMsg FrameFault) (raw : Raw) (sample : ℕ) (answer : ℤ) → (is_some (slave_of fixed.set) ≡ true → Stills fixed n P) → P (heard fixed p says raw sample answer n).node.calls →
    (heard fixed p says raw sample answer n).cycles ≡ pos 0
frame_still fixed n P p (Err fault) raw sample answer still h = refl
frame_still fixed n P p (Ok m) raw sample answer still h =
    heard_still fixed n P p (message_of fixed n p m raw sample) answer (early_reason (setting_of fixed.set p) (link_at fixed.set n p) m) still h

-- an input
input_still : CommandsAreHeld → (fixed : NodeSetting) (t : Taken) (n : NodeAt) (P : List Call → Type 0) (input : Input) → t.input ≡ input → (is_some (slave_of fixed.set) ≡ true → Stills fixed n P) → P (stepped fixed input t.says t.answer n).node.calls → (node_step fixed t n).cycles ≡ pos 0
input_still held fixed t n P (Frame p octets raw sample) is still h =
    settled_cycles fixed (stepped fixed t.input t.says t.answer n)
    ∙ ap (λ (i : Input). (stepped fixed i t.says t.answer n).cycles) is
    ∙ frame_still fixed n P p t.says raw sample t.answer still h
input_still held fixed t n P Tick is still h = (held fixed t n).by_frame (ap is_frame is)
input_still held fixed t n P (Sample number base bits) is still h = (held fixed t n).by_frame (ap is_frame is)
input_still held fixed t n P (Sent p seq delay stamp) is still h = (held fixed t n).by_frame (ap is_frame is)
input_still held fixed t n P (Carrier p up own_module) is still h = (held fixed t n).by_frame (ap is_frame is)
input_still held fixed t n P Reset is still h = (held fixed t n).by_frame (ap is_frame is)

-- In TRACK and in HOLDOVER

pub still_in_track : CommandsAreHeld → NoStepInTrack → (fixed : NodeSetting) (t : Taken) (n : NodeAt) →
    (is_track (run (servo_setting_of fixed) n.calls).state || is_holdover (run (servo_setting_of fixed) n.calls).state) ≡ true → (node_step fixed t n).cycles ≡ pos 0
still_in_track held law fixed t n e =
    input_still held fixed t n (λ _. Unit {0}) t.input refl (λ servo four answer h. law (servo_setting_of fixed) n.calls (CallMeasured four answer) e) tt

-- without a servo
pub still_without_servo : CommandsAreHeld → (fixed : NodeSetting) (t : Taken) (n : NodeAt) → is_some (slave_of fixed.set) ≡ false → (node_step fixed t n).cycles ≡ pos 0
still_without_servo held fixed t n e =
    input_still held fixed t n (λ _. Unit {0}) t.input refl (λ servo. absurd (let f : false ≡ true = sym e ∙ servo in cc)) tt

-- If there is a chain after it

abbrev pub Stands : Core → Type 0
Stands v = is_some v.first ≡ true

no_first : (v : Core) → v.first ≡ None → Stands v → ⊥
no_first v e h = (let f : false ≡ true = ap is_some (sym e) ∙ h in cc)

-- after its end there is none
pub none_ended : (v : Core) (s : ServoState) → (ended_in v s).first ≡ None
none_ended v Uninit = refl
none_ended v SyncTai = refl
none_ended v SyncNsec = refl
none_ended v SyncPhase = refl
none_ended v WaitStable = refl
none_ended v Track = refl
none_ended v Holdover = refl

ended_where : (b : Bool) (v : Core) → is_some v.first ≡ b → Stands (cond b (ended_in v v.state) v) → ⊥
ended_where true v e h = no_first (ended_in v v.state) (none_ended v v.state) h
ended_where false v e h = (let f : false ≡ true = sym e ∙ h in cc)

none_stands : (v : Core) → Stands (ended v) → ⊥
none_stands v h = ended_where (is_some v.first) v refl h

-- a measurement that commands a step ends it
half_still : (v : Core) (k : Measurement) (est : ℤ) (b : Bool) → is_half v est ≡ b → Stands (cond b (aimed v k SyncPhase) (stepped_by v SyncNsec)) → cond b (pos 0) (period_cycles v.set.clock est) ≡ pos 0
half_still v k est true e h = refl
half_still v k est false e h = absurd (no_first (stepped_by v SyncNsec) refl h)

below_still : (v : Core) (k : Measurement) (est : ℤ) (b : Bool) → Stands (cond b (by_period v k est) (stepped_by v SyncTai)) → cond b (step_by_period v est) (second_cycles v.set.clock est) ≡ pos 0
below_still v k est true h = half_still v k est (is_half v est) refl h
below_still v k est false h = absurd (no_first (stepped_by v SyncTai) refl h)

placed_still : (v : Core) (k : Measurement) (est : ℤ) (s : ServoState) → Stands (placed_in v k est s) → cycles_in v est s ≡ pos 0
placed_still v k est SyncTai h = below_still v k est (is_below_second est) h
placed_still v k est SyncNsec h = half_still v k est (is_half v est) refl h
placed_still v k est Uninit h = refl
placed_still v k est SyncPhase h = refl
placed_still v k est WaitStable h = refl
placed_still v k est Track h = refl
placed_still v k est Holdover h = refl

range_still : (x : ServoSetting) (v : Core) (f : Four) (y : ℤ) (d : Deltas) (b : Bool) → Stands (cond b (placed v (kept_of f d y)) (ended v)) → cond b (cycles_in v (est_of v.phase.u (kept_of f d y)) v.state) (pos 0) ≡ pos 0
range_still x v f y d true h = placed_still (record v { kept = Some (kept_of f d y) }) (kept_of f d y) (est_of v.phase.u (kept_of f d y)) v.state h
range_still x v f y d false h = refl

deltas_still : (x : ServoSetting) (v : Core) (f : Four) (y : ℤ) (o : Option Deltas) → Stands (answered x.lo x.hi v f y o) → answered_cycles x.lo x.hi v f y o ≡ pos 0
deltas_still x v f y None h = refl
deltas_still x v f y (Some d) h = range_still x v f y d (is_in x.lo x.hi (x_of d f)) h

-- news of lease and link starts none
uninit_first : (v : Core) (s : ServoState) → (uninit_outside_holdover v s).first ≡ v.first
uninit_first v Uninit = refl
uninit_first v SyncTai = refl
uninit_first v SyncNsec = refl
uninit_first v SyncPhase = refl
uninit_first v WaitStable = refl
uninit_first v Track = refl
uninit_first v Holdover = refl

linked_first : (v : Core) (s : ServoState) → (linked v s).first ≡ v.first
linked_first v Uninit = refl
linked_first v SyncTai = refl
linked_first v SyncNsec = refl
linked_first v SyncPhase = refl
linked_first v WaitStable = refl
linked_first v Track = refl
linked_first v Holdover = refl

pub telling_starts_none : (x : ServoSetting) (calls : List Call) (call : Call) → IsTelling call → Stands (run x (call ∷ calls)) → Stands (run x calls)
telling_starts_none x calls (CallLease true) t h = h
telling_starts_none x calls (CallLease false) t h = absurd (none_stands (lease_by (run x calls) false) h)
telling_starts_none x calls (CallLink (Some d)) t h = sym (ap is_some (linked_first (with_link (run x calls) (Some d)) (run x calls).state)) ∙ h
telling_starts_none x calls (CallLink None) t h =
    let v : Core = ended (with_link (run x calls) None) in
    absurd (none_stands (with_link (run x calls) None) (sym (ap is_some (uninit_first v v.state)) ∙ h))
telling_starts_none x calls (CallSample n base bits) t h = absurd t
telling_starts_none x calls (CallMeasured f y) t h = absurd t
telling_starts_none x calls CallTick t h = absurd t
telling_starts_none x calls (CallCarrier up) t h = absurd t
telling_starts_none x calls CallReset t h = absurd t

-- it was there when the news of lease and link was given
pub stood_before_telling : (fixed : NodeSetting) (s : Step) → Stands (run (servo_setting_of fixed) (settled fixed s).node.calls) → Stands (run (servo_setting_of fixed) s.node.calls)
stood_before_telling fixed s h =
    settled_keeps (λ calls. Stands (run (servo_setting_of fixed) calls) → Stands (run (servo_setting_of fixed) s.node.calls))
    (λ calls call t old now. old (telling_starts_none (servo_setting_of fixed) calls call t now)) fixed s (λ now. now) h

pub still_in_chain : CommandsAreHeld → (fixed : NodeSetting) (t : Taken) (n : NodeAt) → Stands (run (servo_setting_of fixed) (node_step fixed t n).node.calls) → (node_step fixed t n).cycles ≡ pos 0
still_in_chain held fixed t n h =
    input_still held fixed t n (λ calls. Stands (run (servo_setting_of fixed) calls)) t.input refl
    (λ servo four answer stands. deltas_still (servo_setting_of fixed) (run (servo_setting_of fixed) n.calls) four answer (deltas_in_chain (run (servo_setting_of fixed) n.calls)) stands)
    (stood_before_telling fixed (stepped fixed t.input t.says t.answer n) h)
