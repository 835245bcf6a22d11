-- A node's servo is given a call, and what it answers goes to the slave port.
use Rattle.std.proofs.Common.{◌≡◌, ◌∙◌, refl, ap, ap₂, sym, subst, ℕ, ℤ, ◌==◌, Bool, true, false, if◌then◌else◌, ◌&&◌, ◌%◌, List, [], ◌∷◌, ◌++◌, map, flat_map, Option, None, Some, is_some, Ok}
use Rattle.std.specs.List.{AllByRecursion}
use Rattle.std.proofs.lemmas.Option.{none-some}
use Rattle.wrp_base.specs.declared.link.Deltas.{Deltas}
use Rattle.wrp_base.specs.declared.link.LinkWord.{LinkWord}
use Rattle.wrp_base.specs.declared.link.Module.{Module}
use Rattle.wrp_base.specs.declared.link.ServoState.{ServoState}
use Rattle.wrp_base.specs.declared.link.ServoState.TheVariants.{Uninit}
use Rattle.wrp_base.specs.declared.measurement.Four.{Four}
use Rattle.wrp_base.specs.declared.message.PtpMsg.{PtpMsg}
use Rattle.wrp_base.specs.declared.time.Raw.{Raw}
use Rattle.wrp_data.specs.declared.reason.Reason.{Reason}
use Rattle.wrp_data.specs.Reason.{number_of as reason_number}
use Rattle.wrp_base.specs.declared.time.Stamp.{Stamp}
use Rattle.wrp_base.specs.Message.{IsSound}
use Rattle.wrp_link.specs.Table.{word_of}
use Rattle.wrp_node.specs.Control.{ToldServo, ControlOf, ServoIs, ControlStands, Calls, lease_call, link_call, carrier_call, state_in, locked_in, certain_in, tracked_in}
use Rattle.wrp_node.specs.declared.interface.Input.{Input}
use Rattle.wrp_node.specs.declared.interface.Input.TheVariants.{Tick, Sample, Frame, Sent, Carrier, Reset}
use Rattle.wrp_node.specs.declared.interface.Output.{Output}
use Rattle.wrp_node.specs.declared.parts.Parts.{Parts}
use Rattle.wrp_node.specs.declared.place.PortPlace.{PortPlace}
use Rattle.wrp_node.specs.declared.ports.To.TheVariants.{Every, One}
use Rattle.wrp_node.specs.Node.{track_in, puts_out, is_tick}
use Rattle.wrp_node.specs.NodeAt.{NodeSetting, NodeAt, slave_of, state_of, locked_of, certain_of, est_of, servo_at, setting_of, line_at, is_fresh_in, deltas_in}
use Rattle.wrp_node.specs.NodeRun.{step_out, dac_out, servo_out, est_out, track_out, port_out, word_out, frame_out, outputs_of}
use Rattle.wrp_node.specs.NodeStep.{handed, carried, ports_ticked, tick_of, is_slave_port, used, dropped, measured_at, measurement_by, message_of, heard, heard_unless}
use Rattle.wrp_node.specs.Parts.{PlaceStands, PlaceIn, PartsIn, IsNumber, HearsAt, given, taken_unless, four_unless, reason_at}
use Rattle.wrp_node.specs.Place.{place_out, newest_sends}
use Rattle.wrp_node.specs.StandsFor.{NodeOf, IsAt, IsIn}
use Rattle.wrp_node.specs.Telling.{Step, step_from, for_slave, heard_of, answer_of, number_of, tell, is_changed, with_lease, with_link}
use Rattle.wrp_node.proofs.Giving.{parts_same, line_is}
use Rattle.wrp_node.proofs.Hearing.{sent_here, newest_alone}
use Rattle.wrp_node.proofs.Telling.{nothing_told, either_same}
use Rattle.wrp_port.specs.declared.interface.PortIn.{PortIn}
use Rattle.wrp_port.specs.declared.interface.PortIn.TheVariants.{Sent as PortSent, Carrier as PortCarrier, Tick as PortTick}
use Rattle.wrp_port.specs.declared.line.Rest.{Rest}
use Rattle.wrp_port.specs.Outputs.{sends_of}
use Rattle.wrp_servo.specs.Call.{Call, CallSample, CallMeasured, CallLease, CallLink, CallCarrier}
use Rattle.wrp_servo.specs.Told.{lease_told, link_told}
use Rattle.wrp_servo.specs.declared.machine.Core.{Core}
use Rattle.wrp_servo.specs.declared.interface.ServoOut.{ServoOut}
use Rattle.wrp_servo.specs.Servo.{est_now}
use Rattle.wrp_servo.specs.Table.{is_track}

-- ---- the number of a sample, which other calls do not have

either_number : (a b : Bool) (call : Call) → number_of (Some call) ≡ 0 → 0 ≡ number_of (if a then (if b then Some call else None) else None)
either_number true true call e = sym e
either_number true false call e = refl
either_number false b call e = refl

no_number : (fixed : NodeSetting) (b : Bool) (call : Call) (out : ServoOut) → number_of (Some call) ≡ 0 → IsNumber out 0 (for_slave fixed (if b then Some call else None))
no_number fixed b call out e told = ap (λ (k : ℕ). heard_of out k told) (either_number (is_some (slave_of fixed.set)) b call e)

pub no_sample : (fixed : NodeSetting) (call : Call) (out : ServoOut) → number_of (Some call) ≡ 0 → IsNumber out 0 (for_slave fixed (Some call))
no_sample fixed call out e = no_number fixed true call out e

sample_where : (b : Bool) (fixed : NodeSetting) (n base bits : ℕ) (calls : List Call) (out : ServoOut) → out ≡ answer_of fixed (if b then Some (CallSample n base bits) else None) calls →
    IsNumber out n (if b then Some (CallSample n base bits) else None)
sample_where true fixed n base bits calls out e told = refl
sample_where false fixed n base bits calls out e told = ap (λ (o : ServoOut). heard_of o n told) e ∙ sym (ap (λ (o : ServoOut). heard_of o 0 told) e)

pub sample_number : (fixed : NodeSetting) (n base bits : ℕ) (calls : List Call) (out : ServoOut) → out ≡ answer_of fixed (for_slave fixed (Some (CallSample n base bits))) calls →
    IsNumber out n (for_slave fixed (Some (CallSample n base bits)))
sample_number fixed n base bits calls out e = sample_where (is_some (slave_of fixed.set)) fixed n base bits calls out e

-- ---- one call

-- what a call of the servo makes of the other parts
abbrev pub Taken : NodeSetting → NodeAt → Step → ServoOut → ℕ → Parts → Type 0
Taken fixed before s out number new =
    (call : Option Call) → out ≡ answer_of fixed call s.node.calls → IsNumber out number call → PartsIn fixed before (tell fixed call s) new

pub told_node : {F : Type 0} {post : F → ℤ → ℤ → Type 0} (fixed : NodeSetting) (before : NodeAt) (s : Step) (call : Option Call) (number : ℕ) (out : ServoOut) (new : Parts) (control : ControlOf F) (report : ℕ) →
    Calls post fixed s.node.calls control call out → IsNumber out number (for_slave fixed call) → Taken fixed before s out number new → report ≡ fixed.set.report →
    IsIn post fixed before (tell fixed (for_slave fixed call) s) (record { parts = new; control = control; report = report })
told_node fixed before s call number out new control report k n f r = record { parts = f (for_slave fixed call) k.answer n; control = k.stands; report = r }

pub lease_node : {F : Type 0} {post : F → ℤ → ℤ → Type 0} (fixed : NodeSetting) (before : NodeAt) (s : Step) (fresh : Bool) (out : ServoOut) (new : Parts) (control : ControlOf F) (report : ℕ) →
    fresh ≡ is_fresh_in fixed.set s.node → Calls post fixed s.node.calls control (lease_call fresh s.node.calls) out → Taken fixed before s out 0 new → report ≡ fixed.set.report →
    IsIn post fixed before (with_lease fixed s) (record { parts = new; control = control; report = report })
lease_node {post} fixed before s fresh out new control report e k f r =
    subst (λ (b : Bool). IsIn post fixed before (tell fixed (for_slave fixed (lease_call b s.node.calls)) s) (record { parts = new; control = control; report = report })) e
    (told_node fixed before s (lease_call fresh s.node.calls) 0 out new control report k (no_number fixed (is_changed (lease_told s.node.calls) fresh) (CallLease fresh) out refl) f r)

pub link_node : {F : Type 0} {post : F → ℤ → ℤ → Type 0} (fixed : NodeSetting) (before : NodeAt) (s : Step) (on : Option Deltas) (out : ServoOut) (new : Parts) (control : ControlOf F) (report : ℕ) →
    on ≡ deltas_in fixed.set s.node → Calls post fixed s.node.calls control (link_call on s.node.calls) out → Taken fixed before s out 0 new → report ≡ fixed.set.report →
    IsIn post fixed before (with_link fixed s) (record { parts = new; control = control; report = report })
link_node {post} fixed before s on out new control report e k f r =
    subst (λ (o : Option Deltas). IsIn post fixed before (tell fixed (for_slave fixed (link_call o s.node.calls)) s) (record { parts = new; control = control; report = report })) e
    (told_node fixed before s (link_call on s.node.calls) 0 out new control report k (no_number fixed (is_changed (is_some (link_told s.node.calls)) (is_some on)) (CallLink on) out refl) f r)

pub carrier_node : {F : Type 0} {post : F → ℤ → ℤ → Type 0} (fixed : NodeSetting) (n : NodeAt) (p : ℕ) (up : Bool) (own_module : Option Module) (slave : Bool) (out : ServoOut) (new : Parts) (control : ControlOf F) (report : ℕ) →
    slave ≡ is_slave_port (slave_of fixed.set) p → Calls post fixed n.calls control (carrier_call slave up) out → Taken fixed n (handed fixed p (PortCarrier up own_module) n) out 0 new → report ≡ fixed.set.report →
    IsIn post fixed n (carried fixed p up own_module n) (record { parts = new; control = control; report = report })
carrier_node {post} fixed n p up own_module slave out new control report e k f r =
    subst (λ (b : Bool). IsIn post fixed n (tell fixed (for_slave fixed (carrier_call b up)) (handed fixed p (PortCarrier up own_module) n)) (record { parts = new; control = control; report = report })) e
    (told_node fixed n (handed fixed p (PortCarrier up own_module) n) (carrier_call slave up) 0 out new control report k (no_number fixed slave (CallCarrier up) out refl) f r)

-- a node as its fields make it
pub inside_in : {F : Type 0} {post : F → ℤ → ℤ → Type 0} {fixed : NodeSetting} {before : NodeAt} {s : Step} {v w : NodeOf F} → v ≡ w → IsIn post fixed before s w → IsIn post fixed before s v
inside_in {post} {fixed} {before} {s} e h = subst (λ x. IsIn post fixed before s x) (sym e) h

pub inside_at : {F : Type 0} {post : F → ℤ → ℤ → Type 0} {fixed : NodeSetting} {n : NodeAt} {v w : NodeOf F} → v ≡ w → IsAt post fixed n w → IsAt post fixed n v
inside_at {post} {fixed} {n} e h = subst (λ x. IsAt post fixed n x) (sym e) h

-- if nothing is given, nothing changes
same_call : (b : Bool) (o : Option Call) → (if b then o else o) ≡ o
same_call true o = refl
same_call false o = refl

none_for : (fixed : NodeSetting) → for_slave fixed None ≡ None
none_for fixed = same_call (is_some (slave_of fixed.set)) None

pub nothing_node : {F : Type 0} {post : F → ℤ → ℤ → Type 0} (fixed : NodeSetting) (before : NodeAt) (s : Step) (call : Option Call) (node : NodeOf F) → call ≡ None → IsIn post fixed before s node →
    IsIn post fixed before (tell fixed (for_slave fixed call) s) node
nothing_node {post} fixed before s call node e h =
    subst (λ (o : Option Call). IsIn post fixed before (tell fixed o s) node) (sym (ap (for_slave fixed) e ∙ none_for fixed))
    (record { parts = nothing_told fixed before s node.parts h.parts; control = h.control; report = h.report })

-- ---- a message

heard_some : {F : Type 0} {post : F → ℤ → ℤ → Type 0} (fixed : NodeSetting) (n : NodeAt) (p : ℕ) (input : PortIn) (y : ℤ) (four : Four) (reason : Option Reason) (node : NodeOf F) →
    Some four ≡ four_unless reason fixed p input n → IsIn post fixed n (tell fixed (for_slave fixed (Some (CallMeasured four y))) (taken_unless reason fixed p input n)) node →
    IsIn post fixed n (heard_unless reason fixed p input y n) node
heard_some {post} fixed n p input y four None node e h =
    subst (λ (o : Option Four). IsIn post fixed n (tell fixed (for_slave fixed (measurement_by o y)) (used fixed p input n)) node) e h
heard_some fixed n p input y four (Some reason) node e h = absurd (none-some four (sym e))

measured_node : {F : Type 0} {post : F → ℤ → ℤ → Type 0} (fixed : NodeSetting) (n : NodeAt) (p : ℕ) (input : PortIn) (y : ℤ) (four : Four) (reason : Option Reason) (out : ServoOut) (new : Parts)
    (control : ControlOf F) (report : ℕ) → Calls post fixed n.calls control (Some (CallMeasured four y)) out → Taken fixed n (taken_unless reason fixed p input n) out 0 new → report ≡ fixed.set.report →
    IsIn post fixed n (tell fixed (for_slave fixed (Some (CallMeasured four y))) (taken_unless reason fixed p input n)) (record { parts = new; control = control; report = report })
measured_node fixed n p input y four None out new control report k f r =
    told_node fixed n (used fixed p input n) (Some (CallMeasured four y)) 0 out new control report k (no_sample fixed (CallMeasured four y) out refl) f r
measured_node fixed n p input y four (Some reason) out new control report k f r =
    told_node fixed n (dropped p (reason_number reason) n) (Some (CallMeasured four y)) 0 out new control report k (no_sample fixed (CallMeasured four y) out refl) f r

pub message_some : {F : Type 0} {post : F → ℤ → ℤ → Type 0} (fixed : NodeSetting) (n : NodeAt) (p : ℕ) (m : PtpMsg) (raw : Raw) (sample : ℕ) (y : ℤ) (four : Four) (first : Parts) (out : ServoOut) (new : Parts)
    (control : ControlOf F) (report : ℕ) → HearsAt fixed n p m raw sample first (Some four) → Calls post fixed n.calls control (Some (CallMeasured four y)) out →
    ((s : Step) → PartsIn fixed n s first → Taken fixed n s out 0 new) → report ≡ fixed.set.report →
    IsIn post fixed n (heard fixed p (Ok m) raw sample y n) (record { parts = new; control = control; report = report })
message_some {post} fixed n p m raw sample y four first out new control report a k f r =
    heard_some fixed n p (message_of fixed n p m raw sample) y four (reason_at fixed n p m) (record { parts = new; control = control; report = report }) a.four_is
    (measured_node fixed n p (message_of fixed n p m raw sample) y four (reason_at fixed n p m) out new control report k (f (taken_unless (reason_at fixed n p m) fixed p (message_of fixed n p m raw sample) n) a.parts) r)

heard_none : {F : Type 0} {post : F → ℤ → ℤ → Type 0} (fixed : NodeSetting) (n : NodeAt) (p : ℕ) (input : PortIn) (y : ℤ) (reason : Option Reason) (node : NodeOf F) →
    four_unless reason fixed p input n ≡ None → IsIn post fixed n (taken_unless reason fixed p input n) node → IsIn post fixed n (heard_unless reason fixed p input y n) node
heard_none fixed n p input y None node e h = nothing_node fixed n (used fixed p input n) (measurement_by (measured_at fixed n p input) y) node (ap (λ (o : Option Four). measurement_by o y) e) h
heard_none fixed n p input y (Some reason) node e h = h

calls_unless : (fixed : NodeSetting) (n : NodeAt) (p : ℕ) (input : PortIn) (reason : Option Reason) → (taken_unless reason fixed p input n).node.calls ≡ n.calls
calls_unless fixed n p input None = refl
calls_unless fixed n p input (Some reason) = refl

pub message_none : {F : Type 0} {post : F → ℤ → ℤ → Type 0} (fixed : NodeSetting) (n : NodeAt) (p : ℕ) (m : PtpMsg) (raw : Raw) (sample : ℕ) (y : ℤ) (new : Parts) (control : ControlOf F) (report : ℕ) →
    HearsAt fixed n p m raw sample new None → ControlStands post fixed n.calls control → report ≡ fixed.set.report →
    IsIn post fixed n (heard fixed p (Ok m) raw sample y n) (record { parts = new; control = control; report = report })
message_none {post} fixed n p m raw sample y new control report a k r =
    heard_none fixed n p (message_of fixed n p m raw sample) y (reason_at fixed n p m) (record { parts = new; control = control; report = report }) (sym a.four_is)
    (record {
      parts = a.parts;
      control = subst (λ (cs : List Call). ControlStands post fixed cs control) (sym (calls_unless fixed n p (message_of fixed n p m raw sample) (reason_at fixed n p m))) k;
      report = r;
    })

-- ---- what the servo's part reports

state_by : {F : Type 0} (post : F → ℤ → ℤ → Type 0) (fixed : NodeSetting) (n : NodeAt) (t : Option (ToldServo F)) → ServoIs post fixed n.calls t → state_in t ≡ state_of fixed n
state_by post fixed n None h = sym (ap (λ (b : Bool). if b then (servo_at fixed n).state else Uninit) h)
state_by post fixed n (Some t) h = ap (λ (v : Core). v.state) h.1.servo.core ∙ sym (ap (λ (b : Bool). if b then (servo_at fixed n).state else Uninit) h.0)

pub state_is : {F : Type 0} {post : F → ℤ → ℤ → Type 0} (fixed : NodeSetting) (n : NodeAt) (c : ControlOf F) → ControlStands post fixed n.calls c → state_in c.told ≡ state_of fixed n
state_is {post} fixed n c h = state_by post fixed n c.told h.servo

locked_by : {F : Type 0} (post : F → ℤ → ℤ → Type 0) (fixed : NodeSetting) (n : NodeAt) (t : Option (ToldServo F)) → ServoIs post fixed n.calls t → locked_in t ≡ locked_of fixed n
locked_by post fixed n None h = sym (ap (λ (b : Bool). if b then (servo_at fixed n).phase.lock.locked else false) h)
locked_by post fixed n (Some t) h = ap (λ (v : Core). v.phase.lock.locked) h.1.servo.core ∙ sym (ap (λ (b : Bool). if b then (servo_at fixed n).phase.lock.locked else false) h.0)

pub locked_is : {F : Type 0} {post : F → ℤ → ℤ → Type 0} (fixed : NodeSetting) (n : NodeAt) (c : ControlOf F) → ControlStands post fixed n.calls c → locked_in c.told ≡ locked_of fixed n
locked_is {post} fixed n c h = locked_by post fixed n c.told h.servo

certain_by : {F : Type 0} (post : F → ℤ → ℤ → Type 0) (fixed : NodeSetting) (n : NodeAt) (t : Option (ToldServo F)) → ServoIs post fixed n.calls t → certain_in t ≡ certain_of fixed n
certain_by post fixed n None h = sym (ap (λ (b : Bool). if b then is_track (servo_at fixed n).state else true) h)
certain_by post fixed n (Some t) h = ap (λ (v : Core). is_track v.state) h.1.servo.core ∙ sym (ap (λ (b : Bool). if b then is_track (servo_at fixed n).state else true) h.0)

pub certain_is : {F : Type 0} {post : F → ℤ → ℤ → Type 0} (fixed : NodeSetting) (n : NodeAt) (c : ControlOf F) → ControlStands post fixed n.calls c → certain_in c.told ≡ certain_of fixed n
certain_is {post} fixed n c h = certain_by post fixed n c.told h.servo

tracked_by : {F : Type 0} (post : F → ℤ → ℤ → Type 0) (fixed : NodeSetting) (n : NodeAt) (t : Option (ToldServo F)) → ServoIs post fixed n.calls t →
    tracked_in t ≡ (if is_track (state_of fixed n) then est_of fixed n else None)
tracked_by post fixed n None h = sym (ap (λ (b : Bool). if is_track (if b then (servo_at fixed n).state else Uninit) then est_of fixed n else None) h)
tracked_by post fixed n (Some t) h =
    ap (λ (v : Core). if is_track v.state then est_now v else None) h.1.servo.core
    ∙ sym (ap (λ (b : Bool). if is_track (if b then (servo_at fixed n).state else Uninit) then est_of fixed n else None) h.0)

-- ---- what is put out

place_puts : (fixed : NodeSetting) (before : NodeAt) (s : Step) (place : PortPlace) → PlaceIn fixed before s place → place_out place ≡ port_out fixed before s place.number
place_puts fixed before s place h =
    ap₂ (λ (a b : List Output). a ++ b)
    (ap₂ (λ (v w : LinkWord). word_out place.number v w) h.word (ap (λ (l : Rest). word_of l.link) (line_is fixed s.node place h.stands)))
    (ap (λ (ms : List PtpMsg). map (frame_out place.number) ms) h.sends)

places_put : (fixed : NodeSetting) (before : NodeAt) (s : Step) (places : List PortPlace) → AllByRecursion (PlaceIn fixed before s) places →
    flat_map place_out places ≡ flat_map (port_out fixed before s) (map (λ (x : PortPlace). x.number) places)
places_put fixed before s [] h = refl
places_put fixed before s (x ∷ xs) h = ap₂ (λ (a b : List Output). a ++ b) (place_puts fixed before s x h.0) (places_put fixed before s xs h.1)

track_out_by : (a b : Bool) (est : Option ℤ) → est_out (if b then (if a then est else None) else None) ≡ (if a && b then est_out est else [])
track_out_by true true est = refl
track_out_by true false est = refl
track_out_by false true est = refl
track_out_by false false est = refl

track_put : {F : Type 0} (post : F → ℤ → ℤ → Type 0) (fixed : NodeSetting) (before : NodeAt) (s : Step) (node : NodeOf F) (input : Input) → IsIn post fixed before s node →
    est_out (track_in (is_tick input) node) ≡ track_out fixed input s.node
track_put post fixed before s node Tick h =
    ap₂ (λ (k r : ℕ). est_out (if k % r == 0 then tracked_in node.control.told else None)) h.parts.ticks h.report
    ∙ ap (λ (o : Option ℤ). est_out (if s.node.ticks % fixed.set.report == 0 then o else None)) (tracked_by post fixed s.node node.control.told h.control.servo)
    ∙ track_out_by (is_track (state_of fixed s.node)) (s.node.ticks % fixed.set.report == 0) (est_of fixed s.node)
track_put post fixed before s node (Sample n base bits) h = refl
track_put post fixed before s node (Frame p octets raw sample) h = refl
track_put post fixed before s node (Sent p seq delay stamp) h = refl
track_put post fixed before s node (Carrier p up own_module) h = refl
track_put post fixed before s node Reset h = refl

pub all_put : {F : Type 0} {post : F → ℤ → ℤ → Type 0} (fixed : NodeSetting) (before : NodeAt) (s : Step) (node : NodeOf F) (input : Input) (state : ServoState) → IsIn post fixed before s node →
    state ≡ state_of fixed before → puts_out state (is_tick input) node ≡ outputs_of fixed input before s
all_put {post} fixed before s node input state h e =
    ap₂ (λ (a b : List Output). a ++ b)
    (ap₂ (λ (a b : List Output). a ++ b)
    (ap₂ (λ (a b : List Output). a ++ b)
    (ap₂ (λ (a b : List Output). a ++ b) (ap step_out h.parts.cycles) (ap dac_out h.parts.dac))
    (ap₂ servo_out e (state_is fixed s.node node.control h.control)))
    (places_put fixed before s node.parts.ports h.parts.places ∙ ap (λ (ns : List ℕ). flat_map (port_out fixed before s) ns) h.parts.numbers))
    (track_put post fixed before s node input h)

pub all_sound : (fixed : NodeSetting) (before : NodeAt) (s : Step) (places : List PortPlace) → AllByRecursion (PlaceIn fixed before s) places →
    AllByRecursion (λ (x : PortPlace). AllByRecursion IsSound x.sends.items) places
all_sound fixed before s [] h = tt
all_sound fixed before s (x ∷ xs) h = (h.0.sound, all_sound fixed before s xs h.1)

-- ---- between inputs

place_at : (fixed : NodeSetting) (before : NodeAt) (s : Step) (places : List PortPlace) → AllByRecursion (PlaceIn fixed before s) places → AllByRecursion (PlaceStands fixed s.node) places
place_at fixed before s [] h = tt
place_at fixed before s (x ∷ xs) h = (h.0.stands, place_at fixed before s xs h.1)

pub in_at : {F : Type 0} {post : F → ℤ → ℤ → Type 0} (fixed : NodeSetting) (before : NodeAt) (s : Step) (node : NodeOf F) → IsIn post fixed before s node → IsAt post fixed s.node node
in_at fixed before s node h = record {
  parts = record {
    numbers = h.parts.numbers;
    places = place_at fixed before s node.parts.ports h.parts.places;
    slave = h.parts.slave;
    clock = h.parts.clock;
    ticks = h.parts.ticks;
    has_slave = h.parts.has_slave;
  };
  control = h.control;
  report = h.report;
}

-- ---- one port, or every port, is given an input that it never counts

pub sent_told : (fixed : NodeSetting) (n : NodeAt) (p seq : ℕ) (delay : Bool) (stamp : Stamp) (tick : ℕ) (parts : Parts) → tick ≡ n.ticks →
    PartsIn fixed n (given (One p) (PortSent delay seq stamp tick) fixed (step_from n)) parts → PartsIn fixed n (handed fixed p (PortSent delay seq stamp n.ticks) n) parts
sent_told fixed n p seq delay stamp tick parts e h =
    subst (λ (k : ℕ). PartsIn fixed n (handed fixed p (PortSent delay seq stamp k) n) parts) e
    (parts_same fixed n (given (One p) (PortSent delay seq stamp tick) fixed (step_from n)) (handed fixed p (PortSent delay seq stamp tick) n) parts
    (record {
      told = λ q. refl;
      counters = λ q. either_same (q == p) (n.counters q);
      sends = λ q. sent_here fixed n p q (PortSent delay seq stamp tick) (q == p) refl;
    }) refl refl refl h)

pub carrier_told : (fixed : NodeSetting) (n : NodeAt) (p : ℕ) (up : Bool) (own_module : Option Module) (parts : Parts) →
    PartsIn fixed n (given (One p) (PortCarrier up own_module) fixed (step_from n)) parts → PartsIn fixed n (handed fixed p (PortCarrier up own_module) n) parts
carrier_told fixed n p up own_module parts h =
    parts_same fixed n (given (One p) (PortCarrier up own_module) fixed (step_from n)) (handed fixed p (PortCarrier up own_module) n) parts
    (record {
      told = λ q. refl;
      counters = λ q. either_same (q == p) (n.counters q);
      sends = λ q. sent_here fixed n p q (PortCarrier up own_module) (q == p) refl;
    }) refl refl refl h

pub ticks_told : (fixed : NodeSetting) (before : NodeAt) (s : Step) (parts : Parts) (locked certain : Bool) → ((p : ℕ) → s.sends p ≡ []) → locked ≡ locked_of fixed s.node → certain ≡ certain_of fixed s.node →
    PartsIn fixed before (given Every (PortTick locked certain) fixed s) parts → PartsIn fixed before (ports_ticked fixed s) parts
ticks_told fixed before s parts locked certain none l k h =
    let is : PortTick locked certain ≡ tick_of fixed s.node = ap₂ PortTick l k in
    parts_same fixed before (given Every (tick_of fixed s.node) fixed s) (ports_ticked fixed s) parts
    (record {
      told = λ q. refl;
      counters = λ q. refl;
      sends = λ q. ap (newest_sends (sends_of (setting_of fixed.set q) (line_at fixed.set s.node q) (tick_of fixed s.node))) (none q)
          ∙ newest_alone (sends_of (setting_of fixed.set q) (line_at fixed.set s.node q) (tick_of fixed s.node));
    }) refl refl refl
    (subst (λ (x : PortIn). PartsIn fixed before (given Every x fixed s) parts) is h)
