-- The same inputs give the same node, except for answers of the law that nobody asked for, and the same outputs.
use Rattle.std.proofs.Common.{◌≡◌, ◌∙◌, refl, ap, ap₂, sym, subst, ℕ, ℤ, pos, Bool, true, false, cond, ◌==◌, ◌%◌, ◌&&◌, if◌then◌else◌, IsTrue, List, [], ◌∷◌, ◌++◌, flat_map, Option, None, Some, is_some, Result, Ok, Err, arith}
use Rattle.wrp_base.specs.declared.link.Deltas.{Deltas}
use Rattle.wrp_base.specs.declared.measurement.Four.{Four}
use Rattle.wrp_base.specs.declared.link.ServoState.TheVariants.{Uninit}
use Rattle.wrp_base.specs.declared.message.PtpMsg.{PtpMsg}
use Rattle.wrp_base.specs.declared.time.Raw.{Raw}
use Rattle.wrp_data.specs.declared.reason.Reason.{Reason}
use Rattle.wrp_frame.specs.declared.fault.FrameFault.{FrameFault}
use Rattle.wrp_frame.proofs.Exact.{exactly_spelled, exactly_refused}
use Rattle.wrp_node.specs.declared.interface.Input.{Input}
use Rattle.wrp_node.specs.declared.interface.Input.TheVariants.{Tick, Sample, Frame, Sent, Carrier, Reset}
use Rattle.wrp_node.specs.declared.interface.Output.{Output}
use Rattle.wrp_node.specs.NodeAt.{Taken, NodeSetting, NodeAt, slave_of, numbers_of, setting_of, line_at, link_at, servo_setting_of, servo_at, is_fresh_in, deltas_in}
use Rattle.wrp_node.specs.NodeRun.{IsSaid, AllSaid, node_after, outputs_of, step_out, dac_out, servo_out, port_out, track_out, est_out}
use Rattle.wrp_frame.specs.Saying.{Says}
use Rattle.wrp_node.specs.NodeStep.{counted_tick, lease_ticked, servo_ticked, ports_ticked, message_of, used, measurement_by, measured_at, heard_unless, heard, handed, is_slave_port, stepped, node_step}
use Rattle.wrp_node.specs.OneRun.{SameInputs, answers_by, OneRun, OneNode}
use Rattle.wrp_node.specs.Telling.{Step, step_from, tell, answer_of, called, for_slave, number_of, is_changed, lease_change, link_change, with_lease, with_link, settled, told_all, told_by, counted_by, newest_step}
use Rattle.std.specs.Option.{option_or}
use Rattle.wrp_port.specs.declared.interface.PortIn.{PortIn}
use Rattle.wrp_port.specs.declared.interface.PortIn.TheVariants.{Tick as PortTick, Carrier as PortCarrier}
use Rattle.wrp_port.specs.Outputs.{sends_of}
use Rattle.wrp_port.specs.Hearing.{early_reason}
use Rattle.wrp_servo.specs.Call.{Call, CallSample, CallMeasured, CallTick, CallLease, CallLink, CallCarrier, CallReset, ServoSetting, after, run}
use Rattle.wrp_servo.specs.declared.interface.ServoOut.{ServoOut}
use Rattle.wrp_servo.specs.declared.machine.Core.{Core}
use Rattle.wrp_servo.specs.Measuring.{x_of, is_in, kept_of, placed, cycles_in, answered, answered_cycles, deltas_in_chain}
use Rattle.wrp_servo.specs.Sampling.{est_of}
use Rattle.wrp_servo.specs.Servo.{IsAnswer, AllAnswered, plain_out, news_of, refused_by, answer_to, est_now}
use Rattle.wrp_servo.specs.Table.{is_track, ended}
use Rattle.wrp_servo.specs.Told.{lease_told, link_told, ToldLast}

-- ---- what octets say is one

pub ok_of : (octets : List ℕ) (a : Result PtpMsg FrameFault) → Says octets a → (b : Result PtpMsg FrameFault) → Says octets b → a ≡ b
ok_of octets (Ok m) h (Ok k) g = (exactly_spelled octets (Ok m) h tt k).1 g
ok_of octets (Ok m) h (Err f) g = (exactly_refused octets (Ok m) h tt f).1 g
ok_of octets (Err e) h (Ok k) g = (exactly_spelled octets (Err e) tt h k).1 g
ok_of octets (Err e) h (Err f) g = (exactly_refused octets (Err e) tt h f).1 g

-- ---- two servos in one state, after lists of calls that may differ in answers

abbrev pub SameServo : NodeSetting → List Call → List Call → Type 0
SameServo fixed calls others = run (servo_setting_of fixed) calls ≡ run (servo_setting_of fixed) others

same_lease : ToldLast → (fixed : NodeSetting) (calls others : List Call) → SameServo fixed calls others → lease_told calls ≡ lease_told others
same_lease last fixed calls others h =
    sym (last (servo_setting_of fixed) calls).lease ∙ ap (λ (v : Core). v.signals.lease) h ∙ (last (servo_setting_of fixed) others).lease

same_link : ToldLast → (fixed : NodeSetting) (calls others : List Call) → SameServo fixed calls others → link_told calls ≡ link_told others
same_link last fixed calls others h =
    sym (last (servo_setting_of fixed) calls).link ∙ ap (λ (v : Core). v.signals.link) h ∙ (last (servo_setting_of fixed) others).link

-- ---- what both are given

-- the two servos are given the same call, as far as it counts
record SameCall (fixed : NodeSetting) (calls others : List Call) (call other : Option Call) : Type 0 where
  number : number_of call ≡ number_of other
  answer : answer_of fixed call calls ≡ answer_of fixed other others
  servo : SameServo fixed (called call calls) (called other others)

one_call : (fixed : NodeSetting) (calls others : List Call) (call : Option Call) → SameServo fixed calls others → SameCall fixed calls others call call
one_call fixed calls others None h = record { number = refl; answer = refl; servo = h }
one_call fixed calls others (Some c) h = record {
  number = refl;
  answer = ap (λ (v : Core). answer_to (servo_setting_of fixed) v c) h;
  servo = ap (λ (v : Core). after (servo_setting_of fixed) v c) h;
}

-- a measurement: if the law is not asked, its answer has no effect
cond_same : {A : Type 0} (b : Bool) (g : ℤ → A) (z : A) (y w : ℤ) → (IsTrue b → y ≡ w) → cond b (g y) z ≡ cond b (g w) z
cond_same true g z y w h = ap g (h (grind arith))
cond_same false g z y w h = refl

after_same : (x : ServoSetting) (v : Core) (f : Four) (y w : ℤ) (o : Option Deltas) → ((d : Deltas) → o ≡ Some d → IsTrue (is_in x.lo x.hi (x_of d f)) → y ≡ w) →
    answered x.lo x.hi v f y o ≡ answered x.lo x.hi v f w o
after_same x v f y w None h = refl
after_same x v f y w (Some d) h = cond_same (is_in x.lo x.hi (x_of d f)) (λ (k : ℤ). placed v (kept_of f d k)) (ended v) y w (h d refl)

cycles_same : (x : ServoSetting) (v : Core) (f : Four) (y w : ℤ) (o : Option Deltas) → ((d : Deltas) → o ≡ Some d → IsTrue (is_in x.lo x.hi (x_of d f)) → y ≡ w) →
    answered_cycles x.lo x.hi v f y o ≡ answered_cycles x.lo x.hi v f w o
cycles_same x v f y w None h = refl
cycles_same x v f y w (Some d) h =
    cond_same (is_in x.lo x.hi (x_of d f)) (λ (k : ℤ). cycles_in v (est_of v.phase.u (kept_of f d k)) v.state) (pos 0) y w (h d refl)

one_answer : (law : ℤ → ℤ) (x : ServoSetting) (v : Core) (f : Four) (y w : ℤ) → IsAnswer (answers_by law) x v f y → IsAnswer (answers_by law) x v f w →
    (d : Deltas) → deltas_in_chain v ≡ Some d → IsTrue (is_in x.lo x.hi (x_of d f)) → y ≡ w
one_answer law x v f y w a b d e t = a d e t ∙ sym (b d e t)

measured_call : (law : ℤ → ℤ) (fixed : NodeSetting) (calls others : List Call) (f : Four) (y w : ℤ) → SameServo fixed calls others →
    AllAnswered (answers_by law) (servo_setting_of fixed) (CallMeasured f y ∷ calls) → AllAnswered (answers_by law) (servo_setting_of fixed) (CallMeasured f w ∷ others) →
    SameCall fixed calls others (Some (CallMeasured f y)) (Some (CallMeasured f w))
measured_call law fixed calls others f y w h a b =
    let x : ServoSetting = servo_setting_of fixed in
    let v : Core = run x calls in
    let one : (d : Deltas) → deltas_in_chain v ≡ Some d → IsTrue (is_in x.lo x.hi (x_of d f)) → y ≡ w =
    one_answer law x v f y w a.0 (subst (λ (k : Core). IsAnswer (answers_by law) x k f w) (sym h) b.0) in
    let new : answered x.lo x.hi v f y (deltas_in_chain v) ≡ answered x.lo x.hi v f w (deltas_in_chain v) = after_same x v f y w (deltas_in_chain v) one in
    record {
      number = refl;
      answer = ap₂ (λ (k : ℤ) (c : Core). plain_out k (news_of v.first c.first) (refused_by x f (deltas_in_chain v))) (cycles_same x v f y w (deltas_in_chain v) one) new
          ∙ ap (λ (k : Core). answer_to x k (CallMeasured f w)) h;
      servo = new ∙ ap (λ (k : Core). after x k (CallMeasured f w)) h;
    }

-- ---- two nodes, and two steps, that differ in such answers alone

abbrev pub with_calls : List Call → NodeAt → NodeAt
with_calls calls n = record n { calls = calls }

abbrev pub step_with : List Call → Step → Step
step_with calls s = record s { node = with_calls calls s.node }

pub record SameNode (fixed : NodeSetting) (n o : NodeAt) : Type 0 where
  pub calls : List Call
  pub is : o ≡ with_calls calls n
  pub servo : SameServo fixed n.calls calls

pub record SameStep (fixed : NodeSetting) (r s : Step) : Type 0 where
  pub calls : List Call
  pub is : s ≡ step_with calls r
  pub servo : SameServo fixed r.node.calls calls

-- an answer of the servo, taken
abbrev taken_out : NodeSetting → ℕ → ServoOut → List Call → Step → Step
taken_out fixed number out calls s = record {
  node = record {
    ticks = s.node.ticks;
    told = told_by (slave_of fixed.set) out number s.node.told;
    calls = calls;
    counters = counted_by (slave_of fixed.set) out s.node.counters;
  };
  cycles = newest_step out.cycles s.cycles;
  dac = option_or out.dac s.dac;
  sends = s.sends;
}

tell_same : (fixed : NodeSetting) (r : Step) (calls : List Call) (call other : Option Call) → SameCall fixed r.node.calls calls call other →
    SameStep fixed (tell fixed call r) (tell fixed other (step_with calls r))
tell_same fixed r calls call other h = record {
  calls = called other calls;
  is = sym (ap₂ (λ (k : ℕ) (out : ServoOut). taken_out fixed k out (called other calls) r) h.number h.answer);
  servo = h.servo;
}

-- every port is given an input
abbrev ports_by : NodeSetting → PortIn → Step → Step
ports_by fixed input s = record s {
  node = record s.node { told = told_all s.node.told input };
  sends = λ p. sends_of (setting_of fixed.set p) (line_at fixed.set s.node p) input;
}

-- both are given the same changes of the lease and the link
lease_same : ToldLast → (fixed : NodeSetting) (r s : Step) → SameStep fixed r s → SameStep fixed (with_lease fixed r) (with_lease fixed s)
lease_same last fixed r s h =
    let same : lease_change fixed (with_calls h.calls r.node) ≡ lease_change fixed r.node =
    ap (λ (b : Bool). for_slave fixed (if is_changed b (is_fresh_in fixed.set r.node) then Some (CallLease (is_fresh_in fixed.set r.node)) else None))
    (sym (same_lease last fixed r.node.calls h.calls h.servo)) in
    subst (λ (z : Step). SameStep fixed (with_lease fixed r) (with_lease fixed z)) (sym h.is)
    (subst (λ (c : Option Call). SameStep fixed (with_lease fixed r) (tell fixed c (step_with h.calls r))) (sym same)
    (tell_same fixed r h.calls (lease_change fixed r.node) (lease_change fixed r.node) (one_call fixed r.node.calls h.calls (lease_change fixed r.node) h.servo)))

link_same : ToldLast → (fixed : NodeSetting) (r s : Step) → SameStep fixed r s → SameStep fixed (with_link fixed r) (with_link fixed s)
link_same last fixed r s h =
    let same : link_change fixed (with_calls h.calls r.node) ≡ link_change fixed r.node =
    ap (λ (o : Option Deltas). for_slave fixed (if is_changed (is_some o) (is_some (deltas_in fixed.set r.node)) then Some (CallLink (deltas_in fixed.set r.node)) else None))
    (sym (same_link last fixed r.node.calls h.calls h.servo)) in
    subst (λ (z : Step). SameStep fixed (with_link fixed r) (with_link fixed z)) (sym h.is)
    (subst (λ (c : Option Call). SameStep fixed (with_link fixed r) (tell fixed c (step_with h.calls r))) (sym same)
    (tell_same fixed r h.calls (link_change fixed r.node) (link_change fixed r.node) (one_call fixed r.node.calls h.calls (link_change fixed r.node) h.servo)))

settled_same : ToldLast → (fixed : NodeSetting) (r s : Step) → SameStep fixed r s → SameStep fixed (settled fixed r) (settled fixed s)
settled_same last fixed r s h = link_same last fixed (with_lease fixed r) (with_lease fixed s) (lease_same last fixed r s h)

-- both are given the same call
told_same : (fixed : NodeSetting) (call : Option Call) (r s : Step) → SameStep fixed r s → SameStep fixed (tell fixed call r) (tell fixed call s)
told_same fixed call r s h =
    subst (λ (z : Step). SameStep fixed (tell fixed call r) (tell fixed call z)) (sym h.is)
    (tell_same fixed r h.calls call call (one_call fixed r.node.calls h.calls call h.servo))

-- ---- each input

ports_same : (fixed : NodeSetting) (r s : Step) → SameStep fixed r s → SameStep fixed (ports_ticked fixed r) (ports_ticked fixed s)
ports_same fixed r s h =
    let x : ServoSetting = servo_setting_of fixed in
    let same : ports_ticked fixed (step_with h.calls r) ≡ step_with h.calls (ports_ticked fixed r) =
    ap (λ (v : Core). ports_by fixed (PortTick (if is_some (slave_of fixed.set) then v.phase.lock.locked else false) (if is_some (slave_of fixed.set) then is_track v.state else true)) (step_with h.calls r)) (sym h.servo) in
    record { calls = h.calls; is = ap (ports_ticked fixed) h.is ∙ same; servo = h.servo }

abbrev pub Answered : (ℤ → ℤ) → NodeSetting → Step → Type 0
Answered law fixed s = AllAnswered (answers_by law) (servo_setting_of fixed) s.node.calls

tick_same : ToldLast → (fixed : NodeSetting) (n : NodeAt) (calls : List Call) → SameServo fixed n.calls calls →
    SameStep fixed (ports_ticked fixed (servo_ticked fixed n)) (ports_ticked fixed (servo_ticked fixed (with_calls calls n)))
tick_same last fixed n calls h =
    let began : SameStep fixed (step_from (counted_tick fixed n)) (step_from (counted_tick fixed (with_calls calls n))) = record { calls = calls; is = refl; servo = h } in
    let servo : SameStep fixed (servo_ticked fixed n) (servo_ticked fixed (with_calls calls n)) =
    told_same fixed (for_slave fixed (Some CallTick)) (lease_ticked fixed n) (lease_ticked fixed (with_calls calls n))
    (lease_same last fixed (step_from (counted_tick fixed n)) (step_from (counted_tick fixed (with_calls calls n))) began) in
    ports_same fixed (servo_ticked fixed n) (servo_ticked fixed (with_calls calls n)) servo

asked_same : (law : ℤ → ℤ) (fixed : NodeSetting) (r : Step) (calls : List Call) (four : Option Four) (y w : ℤ) (b : Bool) → SameServo fixed r.node.calls calls →
    AllAnswered (answers_by law) (servo_setting_of fixed) (called (if b then measurement_by four y else None) r.node.calls) →
    AllAnswered (answers_by law) (servo_setting_of fixed) (called (if b then measurement_by four w else None) calls) →
    SameCall fixed r.node.calls calls (if b then measurement_by four y else None) (if b then measurement_by four w else None)
asked_same law fixed r calls None y w true h a b = one_call fixed r.node.calls calls None h
asked_same law fixed r calls (Some f) y w true h a b = measured_call law fixed r.node.calls calls f y w h a b
asked_same law fixed r calls four y w false h a b = one_call fixed r.node.calls calls None h

unless_same : (law : ℤ → ℤ) (fixed : NodeSetting) (p : ℕ) (input : PortIn) (y w : ℤ) (n : NodeAt) (calls : List Call) (reason : Option Reason) → SameServo fixed n.calls calls →
    Answered law fixed (heard_unless reason fixed p input y n) → Answered law fixed (heard_unless reason fixed p input w (with_calls calls n)) →
    SameStep fixed (heard_unless reason fixed p input y n) (heard_unless reason fixed p input w (with_calls calls n))
unless_same law fixed p input y w n calls None h a b =
    tell_same fixed (used fixed p input n) calls (for_slave fixed (measurement_by (measured_at fixed n p input) y)) (for_slave fixed (measurement_by (measured_at fixed n p input) w))
    (asked_same law fixed (used fixed p input n) calls (measured_at fixed n p input) y w (is_some (slave_of fixed.set)) h a b)
unless_same law fixed p input y w n calls (Some reason) h a b = record { calls = calls; is = refl; servo = h }

heard_same : (law : ℤ → ℤ) (fixed : NodeSetting) (p : ℕ) (says : Result PtpMsg FrameFault) (raw : Raw) (sample : ℕ) (y w : ℤ) (n : NodeAt) (calls : List Call) → SameServo fixed n.calls calls →
    Answered law fixed (heard fixed p says raw sample y n) → Answered law fixed (heard fixed p says raw sample w (with_calls calls n)) →
    SameStep fixed (heard fixed p says raw sample y n) (heard fixed p says raw sample w (with_calls calls n))
heard_same law fixed p (Err fault) raw sample y w n calls h a b = record { calls = calls; is = refl; servo = h }
heard_same law fixed p (Ok m) raw sample y w n calls h a b =
    unless_same law fixed p (message_of fixed n p m raw sample) y w n calls (early_reason (setting_of fixed.set p) (link_at fixed.set n p) m) h a b

-- what each says is one where the input is a frame, and counts for nothing elsewhere
stepped_same : ToldLast → (law : ℤ → ℤ) (fixed : NodeSetting) (input : Input) (says others : Result PtpMsg FrameFault) (y w : ℤ) (n : NodeAt) (calls : List Call) → SameServo fixed n.calls calls →
    IsSaid input says → IsSaid input others → Answered law fixed (stepped fixed input says y n) → Answered law fixed (stepped fixed input others w (with_calls calls n)) →
    SameStep fixed (stepped fixed input says y n) (stepped fixed input others w (with_calls calls n))
stepped_same last law fixed Tick says others y w n calls h s t a b = tick_same last fixed n calls h
stepped_same last law fixed (Sample number base bits) says others y w n calls h s t a b =
    tell_same fixed (step_from n) calls (for_slave fixed (Some (CallSample number base bits))) (for_slave fixed (Some (CallSample number base bits)))
    (one_call fixed n.calls calls (for_slave fixed (Some (CallSample number base bits))) h)
stepped_same last law fixed (Frame p octets raw sample) says others y w n calls h s t a b =
    let one : says ≡ others = ok_of octets.items says s others t in
    subst (λ (z : Result PtpMsg FrameFault). SameStep fixed (heard fixed p says raw sample y n) (heard fixed p z raw sample w (with_calls calls n))) one
    (heard_same law fixed p says raw sample y w n calls h a
    (subst (λ (z : Result PtpMsg FrameFault). Answered law fixed (heard fixed p z raw sample w (with_calls calls n))) (sym one) b))
stepped_same last law fixed (Sent p seq delay stamp) says others y w n calls h s t a b = record { calls = calls; is = refl; servo = h }
stepped_same last law fixed (Carrier p up own_module) says others y w n calls h s t a b =
    let call : Option Call = for_slave fixed (if is_slave_port (slave_of fixed.set) p then Some (CallCarrier up) else None) in
    tell_same fixed (handed fixed p (PortCarrier up own_module) n) calls call call (one_call fixed n.calls calls call h)
stepped_same last law fixed Reset says others y w n calls h s t a b =
    let call : Option Call = for_slave fixed (Some CallReset) in
    record { calls = called call calls; is = refl; servo = (one_call fixed n.calls calls call h).servo }

-- ---- a whole input, and the whole list

-- what was answered before a call was given
answered_before : (answers : ℤ → ℤ → Type 0) (x : ServoSetting) (call : Option Call) (calls : List Call) → AllAnswered answers x (called call calls) → AllAnswered answers x calls
answered_before answers x None calls a = a
answered_before answers x (Some (CallSample n base bits)) calls a = a
answered_before answers x (Some (CallMeasured f y)) calls a = a.1
answered_before answers x (Some CallTick) calls a = a
answered_before answers x (Some (CallLease fresh)) calls a = a
answered_before answers x (Some (CallLink on)) calls a = a
answered_before answers x (Some (CallCarrier up)) calls a = a
answered_before answers x (Some CallReset) calls a = a

-- before the servo was given what changed
before_settled : (law : ℤ → ℤ) (fixed : NodeSetting) (s : Step) → Answered law fixed (settled fixed s) → Answered law fixed s
before_settled law fixed s a =
    let leased : Answered law fixed (with_lease fixed s) =
    answered_before (answers_by law) (servo_setting_of fixed) (link_change fixed (with_lease fixed s).node) (with_lease fixed s).node.calls a in
    answered_before (answers_by law) (servo_setting_of fixed) (lease_change fixed s.node) s.node.calls leased

-- before a message was heard
before_unless : (law : ℤ → ℤ) (fixed : NodeSetting) (p : ℕ) (input : PortIn) (y : ℤ) (n : NodeAt) (reason : Option Reason) → Answered law fixed (heard_unless reason fixed p input y n) → Answered law fixed (step_from n)
before_unless law fixed p input y n None a =
    answered_before (answers_by law) (servo_setting_of fixed) (for_slave fixed (measurement_by (measured_at fixed n p input) y)) n.calls a
before_unless law fixed p input y n (Some reason) a = a

before_heard : (law : ℤ → ℤ) (fixed : NodeSetting) (p : ℕ) (says : Result PtpMsg FrameFault) (raw : Raw) (sample : ℕ) (y : ℤ) (n : NodeAt) → Answered law fixed (heard fixed p says raw sample y n) → Answered law fixed (step_from n)
before_heard law fixed p (Err fault) raw sample y n a = a
before_heard law fixed p (Ok m) raw sample y n a =
    before_unless law fixed p (message_of fixed n p m raw sample) y n (early_reason (setting_of fixed.set p) (link_at fixed.set n p) m) a

-- before an input
before_stepped : (law : ℤ → ℤ) (fixed : NodeSetting) (input : Input) (says : Result PtpMsg FrameFault) (y : ℤ) (n : NodeAt) → Answered law fixed (stepped fixed input says y n) → Answered law fixed (step_from n)
before_stepped law fixed Tick says y n a =
    let leased : Answered law fixed (lease_ticked fixed n) =
    answered_before (answers_by law) (servo_setting_of fixed) (for_slave fixed (Some CallTick)) (lease_ticked fixed n).node.calls a in
    answered_before (answers_by law) (servo_setting_of fixed) (lease_change fixed (counted_tick fixed n)) n.calls leased
before_stepped law fixed (Sample number base bits) says y n a = answered_before (answers_by law) (servo_setting_of fixed) (for_slave fixed (Some (CallSample number base bits))) n.calls a
before_stepped law fixed (Frame p octets raw sample) says y n a = before_heard law fixed p says raw sample y n a
before_stepped law fixed (Sent p seq delay stamp) says y n a = a
before_stepped law fixed (Carrier p up own_module) says y n a =
    answered_before (answers_by law) (servo_setting_of fixed) (for_slave fixed (if is_slave_port (slave_of fixed.set) p then Some (CallCarrier up) else None)) n.calls a
before_stepped law fixed Reset says y n a = answered_before (answers_by law) (servo_setting_of fixed) (for_slave fixed (Some CallReset)) n.calls a

-- one input more at two such nodes
step_at : ToldLast → (law : ℤ → ℤ) (fixed : NodeSetting) (t u : Taken) (n o : NodeAt) → t.input ≡ u.input → IsSaid t.input t.says → IsSaid u.input u.says → SameNode fixed n o →
    Answered law fixed (node_step fixed t n) → Answered law fixed (node_step fixed u o) → SameStep fixed (node_step fixed t n) (node_step fixed u o)
step_at last law fixed t u n o e s k h a b =
    let first : Answered law fixed (stepped fixed t.input t.says t.answer n) = before_settled law fixed (stepped fixed t.input t.says t.answer n) a in
    let other : Answered law fixed (stepped fixed u.input u.says u.answer o) = before_settled law fixed (stepped fixed u.input u.says u.answer o) b in
    settled_same last fixed (stepped fixed t.input t.says t.answer n) (stepped fixed u.input u.says u.answer o)
    (subst (λ (z : NodeAt). SameStep fixed (stepped fixed t.input t.says t.answer n) (stepped fixed u.input u.says u.answer z)) (sym h.is)
    (subst (λ (x : Input). SameStep fixed (stepped fixed t.input t.says t.answer n) (stepped fixed x u.says u.answer (with_calls h.calls n))) e
    (stepped_same last law fixed t.input t.says u.says t.answer u.answer n h.calls h.servo s (subst (λ (x : Input). IsSaid x u.says) (sym e) k) first
    (subst (λ (x : Input). Answered law fixed (stepped fixed x u.says u.answer (with_calls h.calls n))) (sym e)
    (subst (λ (z : NodeAt). Answered law fixed (stepped fixed u.input u.says u.answer z)) h.is other)))))

-- the same input, of whose octets the same is said
stepped_alike : ToldLast → (law : ℤ → ℤ) (fixed : NodeSetting) (input : Input) (says : Result PtpMsg FrameFault) (y w : ℤ) (n : NodeAt) (calls : List Call) → SameServo fixed n.calls calls →
    Answered law fixed (stepped fixed input says y n) → Answered law fixed (stepped fixed input says w (with_calls calls n)) →
    SameStep fixed (stepped fixed input says y n) (stepped fixed input says w (with_calls calls n))
stepped_alike last law fixed Tick says y w n calls h a b = stepped_same last law fixed Tick says says y w n calls h tt tt a b
stepped_alike last law fixed (Sample number base bits) says y w n calls h a b = stepped_same last law fixed (Sample number base bits) says says y w n calls h tt tt a b
stepped_alike last law fixed (Frame p octets raw sample) says y w n calls h a b = heard_same law fixed p says raw sample y w n calls h a b
stepped_alike last law fixed (Sent p seq delay stamp) says y w n calls h a b = stepped_same last law fixed (Sent p seq delay stamp) says says y w n calls h tt tt a b
stepped_alike last law fixed (Carrier p up own_module) says y w n calls h a b = stepped_same last law fixed (Carrier p up own_module) says says y w n calls h tt tt a b
stepped_alike last law fixed Reset says y w n calls h a b = stepped_same last law fixed Reset says says y w n calls h tt tt a b

pub step_alike : ToldLast → (law : ℤ → ℤ) (fixed : NodeSetting) (input : Input) (says : Result PtpMsg FrameFault) (y w : ℤ) (n : NodeAt) (calls : List Call) → SameServo fixed n.calls calls →
    Answered law fixed (node_step fixed (record { input = input; says = says; answer = y }) n) →
    Answered law fixed (node_step fixed (record { input = input; says = says; answer = w }) (with_calls calls n)) →
    SameStep fixed (node_step fixed (record { input = input; says = says; answer = y }) n) (node_step fixed (record { input = input; says = says; answer = w }) (with_calls calls n))
step_alike last law fixed input says y w n calls h a b =
    settled_same last fixed (stepped fixed input says y n) (stepped fixed input says w (with_calls calls n))
    (stepped_alike last law fixed input says y w n calls h (before_settled law fixed (stepped fixed input says y n) a)
    (before_settled law fixed (stepped fixed input says w (with_calls calls n)) b))

-- what was answered before the newest input
pub before_step : (law : ℤ → ℤ) (fixed : NodeSetting) (t : Taken) (n : NodeAt) → Answered law fixed (node_step fixed t n) → Answered law fixed (step_from n)
before_step law fixed t n a =
    before_stepped law fixed t.input t.says t.answer n (before_settled law fixed (stepped fixed t.input t.says t.answer n) a)

after_all : ToldLast → (law : ℤ → ℤ) (fixed : NodeSetting) (inputs others : List Taken) → SameInputs inputs others → AllSaid inputs → AllSaid others →
    Answered law fixed (step_from (node_after fixed inputs)) → Answered law fixed (step_from (node_after fixed others)) → SameNode fixed (node_after fixed inputs) (node_after fixed others)
after_all last law fixed [] [] e s k a b = record { calls = []; is = refl; servo = refl }
after_all last law fixed [] (u ∷ others) e s k a b = absurd e
after_all last law fixed (t ∷ inputs) [] e s k a b = absurd e
after_all last law fixed (t ∷ inputs) (u ∷ others) e s k a b =
    let n : NodeAt = node_after fixed inputs in
    let o : NodeAt = node_after fixed others in
    let before : SameNode fixed n o = after_all last law fixed inputs others e.1 s.1 k.1 (before_step law fixed t n a) (before_step law fixed u o b) in
    let step : SameStep fixed (node_step fixed t n) (node_step fixed u o) = step_at last law fixed t u n o e.0 s.0 k.0 before a b in
    record { calls = step.calls; is = ap (λ (z : Step). z.node) step.is; servo = step.servo }

-- ---- what is put out

track_same : (fixed : NodeSetting) (input : Input) (n : NodeAt) (calls : List Call) → SameServo fixed n.calls calls → track_out fixed input n ≡ track_out fixed input (with_calls calls n)
track_same fixed Tick n calls h =
    ap (λ (v : Core). if is_track (if is_some (slave_of fixed.set) then v.state else Uninit) && (n.ticks % fixed.set.report == 0) then est_out (est_now v) else []) h
track_same fixed (Sample number base bits) n calls h = refl
track_same fixed (Frame p octets raw sample) n calls h = refl
track_same fixed (Sent p seq delay stamp) n calls h = refl
track_same fixed (Carrier p up own_module) n calls h = refl
track_same fixed Reset n calls h = refl

outputs_same : (fixed : NodeSetting) (input : Input) (n : NodeAt) (s : Step) (calls others : List Call) → SameServo fixed n.calls calls → SameServo fixed s.node.calls others →
    outputs_of fixed input n s ≡ outputs_of fixed input (with_calls calls n) (step_with others s)
outputs_same fixed input n s calls others h k =
    ap₂ (λ (states track : List Output). step_out s.cycles ++ dac_out s.dac ++ states ++ flat_map (port_out fixed n s) (numbers_of fixed.set) ++ track)
    (ap₂ (λ (v w : Core). servo_out (if is_some (slave_of fixed.set) then v.state else Uninit) (if is_some (slave_of fixed.set) then w.state else Uninit)) h k)
    (track_same fixed input s.node others k)

pub put_out_same : (fixed : NodeSetting) (x y : Input) (n o : NodeAt) (r s : Step) → x ≡ y → SameNode fixed n o → SameStep fixed r s → outputs_of fixed x n r ≡ outputs_of fixed y o s
put_out_same fixed x y n o r s e h k =
    outputs_same fixed x n r h.calls k.calls h.servo k.servo
    ∙ ap (λ (z : NodeAt). outputs_of fixed x z (step_with k.calls r)) (sym h.is)
    ∙ ap₂ (λ (i : Input) (z : Step). outputs_of fixed i o z) e (sym k.is)

pub one_run : ToldLast → OneRun
one_run last law fixed before other t u outs others a b e =
    let n : NodeAt = node_after fixed before in
    let o : NodeAt = node_after fixed other in
    let same : SameNode fixed n o = after_all last law fixed before other e.1 a.said.1 b.said.1 (before_step law fixed t n a.answered) (before_step law fixed u o b.answered) in
    a.outputs
    ∙ put_out_same fixed t.input u.input n o (node_step fixed t n) (node_step fixed u o) e.0 same
    (step_at last law fixed t u n o e.0 a.said.0 b.said.0 same a.answered b.answered)
    ∙ sym b.outputs

pub one_node : ToldLast → OneNode
one_node last law fixed inputs others a b e =
    let n : NodeAt = node_after fixed inputs in
    let same : SameNode fixed n (node_after fixed others) = after_all last law fixed inputs others e a.said b.said a.answered b.answered in
    record {
      ticks = ap (λ (z : NodeAt). z.ticks) (sym same.is);
      told = λ p. ap (λ (z : NodeAt). z.told p) (sym same.is);
      counters = λ p. ap (λ (z : NodeAt). z.counters p) (sym same.is);
      servo = same.servo ∙ ap (servo_at fixed) (sym same.is);
    }
