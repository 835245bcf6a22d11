-- The run of a node that keeps a law, as the relation between its inputs and what it puts out.
use Rattle.std.proofs.Common.{◌≡◌, ◌∙◌, refl, ap, sym, subst, ℕ, ℤ, ◌+◌, ◌≤◌, ◌≤ℤ◌, Bool, true, false, if◌then◌else◌, IsTrue, List, [], ◌∷◌, Option, None, Some, IfSome, Result, Ok, Err, is_some, option_map, arith}
use Rattle.std.proofs.lemmas.Int.{ints}
use Rattle.wrp_base.specs.declared.message.PtpMsg.{PtpMsg}
use Rattle.wrp_data.specs.declared.reason.Reason.{Reason}
use Rattle.wrp_frame.specs.declared.fault.FrameFault.{FrameFault}
use Rattle.wrp_law.specs.Law.{LawOf}
use Rattle.wrp_node.specs.Control.{ToldServo, ServoIs, law_in}
use Rattle.wrp_node.specs.declared.interface.Input.{Input}
use Rattle.wrp_node.specs.declared.interface.Input.TheVariants.{Tick, Sample, Frame, Sent, Carrier, Reset}
use Rattle.wrp_node.specs.declared.interface.Output.{Output}
use Rattle.wrp_node.specs.NodeAt.{Taken, NodeSetting, NodeAt, slave_of, servo_setting_of, setting_of, link_at}
use Rattle.wrp_node.specs.NodeRun.{NodeRun, node_after}
use Rattle.wrp_node.specs.NodeStep.{counted_tick, lease_ticked, message_of, measured_at, measurement_by, heard_unless, is_slave_port, stepped, node_step}
use Rattle.wrp_node.specs.OneRun.{answers_by, IsRun}
use Rattle.wrp_node.specs.StandsFor.{NodeOf, StandsFor, Steps}
use Rattle.wrp_node.specs.Telling.{Step, called, settled, with_lease, step_from}
use Rattle.wrp_port.specs.declared.interface.PortIn.{PortIn}
use Rattle.wrp_port.specs.Hearing.{early_reason}
use Rattle.wrp_servo.specs.Call.{Call, CallSample, CallMeasured, CallTick, CallLease, CallLink, CallCarrier, CallReset, ServoSetting}
use Rattle.wrp_servo.specs.Measuring.{is_in, x_of}
use Rattle.wrp_servo.specs.Servo.{AllAnswered}
use Rattle.wrp_replay.specs.DownLaw.{AnswersBy}

-- A node without a slave port has no servo that is given anything

none_told : (b : Bool) (call : Option Call) (calls : List Call) → b ≡ false → called (if b then call else None) calls ≡ calls
none_told true call calls e = absurd (cc)
none_told false call calls e = refl

abbrev pub HasNoSlave : NodeSetting → Type 0
HasNoSlave fixed = is_some (slave_of fixed.set) ≡ false

abbrev pub NoCalls : NodeAt → Type 0
NoCalls n = n.calls ≡ []

leased_none : (fixed : NodeSetting) (s : Step) → HasNoSlave fixed → NoCalls s.node → NoCalls (with_lease fixed s).node
leased_none fixed s e h = none_told (is_some (slave_of fixed.set)) _ s.node.calls e ∙ h

settled_none : (fixed : NodeSetting) (s : Step) → HasNoSlave fixed → NoCalls s.node → NoCalls (settled fixed s).node
settled_none fixed s e h = none_told (is_some (slave_of fixed.set)) _ (with_lease fixed s).node.calls e ∙ leased_none fixed s e h

heard_none : (fixed : NodeSetting) (p : ℕ) (input : PortIn) (y : ℤ) (n : NodeAt) (reason : Option Reason) → HasNoSlave fixed → NoCalls n → NoCalls (heard_unless reason fixed p input y n).node
heard_none fixed p input y n None e h = none_told (is_some (slave_of fixed.set)) (measurement_by (measured_at fixed n p input) y) n.calls e ∙ h
heard_none fixed p input y n (Some reason) e h = h

stepped_none : (fixed : NodeSetting) (input : Input) (says : Result PtpMsg FrameFault) (y : ℤ) (n : NodeAt) → HasNoSlave fixed → NoCalls n → NoCalls (stepped fixed input says y n).node
stepped_none fixed Tick says y n e h =
    none_told (is_some (slave_of fixed.set)) (Some CallTick) (lease_ticked fixed n).node.calls e ∙ leased_none fixed (step_from (counted_tick fixed n)) e h
stepped_none fixed (Sample number base bits) says y n e h = none_told (is_some (slave_of fixed.set)) (Some (CallSample number base bits)) n.calls e ∙ h
stepped_none fixed (Frame p octets raw sample) (Err fault) y n e h = h
stepped_none fixed (Frame p octets raw sample) (Ok m) y n e h =
    heard_none fixed p (message_of fixed n p m raw sample) y n (early_reason (setting_of fixed.set p) (link_at fixed.set n p) m) e h
stepped_none fixed (Sent p seq delay stamp) says y n e h = h
stepped_none fixed (Carrier p up own_module) says y n e h =
    none_told (is_some (slave_of fixed.set)) (if is_slave_port (slave_of fixed.set) p then Some (CallCarrier up) else None) n.calls e ∙ h
stepped_none fixed Reset says y n e h = none_told (is_some (slave_of fixed.set)) (Some CallReset) n.calls e ∙ h

pub no_calls : (fixed : NodeSetting) (inputs : List Taken) → HasNoSlave fixed → NoCalls (node_after fixed inputs)
no_calls fixed [] e = refl
no_calls fixed (t ∷ before) e =
    settled_none fixed (stepped fixed t.input t.says t.answer (node_after fixed before)) e
    (stepped_none fixed t.input t.says t.answer (node_after fixed before) e (no_calls fixed before e))

-- What a kept closure answered, the law says

low_of_in : (lo hi x : ℤ) → IsTrue (is_in lo hi x) → lo ≤ℤ x
low_of_in lo hi x h = grind (arith, ints, h)

high_of_in : (lo hi x : ℤ) → IsTrue (is_in lo hi x) → x ≤ℤ hi
high_of_in lo hi x h = grind (arith, ints, h)

said_by : {F : Type 0} {post : F → ℤ → ℤ → Type 0} (law : ℤ → ℤ) (lo hi : ℤ) (kept : LawOf F) → lo ≡ kept.lo → hi ≡ kept.hi → AnswersBy post law kept
    → (x y : ℤ) → IsTrue (is_in lo hi x) → post kept.closure x y → y ≡ law x
said_by law lo hi kept low high by x y within is =
    by.answer x y (subst (λ (l : ℤ). l ≤ℤ x) low (low_of_in lo hi x within)) (subst (λ (h : ℤ). x ≤ℤ h) high (high_of_in lo hi x within)) is

answered_by : {F : Type 0} {post : F → ℤ → ℤ → Type 0} (law : ℤ → ℤ) (x : ServoSetting) (kept : LawOf F) → x.lo ≡ kept.lo → x.hi ≡ kept.hi → AnswersBy post law kept
    → (calls : List Call) → AllAnswered (post kept.closure) x calls → AllAnswered (answers_by law) x calls
answered_by law x kept low high by [] h = tt
answered_by law x kept low high by (CallSample n base bits ∷ calls) h = answered_by law x kept low high by calls h
answered_by law x kept low high by (CallMeasured f y ∷ calls) h =
    (λ d is within. said_by law x.lo x.hi kept low high by (x_of d f) y within (h.0 d is within), answered_by law x kept low high by calls h.1)
answered_by law x kept low high by (CallTick ∷ calls) h = answered_by law x kept low high by calls h
answered_by law x kept low high by (CallLease fresh ∷ calls) h = answered_by law x kept low high by calls h
answered_by law x kept low high by (CallLink on ∷ calls) h = answered_by law x kept low high by calls h
answered_by law x kept low high by (CallCarrier up ∷ calls) h = answered_by law x kept low high by calls h
answered_by law x kept low high by (CallReset ∷ calls) h = answered_by law x kept low high by calls h

by_servo : {F : Type 0} (post : F → ℤ → ℤ → Type 0) (law : ℤ → ℤ) (fixed : NodeSetting) (inputs : List Taken) (told : Option (ToldServo F))
    → IfSome (option_map (λ (t : ToldServo F). t.servo.law) told) (AnswersBy post law) → ServoIs post fixed (node_after fixed inputs).calls told
    → AllAnswered (answers_by law) (servo_setting_of fixed) (node_after fixed inputs).calls
by_servo post law fixed inputs None by is =
    subst (AllAnswered (answers_by law) (servo_setting_of fixed)) (sym (no_calls fixed inputs is)) tt
by_servo post law fixed inputs (Some t) by is =
    let servo = is.1.servo in
    answered_by law (servo_setting_of fixed) t.servo.law (ap (λ (x : ServoSetting). x.lo) servo.fixed) (ap (λ (x : ServoSetting). x.hi) servo.fixed) by (node_after fixed inputs).calls servo.answered

-- the inputs that a node stands for are a run of it
pub run_of : {F : Type 0} {post : F → ℤ → ℤ → Type 0} (law : ℤ → ℤ) (fixed : NodeSetting) (node : NodeOf F) (inputs : List Taken) → StandsFor post fixed node inputs
    → IfSome (law_in node.control) (AnswersBy post law) → IsRun law fixed inputs
run_of {post = post} law fixed node inputs stands by =
    record { said = stands.said; answered = by_servo post law fixed inputs node.control.told by stands.is_at.control.servo }

-- what it puts out is what its run puts out
pub node_run : {F : Type 0} {post : F → ℤ → ℤ → Type 0} (law : ℤ → ℤ) (fixed : NodeSetting) (old new : NodeOf F) (before : List Taken) (t : Taken) (outs : List Output)
    → StandsFor post fixed old before → Steps post old new t outs → IfSome (law_in new.control) (AnswersBy post law)
    → NodeRun (answers_by law) fixed before t outs
node_run law fixed old new before t outs stood steps by =
    let is = run_of law fixed new (t ∷ before) (steps.stands fixed before stood) by in
    record { said = is.said; answered = is.answered; outputs = steps.outputs fixed before stood }

-- Ticks

heard_ticks : (fixed : NodeSetting) (p : ℕ) (input : PortIn) (y : ℤ) (n : NodeAt) (reason : Option Reason) → (heard_unless reason fixed p input y n).node.ticks ≡ n.ticks
heard_ticks fixed p input y n None = refl
heard_ticks fixed p input y n (Some reason) = refl

stepped_ticks : (fixed : NodeSetting) (input : Input) (says : Result PtpMsg FrameFault) (y : ℤ) (n : NodeAt) → (stepped fixed input says y n).node.ticks ≤ n.ticks + 1
stepped_ticks fixed Tick says y n = omega arith
stepped_ticks fixed (Sample number base bits) says y n = omega arith
stepped_ticks fixed (Frame p octets raw sample) (Err fault) y n = omega arith
stepped_ticks fixed (Frame p octets raw sample) (Ok m) y n =
    let same = heard_ticks fixed p (message_of fixed n p m raw sample) y n (early_reason (setting_of fixed.set p) (link_at fixed.set n p) m) in
    omega (arith, same)
stepped_ticks fixed (Sent p seq delay stamp) says y n = omega arith
stepped_ticks fixed (Carrier p up own_module) says y n = omega arith
stepped_ticks fixed Reset says y n = omega arith

-- an input counts at most one tick
pub one_tick : (fixed : NodeSetting) (t : Taken) (n : NodeAt) → (node_step fixed t n).node.ticks ≤ n.ticks + 1
one_tick fixed t n = stepped_ticks fixed t.input t.says t.answer n
