-- An input of a node leaves the measurement that is held, or it is a frame that brings one: the four of all pieces of
-- its port.
use Rattle.std.proofs.Common.{◌≡◌, ◌⊎◌, inl, inr, ◌∙◌, refl, ap, sym, subst, ℕ, ℤ, ◌==◌, Bool, true, false, if◌then◌else◌, is_some, List, ◌∷◌, Option, None, Some, Result, Ok, Err}
use Rattle.wrp_base.specs.declared.link.Deltas.{Deltas}
use Rattle.wrp_base.specs.declared.measurement.Four.{Four}
use Rattle.wrp_base.specs.declared.message.PtpMsg.{PtpMsg}
use Rattle.wrp_base.specs.declared.time.Raw.{Raw}
use Rattle.wrp_base.specs.declared.time.Stamp.{Stamp}
use Rattle.wrp_base.proofs.Naturals.{eq_self}
use Rattle.wrp_data.specs.declared.reason.Reason.{Reason}
use Rattle.wrp_exch.specs.Exchange.{four_of}
use Rattle.wrp_frame.specs.declared.fault.FrameFault.{FrameFault}
use Rattle.wrp_node.specs.declared.interface.Input.{Input}
use Rattle.wrp_node.specs.declared.interface.Input.TheVariants.{Tick, Sample, Frame, Sent, Carrier, Reset}
use Rattle.wrp_node.specs.NodeAt.{NodeSetting, NodeAt, Taken, deltas_in, is_fresh_in, link_at, pieces_at, servo_at, setting_of, servo_setting_of, slave_of}
use Rattle.wrp_node.specs.NodeStep.{heard, heard_unless, measured_at, measurement_by, node_step, stamp_of, stepped, used}
use Rattle.wrp_node.specs.Telling.{Step, is_changed, number_of, settled, tell, with_lease}
use Rattle.wrp_port.specs.declared.interface.PortIn.{PortIn}
use Rattle.wrp_port.specs.declared.interface.PortIn.TheVariants.{Msg}
use Rattle.wrp_port.specs.Hearing.{early_reason}
use Rattle.wrp_port.specs.History.{calls_of, rest_after}
use Rattle.wrp_port.specs.Outputs.{measured_by}
use Rattle.wrp_servo.specs.Call.{Call, CallMeasured, CallLease, CallLink, ServoSetting, run}
use Rattle.wrp_servo.specs.declared.machine.Measurement.{Measurement}
use Rattle.wrp_servo.specs.Told.{lease_told, link_told}
use Rattle.wrp_bound_laws.proofs.Measurements.FourCalls.{brought_in_chain, kept_before, kept_stands, measured_before, nothing_heard}
use Rattle.wrp_bound_laws.proofs.Measurements.FourRises.{four_measured}
use Rattle.wrp_bound_laws.proofs.Nodes.FourSteps.{At, IsOnlySlave, answered, measured_here, tell_nothing, tell_some, tell_where}
use Rattle.wrp_bound_laws.proofs.Sources.HeldCalls.{IsNoMeasure}
use Rattle.wrp_bound_laws.proofs.Samples.LiveChains.{IsNoSample, telling_less}
use Rattle.wrp_bound_laws.proofs.Nodes.StepCalls.{Brings as BringsCalls, KeptBy, step_keeps}

-- the measurement that is held is the one from before, or is of all that the port's exchange was given
abbrev IsNew : NodeSetting → ℕ → Option Measurement → ℕ → List PortIn → List Call → Type 0
IsNew fixed p old ticks told calls =
    (k : Measurement) → (run (servo_setting_of fixed) calls).kept ≡ Some k → (old ≡ Some k) ⊎ (four_of fixed.set.ring (calls_of (setting_of fixed.set p) told) ≡ Some k.four)

-- What is given after an input

telling_new : (fixed : NodeSetting) (p : ℕ) (old : Option Measurement) (ticks : ℕ) (told : List PortIn) (calls : List Call) (c : Call) → IsNoMeasure c → IsNoSample c → IsNew fixed p old ticks told calls →
    IsNew fixed p old ticks (answered fixed told calls c) (c ∷ calls)
telling_new fixed p old ticks told calls c none sample h k is =
    let was : (run (servo_setting_of fixed) calls).kept ≡ Some k = kept_before (servo_setting_of fixed) calls c k none is in
    let same : answered fixed told calls c ≡ told = nothing_heard (servo_setting_of fixed) calls c (number_of (Some c)) told sample (kept_stands (servo_setting_of fixed) calls k was) (kept_stands (servo_setting_of fixed) (c ∷ calls) k is) in
    subst (λ (l : List PortIn). (old ≡ Some k) ⊎ (four_of fixed.set.ring (calls_of (setting_of fixed.set p) l) ≡ Some k.four)) (sym same) (h k was)

settled_new : (fixed : NodeSetting) (p : ℕ) (old : Option Measurement) (s : Step) → slave_of fixed.set ≡ Some p → At (IsNew fixed p old) p s.node → At (IsNew fixed p old) p (settled fixed s).node
settled_new fixed p old s slave h =
    let fresh : Bool = is_fresh_in fixed.set s.node in
    let w : Step = with_lease fixed s in
    let on : Option Deltas = deltas_in fixed.set w.node in
    let leased : At (IsNew fixed p old) p w.node =
    tell_where (IsNew fixed p old) fixed p s (is_some (slave_of fixed.set)) (is_changed (lease_told s.node.calls) fresh) (CallLease fresh) slave
    (λ e. telling_new fixed p old s.node.ticks (s.node.told p) s.node.calls (CallLease fresh) tt tt) h in
    tell_where (IsNew fixed p old) fixed p w (is_some (slave_of fixed.set)) (is_changed (is_some (link_told w.node.calls)) (is_some on)) (CallLink on) slave
    (λ e. telling_new fixed p old w.node.ticks (w.node.told p) w.node.calls (CallLink on) tt tt) leased

-- A frame

brought_new : (fixed : NodeSetting) (p ticks : ℕ) (told : List PortIn) (calls : List Call) (m : PtpMsg) (stamp : Stamp) (four : Four) (answer : ℤ) →
    measured_by (setting_of fixed.set p) (rest_after (setting_of fixed.set p) told) (calls_of (setting_of fixed.set p) told) (Msg m stamp ticks) ≡ Some four →
    IsNew fixed p (run (servo_setting_of fixed) calls).kept ticks (answered fixed (Msg m stamp ticks ∷ told) calls (CallMeasured four answer)) (CallMeasured four answer ∷ calls)
brought_new fixed p ticks told calls m stamp four answer by k is = elim (measured_before (servo_setting_of fixed) calls four answer k is) [
  | inl old ↦ inl old
  | inr new ↦
      let same : answered fixed (Msg m stamp ticks ∷ told) calls (CallMeasured four answer) ≡ Msg m stamp ticks ∷ told =
      nothing_heard (servo_setting_of fixed) calls (CallMeasured four answer) 0 (Msg m stamp ticks ∷ told) tt (brought_in_chain (servo_setting_of fixed) calls four answer k new) (kept_stands (servo_setting_of fixed) (CallMeasured four answer ∷ calls) k is) in
      inr (ap (λ (l : List PortIn). four_of fixed.set.ring (calls_of (setting_of fixed.set p) l)) same
      ∙ four_measured (setting_of fixed.set p) told m stamp ticks four by ∙ ap (λ (z : Measurement). Some z.four) (sym new.is))
]

measured_new : (fixed : NodeSetting) (p q : ℕ) (n : NodeAt) (m : PtpMsg) (stamp : Stamp) (answer : ℤ) (has : Bool) (o : Option Four) → slave_of fixed.set ≡ Some p → IsOnlySlave fixed p → measured_at fixed n q (Msg m stamp n.ticks) ≡ o →
    At (IsNew fixed p (servo_at fixed n).kept) p (tell fixed (if has then measurement_by o answer else None) (used fixed q (Msg m stamp n.ticks) n)).node
measured_new fixed p q n m stamp answer true (Some four) slave only is =
    let here : q ≡ p = measured_here fixed p q n m stamp n.ticks four only is in
    let now : (p == q) ≡ true = ap (λ (i : ℕ). p == i) here ∙ eq_self p in
    tell_some (IsNew fixed p (servo_at fixed n).kept) fixed p (used fixed q (Msg m stamp n.ticks) n) (CallMeasured four answer) slave
    (subst (λ (b : Bool). IsNew fixed p (servo_at fixed n).kept n.ticks (answered fixed (if b then Msg m stamp n.ticks ∷ n.told p else n.told p) n.calls (CallMeasured four answer)) (CallMeasured four answer ∷ n.calls)) (sym now)
    (brought_new fixed p n.ticks (n.told p) n.calls m stamp four answer (ap (λ (i : ℕ). measured_at fixed n i (Msg m stamp n.ticks)) (sym here) ∙ is)))
measured_new fixed p q n m stamp answer true None slave only is =
    tell_nothing (IsNew fixed p (servo_at fixed n).kept) fixed p (used fixed q (Msg m stamp n.ticks) n) slave (λ k e. inl e)
measured_new fixed p q n m stamp answer false o slave only is =
    tell_nothing (IsNew fixed p (servo_at fixed n).kept) fixed p (used fixed q (Msg m stamp n.ticks) n) slave (λ k e. inl e)

heard_new : (fixed : NodeSetting) (p q : ℕ) (n : NodeAt) (m : PtpMsg) (stamp : Stamp) (answer : ℤ) (reason : Option Reason) → slave_of fixed.set ≡ Some p → IsOnlySlave fixed p →
    At (IsNew fixed p (servo_at fixed n).kept) p (heard_unless reason fixed q (Msg m stamp n.ticks) answer n).node
heard_new fixed p q n m stamp answer None slave only = measured_new fixed p q n m stamp answer (is_some (slave_of fixed.set)) (measured_at fixed n q (Msg m stamp n.ticks)) slave only refl
heard_new fixed p q n m stamp answer (Some reason) slave only = λ k e. inl e

frame_new : (fixed : NodeSetting) (p q : ℕ) (n : NodeAt) (says : Result PtpMsg FrameFault) (raw : Raw) (sample : ℕ) (answer : ℤ) → slave_of fixed.set ≡ Some p → IsOnlySlave fixed p → At (IsNew fixed p (servo_at fixed n).kept) p (heard fixed q says raw sample answer n).node
frame_new fixed p q n (Err fault) raw sample answer slave only = λ k e. inl e
frame_new fixed p q n (Ok m) raw sample answer slave only = heard_new fixed p q n m (stamp_of fixed n q raw sample) answer (early_reason (setting_of fixed.set q) (link_at fixed.set n q) m) slave only

-- Other inputs

-- an input that is no frame
abbrev pub IsNoFrame : Input → Type 0
IsNoFrame (Frame q octets raw sample) = ⊥
IsNoFrame _ = Unit {0}

brings_none : (input : Input) → IsNoFrame input → BringsCalls IsNoMeasure input
brings_none Tick h = tt
brings_none (Sample number base bits) h = tt
brings_none (Frame q octets raw sample) h = absurd h
brings_none (Sent q seq delay stamp) h = tt
brings_none (Carrier q up own_module) h = tt
brings_none Reset h = tt

-- the measurement that is held was held before
abbrev Stood : ServoSetting → Option Measurement → List Call → Type 0
Stood x old calls = (k : Measurement) → (run x calls).kept ≡ Some k → old ≡ Some k

stood_kept : (x : ServoSetting) (old : Option Measurement) → KeptBy IsNoMeasure (Stood x old)
stood_kept x old calls c none h k is = h k (kept_before x calls c k none is)

pub other_stood : (fixed : NodeSetting) (old : Option Measurement) (t : Taken) (n : NodeAt) → IsNoFrame t.input → ((k : Measurement) → (servo_at fixed n).kept ≡ Some k → old ≡ Some k) →
    (k : Measurement) → (servo_at fixed (node_step fixed t n).node).kept ≡ Some k → old ≡ Some k
other_stood fixed old t n none h =
    let x : ServoSetting = servo_setting_of fixed in
    step_keeps IsNoMeasure (Stood x old) (stood_kept x old) (telling_less IsNoMeasure (Stood x old) (λ fresh. tt) (λ on. tt) (stood_kept x old)) fixed t n (brings_none t.input none) h

-- Any input

-- what is held after it was held before it, or is of all pieces of the port
abbrev pub StoodOrNew : NodeSetting → ℕ → (before after : NodeAt) → Type 0
StoodOrNew fixed p before after =
    (k : Measurement) → (servo_at fixed after).kept ≡ Some k → ((servo_at fixed before).kept ≡ Some k) ⊎ (four_of fixed.set.ring (pieces_at fixed.set after p) ≡ Some k.four)

input_where : (fixed : NodeSetting) (p : ℕ) (input : Input) (says : Result PtpMsg FrameFault) (answer : ℤ) (n : NodeAt) → slave_of fixed.set ≡ Some p → IsOnlySlave fixed p → StoodOrNew fixed p n (node_step fixed (record { input = input; says = says; answer = answer }) n).node
input_where fixed p (Frame q octets raw sample) says answer n slave only k is =
    settled_new fixed p (servo_at fixed n).kept (stepped fixed (Frame q octets raw sample) says answer n) slave (frame_new fixed p q n says raw sample answer slave only) k is
input_where fixed p Tick says answer n slave only k is = inl (other_stood fixed (servo_at fixed n).kept (record { input = Tick; says = says; answer = answer }) n tt (λ j e. e) k is)
input_where fixed p (Sample number base bits) says answer n slave only k is = inl (other_stood fixed (servo_at fixed n).kept (record { input = Sample number base bits; says = says; answer = answer }) n tt (λ j e. e) k is)
input_where fixed p (Sent q seq delay stamp) says answer n slave only k is = inl (other_stood fixed (servo_at fixed n).kept (record { input = Sent q seq delay stamp; says = says; answer = answer }) n tt (λ j e. e) k is)
input_where fixed p (Carrier q up own_module) says answer n slave only k is = inl (other_stood fixed (servo_at fixed n).kept (record { input = Carrier q up own_module; says = says; answer = answer }) n tt (λ j e. e) k is)
input_where fixed p Reset says answer n slave only k is = inl (other_stood fixed (servo_at fixed n).kept (record { input = Reset; says = says; answer = answer }) n tt (λ j e. e) k is)

pub stood_or_new : (fixed : NodeSetting) (p : ℕ) (t : Taken) (n : NodeAt) → slave_of fixed.set ≡ Some p → IsOnlySlave fixed p → StoodOrNew fixed p n (node_step fixed t n).node
stood_or_new fixed p t n slave only = input_where fixed p t.input t.says t.answer n slave only
