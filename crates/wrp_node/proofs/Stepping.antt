-- A whole input, from one state between inputs to the next.
use Rattle.std.proofs.Common.{◌≡◌, ◌∙◌, ap, sym, subst, ℕ, ℤ, ◌+◌, ◌<◌, ◌≤◌, ◌^◌, Option, None, Some, IfSome, List, Result}
use Rattle.wrp_node.specs.Control.{ToldServo, ControlOf, ServoIs, HasTick, state_in}
use Rattle.wrp_node.specs.declared.interface.Input.{Input}
use Rattle.wrp_node.specs.declared.interface.Input.TheVariants.{Tick, Sample, Frame, Sent, Carrier, Reset}
use Rattle.wrp_node.specs.Node.{FitsInput, HasTickFor, Takes, NodeTakes, NodeLeads}
use Rattle.wrp_node.specs.NodeAt.{Taken, NodeSetting, NodeAt, servo_setting_of, state_of}
use Rattle.wrp_node.specs.NodeRun.{node_after}
use Rattle.wrp_node.specs.NodeStep.{stepped, node_step}
use Rattle.wrp_node.specs.Parts.{Begun}
use Rattle.wrp_node.specs.StandsFor.{NodeOf, StandsFor, IsIn}
use Rattle.wrp_node.specs.Telling.{Step, with_lease, with_link}
use Rattle.wrp_node.specs.declared.parts.Parts.{Parts}
use Rattle.wrp_base.specs.declared.message.PtpMsg.{PtpMsg}
use Rattle.wrp_frame.specs.declared.fault.FrameFault.{FrameFault}
use Rattle.wrp_node.proofs.Nodes.{inside_at, state_is}
use Rattle.wrp_node.proofs.NodeTicks.{ticks_agree}
use Rattle.wrp_servo.specs.declared.machine.Core.{Core}
use Rattle.wrp_servo.specs.Told.{ToldLast}

-- an input is what it is
pub takes_as : {F : Type 0} {post : F → ℤ → ℤ → Type 0} {x y : Input} {old new : NodeOf F} → x ≡ y → Takes post y old new → Takes post x old new
takes_as {post} {x} {y} {old} {new} e h = subst (λ (i : Input). Takes post i old new) (sym e) h

tick_by : {F : Type 0} (post : F → ℤ → ℤ → Type 0) (fixed : NodeSetting) (inputs : List Taken) (t : Option (ToldServo F)) (ticks : ℕ) → ToldLast → ServoIs post fixed (node_after fixed inputs).calls t →
    ticks ≡ (node_after fixed inputs).ticks → ticks + 1 < 2 ^ 32 → IfSome t (λ v. v.servo.core.ticks + 1 < 2 ^ 32)
tick_by post fixed inputs None ticks last h e k = tt
tick_by post fixed inputs (Some t) ticks last h e k =
    subst (λ (n : ℕ). n + 1 < 2 ^ 32)
    (sym (ap (λ (v : Core). v.ticks) h.1.servo.core ∙ (last (servo_setting_of fixed) (node_after fixed inputs).calls).ticks ∙ ticks_agree fixed inputs h.0 ∙ sym e)) k

pub tick_for : {F : Type 0} {post : F → ℤ → ℤ → Type 0} (fixed : NodeSetting) (inputs : List Taken) (old node : NodeOf F) (x : Input) → ToldLast → StandsFor post fixed old inputs → node.control ≡ old.control →
    FitsInput old x → HasTickFor node x
tick_for {post} fixed inputs old node Tick last h e k =
    subst (λ c. HasTick c) (sym e) (tick_by post fixed inputs old.control.told old.parts.ticks last h.is_at.control.servo h.is_at.parts.ticks k)
tick_for fixed inputs old node (Sample n base bits) last h e k = tt
tick_for fixed inputs old node (Frame p octets raw sample) last h e k = tt
tick_for fixed inputs old node (Sent p seq delay stamp) last h e k = tt
tick_for fixed inputs old node (Carrier p up own_module) last h e k = tt
tick_for fixed inputs old node Reset last h e k = tt

-- from one state between inputs to the next: the parts begin, the input is taken, and the servo is given what changed
pub came : {F : Type 0} {post : F → ℤ → ℤ → Type 0} {old taken leased linked : NodeOf F} {first begun : Parts} {control : ControlOf F} {report : ℕ} (input : Input) (says : Result PtpMsg FrameFault) (answer : ℤ) →
    record { parts = first; control = control; report = report } ≡ old → Begun first begun →
    NodeTakes post (λ fixed n. stepped fixed input says answer n) (record { parts = begun; control = control; report = report }) taken →
    NodeLeads post with_lease taken leased → NodeLeads post with_link leased linked →
    (fixed : NodeSetting) (inputs : List Taken) → StandsFor post fixed old inputs →
    IsIn post fixed (node_after fixed inputs) (node_step fixed (record { input = input; says = says; answer = answer }) (node_after fixed inputs)) linked
came input says answer view begins takes lease link fixed inputs st =
    let here = inside_at view st.is_at in
    link fixed (node_after fixed inputs) (with_lease fixed (stepped fixed input says answer (node_after fixed inputs)))
    (lease fixed (node_after fixed inputs) (stepped fixed input says answer (node_after fixed inputs))
    (takes fixed (node_after fixed inputs) (record { parts = begins fixed (node_after fixed inputs) here.parts; control = here.control; report = here.report })))

-- the state before the input is the state in the run
pub state_before : {F : Type 0} {post : F → ℤ → ℤ → Type 0} {old : NodeOf F} {first : Parts} {control : ControlOf F} {report : ℕ} →
    record { parts = first; control = control; report = report } ≡ old → (fixed : NodeSetting) (inputs : List Taken) → StandsFor post fixed old inputs → state_in control.told ≡ state_of fixed (node_after fixed inputs)
state_before {control} view fixed inputs st =
    let here = inside_at view st.is_at in state_is fixed (node_after fixed inputs) control here.control

pub report_kept : {F : Type 0} {post : F → ℤ → ℤ → Type 0} {old new : NodeOf F} {fixed : NodeSetting} {inputs : List Taken} {before : NodeAt} {s : Step} → StandsFor post fixed old inputs → IsIn post fixed before s new →
    1 ≤ old.report → 1 ≤ new.report
report_kept st h k = subst (λ (r : ℕ). 1 ≤ r) (st.is_at.report ∙ sym h.report) k
