-- A port sends a Delay_Resp for a Delay_Req that it takes, with the stamp of its reception, and for nothing else.
use Rattle.std.proofs.Common.{◌≡◌, refl, ℕ, Bool, List, Result, Ok}
use Rattle.std.specs.List.{AllByRecursion}
use Rattle.wrp_base.specs.declared.link.Role.{Role}
use Rattle.wrp_base.specs.declared.link.Role.TheVariants.{Master, Slave}
use Rattle.wrp_base.specs.declared.message.Body.{Body}
use Rattle.wrp_base.specs.declared.message.Body.TheVariants.{DelayResp}
use Rattle.wrp_base.specs.declared.message.PtpMsg.{PtpMsg}
use Rattle.wrp_base.specs.declared.time.Raw.{Raw}
use Rattle.wrp_frame.specs.declared.fault.FrameFault.{FrameFault}
use Rattle.wrp_node.specs.declared.interface.Input.{Input}
use Rattle.wrp_node.specs.declared.interface.Input.TheVariants.{Tick, Sample, Frame, Sent, Carrier, Reset}
use Rattle.wrp_node.specs.NodeAt.{NodeSetting, NodeAt, Taken, certain_of, line_at, locked_of, setting_of}
use Rattle.wrp_node.specs.NodeStep.{node_step, servo_ticked, stamp_of}
use Rattle.wrp_port.specs.declared.line.Rest.{Rest}
use Rattle.wrp_port.specs.declared.setting.Setting.{Setting}
use Rattle.wrp_port.specs.LineAfter.{ticked}
use Rattle.wrp_port.specs.Messages.{response_of}
use Rattle.wrp_bound_laws.proofs.Nodes.StepSends.{IsRequest, ScheduledAll, SentBy, step_each}
use Rattle.wrp_bound_laws.proofs.Nodes.StepTold.{Hears}

abbrev pub IsResponse : Body → Type 0
IsResponse (DelayResp receive requesting) = Unit {0}
IsResponse _ = ⊥

-- each Delay_Resp among these is one of those
abbrev pub Resp : (PtpMsg → Type 0) → List PtpMsg → Type 0
Resp C ms = AllByRecursion (λ m. IsResponse m.body → C m) ms

-- An input of a node

-- a Delay_Resp of a port for a Delay_Req that it takes
pub record Answers (fixed : NodeSetting) (n : NodeAt) (p : ℕ) (says : Result PtpMsg FrameFault) (raw : Raw) (sample : ℕ) (z : PtpMsg) : Type 0 where
  pub request : PtpMsg
  pub says_it : says ≡ Ok request
  pub hears : Hears fixed n p request
  pub is_request : IsRequest request.body
  pub is : z ≡ response_of (setting_of fixed.set p) request.head (stamp_of fixed n p raw sample)

abbrev pub IsAnswerTo : NodeSetting → NodeAt → ℕ → Input → Result PtpMsg FrameFault → PtpMsg → Type 0
IsAnswerTo fixed n p (Frame q octets raw sample) says z = (p ≡ q) × Answers fixed n p says raw sample z
IsAnswerTo fixed n p _ says z = ⊥

scheduled_resp : (C : PtpMsg → Type 0) (set : Setting) (role : Role) (line : Rest) (certain : Bool) → ScheduledAll (λ m. IsResponse m.body → C m) set role line certain
scheduled_resp C set Master line certain = (λ e a. absurd a, λ e a. absurd a)
scheduled_resp C set Slave line certain = λ e a. absurd a

answer_by : (fixed : NodeSetting) (n : NodeAt) (p : ℕ) (input : Input) (says : Result PtpMsg FrameFault) → SentBy (λ m. IsResponse m.body → IsAnswerTo fixed n p input says m) fixed n p input says
answer_by fixed n p Tick says = scheduled_resp (IsAnswerTo fixed n p Tick says) (setting_of fixed.set p) (setting_of fixed.set p).ds.role (ticked (setting_of fixed.set p) (line_at fixed.set (servo_ticked fixed n).node p) (locked_of fixed (servo_ticked fixed n).node)) (certain_of fixed (servo_ticked fixed n).node)
answer_by fixed n p (Sample number base bits) says = tt
answer_by fixed n p (Frame q octets raw sample) says = λ m is same hears request a. (same, record { request = m; says_it = is; hears = hears; is_request = request; is = refl })
answer_by fixed n p (Sent q seq delay stamp) says = λ e same a. absurd a
answer_by fixed n p (Carrier q up own_module) says = tt
answer_by fixed n p Reset says = tt

pub responses_answer : (fixed : NodeSetting) (t : Taken) (n : NodeAt) (p : ℕ) → Resp (IsAnswerTo fixed n p t.input t.says) ((node_step fixed t n).sends p)
responses_answer fixed t n p = step_each (λ m. IsResponse m.body → IsAnswerTo fixed n p t.input t.says m) fixed t n p (λ seq m a. absurd a) (answer_by fixed n p t.input t.says)
