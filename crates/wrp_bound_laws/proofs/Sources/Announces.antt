-- A node sends an Announce of a certain time only at a tick, in TRACK or as the grandmaster.
use Rattle.std.proofs.Common.{◌≡◌, refl, ℕ, Bool, true, false, List, Result, bit_and}
use Rattle.std.specs.List.{AllByRecursion}
use Rattle.wrp_base.specs.declared.link.Role.{Role}
use Rattle.wrp_base.specs.declared.link.Role.TheVariants.{Master, Slave}
use Rattle.wrp_base.specs.declared.message.PtpMsg.{PtpMsg}
use Rattle.wrp_frame.specs.declared.fault.FrameFault.{FrameFault}
use Rattle.wrp_node.specs.declared.interface.Input.{Input}
use Rattle.wrp_node.specs.declared.interface.Input.TheVariants.{Tick, Sample, Frame, Sent, Carrier, Reset}
use Rattle.wrp_node.specs.NodeAt.{NodeSetting, NodeAt, Taken, certain_of, setting_of, line_at, locked_of}
use Rattle.wrp_node.specs.NodeStep.{servo_ticked, node_step}
use Rattle.wrp_port.specs.declared.line.Rest.{Rest}
use Rattle.wrp_port.specs.declared.setting.Setting.{Setting}
use Rattle.wrp_port.specs.LineAfter.{ticked}
use Rattle.wrp_port.specs.Messages.{announce_flags}
use Rattle.wrp_bound_laws.specs.Announcing.{IsCertainAnnounce}
use Rattle.wrp_bound_laws.proofs.Nodes.StepSends.{ScheduledAll, SentBy, step_each}

-- each Announce of a certain time among these is sent under this condition
abbrev pub OnlyWhen : Type 0 → List PtpMsg → Type 0
OnlyWhen C ms = AllByRecursion (λ m. IsCertainAnnounce m → C) ms

not_certain : bit_and 0x0040 0x0040 ≡ 0 → ⊥
not_certain e = cc

certain_flags : (certain : Bool) → bit_and (announce_flags certain) 0x0040 ≡ 0 → certain ≡ true
certain_flags true e = refl
certain_flags false e = absurd (not_certain e)

-- at a tick it is certain; at no other input is one sent
abbrev pub MayAnnounce : NodeSetting → NodeAt → Input → Type 0
MayAnnounce fixed n Tick = certain_of fixed (servo_ticked fixed n).node ≡ true
MayAnnounce fixed n _ = ⊥

scheduled_certain : (C : Type 0) (set : Setting) (role : Role) (line : Rest) (certain : Bool) → (certain ≡ true → C) → ScheduledAll (λ m. IsCertainAnnounce m → C) set role line certain
scheduled_certain C set Master line certain h = (λ e a. h (certain_flags certain a.certain), λ e a. absurd a.announce)
scheduled_certain C set Slave line certain h = λ e a. absurd a.announce

certain_by : (fixed : NodeSetting) (n : NodeAt) (p : ℕ) (input : Input) (says : Result PtpMsg FrameFault) → SentBy (λ m. IsCertainAnnounce m → MayAnnounce fixed n input) fixed n p input says
certain_by fixed n p Tick says = scheduled_certain (certain_of fixed (servo_ticked fixed n).node ≡ true) (setting_of fixed.set p) (setting_of fixed.set p).ds.role (ticked (setting_of fixed.set p) (line_at fixed.set (servo_ticked fixed n).node p) (locked_of fixed (servo_ticked fixed n).node)) (certain_of fixed (servo_ticked fixed n).node) (λ e. e)
certain_by fixed n p (Sample number base bits) says = tt
certain_by fixed n p (Frame q octets raw sample) says = λ m is same hears request a. absurd a.announce
certain_by fixed n p (Sent q seq delay stamp) says = λ e same a. absurd a.announce
certain_by fixed n p (Carrier q up own_module) says = tt
certain_by fixed n p Reset says = tt

pub announces_only : (fixed : NodeSetting) (t : Taken) (n : NodeAt) (p : ℕ) → OnlyWhen (MayAnnounce fixed n t.input) ((node_step fixed t n).sends p)
announces_only fixed t n p = step_each (λ m. IsCertainAnnounce m → MayAnnounce fixed n t.input) fixed t n p (λ seq m a. absurd a.announce) (certain_by fixed n p t.input t.says)
