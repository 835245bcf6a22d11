-- A step gives the link of each port what the input is to it.
use Rattle.std.proofs.Common.{◌≡◌, ◌∙◌, refl, ap, ℕ, ℤ, ◌==◌, Bool, true, false, if◌then◌else◌, List, ◌∷◌, Option, None, Some, Result, Ok, Err}
use Rattle.std.proofs.lemmas.Bool.{eqb-true}
use Rattle.wrp_base.specs.declared.message.PtpMsg.{PtpMsg}
use Rattle.wrp_base.specs.declared.time.Raw.{Raw}
use Rattle.wrp_base.specs.declared.time.Stamp.{Stamp}
use Rattle.wrp_data.specs.declared.reason.Reason.{Reason}
use Rattle.wrp_frame.specs.declared.fault.FrameFault.{FrameFault}
use Rattle.wrp_link.specs.declared.interface.LinkIn.{LinkIn}
use Rattle.wrp_link.specs.declared.interface.LinkIn.TheVariants as link
use Rattle.wrp_link.specs.LinkAt.{LinkAt}
use Rattle.wrp_link.specs.Table.{after}
use Rattle.wrp_node.specs.declared.interface.Input.{Input}
use Rattle.wrp_node.specs.declared.interface.Input.TheVariants.{Tick, Sample, Frame, Sent, Carrier, Reset}
use Rattle.wrp_node.specs.LinkNews.{LinkNews, Nothing, Given, news_of, link_after, frame_news, news_at, StepGivesLinks}
use Rattle.wrp_node.specs.NodeAt.{NodeSetting, NodeAt, slave_of, setting_of, link_at, locked_of}
use Rattle.wrp_node.specs.NodeStep.{counted_tick, lease_ticked, servo_ticked, told_slave, measurement_by, measured_at, stamp_of, used, heard, heard_unless, is_slave_port, handed, stepped}
use Rattle.wrp_node.specs.Telling.{Step, step_from, tell, answer_of, number_of, for_slave, lease_change, link_change, with_lease, settled}
use Rattle.wrp_node.proofs.Settled.{link_by}
use Rattle.wrp_port.specs.declared.interface.PortIn.{PortIn}
use Rattle.wrp_port.specs.declared.interface.PortIn.TheVariants.{Msg, Lease, Sent as PortSent, Carrier as PortCarrier}
use Rattle.wrp_port.specs.declared.setting.Setting.{Setting}
use Rattle.wrp_port.specs.Hearing.{early_reason, link_input}
use Rattle.wrp_port.specs.History.{link_of, input_unless, to_link, link_by as link_made, with_input, link_inputs}
use Rattle.wrp_servo.specs.Call.{Call, CallSample, CallTick, CallCarrier}

-- telling the servo leaves every link as it is
pub tell_link : (fixed : NodeSetting) (call : Option Call) (s : Step) (p : ℕ) → link_at fixed.set (tell fixed call s).node p ≡ link_at fixed.set s.node p
tell_link fixed call s p = link_by (slave_of fixed.set) (setting_of fixed.set p) (answer_of fixed call s.node.calls) (number_of call) s.node.told p

settled_link : (fixed : NodeSetting) (s : Step) (p : ℕ) → link_at fixed.set (settled fixed s).node p ≡ link_at fixed.set s.node p
settled_link fixed s p = tell_link fixed (link_change fixed (with_lease fixed s).node) (with_lease fixed s) p ∙ tell_link fixed (lease_change fixed s.node) s p

-- a turn of the lease is nothing to a link
lease_where : (b : Bool) (set : Setting) (told : List PortIn) → link_of set (if b then Lease ∷ told else told) ≡ link_of set told
lease_where true set told = refl
lease_where false set told = refl

lease_link : (o : Option ℕ) (set : Setting) (told : ℕ → List PortIn) (q : ℕ) → link_of set (told_slave o Lease told q) ≡ link_of set (told q)
lease_link None set told q = refl
lease_link (Some p) set told q = lease_where (q == p) set (told q)

pub before_ports : (fixed : NodeSetting) (n : NodeAt) (p : ℕ) → link_at fixed.set (servo_ticked fixed n).node p ≡ link_at fixed.set n p
before_ports fixed n p =
    tell_link fixed (for_slave fixed (Some CallTick)) (lease_ticked fixed n) p
    ∙ tell_link fixed (lease_change fixed (counted_tick fixed n)) (step_from (counted_tick fixed n)) p
    ∙ lease_link (slave_of fixed.set) (setting_of fixed.set p) n.told p

-- one port is given an input
given_where : (b : Bool) (set : Setting) (told : List PortIn) (input : PortIn) (news : LinkNews) → (b ≡ true → link_of set (input ∷ told) ≡ link_after set (link_of set told) news) →
    link_of set (if b then input ∷ told else told) ≡ link_after set (link_of set told) (if b then news else Nothing)
given_where true set told input news h = h refl
given_where false set told input news h = refl

unless_link : (set : Setting) (told : List PortIn) (m : PtpMsg) (stamp : Stamp) (tick : ℕ) (o : Option LinkIn) → to_link set (link_of set told) (Msg m stamp tick) ≡ o →
    link_made set (with_input o (link_inputs set told)) ≡ link_after set (link_of set told) (news_of o)
unless_link set told m stamp tick None e = refl
unless_link set told m stamp tick (Some i) e = refl

msg_link : (set : Setting) (told : List PortIn) (m : PtpMsg) (stamp : Stamp) (tick : ℕ) →
    link_of set (Msg m stamp tick ∷ told) ≡ link_after set (link_of set told) (news_of (input_unless (early_reason set (link_of set told) m) (link_input set.ds.role m.body)))
msg_link set told m stamp tick = unless_link set told m stamp tick (input_unless (early_reason set (link_of set told) m) (link_input set.ds.role m.body)) refl

either_none : (b : Bool) (set : Setting) (l : LinkAt) → l ≡ link_after set l (if b then Nothing else Nothing)
either_none true set l = refl
either_none false set l = refl

heard_link : (fixed : NodeSetting) (n : NodeAt) (q p : ℕ) (m : PtpMsg) (stamp : Stamp) (y : ℤ) (o : Option Reason) → early_reason (setting_of fixed.set q) (link_at fixed.set n q) m ≡ o →
    link_at fixed.set (heard_unless o fixed q (Msg m stamp n.ticks) y n).node p
    ≡ link_after (setting_of fixed.set p) (link_at fixed.set n p) (if p == q then news_of (input_unless o (link_input (setting_of fixed.set q).ds.role m.body)) else Nothing)
heard_link fixed n q p m stamp y None e =
    tell_link fixed (for_slave fixed (measurement_by (measured_at fixed n q (Msg m stamp n.ticks)) y)) (used fixed q (Msg m stamp n.ticks) n) p
    ∙ given_where (p == q) (setting_of fixed.set p) (n.told p) (Msg m stamp n.ticks) (news_of (link_input (setting_of fixed.set q).ds.role m.body))
    (λ b. msg_link (setting_of fixed.set p) (n.told p) m stamp n.ticks
    ∙ ap (λ (k : ℕ). link_after (setting_of fixed.set p) (link_at fixed.set n p) (news_of (input_unless (early_reason (setting_of fixed.set k) (link_at fixed.set n k) m) (link_input (setting_of fixed.set k).ds.role m.body)))) (eqb-true p q b)
    ∙ ap (λ (r : Option Reason). link_after (setting_of fixed.set p) (link_at fixed.set n p) (news_of (input_unless r (link_input (setting_of fixed.set q).ds.role m.body)))) e)
heard_link fixed n q p m stamp y (Some reason) e = either_none (p == q) (setting_of fixed.set p) (link_at fixed.set n p)

frame_link : (fixed : NodeSetting) (n : NodeAt) (q p : ℕ) (says : Result PtpMsg FrameFault) (raw : Raw) (sample : ℕ) (y : ℤ) →
    link_at fixed.set (heard fixed q says raw sample y n).node p ≡ link_after (setting_of fixed.set p) (link_at fixed.set n p) (if p == q then frame_news fixed n q says else Nothing)
frame_link fixed n q p (Err fault) raw sample y = either_none (p == q) (setting_of fixed.set p) (link_at fixed.set n p)
frame_link fixed n q p (Ok m) raw sample y =
    heard_link fixed n q p m (stamp_of fixed n q raw sample) y (early_reason (setting_of fixed.set q) (link_at fixed.set n q) m) refl

same_where : (b : Bool) (set : Setting) (told : List PortIn) (delay : Bool) (seq : ℕ) (stamp : Stamp) (tick : ℕ) → link_of set (if b then PortSent delay seq stamp tick ∷ told else told) ≡ link_of set told
same_where true set told delay seq stamp tick = refl
same_where false set told delay seq stamp tick = refl

stepped_link : (fixed : NodeSetting) (input : Input) (says : Result PtpMsg FrameFault) (y : ℤ) (n : NodeAt) (p : ℕ) →
    link_at fixed.set (stepped fixed input says y n).node p ≡ link_after (setting_of fixed.set p) (link_at fixed.set n p) (news_at fixed n input says p)
stepped_link fixed Tick says y n p = ap (λ (l : LinkAt). after l (link.Tick (locked_of fixed (servo_ticked fixed n).node))) (before_ports fixed n p)
stepped_link fixed (Sample number base bits) says y n p = tell_link fixed (for_slave fixed (Some (CallSample number base bits))) (step_from n) p
stepped_link fixed (Frame q octets raw sample) says y n p = frame_link fixed n q p says raw sample y
stepped_link fixed (Sent q seq delay stamp) says y n p = same_where (p == q) (setting_of fixed.set p) (n.told p) delay seq stamp n.ticks
stepped_link fixed (Carrier q true own_module) says y n p =
    tell_link fixed (for_slave fixed (if is_slave_port (slave_of fixed.set) q then Some (CallCarrier true) else None)) (handed fixed q (PortCarrier true own_module) n) p
    ∙ given_where (p == q) (setting_of fixed.set p) (n.told p) (PortCarrier true own_module) (Given (link.CarrierUp own_module)) (λ b. refl)
stepped_link fixed (Carrier q false own_module) says y n p =
    tell_link fixed (for_slave fixed (if is_slave_port (slave_of fixed.set) q then Some (CallCarrier false) else None)) (handed fixed q (PortCarrier false own_module) n) p
    ∙ given_where (p == q) (setting_of fixed.set p) (n.told p) (PortCarrier false own_module) (Given link.CarrierDown) (λ b. refl)
stepped_link fixed Reset says y n p = refl

pub step_gives_links : StepGivesLinks
step_gives_links fixed t n p = settled_link fixed (stepped fixed t.input t.says t.answer n) p ∙ stepped_link fixed t.input t.says t.answer n p
