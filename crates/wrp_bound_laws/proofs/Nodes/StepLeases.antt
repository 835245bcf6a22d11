-- What an input of a node does to the lease of its slave port.
use Rattle.std.proofs.Common.{◌≡◌, ◌⊎◌, inl, inr, ◌∙◌, refl, ap, sym, ℕ, ℤ, ◌+◌, ◌==◌, Bool, true, false, if◌then◌else◌, List, ◌∷◌, Option, None, Some, option_map, Result, Ok, Err}
use Rattle.std.proofs.lemmas.Bool.{eqb-true}
use Rattle.std.proofs.lemmas.Option.{none-some, same_Some}
use Rattle.wrp_base.specs.declared.measurement.ChainNews.{ChainNews}
use Rattle.wrp_base.specs.declared.measurement.ChainNews.TheVariants.{Same, Started, Ended}
use Rattle.wrp_base.specs.declared.message.PtpMsg.{PtpMsg}
use Rattle.wrp_base.specs.declared.time.Raw.{Raw}
use Rattle.wrp_base.specs.declared.time.Stamp.{Stamp}
use Rattle.wrp_data.specs.declared.reason.Reason.{Reason}
use Rattle.wrp_frame.specs.declared.fault.FrameFault.{FrameFault}
use Rattle.wrp_node.specs.declared.interface.Input.{Input}
use Rattle.wrp_node.specs.declared.interface.Input.TheVariants.{Tick, Sample as SampleInput, Frame, Sent, Carrier, Reset}
use Rattle.wrp_node.specs.NodeAt.{NodeSetting, NodeAt, Taken, slave_of, setting_of, link_at}
use Rattle.wrp_node.specs.NodeStep.{counted_tick, lease_ticked, servo_ticked, ports_ticked, measurement_by, measured_at, stamp_of, used, is_slave_port, handed, heard, heard_unless, stepped, node_step}
use Rattle.wrp_node.specs.Telling.{Step, step_from, tell, told_by, heard_of, with_news, with_sample, answer_of, number_of, for_slave, lease_change, link_change, with_lease, settled}
use Rattle.wrp_port.specs.declared.interface.PortIn.{PortIn}
use Rattle.wrp_port.specs.declared.interface.PortIn.TheVariants.{Msg, Sent as PortSent, Carrier as PortCarrier}
use Rattle.wrp_port.specs.declared.setting.Setting.{Setting}
use Rattle.wrp_port.specs.Hearing.{early_reason}
use Rattle.wrp_port.specs.History.{renews_at, since_renewal}
use Rattle.wrp_servo.specs.Call.{Call, CallSample, CallTick, CallCarrier}
use Rattle.wrp_course.proofs.LinkPorts.{other_number}
use Rattle.wrp_servo.specs.declared.interface.ServoOut.{ServoOut}
use Rattle.wrp_bound_laws.proofs.Sources.Carried.{renewed_or_not}
use Rattle.wrp_bound_laws.proofs.SyncPairs.SyncTold.{lease_there}

-- the turns of a port's lease since it was renewed
abbrev pub turns_at : NodeSetting → NodeAt → ℕ → Option ℕ
turns_at fixed n p = since_renewal (setting_of fixed.set p) (n.told p)

-- What the servo answers does not change it

heard_turns : (set : Setting) (o : Option ℤ) (k : ℕ) (news : ChainNews) (told : List PortIn) → since_renewal set (with_sample o k (with_news news told)) ≡ since_renewal set told
heard_turns set None k Same told = refl
heard_turns set None k (Started n) told = refl
heard_turns set None k Ended told = refl
heard_turns set (Some u) k Same told = refl
heard_turns set (Some u) k (Started n) told = refl
heard_turns set (Some u) k Ended told = refl

turns_where : (b : Bool) (set : Setting) (out : ServoOut) (k : ℕ) (told : List PortIn) → since_renewal set (if b then heard_of out k told else told) ≡ since_renewal set told
turns_where true set out k told = heard_turns set out.unwrapped k out.chain told
turns_where false set out k told = refl

turns_by : (o : Option ℕ) (set : Setting) (out : ServoOut) (k : ℕ) (told : ℕ → List PortIn) (q : ℕ) → since_renewal set (told_by o out k told q) ≡ since_renewal set (told q)
turns_by None set out k told q = refl
turns_by (Some p) set out k told q = turns_where (q == p) set out k (told q)

tell_turns : (fixed : NodeSetting) (call : Option Call) (s : Step) (p : ℕ) → turns_at fixed (tell fixed call s).node p ≡ turns_at fixed s.node p
tell_turns fixed call s p = turns_by (slave_of fixed.set) (setting_of fixed.set p) (answer_of fixed call s.node.calls) (number_of call) s.node.told p

settled_turns : (fixed : NodeSetting) (s : Step) (p : ℕ) → turns_at fixed (settled fixed s).node p ≡ turns_at fixed s.node p
settled_turns fixed s p = tell_turns fixed (link_change fixed (with_lease fixed s).node) (with_lease fixed s) p ∙ tell_turns fixed (lease_change fixed s.node) s p

-- Each input

-- how the lease came to have this many turns, by the input
abbrev pub TurnsBefore : NodeSetting → NodeAt → ℕ → Input → Result PtpMsg FrameFault → ℕ → Type 0
TurnsBefore fixed n p Tick says turns = (u : ℕ) × (u + 1 ≡ turns) × (turns_at fixed n p ≡ Some u)
TurnsBefore fixed n p (Frame q octets raw sample) says turns =
    (turns_at fixed n p ≡ Some turns)
    ⊎ ((p ≡ q) × ((m : PtpMsg) × (says ≡ Ok m) × (renews_at (setting_of fixed.set p) (link_at fixed.set n p) m ≡ true)))
TurnsBefore fixed n p (Carrier q false own_module) says turns = (p ≡ q → ⊥) × (turns_at fixed n p ≡ Some turns)
TurnsBefore fixed n p Reset says turns = ⊥
TurnsBefore fixed n p _ says turns = turns_at fixed n p ≡ Some turns

turned : (o : Option ℕ) (turns : ℕ) → option_map (λ n. n + 1) o ≡ Some turns → (u : ℕ) × (u + 1 ≡ turns) × (o ≡ Some u)
turned None turns e = absurd (none-some turns e)
turned (Some u) turns e = (u, same_Some (u + 1) turns e, refl)

tick_turns : (fixed : NodeSetting) (n : NodeAt) (p : ℕ) → slave_of fixed.set ≡ Some p → turns_at fixed (ports_ticked fixed (servo_ticked fixed n)).node p ≡ option_map (λ k. k + 1) (turns_at fixed n p)
tick_turns fixed n p slave =
    tell_turns fixed (for_slave fixed (Some CallTick)) (lease_ticked fixed n) p
    ∙ tell_turns fixed (lease_change fixed (counted_tick fixed n)) (step_from (counted_tick fixed n)) p
    ∙ ap (since_renewal (setting_of fixed.set p)) (lease_there (slave_of fixed.set) p n.told slave)

-- one port is given something
told_where : (b : Bool) (set : Setting) (told : List PortIn) (input : PortIn) (turns : ℕ) → since_renewal set (if b then input ∷ told else told) ≡ Some turns →
    ((b ≡ true) × (since_renewal set (input ∷ told) ≡ Some turns)) ⊎ ((b ≡ false) × (since_renewal set told ≡ Some turns))
told_where true set told input turns e = inl (refl, e)
told_where false set told input turns e = inr (refl, e)

-- a frame
heard_before : (fixed : NodeSetting) (n : NodeAt) (p q : ℕ) (m : PtpMsg) (stamp : Stamp) (tick : ℕ) (answer : ℤ) (reason : Option Reason) (turns : ℕ) →
    turns_at fixed (heard_unless reason fixed q (Msg m stamp tick) answer n).node p ≡ Some turns →
    (turns_at fixed n p ≡ Some turns) ⊎ ((p ≡ q) × (renews_at (setting_of fixed.set p) (link_at fixed.set n p) m ≡ true))
heard_before fixed n p q m stamp tick answer None turns e =
    elim (told_where (p == q) (setting_of fixed.set p) (n.told p) (Msg m stamp tick) turns
    (sym (tell_turns fixed (for_slave fixed (measurement_by (measured_at fixed n q (Msg m stamp tick)) answer)) (used fixed q (Msg m stamp tick) n) p) ∙ e)) [
      | inl x ↦ elim (renewed_or_not (renews_at (setting_of fixed.set p) (link_at fixed.set n p) m) (turns_at fixed n p) turns x.1) [
        | inl now ↦ inr (eqb-true p q x.0, now)
        | inr before ↦ inl before
      ]
      | inr x ↦ inl x.1
    ]
heard_before fixed n p q m stamp tick answer (Some reason) turns e = inl e

frame_before : (fixed : NodeSetting) (n : NodeAt) (p q : ℕ) (says : Result PtpMsg FrameFault) (raw : Raw) (sample : ℕ) (answer : ℤ) (turns : ℕ) → turns_at fixed (heard fixed q says raw sample answer n).node p ≡ Some turns →
    (turns_at fixed n p ≡ Some turns) ⊎ ((p ≡ q) × ((m : PtpMsg) × (says ≡ Ok m) × (renews_at (setting_of fixed.set p) (link_at fixed.set n p) m ≡ true)))
frame_before fixed n p q (Err fault) raw sample answer turns e = inl e
frame_before fixed n p q (Ok m) raw sample answer turns e =
    elim (heard_before fixed n p q m (stamp_of fixed n q raw sample) n.ticks answer (early_reason (setting_of fixed.set q) (link_at fixed.set n q) m) turns e) [
      | inl before ↦ inl before
      | inr now ↦ inr (now.0, (m, refl, now.1))
    ]

-- a carrier
carrier_before : (fixed : NodeSetting) (n : NodeAt) (p q : ℕ) (call : Option Call) (input : PortIn) (turns : ℕ) → turns_at fixed (tell fixed call (handed fixed q input n)).node p ≡ Some turns →
    (((p == q) ≡ true) × (since_renewal (setting_of fixed.set p) (input ∷ n.told p) ≡ Some turns)) ⊎ (((p == q) ≡ false) × (turns_at fixed n p ≡ Some turns))
carrier_before fixed n p q call input turns e =
    told_where (p == q) (setting_of fixed.set p) (n.told p) input turns (sym (tell_turns fixed call (handed fixed q input n) p) ∙ e)

stepped_before : (fixed : NodeSetting) (n : NodeAt) (p : ℕ) (input : Input) (says : Result PtpMsg FrameFault) (answer : ℤ) (turns : ℕ) → slave_of fixed.set ≡ Some p →
    turns_at fixed (stepped fixed input says answer n).node p ≡ Some turns → TurnsBefore fixed n p input says turns
stepped_before fixed n p Tick says answer turns slave e = turned (turns_at fixed n p) turns (sym (tick_turns fixed n p slave) ∙ e)
stepped_before fixed n p (SampleInput number base bits) says answer turns slave e = sym (tell_turns fixed (for_slave fixed (Some (CallSample number base bits))) (step_from n) p) ∙ e
stepped_before fixed n p (Frame q octets raw sample) says answer turns slave e = frame_before fixed n p q says raw sample answer turns e
stepped_before fixed n p (Sent q seq delay stamp) says answer turns slave e =
    elim (told_where (p == q) (setting_of fixed.set p) (n.told p) (PortSent delay seq stamp n.ticks) turns e) [ inl x ↦ x.1 | inr x ↦ x.1 ]
stepped_before fixed n p (Carrier q true own_module) says answer turns slave e =
    elim (carrier_before fixed n p q (for_slave fixed (if is_slave_port (slave_of fixed.set) q then Some (CallCarrier true) else None)) (PortCarrier true own_module) turns e) [ inl x ↦ x.1 | inr x ↦ x.1 ]
stepped_before fixed n p (Carrier q false own_module) says answer turns slave e =
    elim (carrier_before fixed n p q (for_slave fixed (if is_slave_port (slave_of fixed.set) q then Some (CallCarrier false) else None)) (PortCarrier false own_module) turns e) [
      | inl x ↦ absurd (none-some turns x.1)
      | inr x ↦ (other_number p q x.0, x.1)
    ]
stepped_before fixed n p Reset says answer turns slave e = absurd (none-some turns e)

pub turns_before : (fixed : NodeSetting) (t : Taken) (n : NodeAt) (p turns : ℕ) → slave_of fixed.set ≡ Some p → turns_at fixed (node_step fixed t n).node p ≡ Some turns → TurnsBefore fixed n p t.input t.says turns
turns_before fixed t n p turns slave e =
    stepped_before fixed n p t.input t.says t.answer turns slave (sym (settled_turns fixed (stepped fixed t.input t.says t.answer n) p) ∙ e)
