-- A node enters HOLDOVER only from TRACK: the message that makes a measurement changes neither the lease nor the link.
use Rattle.std.proofs.Common.{◌≡◌, inl, inr, ◌∙◌, refl, ap, sym, subst, ℕ, ◌<◌, ◌==◌, ℤ, ◌&&◌, ◌||◌, not, Bool, true, false, if◌then◌else◌, is_some, List, [], ◌∷◌, Option, None, Some, Result, Ok, Err}
use Rattle.std.proofs.lemmas.Bool.{eqb-true, cases_Bool, false≢true}
use Rattle.std.proofs.lemmas.Bool.Decides.{eqb_tells}
use Rattle.std.specs.Option.{is_none, option_map_or}
use Rattle.arrayvec.specs.ArrayVec.{ArrayVec as Items}
use Rattle.std.proofs.lemmas.Option.{none-some}
use Rattle.wrp_base.specs.declared.link.Role.{Role}
use Rattle.wrp_base.specs.declared.link.Role.TheVariants.{Master, Slave}
use Rattle.wrp_base.specs.declared.measurement.Four.{Four}
use Rattle.wrp_base.specs.declared.message.Body.{Body}
use Rattle.wrp_base.specs.declared.message.Body.TheVariants.{Sync, DelayReq, FollowUp, DelayResp, Announce, Signal}
use Rattle.wrp_base.specs.declared.message.Head.{Head}
use Rattle.wrp_base.specs.declared.message.PtpMsg.{PtpMsg}
use Rattle.wrp_network.specs.declared.network.LinkCfg.{LinkCfg}
use Rattle.wrp_base.specs.declared.time.Raw.{Raw}
use Rattle.wrp_base.specs.declared.time.Stamp.{Stamp}
use Rattle.wrp_network.specs.Network.{End, link_above}
use Rattle.wrp_base.specs.Link.{other_of}
use Rattle.wrp_base.proofs.Naturals.{eq_self}
use Rattle.wrp_data.specs.declared.reason.Reason.{Reason}
use Rattle.wrp_frame.specs.declared.fault.FrameFault.{FrameFault}
use Rattle.wrp_frame.specs.SentOctets.{octets_of}
use Rattle.wrp_link.specs.declared.interface.LinkIn.{LinkIn}
use Rattle.wrp_link.specs.LinkAt.{LinkAt}
use Rattle.wrp_node.specs.declared.interface.Input.{Input}
use Rattle.wrp_node.specs.declared.interface.Input.TheVariants.{Tick as TickInput, Sample as SampleInput, Frame, Sent, Carrier, Reset}
use Rattle.wrp_node.specs.Laws.{StepSettles}
use Rattle.wrp_node.specs.NodeAt.{NodeSetting, NodeAt, Taken, deltas_at, deltas_in, is_fresh_at, is_fresh_in, line_at, numbers_of, pieces_at, port_of, setting_of, servo_setting_of, slave_of}
use Rattle.wrp_node.specs.NodeStep.{heard, heard_unless, measured, measured_at, measurement_by, node_step, stepped, used}
use Rattle.wrp_node.specs.StepLaws.{CommandsAreHeld}
use Rattle.wrp_node.specs.Telling.{Step, called, for_slave, is_changed, lease_change, link_change, settled, with_lease}
use Rattle.wrp_node.proofs.Settled.{tell_deltas, tell_fresh}
use Rattle.wrp_port.specs.declared.interface.PortIn.{PortIn}
use Rattle.wrp_port.specs.declared.interface.PortIn.TheVariants.{Msg}
use Rattle.wrp_port.specs.declared.setting.Setting.{Setting as PortSetting}
use Rattle.wrp_port.specs.Hearing.{early_reason, link_input, piece_of, renews}
use Rattle.wrp_port.specs.History.{input_unless, is_fresh, is_fresh_at as is_left, link_by, link_inputs, link_of, since_renewal, with_input, zero_where}
use Rattle.wrp_port.specs.Outputs.{call_of, is_kept, pairs, piece_unless}
use Rattle.wrp_port.specs.PortAt.{deltas_of}
use Rattle.wrp_servo.specs.Call.{Call, CallSample, CallMeasured, CallTick, CallLease, CallLink, CallCarrier, CallReset, ServoSetting, run}
use Rattle.wrp_servo.specs.declared.machine.Core.{Core}
use Rattle.wrp_servo.specs.Laws.{NoStepInTrack}
use Rattle.wrp_servo.specs.Sampling.{is_holdover}
use Rattle.wrp_servo.specs.Table.{is_track}
use Rattle.wrp_servo.specs.Told.{lease_told, link_told}
use Rattle.wrp_course.specs.declared.event.Event.{Event}
use Rattle.wrp_course.specs.declared.event.Event.TheVariants.{Pass, Arrive, Deliver, Noise, Up}
use Rattle.wrp_course.specs.declared.event.Swap.{Swap}
use Rattle.wrp_bound_laws.proofs.Samples.ChainLinks.{knows_link}
use Rattle.wrp_course.specs.Given.{Given, at_ports, comes_from, delivered, delivered_by, delivered_to, given, given_by, given_plain, gives, gives_all, step_of, taken_of, world_step}
use Rattle.wrp_course.specs.Moved.{moved}
use Rattle.wrp_course.specs.Run.{Happened, world_after}
use Rattle.wrp_course.specs.Runs.{IsNetwork, IsRun}
use Rattle.wrp_course.specs.Setting.{Setting, end_at, node_setting_of}
use Rattle.wrp_course.specs.WorldAt.{Arrival, FrameAt, WorldAt}
use Rattle.wrp_course.proofs.RunGifts.{comes_all, ports_all}
use Rattle.wrp_course.proofs.RunTimes.{comes_up_down, not_up}
use Rattle.wrp_bound_laws.specs.Holdovers.{HoldoverIsFromTrack, IsHeld}
use Rattle.wrp_bound_laws.proofs.Samples.ChainSources.{knows_lease}
use Rattle.wrp_bound_laws.proofs.Sources.HeldCalls.{HoldLaws, IsNoMeasure, held_before, state_of_track, tracked_before}
use Rattle.wrp_bound_laws.proofs.Hops.HeldRuns.{core_at, core_held, held_core, lasts}
use Rattle.wrp_bound_laws.proofs.Nodes.Inputs.{all_given_stands, all_to, node_given, node_given_all, node_kept}
use Rattle.wrp_bound_laws.proofs.Motion.NodeSteps.{still_in_track}
use Rattle.wrp_bound_laws.proofs.Motion.Offsets.{HandsNone, IsAtOnce, IsNoFrame, event_off, none_to, same_off}
use Rattle.wrp_bound_laws.proofs.Motion.OnTime.{IsStill, was_up}
use Rattle.wrp_bound_laws.proofs.Sources.Parents.{has_servo, has_slave, with_servo, state_holdover}
use Rattle.wrp_bound_laws.proofs.Nodes.StepCalls.{Brings, IsTelling, KeptBy, settled_keeps, step_keeps}

-- What the servo answers changes neither the lease nor the link

-- The message of a measurement

-- it is a Follow_Up or a Delay_Resp at a slave
kind_of : (reason : Option Reason) (role : Role) (head : Head) (body : Body) (stamp : Stamp) (tick : ℕ) → pairs (piece_unless reason (piece_of role head body stamp tick)) ≡ true → (renews role head body ≡ false) × (link_input role body ≡ None)
kind_of (Some r) role head body stamp tick e = absurd (false≢true e)
kind_of None Master head (FollowUp precise) stamp tick e = absurd (false≢true e)
kind_of None Master head (DelayResp receive requesting) stamp tick e = absurd (false≢true e)
kind_of None Master head (Sync origin) stamp tick e = absurd (false≢true e)
kind_of None Master head (DelayReq origin) stamp tick e = absurd (false≢true e)
kind_of None Master head (Announce origin utc p1 quality p2 gm steps source suffix) stamp tick e = absurd (false≢true e)
kind_of None Master head (Signal target message) stamp tick e = absurd (false≢true e)
kind_of None Slave head (FollowUp precise) stamp tick e = (refl, refl)
kind_of None Slave head (DelayResp receive requesting) stamp tick e = (refl, refl)
kind_of None Slave head (Sync origin) stamp tick e = absurd (false≢true e)
kind_of None Slave head (DelayReq origin) stamp tick e = absurd (false≢true e)
kind_of None Slave head (Announce origin utc p1 quality p2 gm steps source suffix) stamp tick e = absurd (false≢true e)
kind_of None Slave head (Signal target message) stamp tick e = absurd (false≢true e)

pairs_of : (a b : Bool) (o : Option Four) (four : Four) → (if a && b then o else None) ≡ Some four → a ≡ true
pairs_of true b o four e = refl
pairs_of false b o four e = absurd (none-some four e)

-- it leaves the lease and the link as they were
never_zero : (a b : Bool) (o : Option ℕ) → b ≡ false → zero_where (a && b) o ≡ o
never_zero true true o e = absurd (false≢true (sym e))
never_zero true false o e = refl
never_zero false b o e = refl

fresh_heard : (set : PortSetting) (told : List PortIn) (m : PtpMsg) (stamp : Stamp) (tick : ℕ) → renews set.ds.role m.head m.body ≡ false → is_fresh set (Msg m stamp tick ∷ told) ≡ is_fresh set told
fresh_heard set told m stamp tick e =
    ap (λ (o : Option ℕ). is_left set.sched.lease o) (never_zero (is_none (early_reason set (link_of set told) m)) (renews set.ds.role m.head m.body) (since_renewal set told) e)

quiet_input : (reason : Option Reason) (o : Option LinkIn) → o ≡ None → input_unless reason o ≡ None
quiet_input None o e = e
quiet_input (Some r) o e = refl

link_heard : (set : PortSetting) (told : List PortIn) (m : PtpMsg) (stamp : Stamp) (tick : ℕ) → link_input set.ds.role m.body ≡ None → link_of set (Msg m stamp tick ∷ told) ≡ link_of set told
link_heard set told m stamp tick e =
    ap (λ (i : Option LinkIn). link_by set (with_input i (link_inputs set told))) (quiet_input (early_reason set (link_by set (link_inputs set told)) m) (link_input set.ds.role m.body) e)

fresh_used : (b : Bool) (set : PortSetting) (told : List PortIn) (m : PtpMsg) (stamp : Stamp) (tick : ℕ) → (b ≡ true → renews set.ds.role m.head m.body ≡ false) → is_fresh set (if b then Msg m stamp tick ∷ told else told) ≡ is_fresh set told
fresh_used true set told m stamp tick h = fresh_heard set told m stamp tick (h refl)
fresh_used false set told m stamp tick h = refl

link_used : (b : Bool) (set : PortSetting) (told : List PortIn) (m : PtpMsg) (stamp : Stamp) (tick : ℕ) → (b ≡ true → link_input set.ds.role m.body ≡ None) → link_of set (if b then Msg m stamp tick ∷ told else told) ≡ link_of set told
link_used true set told m stamp tick h = link_heard set told m stamp tick (h refl)
link_used false set told m stamp tick h = refl

node_fresh : (fixed : NodeSetting) (n : NodeAt) (q : ℕ) (m : PtpMsg) (stamp : Stamp) (tick : ℕ) (o : Option ℕ) → renews (setting_of fixed.set q).ds.role m.head m.body ≡ false → is_fresh_at fixed.set (used fixed q (Msg m stamp tick) n).node o ≡ is_fresh_at fixed.set n o
node_fresh fixed n q m stamp tick None e = refl
node_fresh fixed n q m stamp tick (Some p) e =
    fresh_used (p == q) (setting_of fixed.set p) (n.told p) m stamp tick (λ same. subst (λ i. renews (setting_of fixed.set i).ds.role m.head m.body ≡ false) (sym (eqb-true p q same)) e)

node_deltas : (fixed : NodeSetting) (n : NodeAt) (q : ℕ) (m : PtpMsg) (stamp : Stamp) (tick : ℕ) (o : Option ℕ) → link_input (setting_of fixed.set q).ds.role m.body ≡ None → deltas_at fixed.set (used fixed q (Msg m stamp tick) n).node o ≡ deltas_at fixed.set n o
node_deltas fixed n q m stamp tick None e = refl
node_deltas fixed n q m stamp tick (Some p) e =
    ap (λ (l : LinkAt). deltas_of (port_of fixed.set p).role l)
    (link_used (p == q) (setting_of fixed.set p) (n.told p) m stamp tick (λ same. subst (λ i. link_input (setting_of fixed.set i).ds.role m.body ≡ None) (sym (eqb-true p q same)) e))

-- So the servo is given nothing else

-- the servo knows of the lease and of the link
pub record Knows (fixed : NodeSetting) (n : NodeAt) : Type 0 where
  pub lease : lease_told n.calls ≡ is_fresh_in fixed.set n
  pub link : is_some (link_told n.calls) ≡ is_some (deltas_in fixed.set n)

no_change : (has told now : Bool) (call : Call) → told ≡ now → (if has then (if is_changed told now then Some call else None) else None) ≡ None
no_change true true true call e = refl
no_change true false false call e = refl
no_change true true false call e = absurd (false≢true (sym e))
no_change true false true call e = absurd (false≢true e)
no_change false told now call e = refl

told_alone : (fixed : NodeSetting) (n : NodeAt) (q : ℕ) (m : PtpMsg) (stamp : Stamp) (tick : ℕ) (answer : ℤ) (four : Four) → is_some (slave_of fixed.set) ≡ true → Knows fixed n → measured_at fixed n q (Msg m stamp tick) ≡ Some four →
    (settled fixed (measured fixed q (Msg m stamp tick) answer n)).node.calls ≡ CallMeasured four answer ∷ n.calls
told_alone fixed n q m stamp tick answer four servo knows e =
    let input : PortIn = Msg m stamp tick in
    let set : PortSetting = setting_of fixed.set q in
    let piece : _ = call_of set (line_at fixed.set n q) input in
    let kind : (renews set.ds.role m.head m.body ≡ false) × (link_input set.ds.role m.body ≡ None) =
    kind_of (early_reason set (line_at fixed.set n q).link m) set.ds.role m.head m.body stamp tick (pairs_of (pairs piece) (is_kept set.ring (pieces_at fixed.set n q) piece) _ four e) in
    let call : Option Call = for_slave fixed (measurement_by (measured_at fixed n q input) answer) in
    let s : Step = measured fixed q input answer n in
    let calls : s.node.calls ≡ CallMeasured four answer ∷ n.calls =
    ap (λ (o : Option Four). called (for_slave fixed (measurement_by o answer)) n.calls) e ∙ ap (λ (b : Bool). called (if b then Some (CallMeasured four answer) else None) n.calls) servo in
    let fresh : is_fresh_in fixed.set s.node ≡ is_fresh_in fixed.set n = tell_fresh fixed call (used fixed q input n) ∙ node_fresh fixed n q m stamp tick (slave_of fixed.set) kind.0 in
    let lease : lease_change fixed s.node ≡ None =
    no_change (is_some (slave_of fixed.set)) (lease_told s.node.calls) (is_fresh_in fixed.set s.node) (CallLease (is_fresh_in fixed.set s.node)) (ap lease_told calls ∙ knows.lease ∙ sym fresh) in
    let s1 : Step = with_lease fixed s in
    let calls1 : s1.node.calls ≡ CallMeasured four answer ∷ n.calls = ap (λ (o : Option Call). called o s.node.calls) lease ∙ calls in
    let on : deltas_in fixed.set s1.node ≡ deltas_in fixed.set n =
    tell_deltas fixed (lease_change fixed s.node) s ∙ tell_deltas fixed call (used fixed q input n) ∙ node_deltas fixed n q m stamp tick (slave_of fixed.set) kind.1 in
    let link : link_change fixed s1.node ≡ None =
    no_change (is_some (slave_of fixed.set)) (is_some (link_told s1.node.calls)) (is_some (deltas_in fixed.set s1.node)) (CallLink (deltas_in fixed.set s1.node))
    (ap (λ (l : List Call). is_some (link_told l)) calls1 ∙ knows.link ∙ sym (ap is_some on)) in
    ap (λ (o : Option Call). called o s1.node.calls) link ∙ calls1

-- Neither TRACK nor HOLDOVER

pub record IsOut (v : Core) : Type 0 where
  pub track : is_track v.state ≡ true → ⊥
  pub held : is_holdover v.state ≡ true → ⊥

out_stays : HoldLaws → (x : ServoSetting) → 0 < x.set.holdover → (calls : List Call) (c : Call) → IsNoMeasure c → IsOut (run x calls) → IsOut (run x (c ∷ calls))
out_stays laws x some calls c h out = record {
  track = λ e. out.track (tracked_before laws.track x calls c h e);
  held = λ e. elim (held_before laws.held x calls c some e) [ inl track ↦ out.track track | inr held ↦ out.held held ];
}

abbrev OutAt : NodeSetting → NodeAt → Type 0
OutAt fixed m = IsOut (run (servo_setting_of fixed) m.calls)

abbrev Lasts : NodeSetting → Type 0
Lasts fixed = 0 < (servo_setting_of fixed).set.holdover

telling_no_measure : (c : Call) → IsTelling c → IsNoMeasure c
telling_no_measure (CallLease fresh) h = tt
telling_no_measure (CallLink on) h = tt
telling_no_measure (CallSample n base bits) h = absurd h
telling_no_measure (CallMeasured four answer) h = absurd h
telling_no_measure CallTick h = absurd h
telling_no_measure (CallCarrier up) h = absurd h
telling_no_measure CallReset h = absurd h

telling_out : HoldLaws → (fixed : NodeSetting) → Lasts fixed → KeptBy IsTelling (λ calls. IsOut (run (servo_setting_of fixed) calls))
telling_out laws fixed some calls c ok k = out_stays laws (servo_setting_of fixed) some calls c (telling_no_measure c ok) k

-- by inputs that are no frame
brings_none : (input : Input) → IsNoFrame input → Brings IsNoMeasure input
brings_none TickInput h = tt
brings_none (SampleInput number base bits) h = tt
brings_none (Frame p octets raw sample) h = absurd (false≢true (sym h))
brings_none (Sent p seq delay stamp) h = tt
brings_none (Carrier p up own_module) h = tt
brings_none Reset h = tt

plain_out : HoldLaws → (fixed : NodeSetting) → Lasts fixed → (t : Taken) (m : NodeAt) → IsNoFrame t.input → OutAt fixed m → OutAt fixed (node_step fixed t m).node
plain_out laws fixed some t m h out =
    step_keeps IsNoMeasure (λ calls. IsOut (run (servo_setting_of fixed) calls)) (λ calls c ok k. out_stays laws (servo_setting_of fixed) some calls c ok k) (telling_out laws fixed some) fixed t m (brings_none t.input h) out

-- a frame may bring it to TRACK, but not to HOLDOVER
abbrev NotHeld : NodeSetting → NodeAt → Type 0
NotHeld fixed m = is_holdover (run (servo_setting_of fixed) m.calls).state ≡ true → ⊥

untold_out : HoldLaws → (fixed : NodeSetting) → Lasts fixed → (n : NodeAt) (s : Step) → s.node.calls ≡ n.calls → OutAt fixed n → NotHeld fixed (settled fixed s).node
untold_out laws fixed some n s same out e =
    (settled_keeps (λ calls. IsOut (run (servo_setting_of fixed) calls)) (telling_out laws fixed some) fixed s (subst (λ l. IsOut (run (servo_setting_of fixed) l)) (sym same) out)).held e

measured_out : HoldLaws → (fixed : NodeSetting) → Lasts fixed → is_some (slave_of fixed.set) ≡ true → (n : NodeAt) → Knows fixed n → OutAt fixed n → (q : ℕ) (m : PtpMsg) (stamp : Stamp) (tick : ℕ) (answer : ℤ) (o : Option Four) →
    measured_at fixed n q (Msg m stamp tick) ≡ o → NotHeld fixed (settled fixed (measured fixed q (Msg m stamp tick) answer n)).node
measured_out laws fixed some servo n knows out q m stamp tick answer None e =
    untold_out laws fixed some n (measured fixed q (Msg m stamp tick) answer n)
    (ap (λ (o : Option Four). called (for_slave fixed (measurement_by o answer)) n.calls) e ∙ ap (λ (b : Bool). called (if b then None else None) n.calls) servo) out
measured_out laws fixed some servo n knows out q m stamp tick answer (Some four) e = λ h.
    let x : ServoSetting = servo_setting_of fixed in
    let held : is_holdover (run x (CallMeasured four answer ∷ n.calls)).state ≡ true = subst (λ l. is_holdover (run x l).state ≡ true) (told_alone fixed n q m stamp tick answer four servo knows e) h in
    elim (held_before laws.held x n.calls (CallMeasured four answer) some held) [
      | inl track ↦ out.track track
      | inr was ↦ out.held was
    ]

message_out : HoldLaws → (fixed : NodeSetting) → Lasts fixed → is_some (slave_of fixed.set) ≡ true → (n : NodeAt) → Knows fixed n → OutAt fixed n → (q : ℕ) (m : PtpMsg) (stamp : Stamp) (tick : ℕ) (answer : ℤ) (reason : Option Reason) →
    NotHeld fixed (settled fixed (heard_unless reason fixed q (Msg m stamp tick) answer n)).node
message_out laws fixed some servo n knows out q m stamp tick answer None = measured_out laws fixed some servo n knows out q m stamp tick answer (measured_at fixed n q (Msg m stamp tick)) refl
message_out laws fixed some servo n knows out q m stamp tick answer (Some reason) = untold_out laws fixed some n (heard_unless (Some reason) fixed q (Msg m stamp tick) answer n) refl out

frame_out : HoldLaws → (fixed : NodeSetting) → Lasts fixed → is_some (slave_of fixed.set) ≡ true → (n : NodeAt) → Knows fixed n → OutAt fixed n → (p : ℕ) (octets : Items ℕ) (raw : Raw) (sample : ℕ) (says : Result PtpMsg FrameFault) (answer : ℤ) →
    NotHeld fixed (settled fixed (heard fixed p says raw sample answer n)).node
frame_out laws fixed some servo n knows out p octets raw sample (Err fault) answer = untold_out laws fixed some n (heard fixed p (Err fault) raw sample answer n) refl out
frame_out laws fixed some servo n knows out p octets raw sample (Ok m) answer =
    message_out laws fixed some servo n knows out p m _ n.ticks answer (early_reason (setting_of fixed.set p) (line_at fixed.set n p).link m)

-- Events

pub record EnterLaws : Type 0 where
  pub holds : HoldLaws
  pub settles : StepSettles
  pub commands : CommandsAreHeld
  pub still : NoStepInTrack

-- what an event finds of a node that is up
pub record Found (s : Setting) (w : WorldAt) (n : ℕ) : Type 0 where
  pub lasts : Lasts (node_setting_of s n)
  pub servo : is_some (slave_of (s.set n)) ≡ true
  pub knows : Knows (node_setting_of s n) (w.node n)
  pub out : OutAt (node_setting_of s n) (w.node n)

handed_out : HoldLaws → (s : Setting) (w v : WorldAt) (y : ℤ) (g : Given) (n p : ℕ) (octets : Items ℕ) (raw : Raw) (sample : ℕ) → Found s w n → v.node ≡ w.node → g.input ≡ Frame p octets raw sample → NotHeld (node_setting_of s n) ((gives s y v g).node n)
handed_out laws s w v y g n p octets raw sample f same is =
    let fixed : NodeSetting = node_setting_of s n in
    let here : NotHeld fixed (settled fixed (stepped fixed (Frame p octets raw sample) g.says y (w.node n))).node =
    frame_out laws fixed f.lasts f.servo (w.node n) f.knows f.out p octets raw sample g.says y in
    node_given (NotHeld fixed) s y v g n
    (λ e. subst (λ (i : Input). NotHeld fixed (settled fixed (stepped fixed i g.says y (v.node n))).node) (sym is)
    (subst (λ (z : ℕ → NodeAt). NotHeld fixed (settled fixed (stepped fixed (Frame p octets raw sample) g.says y (z n))).node) (sym same) here))
    (subst (λ (z : ℕ → NodeAt). NotHeld fixed (z n)) (sym same) f.out.held)

end_out : HoldLaws → (s : Setting) (w v : WorldAt) (y : ℤ) (f : FrameAt) (a : Arrival) (o : Option End) (n : ℕ) → Found s w n → v.node ≡ w.node → NotHeld (node_setting_of s n) ((gives_all s y v (option_map_or (λ end. delivered_to f a end.node end.port) o [])).node n)
end_out laws s w v y f a None n found same = subst (λ (z : ℕ → NodeAt). NotHeld (node_setting_of s n) (z n)) (sym same) found.out.held
end_out laws s w v y f a (Some end) n found same =
    handed_out laws s w v y (record { to = end.node; input = Frame end.port (record { items = octets_of f.sending.message }) a.raw a.sample; says = Ok f.sending.message; at = f.sending.at }) n end.port (record { items = octets_of f.sending.message }) a.raw a.sample
    found same refl

arrival_out : HoldLaws → (s : Setting) (w v : WorldAt) (y : ℤ) (f : FrameAt) (o : Option Arrival) (n : ℕ) → Found s w n → v.node ≡ w.node → NotHeld (node_setting_of s n) ((gives_all s y v (delivered_by s f o)).node n)
arrival_out laws s w v y f None n found same = subst (λ (z : ℕ → NodeAt). NotHeld (node_setting_of s n) (z n)) (sym same) found.out.held
arrival_out laws s w v y f (Some a) n found same = end_out laws s w v y f a (end_at s f.link (other_of f.by)) n found same

deliver_out : HoldLaws → (s : Setting) (w v : WorldAt) (y : ℤ) (o : Option FrameAt) (n : ℕ) → Found s w n → v.node ≡ w.node → NotHeld (node_setting_of s n) ((gives_all s y v (delivered s o)).node n)
deliver_out laws s w v y None n found same = subst (λ (z : ℕ → NodeAt). NotHeld (node_setting_of s n) (z n)) (sym same) found.out.held
deliver_out laws s w v y (Some f) n found same = arrival_out laws s w v y f f.arrival n found same

kept_out : HoldLaws → (s : Setting) (says : Result PtpMsg FrameFault) (y : ℤ) (w : WorldAt) (e : Event) (n : ℕ) → HandsNone e → Found s w n → NotHeld (node_setting_of s n) ((world_step s says y w e).node n)
kept_out laws s says y w e n none found h =
    (node_kept (OutAt (node_setting_of s n)) IsNoFrame s says y w e n (λ t m q k. plain_out laws (node_setting_of s n) found.lasts t m q k) (none_to n e none) found.out).held h

event_out : HoldLaws → (s : Setting) (says : Result PtpMsg FrameFault) (y : ℤ) (w : WorldAt) (e : Event) (n : ℕ) → Found s w n → NotHeld (node_setting_of s n) ((world_step s says y w e).node n)
event_out laws s says y w (Deliver i) n found = deliver_out laws s w (moved s w (Deliver i)) y (w.frame i) n found refl
event_out laws s says y w (Noise m p octets raw) n found = handed_out laws s w (moved s w (Noise m p octets raw)) y (given m (Frame p octets raw (w.clock m).samples) says) n p octets raw (w.clock m).samples found refl refl
event_out laws s says y w (Pass dt drifts fibres) n found = found.out.held
event_out laws s says y w (Arrive i raw) n found = found.out.held
event_out laws s says y w e n found = kept_out laws s says y w e n tt found

-- A start

reset_out : HoldLaws → (fixed : NodeSetting) → Lasts fixed → is_some (slave_of fixed.set) ≡ true → (t : Taken) (m : NodeAt) → t.input ≡ Reset → OutAt fixed (node_step fixed t m).node
reset_out laws fixed some servo t m is =
    let x : ServoSetting = servo_setting_of fixed in
    let calls : (stepped fixed t.input t.says t.answer m).node.calls ≡ CallReset ∷ m.calls =
    ap (λ (i : Input). (stepped fixed i t.says t.answer m).node.calls) is ∙ ap (λ (b : Bool). called (if b then Some CallReset else None) m.calls) servo in
    settled_keeps (λ now. IsOut (run x now)) (telling_out laws fixed some) fixed (stepped fixed t.input t.says t.answer m)
    (subst (λ now. IsOut (run x now)) (sym calls) (record { track = λ e. false≢true e; held = λ e. false≢true e }))

start_out : HoldLaws → (s : Setting) (says : Result PtpMsg FrameFault) (y : ℤ) (w : WorldAt) (n m : ℕ) (off : ℤ) (swaps : Items Swap) → Lasts (node_setting_of s n) → is_some (slave_of (s.set n)) ≡ true → n ≡ m → OutAt (node_setting_of s n) ((world_step s says y w (Up m off swaps)).node n)
start_out laws s says y w n m off swaps some servo same =
    let v : WorldAt = moved s w (Up m off swaps) in
    let g : Given = given_plain m Reset in
    let rest : List Given = at_ports s v (comes_from s v) m in
    let here : (n == m) ≡ true = ap (λ i. i == m) same ∙ eq_self m in
    let first : OutAt (node_setting_of s n) ((gives s y v g).node n) =
    subst (OutAt (node_setting_of s n)) (sym (ap (λ b. if b then (step_of s y v g).node else w.node n) here ∙ ap (λ i. (node_step (node_setting_of s i) (taken_of y g) (w.node i)).node) (sym same)))
    (reset_out laws (node_setting_of s n) some servo (taken_of y g) (w.node n) refl) in
    node_given_all (OutAt (node_setting_of s n)) IsNoFrame s y n (λ t x q k. plain_out laws (node_setting_of s n) some t x q k) rest (gives s y v g)
    (all_to IsNoFrame n rest (ports_all IsNoFrame s v (comes_from s v) m (numbers_of (s.set m)) (comes_all IsNoFrame (λ p q. refl) s v))) first

-- a node that is up after an event and was not before has started
up_after : (s : Setting) (says : Result PtpMsg FrameFault) (y : ℤ) (w : WorldAt) (e : Event) (n : ℕ) → IsStill n e → ((world_step s says y w e).clock n).up ≡ true → (w.clock n).up ≡ true
up_after s says y w e n still up = was_up s w e n still (sym (all_given_stands s y (given_by s w (moved s w e) says e) (moved s w e) n) ∙ up)

from_down : HoldLaws → (s : Setting) (says : Result PtpMsg FrameFault) (y : ℤ) (w : WorldAt) (e : Event) (n : ℕ) → Lasts (node_setting_of s n) → is_some (slave_of (s.set n)) ≡ true → (w.clock n).up ≡ false → ((world_step s says y w e).clock n).up ≡ true →
    NotHeld (node_setting_of s n) ((world_step s says y w e).node n)
from_down laws s says y w (Up m off swaps) n some servo down up = elim (eqb_tells n m) [
  | inl x ↦ (start_out laws s says y w n m off swaps some servo x.1).held
  | inr x ↦ absurd (false≢true (sym down ∙ up_after s says y w (Up m off swaps) n x.1 up))
]
from_down laws s says y w (Pass dt drifts fibres) n some servo down up = absurd (false≢true (sym down ∙ up))
from_down laws s says y w e n some servo down up = absurd (false≢true (sym down ∙ up_after s says y w e n tt up))

-- Each event

-- in the event that brings a node to HOLDOVER no time passes, and the node does not start
at_once : (s : Setting) (says : Result PtpMsg FrameFault) (y : ℤ) (before : List Happened) (e : Event) (n : ℕ) → IsRun s (record { event = e; says = says; answer = y } ∷ before) → ((world_after s before).clock n).up ≡ true →
    IsHeld s n (record { event = e; says = says; answer = y } ∷ before) → (IsHeld s n before → ⊥) → IsAtOnce n e
at_once s says y before (Pass dt drifts fibres) n run up held none = none (record { up = up; state = held.state })
at_once s says y before (Up m off swaps) n run up held none = λ same.
    not_up ((world_after s before).clock n).up up (subst (λ i. not (not ((world_after s before).clock i).up) ≡ false) (sym same) (comes_up_down s (world_after s before) says m off swaps run.accepted.0))
at_once s says y before e n run up held none = tt

-- and from TRACK no step is taken
no_step : EnterLaws → (s : Setting) (h : Happened) (before : List Happened) (n : ℕ) → IsAtOnce n h.event → is_track (core_at s before n).state ≡ true → ((world_after s (h ∷ before)).clock n).off ≡ ((world_after s before).clock n).off
no_step laws s h before n once track =
    let w : WorldAt = world_after s before in
    event_off laws.commands s h.says h.answer w h.event n (λ _. Unit {0})
    (λ u k. still_in_track laws.commands laws.still (node_setting_of s n) u (w.node n) (ap (λ b. b || is_holdover (core_at s before n).state) track)) tt
    ∙ same_off w h.event n once

-- it was in TRACK
tracked : EnterLaws → (s : Setting) (h : Happened) (before : List Happened) (n : ℕ) (link : LinkCfg) → IsNetwork s → link_above s.cfg n ≡ Some link → IsHeld s n (h ∷ before) → (IsHeld s n before → ⊥) → ((world_after s before).clock n).up ≡ true →
    is_track (core_at s before n).state ≡ true
tracked laws s h before n link net above held none up = elim (cases_Bool (is_track (core_at s before n).state)) [
  | inl e ↦ e
  | inr e ↦
      let w : WorldAt = world_after s before in
      let slave : slave_of (s.set n) ≡ Some link.lower_port = has_slave s net n link above in
      let found : Found s w n = record {
        lasts = lasts s net n;
        servo = has_servo s net n link above;
        knows = record { lease = knows_lease laws.settles s before n link.lower_port slave; link = knows_link laws.settles s before n link.lower_port slave };
        out = record {
          track = λ t. false≢true (sym e ∙ t);
          held = λ k. none (core_held s before n link net above up (state_holdover (core_at s before n).state k));
        };
      } in
      absurd (event_out laws.holds s h.says h.answer w h.event n found (held_core s (h ∷ before) n link net above held))
]

-- and up
was_on : EnterLaws → (s : Setting) (h : Happened) (before : List Happened) (n : ℕ) (link : LinkCfg) → IsNetwork s → link_above s.cfg n ≡ Some link → IsHeld s n (h ∷ before) → ((world_after s before).clock n).up ≡ true
was_on laws s h before n link net above held = elim (cases_Bool ((world_after s before).clock n).up) [
  | inl up ↦ up
  | inr down ↦ absurd (from_down laws.holds s h.says h.answer (world_after s before) h.event n (lasts s net n) (has_servo s net n link above) down held.up (held_core s (h ∷ before) n link net above held))
]

pub holdover_is_from_track : EnterLaws → HoldoverIsFromTrack
holdover_is_from_track laws s h before n link run above held none =
    let net : IsNetwork s = run.network in
    let up : ((world_after s before).clock n).up ≡ true = was_on laws s h before n link net above held in
    let track : is_track (core_at s before n).state ≡ true = tracked laws s h before n link net above held none up in
    record {
      up = up;
      state = with_servo (node_setting_of s n) ((world_after s before).node n) (has_servo s net n link above) ∙ state_of_track (core_at s before n).state track;
      still = no_step laws s h before n (at_once s h.says h.answer before h.event n run up held none) track;
    }
