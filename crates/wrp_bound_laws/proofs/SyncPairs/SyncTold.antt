-- What an input of a node adds to the calls of its slave's exchange, while its servo has a chain.
use Rattle.std.proofs.Common.{◌≡◌, ◌∙◌, refl, ap, sym, ℕ, ◌==◌, ◌&&◌, cond, ℤ, Bool, true, false, if◌then◌else◌, is_some, List, ◌∷◌, Option, None, Some, option_map, Result, Ok, Err}
use Rattle.std.specs.Prelude.{int_le}
use Rattle.std.proofs.lemmas.Bool.{false≢true}
use Rattle.std.proofs.lemmas.Option.{none-some, same_Some}
use Rattle.wrp_base.specs.declared.link.Role.{Role}
use Rattle.wrp_base.specs.declared.link.Role.TheVariants.{Master, Slave}
use Rattle.wrp_base.specs.declared.link.ServoState.{ServoState}
use Rattle.wrp_base.specs.declared.link.ServoState.TheVariants.{Uninit, SyncTai, SyncNsec, SyncPhase, WaitStable, Track, Holdover}
use Rattle.wrp_base.specs.declared.measurement.ChainNews.{ChainNews}
use Rattle.wrp_base.specs.declared.measurement.ChainNews.TheVariants.{Same, Started}
use Rattle.wrp_base.specs.declared.message.PtpMsg.{PtpMsg}
use Rattle.wrp_base.specs.declared.time.Raw.{Raw}
use Rattle.wrp_base.specs.declared.time.Stamp.{Stamp}
use Rattle.wrp_base.proofs.Naturals.{eq_self}
use Rattle.wrp_data.specs.declared.reason.Reason.{Reason}
use Rattle.wrp_exch.specs.Call.{Call as Piece, CallStart, CallSample as SamplePiece, CallReqOut, CallReqSent, CallResp}
use Rattle.wrp_frame.specs.declared.fault.FrameFault.{FrameFault}
use Rattle.wrp_node.specs.NodeAt.{NodeSetting, NodeAt, line_at, link_at, pieces_at, setting_of, servo_setting_of, slave_of}
use Rattle.wrp_node.specs.NodeStep.{carried, counted_tick, handed, heard, heard_unless, is_slave_port, lease_ticked, measured, measured_at, measurement_by, message_of, ports_ticked, servo_ticked, stamp_of, told_slave, used}
use Rattle.wrp_node.specs.Telling.{Step, answer_of, called, for_slave, heard_of, lease_change, link_change, no_answer, number_of, settled, step_from, tell, told_at, told_by, with_lease, with_news, with_sample}
use Rattle.wrp_port.specs.declared.interface.PortIn.{PortIn}
use Rattle.wrp_port.specs.declared.interface.PortIn.TheVariants.{Lease, Msg, Sample as PortSample, Sent as PortSent, Carrier as PortCarrier}
use Rattle.wrp_port.specs.declared.line.Rest.{Rest}
use Rattle.wrp_port.specs.declared.setting.Setting.{Setting}
use Rattle.wrp_port.specs.Hearing.{early_reason}
use Rattle.wrp_port.specs.History.{calls_of, rest_after}
use Rattle.wrp_port.specs.LineAfter.{requests_on, ticked}
use Rattle.wrp_port.specs.Outputs.{call_of, due_request, only_slave, sample_call, sent_call, with_call}
use Rattle.wrp_servo.specs.Call.{Call, CallSample, CallMeasured, CallTick, CallLease, CallLink, CallCarrier, CallReset, ServoSetting, after, run}
use Rattle.wrp_servo.specs.declared.interface.ServoOut.{ServoOut}
use Rattle.wrp_servo.specs.declared.machine.Core.{Core}
use Rattle.wrp_servo.specs.declared.sampling.Heard.{Heard}
use Rattle.wrp_servo.specs.declared.sampling.Heard.TheVariants.{Ignored, Refused, Lost, Followed}
use Rattle.wrp_servo.specs.Laws.{ChainSince}
use Rattle.wrp_servo.specs.Sampling.{chained, followed, good_tag, heard as servo_heard, heard_as, hears, is_far, judged, judged_in, lost, may_start, stays_near, tag_as, with_last, with_tag}
use Rattle.wrp_servo.specs.Servo.{answer_to, news_at, news_of, out_by}
use Rattle.wrp_servo.specs.Table.{ended, ended_in}
use Rattle.wrp_servo.specs.Tags.{heard_tag}
use Rattle.wrp_bound_laws.proofs.Samples.LiveChains.{IsNoSample, stood_before}
use Rattle.wrp_bound_laws.proofs.Measurements.FourCalls.{same_news}
use Rattle.wrp_bound_laws.proofs.Motion.NodeSteps.{Stands}

-- What the servo answers, at its slave port

pub there : (o : Option ℕ) (out : ServoOut) (k : ℕ) (told : ℕ → List PortIn) (p : ℕ) → o ≡ Some p → told_by o out k told p ≡ heard_of out k (told p)
there None out k told p e = absurd (none-some p e)
there (Some q) out k told p e =
    let here : (p == q) ≡ true = ap (λ (n : ℕ). p == n) (same_Some q p e) ∙ eq_self p in
    ap (λ (b : Bool). if b then heard_of out k (told p) else told p) here

plain_heard : (out : ServoOut) (k : ℕ) (told : List PortIn) → out.unwrapped ≡ None → out.chain ≡ Same → heard_of out k told ≡ told
plain_heard out k told e f = ap (λ o. with_sample o k (with_news out.chain told)) e ∙ ap (λ c. with_news c told) f

no_phase : (x : ServoSetting) (v : Core) (c : Call) → IsNoSample c → (answer_to x v c).unwrapped ≡ None
no_phase x v (CallSample n base bits) h = absurd h
no_phase x v (CallMeasured f y) h = refl
no_phase x v CallTick h = refl
no_phase x v (CallLease fresh) h = refl
no_phase x v (CallLink on) h = refl
no_phase x v (CallCarrier up) h = refl
no_phase x v CallReset h = refl

chain_is : (x : ServoSetting) (v : Core) (c : Call) → IsNoSample c → (answer_to x v c).chain ≡ news_at x v c
chain_is x v (CallSample n base bits) h = absurd h
chain_is x v (CallMeasured f y) h = refl
chain_is x v CallTick h = refl
chain_is x v (CallLease fresh) h = refl
chain_is x v (CallLink on) h = refl
chain_is x v (CallCarrier up) h = refl
chain_is x v CallReset h = refl

-- A servo that is given something, if anything, but no sample

abbrev NoSampleIn : Option Call → Type 0
NoSampleIn None = Unit {0}
NoSampleIn (Some c) = IsNoSample c

if_none : (b : Bool) (o : Option Call) → NoSampleIn o → NoSampleIn (if b then o else None)
if_none true o h = h
if_none false o h = tt

abbrev StandsAt : NodeSetting → Step → Type 0
StandsAt fixed s = Stands (run (servo_setting_of fixed) s.node.calls)

stood : ChainSince → (fixed : NodeSetting) (o : Option Call) (s : Step) → NoSampleIn o → StandsAt fixed (tell fixed o s) → StandsAt fixed s
stood law fixed None s h stands = stands
stood law fixed (Some c) s h stands = stood_before law (servo_setting_of fixed) s.node.calls c h stands

quiet : (fixed : NodeSetting) (o : Option Call) (s : Step) (p : ℕ) → slave_of fixed.set ≡ Some p → NoSampleIn o → StandsAt fixed s → StandsAt fixed (tell fixed o s) → (tell fixed o s).node.told p ≡ s.node.told p
quiet fixed None s p slave h was now = there (slave_of fixed.set) no_answer 0 s.node.told p slave
quiet fixed (Some c) s p slave h was now =
    let x : ServoSetting = servo_setting_of fixed in
    let v : Core = run x s.node.calls in
    there (slave_of fixed.set) (answer_to x v c) (number_of (Some c)) s.node.told p slave
    ∙ plain_heard (answer_to x v c) (number_of (Some c)) (s.node.told p) (no_phase x v c h) (chain_is x v c h ∙ same_news v.first (after x v c).first was now)

-- what was there before, and what its slave port was given
pub record Unmoved (fixed : NodeSetting) (s t : Step) (p : ℕ) : Type 0 where
  pub stood : StandsAt fixed s
  pub told : t.node.told p ≡ s.node.told p

unmoved : ChainSince → (fixed : NodeSetting) (o : Option Call) (s : Step) (p : ℕ) → slave_of fixed.set ≡ Some p → NoSampleIn o → StandsAt fixed (tell fixed o s) → Unmoved fixed s (tell fixed o s) p
unmoved law fixed o s p slave h now =
    let was : StandsAt fixed s = stood law fixed o s h now in
    record { stood = was; told = quiet fixed o s p slave h was now }

twice : (fixed : NodeSetting) (s t u : Step) (p : ℕ) → Unmoved fixed s t p → Unmoved fixed t u p → Unmoved fixed s u p
twice fixed s t u p h k = record { stood = h.stood; told = k.told ∙ h.told }

change_none : (b : Bool) (c : Call) → IsNoSample c → NoSampleIn (if b then Some c else None)
change_none true c h = h
change_none false c h = tt

settled_unmoved : ChainSince → (fixed : NodeSetting) (s : Step) (p : ℕ) → slave_of fixed.set ≡ Some p → StandsAt fixed (settled fixed s) → Unmoved fixed s (settled fixed s) p
settled_unmoved law fixed s p slave now =
    let w : Step = with_lease fixed s in
    let last : Unmoved fixed w (settled fixed s) p =
    unmoved law fixed (link_change fixed w.node) w p slave (if_none (is_some (slave_of fixed.set)) _ (change_none _ (CallLink _) tt)) now in
    twice fixed s w (settled fixed s) p
    (unmoved law fixed (lease_change fixed s.node) s p slave (if_none (is_some (slave_of fixed.set)) _ (change_none _ (CallLease _) tt)) last.stood) last

-- Calls of the exchange

abbrev pub pieces : NodeSetting → Step → ℕ → List Piece
pieces fixed s p = pieces_at fixed.set s.node p

-- an exchange that was given one more call, if any
pub record Adds (fixed : NodeSetting) (n : NodeAt) (s : Step) (p : ℕ) (o : Option Piece) : Type 0 where
  pub stood : Stands (run (servo_setting_of fixed) n.calls)
  pub adds : pieces fixed s p ≡ with_call o (pieces_at fixed.set n p)

-- a call that neither begins nor ends a chain, and is neither a sample nor of the Sync half
abbrev pub IsOther : Option Piece → Type 0
IsOther None = Unit {0}
IsOther (Some (CallReqOut seq)) = Unit {0}
IsOther (Some (CallReqSent seq t3 tick)) = Unit {0}
IsOther (Some (CallResp seq t4)) = Unit {0}
IsOther (Some _) = ⊥

after_all : (fixed : NodeSetting) (n : NodeAt) (s t : Step) (p : ℕ) (o : Option Piece) → Unmoved fixed s t p → Adds fixed n s p o → Adds fixed n t p o
after_all fixed n s t p o u a = record { stood = a.stood; adds = ap (calls_of (setting_of fixed.set p)) u.told ∙ a.adds }

settled_adds : ChainSince → (fixed : NodeSetting) (n : NodeAt) (s : Step) (p : ℕ) (o : Option Piece) → slave_of fixed.set ≡ Some p → StandsAt fixed (settled fixed s) → (StandsAt fixed s → Adds fixed n s p o) → Adds fixed n (settled fixed s) p o
settled_adds law fixed n s p o slave now h =
    let u : Unmoved fixed s (settled fixed s) p = settled_unmoved law fixed s p slave now in
    after_all fixed n s (settled fixed s) p o u (h u.stood)

-- a tick
pub lease_there : (o : Option ℕ) (p : ℕ) (told : ℕ → List PortIn) → o ≡ Some p → told_slave o Lease told p ≡ Lease ∷ told p
lease_there None p told e = absurd (none-some p e)
lease_there (Some q) p told e =
    let here : (p == q) ≡ true = ap (λ (k : ℕ). p == k) (same_Some q p e) ∙ eq_self p in
    ap (λ (b : Bool). if b then Lease ∷ told p else told p) here

request_other : (b : Bool) (role : Role) (seq : ℕ) → IsOther (only_slave role (if b then Some (CallReqOut seq) else None))
request_other true Slave seq = tt
request_other false Slave seq = tt
request_other b Master seq = tt

-- what is added is other than what a chain or its Syncs are of
abbrev pub AddsOther : NodeSetting → NodeAt → Step → ℕ → Type 0
AddsOther fixed n s p = (o : Option Piece) × IsOther o × Adds fixed n s p o

pub tick_adds : ChainSince → (fixed : NodeSetting) (n : NodeAt) (p : ℕ) → slave_of fixed.set ≡ Some p → StandsAt fixed (settled fixed (ports_ticked fixed (servo_ticked fixed n))) → AddsOther fixed n (settled fixed (ports_ticked fixed (servo_ticked fixed n))) p
tick_adds law fixed n p slave now =
    let mid : Step = servo_ticked fixed n in
    let s : Step = ports_ticked fixed mid in
    let first : Step = step_from (counted_tick fixed n) in
    let last : Unmoved fixed s (settled fixed s) p = settled_unmoved law fixed s p slave now in
    let ticked_servo : Unmoved fixed (lease_ticked fixed n) mid p =
    unmoved law fixed (for_slave fixed (Some CallTick)) (lease_ticked fixed n) p slave (if_none (is_some (slave_of fixed.set)) (Some CallTick) tt) last.stood in
    let leased : Unmoved fixed first (lease_ticked fixed n) p =
    unmoved law fixed (lease_change fixed first.node) first p slave (if_none (is_some (slave_of fixed.set)) _ (change_none _ (CallLease _) tt)) ticked_servo.stood in
    let told : mid.node.told p ≡ Lease ∷ n.told p = ticked_servo.told ∙ leased.told ∙ lease_there (slave_of fixed.set) p n.told slave in
    let set : Setting = setting_of fixed.set p in
    let o : Option Piece = due_request set.ds.role (ticked set (rest_after set (mid.node.told p)) _) in (
      o,
      request_other (requests_on (ticked set (rest_after set (mid.node.told p)) _)) set.ds.role _,
      after_all fixed n s (settled fixed s) p o last
          (record { stood = leased.stood; adds = ap (λ l. with_call o (calls_of set l)) told }),
    )

-- the sending of a frame
sent_where : (set : Setting) (b delay : Bool) (seq : ℕ) (stamp : Stamp) (tick : ℕ) (told : List PortIn) →
    (o : Option Piece) × IsOther o × (calls_of set (if b then PortSent delay seq stamp tick ∷ told else told) ≡ with_call o (calls_of set told))
sent_where set true true seq stamp tick told = (sent_call set.ds.role seq stamp tick, sent_other set.ds.role, refl)
  where
    sent_other : (role : Role) → IsOther (sent_call role seq stamp tick)
    sent_other Master = tt
    sent_other Slave = tt
sent_where set true false seq stamp tick told = (None, tt, refl)
sent_where set false delay seq stamp tick told = (None, tt, refl)

pub sent_adds : ChainSince → (fixed : NodeSetting) (n : NodeAt) (p q seq : ℕ) (delay : Bool) (stamp : Stamp) → slave_of fixed.set ≡ Some p → StandsAt fixed (settled fixed (handed fixed q (PortSent delay seq stamp n.ticks) n)) →
    AddsOther fixed n (settled fixed (handed fixed q (PortSent delay seq stamp n.ticks) n)) p
sent_adds law fixed n p q seq delay stamp slave now =
    let s : Step = handed fixed q (PortSent delay seq stamp n.ticks) n in
    let it : _ = sent_where (setting_of fixed.set p) (p == q) delay seq stamp n.ticks (n.told p) in
    (it.0, it.1, settled_adds law fixed n s p it.0 slave now (λ was. record { stood = was; adds = it.2 }))

-- a carrier
carrier_where : (set : Setting) (b up : Bool) (own_module : _) (told : List PortIn) → calls_of set (if b then PortCarrier up own_module ∷ told else told) ≡ calls_of set told
carrier_where set true true own_module told = refl
carrier_where set true false own_module told = refl
carrier_where set false up own_module told = refl

pub carrier_adds : ChainSince → (fixed : NodeSetting) (n : NodeAt) (p q : ℕ) (up : Bool) (own_module : _) → slave_of fixed.set ≡ Some p → StandsAt fixed (settled fixed (carried fixed q up own_module n)) → Adds fixed n (settled fixed (carried fixed q up own_module n)) p None
carrier_adds law fixed n p q up own_module slave now =
    let first : Step = handed fixed q (PortCarrier up own_module) n in
    let s : Step = carried fixed q up own_module n in
    settled_adds law fixed n s p None slave now
    (λ at.
    let u : Unmoved fixed first s p = unmoved law fixed (for_slave fixed (if is_slave_port (slave_of fixed.set) q then Some (CallCarrier up) else None)) first p slave (if_none (is_some (slave_of fixed.set)) _ (change_none _ (CallCarrier up) tt)) at in
    after_all fixed n first s p None u (record { stood = u.stood; adds = carrier_where (setting_of fixed.set p) (p == q) up own_module (n.told p) }))

-- a frame: the piece that its message is to the exchange of the port
abbrev pub frame_piece : NodeSetting → NodeAt → ℕ → Result PtpMsg FrameFault → Raw → ℕ → Option Piece
frame_piece fixed n p (Err fault) raw sample = None
frame_piece fixed n p (Ok m) raw sample = call_of (setting_of fixed.set p) (line_at fixed.set n p) (message_of fixed n p m raw sample)

dropped_piece : (set : Setting) (line : Rest) (m : PtpMsg) (stamp : Stamp) (tick : ℕ) (reason : Reason) → early_reason set line.link m ≡ Some reason → call_of set line (Msg m stamp tick) ≡ None
dropped_piece set line m stamp tick reason e = rw e refl

measured_none : (o : Option _) (answer : ℤ) → NoSampleIn (measurement_by o answer)
measured_none None answer = tt
measured_none (Some four) answer = tt

told_here : (told : ℕ → List PortIn) (p q : ℕ) (input : PortIn) → q ≡ p → told_at told q input p ≡ input ∷ told p
told_here told p q input e =
    let here : (p == q) ≡ true = ap (λ (k : ℕ). p == k) e ∙ eq_self p in
    ap (λ (b : Bool). if b then input ∷ told p else told p) here

heard_adds : ChainSince → (fixed : NodeSetting) (n : NodeAt) (p : ℕ) (m : PtpMsg) (stamp : Stamp) (tick : ℕ) (answer : ℤ) (reason : Option Reason) → early_reason (setting_of fixed.set p) (link_at fixed.set n p) m ≡ reason → slave_of fixed.set ≡ Some p →
    StandsAt fixed (settled fixed (heard_unless reason fixed p (Msg m stamp tick) answer n)) →
    Adds fixed n (settled fixed (heard_unless reason fixed p (Msg m stamp tick) answer n)) p (call_of (setting_of fixed.set p) (line_at fixed.set n p) (Msg m stamp tick))
heard_adds law fixed n p m stamp tick answer None is slave now =
    let input : PortIn = Msg m stamp tick in
    let first : Step = used fixed p input n in
    let s : Step = measured fixed p input answer n in
    let o : Option Piece = call_of (setting_of fixed.set p) (line_at fixed.set n p) input in
    settled_adds law fixed n s p o slave now
    (λ at.
    let u : Unmoved fixed first s p = unmoved law fixed (for_slave fixed (measurement_by (measured_at fixed n p input) answer)) first p slave (if_none (is_some (slave_of fixed.set)) _ (measured_none (measured_at fixed n p input) answer)) at in
    after_all fixed n first s p o u (record { stood = u.stood; adds = ap (calls_of (setting_of fixed.set p)) (told_here n.told p p input refl) }))
heard_adds law fixed n p m stamp tick answer (Some reason) is slave now =
    let s : Step = heard_unless (Some reason) fixed p (Msg m stamp tick) answer n in
    settled_adds law fixed n s p (call_of (setting_of fixed.set p) (line_at fixed.set n p) (Msg m stamp tick)) slave now
    (λ at. record {
      stood = at;
      adds = ap (λ o. with_call o (pieces_at fixed.set n p)) (sym (dropped_piece (setting_of fixed.set p) (line_at fixed.set n p) m stamp tick reason is));
    })

away_adds : ChainSince → (fixed : NodeSetting) (n : NodeAt) (p q : ℕ) (input : PortIn) (answer : ℤ) (reason : Option Reason) → (p == q) ≡ false → slave_of fixed.set ≡ Some p →
    StandsAt fixed (settled fixed (heard_unless reason fixed q input answer n)) → Adds fixed n (settled fixed (heard_unless reason fixed q input answer n)) p None
away_adds law fixed n p q input answer None away slave now =
    let first : Step = used fixed q input n in
    let s : Step = measured fixed q input answer n in
    settled_adds law fixed n s p None slave now
    (λ at.
    let u : Unmoved fixed first s p = unmoved law fixed (for_slave fixed (measurement_by (measured_at fixed n q input) answer)) first p slave (if_none (is_some (slave_of fixed.set)) _ (measured_none (measured_at fixed n q input) answer)) at in
    after_all fixed n first s p None u
    (record { stood = u.stood; adds = ap (λ b. calls_of (setting_of fixed.set p) (if b then input ∷ n.told p else n.told p)) away }))
away_adds law fixed n p q input answer (Some reason) away slave now =
    settled_adds law fixed n (heard_unless (Some reason) fixed q input answer n) p None slave now (λ at. record { stood = at; adds = refl })

pub frame_adds : ChainSince → (fixed : NodeSetting) (n : NodeAt) (p : ℕ) (says : Result PtpMsg FrameFault) (raw : Raw) (sample : ℕ) (answer : ℤ) → slave_of fixed.set ≡ Some p → StandsAt fixed (settled fixed (heard fixed p says raw sample answer n)) →
    Adds fixed n (settled fixed (heard fixed p says raw sample answer n)) p (frame_piece fixed n p says raw sample)
frame_adds law fixed n p (Err fault) raw sample answer slave now = settled_adds law fixed n (heard fixed p (Err fault) raw sample answer n) p None slave now (λ at. record { stood = at; adds = refl })
frame_adds law fixed n p (Ok m) raw sample answer slave now =
    heard_adds law fixed n p m (stamp_of fixed n p raw sample) n.ticks answer (early_reason (setting_of fixed.set p) (link_at fixed.set n p) m) refl slave now

pub frame_passes : ChainSince → (fixed : NodeSetting) (n : NodeAt) (p q : ℕ) (says : Result PtpMsg FrameFault) (raw : Raw) (sample : ℕ) (answer : ℤ) → (p == q) ≡ false → slave_of fixed.set ≡ Some p → StandsAt fixed (settled fixed (heard fixed q says raw sample answer n)) →
    Adds fixed n (settled fixed (heard fixed q says raw sample answer n)) p None
frame_passes law fixed n p q (Err fault) raw sample answer away slave now = settled_adds law fixed n (heard fixed q (Err fault) raw sample answer n) p None slave now (λ at. record { stood = at; adds = refl })
frame_passes law fixed n p q (Ok m) raw sample answer away slave now =
    away_adds law fixed n p q (message_of fixed n q m raw sample) answer (early_reason (setting_of fixed.set q) (link_at fixed.set n q) m) away slave now

-- A sample

-- the phase that it gives the slave port, if it is good
phase_told : (b : Bool) (v w : Core) (news : ChainNews) (o : Option ℕ) → (out_by (cond b (tag_as v o) Ignored) w news).unwrapped ≡ option_map (λ (tag : ℕ). w.phase.u) (cond b o None)
phase_told true v w news None = refl
phase_told true v w news (Some tag) = by_range (is_far (with_tag v tag).phase.u)
  where
    by_range : (b : Bool) → (out_by (cond b Lost Followed) w news).unwrapped ≡ Some w.phase.u
    by_range true = refl
    by_range false = refl
phase_told false v w news o = refl

pub news_told : (h : Heard) (w : Core) (news : ChainNews) → (out_by h w news).chain ≡ news
news_told Ignored w news = refl
news_told Refused w news = refl
news_told Lost w news = refl
news_told Followed w news = refl

-- the servo after it
abbrev pub sampled : NodeSetting → NodeAt → (number base bits : ℕ) → Core
sampled fixed n number base bits = run (servo_setting_of fixed) (CallSample number base bits ∷ n.calls)

abbrev sample_step : NodeSetting → NodeAt → (number base bits : ℕ) → Step
sample_step fixed n number base bits = tell fixed (for_slave fixed (Some (CallSample number base bits))) (step_from n)

sample_told : (fixed : NodeSetting) (n : NodeAt) (p number base bits : ℕ) → slave_of fixed.set ≡ Some p →
    (sample_step fixed n number base bits).node.told p
    ≡ with_sample (option_map (λ (tag : ℕ). (sampled fixed n number base bits).phase.u) (heard_tag (servo_setting_of fixed) n.calls number base bits)) number
    (with_news (news_of (run (servo_setting_of fixed) n.calls).first (sampled fixed n number base bits).first) (n.told p))
sample_told fixed n p number base bits slave =
    let x : ServoSetting = servo_setting_of fixed in
    let v : Core = run x n.calls in
    let c : Call = CallSample number base bits in
    let w : Core = after x v c in
    let news : ChainNews = news_of v.first w.first in
    let o : Option Call = for_slave fixed (Some c) in
    there (slave_of fixed.set) (answer_of fixed o n.calls) (number_of o) n.told p slave
    ∙ ap (λ (b : Bool). heard_of (answer_of fixed (if b then Some c else None) n.calls) (number_of (if b then Some c else None)) (n.told p)) (ap is_some slave)
    ∙ ap (λ u. with_sample u number (with_news (answer_to x v c).chain (n.told p))) (phase_told (hears v) v w news (good_tag v.last number base bits))
    ∙ ap (λ z. with_sample (option_map (λ (tag : ℕ). w.phase.u) (heard_tag x n.calls number base bits)) number (with_news z (n.told p))) (news_told (heard_as v number base bits) w news)

-- the piece that it is to the exchange
abbrev pub sample_piece : NodeSetting → NodeAt → (number base bits : ℕ) → Option Piece
sample_piece fixed n number base bits = option_map (λ (tag : ℕ). SamplePiece number (sampled fixed n number base bits).phase.u) (heard_tag (servo_setting_of fixed) n.calls number base bits)

piece_is : (set : Setting) (told : List PortIn) (o : Option ℕ) (number : ℕ) (u : ℤ) → set.ds.role ≡ Slave →
    calls_of set (with_sample (option_map (λ (tag : ℕ). u) o) number told) ≡ with_call (option_map (λ (tag : ℕ). SamplePiece number u) o) (calls_of set told)
piece_is set told None number u slave = refl
piece_is set told (Some tag) number u slave = ap (λ r. with_call (sample_call r number u) (calls_of set told)) slave

stands_if : (fixed : NodeSetting) (n : NodeAt) (number base bits : ℕ) (b : Bool) → b ≡ true → Stands (run (servo_setting_of fixed) (called (if b then Some (CallSample number base bits) else None) n.calls)) → Stands (sampled fixed n number base bits)
stands_if fixed n number base bits true e h = h
stands_if fixed n number base bits false e h = absurd (false≢true e)

-- in a chain
pub sample_adds : ChainSince → (fixed : NodeSetting) (n : NodeAt) (p number base bits : ℕ) → slave_of fixed.set ≡ Some p → (setting_of fixed.set p).ds.role ≡ Slave → Stands (run (servo_setting_of fixed) n.calls) →
    StandsAt fixed (settled fixed (sample_step fixed n number base bits)) → Adds fixed n (settled fixed (sample_step fixed n number base bits)) p (sample_piece fixed n number base bits)
sample_adds law fixed n p number base bits slave role was now =
    let set : Setting = setting_of fixed.set p in
    let v : Core = run (servo_setting_of fixed) n.calls in
    let w : Core = sampled fixed n number base bits in
    settled_adds law fixed n (sample_step fixed n number base bits) p (sample_piece fixed n number base bits) slave now
    (λ at. record {
      stood = was;
      adds =
          ap (calls_of set) (sample_told fixed n p number base bits slave)
          ∙ piece_is set (with_news (news_of v.first w.first) (n.told p)) (heard_tag (servo_setting_of fixed) n.calls number base bits) number w.phase.u role
          ∙ ap (λ z. with_call (sample_piece fixed n number base bits) (calls_of set (with_news z (n.told p)))) (same_news v.first w.first was (stands_if fixed n number base bits (is_some (slave_of fixed.set)) (ap is_some slave) at));
    })

-- at its start

abbrev FirstIs : ℕ → Core → Type 0
FirstIs n v = Stands v → v.first ≡ Some n

either_first : (n : ℕ) (b : Bool) (v w : Core) → FirstIs n v → FirstIs n w → FirstIs n (cond b v w)
either_first n true v w h k = h
either_first n false v w h k = k

none_first : (n : ℕ) (v : Core) → v.first ≡ None → FirstIs n v
none_first n v e h = absurd (false≢true (ap is_some (sym e) ∙ h))

ended_first : (n : ℕ) (v : Core) → FirstIs n v → FirstIs n (ended v)
ended_first n v h = either_first n (is_some v.first) (ended_in v v.state) v (by_state v.state) h
  where
    by_state : (s : ServoState) → FirstIs n (ended_in v s)
    by_state Uninit = none_first n (ended_in v Uninit) refl
    by_state SyncTai = none_first n (ended_in v SyncTai) refl
    by_state SyncNsec = none_first n (ended_in v SyncNsec) refl
    by_state SyncPhase = none_first n (ended_in v SyncPhase) refl
    by_state WaitStable = none_first n (ended_in v WaitStable) refl
    by_state Track = none_first n (ended_in v Track) refl
    by_state Holdover = none_first n (ended_in v Holdover) refl

judged_first : (n : ℕ) (v : Core) (s : ServoState) → FirstIs n v → FirstIs n (judged_in v s)
judged_first n v SyncPhase h = either_first n (int_le v.phase.s v.phase.goal && int_le v.phase.goal v.phase.s) (record v { state = WaitStable; calm = 0 }) v h h
judged_first n v WaitStable h = h
judged_first n v Track h = either_first n (stays_near v) v (ended v) h (ended_first n v h)
judged_first n v Uninit h = h
judged_first n v SyncTai h = h
judged_first n v SyncNsec h = h
judged_first n v Holdover h = h

chained_first : (n : ℕ) (v : Core) → v.first ≡ None → FirstIs n (chained v n)
chained_first n v none =
    either_first n v.phase.lock.locked (cond (may_start v) (record v { first = Some n }) v) (ended v)
    (either_first n (may_start v) (record v { first = Some n }) v (λ h. refl) (none_first n v none)) (ended_first n v (none_first n v none))

heard_first : (n : ℕ) (v : Core) (o : Option ℕ) → v.first ≡ None → FirstIs n (servo_heard v n o)
heard_first n v None none = none_first n v none
heard_first n v (Some tag) none =
    let w : Core = with_tag v tag in
    let c : Core = chained (followed w) n in
    either_first n (is_far w.phase.u) (lost w) (judged c) (ended_first n w (none_first n w none)) (judged_first n c c.state (chained_first n (followed w) none))

sampled_first : (fixed : NodeSetting) (n : NodeAt) (number base bits : ℕ) → (run (servo_setting_of fixed) n.calls).first ≡ None → FirstIs number (sampled fixed n number base bits)
sampled_first fixed n number base bits none =
    let v : Core = run (servo_setting_of fixed) n.calls in
    either_first number (hears v) (servo_heard (with_last v number) number (good_tag v.last number base bits)) v
    (heard_first number (with_last v number) (good_tag v.last number base bits) none) (none_first number v none)

none_of : (o : Option ℕ) → (is_some o ≡ true → ⊥) → o ≡ None
none_of None h = refl
none_of (Some n) h = absurd (h refl)

-- a good sample starts it: the exchange is given first the chain, then the sample
pub record Starts (fixed : NodeSetting) (n : NodeAt) (s : Step) (p number base bits : ℕ) : Type 0 where
  pub tag : ℕ
  pub heard : heard_tag (servo_setting_of fixed) n.calls number base bits ≡ Some tag
  pub adds : pieces fixed s p ≡ SamplePiece number (sampled fixed n number base bits).phase.u ∷ (CallStart number ∷ pieces_at fixed.set n p)

heard_some : (o : Option ℕ) → (o ≡ None → ⊥) → (tag : ℕ) × (o ≡ Some tag)
heard_some None h = absurd (h refl)
heard_some (Some tag) h = (tag, refl)

pub sample_starts : ChainSince → (fixed : NodeSetting) (n : NodeAt) (p number base bits : ℕ) → slave_of fixed.set ≡ Some p → (setting_of fixed.set p).ds.role ≡ Slave → (Stands (run (servo_setting_of fixed) n.calls) → ⊥) →
    (heard_tag (servo_setting_of fixed) n.calls number base bits ≡ None → ⊥) → StandsAt fixed (settled fixed (sample_step fixed n number base bits)) → Starts fixed n (settled fixed (sample_step fixed n number base bits)) p number base bits
sample_starts law fixed n p number base bits slave role out good now =
    let set : Setting = setting_of fixed.set p in
    let s : Step = sample_step fixed n number base bits in
    let v : Core = run (servo_setting_of fixed) n.calls in
    let w : Core = sampled fixed n number base bits in
    let last : Unmoved fixed s (settled fixed s) p = settled_unmoved law fixed s p slave now in
    let stands : Stands w = stands_if fixed n number base bits (is_some (slave_of fixed.set)) (ap is_some slave) last.stood in
    let none : v.first ≡ None = none_of v.first out in
    let news : news_of v.first w.first ≡ Started number = ap (λ o. news_of o w.first) none ∙ ap (news_of None) (sampled_first fixed n number base bits none stands) in
    let it : (tag : ℕ) × (heard_tag (servo_setting_of fixed) n.calls number base bits ≡ Some tag) = heard_some (heard_tag (servo_setting_of fixed) n.calls number base bits) good in
    record {
      tag = it.0;
      heard = it.1;
      adds =
          ap (calls_of set) (last.told ∙ sample_told fixed n p number base bits slave)
          ∙ ap (λ o. calls_of set (with_sample (option_map (λ (tag : ℕ). w.phase.u) o) number (with_news (news_of v.first w.first) (n.told p)))) it.1
          ∙ ap (λ z. calls_of set (PortSample number w.phase.u ∷ with_news z (n.told p))) news
          ∙ ap (λ r. with_call (sample_call r number w.phase.u) (with_call (only_slave r (Some (CallStart number))) (calls_of set (n.told p)))) role;
    }
