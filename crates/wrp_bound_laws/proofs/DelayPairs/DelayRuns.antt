-- In every run the delay pair that a slave's exchange keeps in a chain gives the chain's constant and both ways.
use Rattle.std.proofs.Common.{◌≡◌, inl, inr, ◌∙◌, refl, ap, sym, subst, ℕ, ◌+◌, ℤ, true, is_some, List, [], ◌∷◌, ◌++◌, Option, None, Some, Result}
use Rattle.std.proofs.lemmas.Bool.Decides.{eqb_tells}
use Rattle.std.specs.Prelude.{IfSome}
use Rattle.std.proofs.lemmas.Bool.{false≢true}
use Rattle.wrp_base.specs.declared.link.Role.{Role}
use Rattle.wrp_base.specs.declared.link.Role.TheVariants.{Master, Slave}
use Rattle.wrp_base.specs.declared.measurement.ChainNews.TheVariants.{Started}
use Rattle.wrp_base.specs.declared.message.Body.{Body}
use Rattle.wrp_base.specs.declared.message.Body.TheVariants.{Sync, DelayReq, FollowUp, DelayResp, Announce, Signal}
use Rattle.wrp_base.specs.declared.message.PtpMsg.{PtpMsg}
use Rattle.wrp_network.specs.declared.network.LinkCfg.{LinkCfg}
use Rattle.wrp_network.specs.Network.{End}
use Rattle.wrp_base.specs.Link.{other_of}
use Rattle.wrp_base.proofs.Lists.{append_assoc}
use Rattle.wrp_exch.specs.declared.delay.DelayPair.{DelayPair}
use Rattle.wrp_exch.specs.declared.delay.Sent.{Sent}
use Rattle.wrp_exch.specs.Call.{Call, CallStart}
use Rattle.wrp_frame.specs.declared.fault.FrameFault.{FrameFault}
use Rattle.wrp_node.specs.declared.interface.Input.TheVariants.{Sample as SampleInput, Tick as TickInput}
use Rattle.wrp_node.specs.NodeAt.{NodeSetting, NodeAt, setting_of, servo_setting_of, slave_of}
use Rattle.wrp_node.specs.NodeStep.{stamp_of}
use Rattle.wrp_node.specs.Telling.{answer_of, with_news, with_sample}
use Rattle.wrp_port.specs.declared.interface.PortIn.{PortIn}
use Rattle.wrp_port.specs.declared.interface.PortIn.TheVariants.{Tick as PortTick}
use Rattle.wrp_port.specs.declared.setting.Setting.{Setting as PortSetting}
use Rattle.wrp_port.specs.History.{calls_of}
use Rattle.wrp_port.specs.Outputs.{only_slave, with_call}
use Rattle.wrp_servo.specs.declared.interface.ServoOut.{ServoOut}
use Rattle.wrp_servo.specs.Call.{Call as ServoCall, CallSample, ServoSetting, run as servo_run}
use Rattle.wrp_servo.specs.Sampling.{heard_as}
use Rattle.wrp_servo.specs.Servo.{news_at, news_of}
use Rattle.wrp_tracking_laws.specs.DelayPieces.{PairTrue}
use Rattle.wrp_course.specs.declared.event.Event.{Event}
use Rattle.wrp_course.specs.declared.event.Event.TheVariants.{Tick, Sample, Depart, Deliver, Noise}
use Rattle.wrp_bound_laws.proofs.Sources.Renewals.{master_of}
use Rattle.wrp_bound_laws.proofs.SyncPairs.SyncTold.{news_told}
use Rattle.wrp_course.specs.Given.{Given as Told, given_plain, sending, taken_of}
use Rattle.wrp_course.specs.Moved.{moved}
use Rattle.wrp_course.specs.Run.{Happened, world_after}
use Rattle.wrp_course.specs.Runs.{IsRun}
use Rattle.wrp_course.specs.Setting.{Setting, end_at, end_of, node_setting_of}
use Rattle.wrp_course.specs.WorldAt.{FrameAt, Sending, WorldAt}
use Rattle.wrp_course.proofs.RunCarriers.{end_alike}
use Rattle.wrp_course.proofs.RunGiven.{end_is}
use Rattle.wrp_course.proofs.RunNetwork.{are_apart}
use Rattle.wrp_bound_laws.specs.Exchanges.{DelaysTell}
use Rattle.wrp_bound_laws.specs.Moments.{AtEach}
use Rattle.wrp_bound_laws.specs.OneMessage.{NewestRequest}
use Rattle.wrp_bound_laws.specs.Rates.{HasChain}
use Rattle.wrp_bound_laws.proofs.DelayPairs.DelayAnswers.{pair_true}
use Rattle.wrp_bound_laws.proofs.DelayPairs.DelayCalls.{Asked, AskedOf, MessageFits, asked_less, message_asked, news_asked, sample_asked, tick_asked, told_asked, turns_asked}
use Rattle.wrp_bound_laws.proofs.DelayPairs.DelayDepartures.{Departs, Given, Inside, departs, past_of, run_at, start_at}
use Rattle.wrp_bound_laws.proofs.DelayPairs.DelayEvents.{Brings, event_told, given_node}
use Rattle.wrp_bound_laws.proofs.DelayPairs.DelayNewest.{NoneNew, newest_now, newest_stays, none_due, none_new}
use Rattle.wrp_bound_laws.proofs.DelayPairs.DelayPieces.{DelayLaws, LongerEnd, longer_end}
use Rattle.wrp_bound_laws.proofs.DelayPairs.DelayPutOut.{noise_unheard}
use Rattle.wrp_bound_laws.proofs.Nodes.StepTold.{Hears, before_tick, out_told, sample_heard, tick_told}
use Rattle.wrp_bound_laws.proofs.Nodes.Inputs.{IsNoTickOf, tick_or_not}
use Rattle.wrp_bound_laws.proofs.Runs.LinksAbove.{above_is}
use Rattle.wrp_bound_laws.proofs.Samples.LiveChains.{sample_stood}
use Rattle.wrp_bound_laws.proofs.Sources.Parents.{has_slave, ticked_node}
use Rattle.wrp_bound_laws.proofs.Runs.PortRoles.{role_is}
use Rattle.wrp_bound_laws.proofs.Runs.Suffixes.{at_rest}
use Rattle.wrp_bound_laws.proofs.Frames.TimedTicks.{certain_then, locked_then, port_then, timed_then}
use Rattle.wrp_bound_laws.proofs.Samples.SampleEvents.{stood_before}

-- What the exchange keeps in a chain

-- it waits for the newest Delay_Req of this id; the sending that it keeps is the sending of that Delay_Req
abbrev pub Waits : Given → List Happened → ℕ → Option Sent → Type 0
Waits c events id o = (x : Sending) × NewestRequest c.s events c.k x × (x.message.head.seq ≡ id) × IfSome o (Departs c x)

abbrev pub Pairs : Given → DelayPair → Type 0
Pairs c p = PairTrue c.hop c.chain.constant (past_of c) (start_at c) p

abbrev pub set_below : Given → PortSetting
set_below c = setting_of (c.s.set c.link.lower) c.link.lower_port

abbrev pub Keeps : Given → List Happened → List PortIn → Type 0
Keeps c events told = AskedOf (Waits c events) (Pairs c) (set_below c) told

abbrev pub told_at : Given → List Happened → List PortIn
told_at c events = ((world_after c.s events).node c.link.lower).told c.link.lower_port

-- if no Delay_Req is put out it is as it was
kept_still : (c : Given) (h : Happened) (before : List Happened) (told : List PortIn) → NoneNew c.s h before c.k → Keeps c before told → Keeps c (h ∷ before) told
kept_still c h before told none =
    asked_less (Waits c before) (Waits c (h ∷ before)) (Pairs c) (Pairs c) (set_below c).ring (calls_of (set_below c) told) (λ id o w. (w.0, newest_stays c.s h before c.k w.0 none w.1, w.2, w.3)) (λ p t. t)

-- An event that is no tick of the slave's node

-- a frame that is handed to the slave
record ToSlave (c : Given) (h : Happened) (before : List Happened) (f : FrameAt) : Type 0 where
  number : ℕ
  end : End
  event : h.event ≡ Deliver number
  there : (world_after c.s before).frame number ≡ Some f
  at_end : end_at c.s f.link (other_of f.by) ≡ Some end
  at_node : c.link.lower ≡ end.node
  at_port : c.link.lower_port ≡ end.port

of_master : (c : Given) (h : Happened) (before : List Happened) (f : FrameAt) → ToSlave c h before f → (f.link ≡ c.k) × (f.by ≡ Master)
of_master c h before f it =
    let same : (f.link ≡ c.k) × (other_of f.by ≡ Slave) =
    are_apart c.s c.run.network f.link c.k (other_of f.by) Slave it.end it.at_end (end_is c.s c.k Slave c.link c.is ∙ ap Some (end_alike (end_of Slave c.link) it.end it.at_node it.at_port)) in
    (same.0, master_of f.by same.1)

message_fits : (c : Given) (h : Happened) (before : List Happened) (f : FrameAt) (body : Body) → Inside c before → Inside c (h ∷ before) → ToSlave c h before f → f.sending.message.body ≡ body →
    MessageFits (Waits c (h ∷ before)) (Pairs c) f.sending.message.head body
message_fits c h before f (DelayResp receive requesting) i j it is = λ kept w.
    let same : (f.link ≡ c.k) × (f.by ≡ Master) = of_master c h before f it in
    pair_true c before h w.0 kept i j
    (record { number = it.number; frame = f; receive = receive; requesting = requesting; event = it.event; there = it.there; link_is = same.0; by_is = same.1; body = is; newest = w.1; seq = sym w.2 }) w.3
message_fits c h before f (Sync origin) i j it is = tt
message_fits c h before f (DelayReq origin) i j it is = tt
message_fits c h before f (FollowUp precise) i j it is = tt
message_fits c h before f (Announce origin utc p1 quality p2 gm steps source suffix) i j it is = tt
message_fits c h before f (Signal target message) i j it is = tt

brought : (c : Given) (says : Result PtpMsg FrameFault) (y : ℤ) (e : Event) (before : List Happened) → Inside c before → Inside c (record { event = e; says = says; answer = y } ∷ before) → IsNoTickOf c.link.lower e →
    Keeps c (record { event = e; says = says; answer = y } ∷ before) (told_at c before) → Brings (Keeps c (record { event = e; says = says; answer = y } ∷ before)) c.s (world_after c.s before) says c.link.lower c.link.lower_port e
brought c says y (Tick m) before i j none h = λ is. absurd (none is)
brought c says y (Sample m base bits) before i j none h = λ is.
    let events : List Happened = record { event = Sample m base bits; says = says; answer = y } ∷ before in
    let w : WorldAt = world_after c.s before in
    out_told (Keeps c events) (news_asked (Waits c events) (Pairs c) (set_below c)) (sample_asked (Waits c events) (Pairs c) (set_below c))
    (answer_of (node_setting_of c.s c.link.lower) (Some (CallSample ((w.clock c.link.lower).samples + 1) base bits)) (w.node c.link.lower).calls) ((w.clock c.link.lower).samples + 1) (told_at c before) h
brought c says y (Depart m q stamp) before i j none h = λ at_node at_port z rest delay queue request.
    let x : Happened = record { event = Depart m q stamp; says = says; answer = y } in
    let w : WorldAt = world_after c.s before in
    told_asked (Waits c (x ∷ before)) (Pairs c) (set_below c) (told_at c before) z.message.head.seq (w.node c.link.lower).ticks delay (record { value = stamp; sample = (w.clock m).samples })
    (λ d u latched waits. (
      waits.0,
      waits.1,
      waits.2,
      departs c x before stamp waits.0 z u i j (record { node = m; port = q; event = refl; at_node = at_node; at_port = at_port; rest = rest; queue = queue; request = request d; latched = latched }) waits.1 (sym waits.2),
    )) h
brought c says y (Deliver number) before i j none h = λ f a end there arrived at_end at_node at_port hears.
    let x : Happened = record { event = Deliver number; says = says; answer = y } in
    let w : WorldAt = world_after c.s before in
    message_asked (Waits c (x ∷ before)) (Pairs c) (set_below c) (told_at c before) f.sending.message (stamp_of (node_setting_of c.s c.link.lower) (w.node c.link.lower) c.link.lower_port a.raw a.sample) (w.node c.link.lower).ticks
    (message_fits c x before f f.sending.message.body i j (record { number = number; end = end; event = refl; there = there; at_end = at_end; at_node = at_node; at_port = at_port }) refl) h
brought c says y (Noise m q octets raw) before i j none h = λ x at_node at_port is hears.
    let w : WorldAt = world_after c.s before in
    absurd (noise_unheard c.s says w m q octets raw (w.node c.link.lower) x (run_at c (record { event = Noise m q octets raw; says = says; answer = y } ∷ before) j).accepted.0 is
    (subst (λ p. Hears (node_setting_of c.s m) (w.node c.link.lower) p x) at_port (subst (λ n. Hears (node_setting_of c.s n) (w.node c.link.lower) c.link.lower_port x) at_node hears)))
brought c says y e before i j none h = tt

other_keeps : (c : Given) (h : Happened) (before : List Happened) → Inside c before → Inside c (h ∷ before) → IsNoTickOf c.link.lower h.event → Keeps c before (told_at c before) → Keeps c (h ∷ before) (told_at c (h ∷ before))
other_keeps c h before i j none old =
    let now : Keeps c (h ∷ before) (told_at c before) = kept_still c h before (told_at c before) (none_new c.s h before c.k c.link c.is none) old in
    event_told (Keeps c (h ∷ before)) (news_asked (Waits c (h ∷ before)) (Pairs c) (set_below c)) (turns_asked (Waits c (h ∷ before)) (Pairs c) (set_below c)) c.s h.says h.answer (world_after c.s before) h.event c.link.lower c.link.lower_port
    (brought c h.says h.answer h.event before i j none now) now

-- A tick of it

tick_keeps : (c : Given) (says : Result PtpMsg FrameFault) (y : ℤ) (before : List Happened) → IsRun c.s (record { event = Tick c.link.lower; says = says; answer = y } ∷ before) → Keeps c before (told_at c before) →
    Keeps c (record { event = Tick c.link.lower; says = says; answer = y } ∷ before) (told_at c (record { event = Tick c.link.lower; says = says; answer = y } ∷ before))
tick_keeps c says y before run old =
    let s : Setting = c.s in
    let link : LinkCfg = c.link in
    let n : ℕ = link.lower in
    let h : Happened = record { event = Tick n; says = says; answer = y } in
    let w : WorldAt = world_after s before in
    let fixed : NodeSetting = node_setting_of s n in
    let told : List PortIn = port_then s w Slave link in
    let mid : Keeps c before told = before_tick (Keeps c before) (news_asked (Waits c before) (Pairs c) (set_below c)) (λ t k. k) fixed (w.node n) link.lower_port old in
    let ticks : Keeps c (h ∷ before) (PortTick (locked_then s w n) (certain_then s w n) ∷ told) =
    tick_asked (Waits c (h ∷ before)) (Pairs c) (set_below c) told (locked_then s w n) (certain_then s w n) (role_is c.laws.opens.quiet.ends s run.network c.k Slave link c.is)
    (λ due. (sending (moved s w (Tick n)) (timed_then s w Slave link), newest_now c.laws.opens.quiet.ends s says y before c.k link run c.is due, refl, tt))
    (λ due. (kept_still c h before told (none_due s says y before c.k link c.is due) mid).0) mid.1 in
    subst (λ (z : NodeAt). Keeps c (h ∷ before) (z.told link.lower_port)) (sym (ticked_node s says y w n n refl).0)
    (tick_told (Keeps c (h ∷ before)) (news_asked (Waits c (h ∷ before)) (Pairs c) (set_below c)) fixed (taken_of y (given_plain n TickInput)) (w.node n) link.lower_port refl ticks)

event_keeps : (c : Given) (says : Result PtpMsg FrameFault) (y : ℤ) (e : Event) (before : List Happened) → Inside c before → Inside c (record { event = e; says = says; answer = y } ∷ before) → Keeps c before (told_at c before) →
    Keeps c (record { event = e; says = says; answer = y } ∷ before) (told_at c (record { event = e; says = says; answer = y } ∷ before))
event_keeps c says y e before i j old = elim (tick_or_not c.link.lower e) [
  | inl tick ↦
      subst (λ x. Keeps c (record { event = x; says = says; answer = y } ∷ before) (told_at c (record { event = x; says = says; answer = y } ∷ before))) (sym tick)
      (tick_keeps c says y before (subst (λ x. IsRun c.s (record { event = x; says = says; answer = y } ∷ before)) tick (run_at c (record { event = e; says = says; answer = y } ∷ before) j)) old)
  | inr other ↦ other_keeps c (record { event = e; says = says; answer = y }) before i j other old
]

-- The event that starts the chain: the exchange begins again

started : (a b : Option ℕ) → (is_some a ≡ true → ⊥) → is_some b ≡ true → (first : ℕ) × (news_of a b ≡ Started first)
started None (Some n) no_chain stands = (n, refl)
started (Some m) b no_chain stands = absurd (no_chain refl)
started None None no_chain stands = absurd (false≢true stands)

anew : (R : ℕ → Option Sent → Type 0) (S : DelayPair → Type 0) (ring first : ℕ) (role : Role) (calls : List Call) → role ≡ Slave → Asked R S ring (with_call (only_slave role (Some (CallStart first))) calls)
anew R S ring first Slave calls e = (tt, tt)
anew R S ring first Master calls e = absurd cc

with_any : (c : Given) (events : List Happened) (o : Option ℤ) (number : ℕ) (told : List PortIn) → Keeps c events told → Keeps c events (with_sample o number told)
with_any c events None number told h = h
with_any c events (Some u) number told h = sample_asked (Waits c events) (Pairs c) (set_below c) told number u h

sample_starts : (c : Given) (says : Result PtpMsg FrameFault) (y : ℤ) (before : List Happened) (base bits : ℕ) → IsRun c.s (record { event = Sample c.link.lower base bits; says = says; answer = y } ∷ before) →
    HasChain c.s c.link.lower (record { event = Sample c.link.lower base bits; says = says; answer = y } ∷ before) → (HasChain c.s c.link.lower before → ⊥) →
    Keeps c (record { event = Sample c.link.lower base bits; says = says; answer = y } ∷ before) (told_at c (record { event = Sample c.link.lower base bits; says = says; answer = y } ∷ before))
sample_starts c says y before base bits run stands begins =
    let s : Setting = c.s in
    let n : ℕ = c.link.lower in
    let h : Happened = record { event = Sample n base bits; says = says; answer = y } in
    let w : WorldAt = world_after s before in
    let v : WorldAt = moved s w (Sample n base bits) in
    let g : Told = given_plain n (SampleInput (v.clock n).samples base bits) in
    let x : ServoSetting = servo_setting_of (node_setting_of s n) in
    let calls : List ServoCall = (w.node n).calls in
    let call : ServoCall = CallSample (v.clock n).samples base bits in
    let slave : slave_of (s.set n) ≡ Some c.link.lower_port = has_slave s run.network n c.link (above_is s run.network c.k c.link c.is) in
    let node : (world_after s (h ∷ before)).node n ≡ _ = given_node s y v g n refl in
    let now : is_some (servo_run x (call ∷ calls)).first ≡ true =
    sample_stood c.laws.samples.since (node_setting_of s n) (taken_of y g) (w.node n) (v.clock n).samples base bits refl (ap is_some slave) (subst (λ (z : NodeAt). is_some (servo_run x z.calls).first ≡ true) node stands) in
    let first : (first : ℕ) × (news_of (servo_run x calls).first (servo_run x (call ∷ calls)).first ≡ Started first) = started (servo_run x calls).first (servo_run x (call ∷ calls)).first begins now in
    let out : ServoOut = answer_of (node_setting_of s n) (Some call) calls in
    let chain : out.chain ≡ Started first.0 = news_told (heard_as (servo_run x calls) (v.clock n).samples base bits) (servo_run x (call ∷ calls)) (news_at x (servo_run x calls) call) ∙ first.1 in
    let begun : Keeps c (h ∷ before) (with_news out.chain (told_at c before)) =
    subst (λ z. Keeps c (h ∷ before) (with_news z (told_at c before))) (sym chain)
    (anew (Waits c (h ∷ before)) (Pairs c) (set_below c).ring first.0 (set_below c).ds.role (calls_of (set_below c) (told_at c before)) (role_is c.laws.opens.quiet.ends s run.network c.k Slave c.link c.is)) in
    subst (λ (z : NodeAt). Keeps c (h ∷ before) (z.told c.link.lower_port)) (sym node)
    (sample_heard (Keeps c (h ∷ before)) (news_asked (Waits c (h ∷ before)) (Pairs c) (set_below c)) (node_setting_of s n) g.says y (w.node n) c.link.lower_port (v.clock n).samples base bits slave
    (with_any c (h ∷ before) out.unwrapped (v.clock n).samples (with_news out.chain (told_at c before)) begun))

start_keeps : (c : Given) (says : Result PtpMsg FrameFault) (y : ℤ) (e : Event) (before : List Happened) → IsRun c.s (record { event = e; says = says; answer = y } ∷ before) → HasChain c.s c.link.lower (record { event = e; says = says; answer = y } ∷ before) →
    (HasChain c.s c.link.lower before → ⊥) → Keeps c (record { event = e; says = says; answer = y } ∷ before) (told_at c (record { event = e; says = says; answer = y } ∷ before))
start_keeps c says y (Sample m base bits) before run stands begins = elim (eqb_tells c.link.lower m) [
  | inl x ↦
      subst (λ n. Keeps c (record { event = Sample n base bits; says = says; answer = y } ∷ before) (told_at c (record { event = Sample n base bits; says = says; answer = y } ∷ before))) x.1
      (sample_starts c says y before base bits (subst (λ n. IsRun c.s (record { event = Sample n base bits; says = says; answer = y } ∷ before)) (sym x.1) run)
      (subst (λ n. HasChain c.s c.link.lower (record { event = Sample n base bits; says = says; answer = y } ∷ before)) (sym x.1) stands) begins)
  | inr x ↦ absurd (begins (stood_before c.laws.samples.since c.s (record { event = Sample m base bits; says = says; answer = y }) before c.link.lower x.1 stands))
]
start_keeps c says y e before run stands begins = absurd (begins (stood_before c.laws.samples.since c.s (record { event = e; says = says; answer = y }) before c.link.lower tt stands))

-- The chain

pub keeps_all : (c : Given) (top mid : List Happened) → c.events ≡ top ++ (mid ++ c.chain.start ∷ c.chain.before) → c.chain.newer ≡ top ++ mid → AtEach (HasChain c.s c.link.lower) mid (c.chain.start ∷ c.chain.before) →
    Keeps c (mid ++ c.chain.start ∷ c.chain.before) (told_at c (mid ++ c.chain.start ∷ c.chain.before))
keeps_all c top [] splits first stands =
    start_keeps c c.chain.start.says c.chain.start.answer c.chain.start.event c.chain.before
    (run_at c (c.chain.start ∷ c.chain.before) (record { top = top; splits = splits; mid = []; is = refl; first = first; stands = stands })) stands c.chain.begins
keeps_all c top (h ∷ mid) splits first stands =
    let before : List Happened = mid ++ c.chain.start ∷ c.chain.before in
    let more : c.events ≡ (top ++ (h ∷ [])) ++ before = splits ∙ sym (append_assoc top (h ∷ []) before) in
    let longer : c.chain.newer ≡ (top ++ (h ∷ [])) ++ mid = first ∙ sym (append_assoc top (h ∷ []) mid) in
    event_keeps c h.says h.answer h.event before (record { top = top ++ (h ∷ []); splits = more; mid = mid; is = refl; first = longer; stands = stands.1 })
    (record { top = top; splits = splits; mid = h ∷ mid; is = refl; first = first; stands = stands }) (keeps_all c (top ++ (h ∷ [])) mid more longer stands.1)

pub delays_tell : DelayLaws → DelaysTell
delays_tell laws s events k link hop run fits is numbers chain since earlier in_chain =
    let begin : List Happened = chain.start ∷ chain.before in
    let c : Given = record { laws = laws; s = s; events = events; k = k; link = link; hop = hop; run = run; fits = fits; is = is; numbers = numbers; chain = chain } in
    let it : LongerEnd since earlier chain.newer begin = longer_end since earlier chain.newer begin (sym in_chain.splits ∙ chain.splits) in_chain.begun in
    let kept : Keeps c earlier (told_at c earlier) =
    subst (λ l. Keeps c l (told_at c l)) (sym it.is)
    (keeps_all c since it.between (in_chain.splits ∙ ap (λ l. since ++ l) it.is) it.first
    (at_rest (HasChain s link.lower) since it.between begin (subst (λ l. AtEach (HasChain s link.lower) l begin) it.first chain.stands))) in
    kept.1
