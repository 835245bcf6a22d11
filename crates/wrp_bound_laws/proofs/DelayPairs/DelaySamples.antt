-- The good samples that the exchange of a slave keeps: the one of the node's last sample is the newest of the chain.
use Rattle.std.proofs.Common.{◌≡◌, inl, inr, ◌∙◌, refl, ap, sym, subst, ℕ, zero, suc, ◌+◌, ◌≤◌, ◌==◌, nat_le, cond, not, ℤ, Bool, true, false, if◌then◌else◌, is_some, List, [], ◌∷◌, ◌++◌, length, take, Option, None, Some, option_map, option_to_list, Result, arith}
use Rattle.std.proofs.lemmas.Bool.{eqb-true, false≢true}
use Rattle.std.proofs.lemmas.Bool.Decides.{eqb_tells}
use Rattle.std.specs.List.{AllByRecursion, find}
use Rattle.std.proofs.lemmas.Option.{none-some, same_Some}
use Rattle.wrp_base.specs.declared.link.Role.{Role}
use Rattle.wrp_base.specs.declared.link.Role.TheVariants.{Master, Slave}
use Rattle.wrp_base.specs.declared.measurement.ChainNews.{ChainNews}
use Rattle.wrp_base.specs.declared.measurement.ChainNews.TheVariants.{Same, Started, Ended}
use Rattle.wrp_base.specs.declared.message.Body.{Body}
use Rattle.wrp_base.specs.declared.message.Body.TheVariants.{Sync, DelayReq, FollowUp, DelayResp, Announce, Signal}
use Rattle.wrp_base.specs.declared.message.Head.{Head}
use Rattle.wrp_base.specs.declared.message.PtpMsg.{PtpMsg}
use Rattle.wrp_network.specs.declared.network.LinkCfg.{LinkCfg}
use Rattle.wrp_base.specs.declared.time.Stamp.{Stamp}
use Rattle.wrp_base.proofs.Naturals.{eq_self, le_later, nat_le_self}
use Rattle.wrp_exch.specs.declared.ring.GoodSample.{GoodSample}
use Rattle.wrp_exch.specs.Call.{Call, CallStart, CallClear, CallSample, CallReqOut, CallReqSent}
use Rattle.wrp_exch.specs.Chain.{first_sample, latched_phase, phase_since}
use Rattle.wrp_exch.specs.Samples.{last_samples, phase_in, samples}
use Rattle.wrp_frame.specs.declared.fault.FrameFault.{FrameFault}
use Rattle.wrp_node.specs.declared.interface.Input.TheVariants.{Sample as SampleInput}
use Rattle.wrp_node.specs.NodeAt.{NodeAt, certain_of, locked_of, setting_of, servo_setting_of, slave_of}
use Rattle.wrp_node.specs.NodeStep.{servo_ticked, stamp_of}
use Rattle.wrp_node.specs.Telling.{answer_of, heard_of, with_news, with_sample}
use Rattle.wrp_port.specs.declared.interface.PortIn.{PortIn}
use Rattle.wrp_port.specs.declared.interface.PortIn.TheVariants.{Msg, Sample as PortSample, Sent as PortSent, Tick as PortTick}
use Rattle.wrp_port.specs.declared.setting.Setting.{Setting as PortSetting}
use Rattle.wrp_port.specs.Hearing.{early_reason, piece_of}
use Rattle.wrp_port.specs.History.{calls_of, rest_after}
use Rattle.wrp_port.specs.LineAfter.{requests_on, ticked}
use Rattle.wrp_port.specs.Outputs.{only_slave, with_call}
use Rattle.wrp_servo.specs.declared.interface.ServoOut.{ServoOut}
use Rattle.wrp_servo.specs.declared.machine.Core.{Core}
use Rattle.wrp_servo.specs.declared.sampling.Heard.TheVariants.{Ignored, Lost, Followed}
use Rattle.wrp_servo.specs.Call.{Call as ServoCall, CallSample as ServoSample, ServoSetting, run}
use Rattle.wrp_servo.specs.Laws.{ChainSince, PhaseMovesByTags}
use Rattle.wrp_servo.specs.Sampling.{good_tag, hears, is_far, tag_as, with_tag}
use Rattle.wrp_servo.specs.Servo.{news_at, out_by}
use Rattle.wrp_servo.specs.Tags.{heard_tag}
use Rattle.wrp_tracking_laws.specs.Chain.{Good}
use Rattle.wrp_course.specs.declared.event.Event.{Event}
use Rattle.wrp_course.specs.declared.event.Event.TheVariants.{Tick, Sample, Depart, Deliver, Noise, Up}
use Rattle.wrp_bound_laws.proofs.SyncPairs.SyncSamples.{phase_kept}
use Rattle.wrp_course.specs.Given.{Given, given_plain, taken_of}
use Rattle.wrp_course.specs.Moved.{moved}
use Rattle.wrp_course.specs.Run.{Happened, world_after}
use Rattle.wrp_course.specs.Runs.{IsRun}
use Rattle.wrp_course.specs.Setting.{Setting, node_setting_of, link_of}
use Rattle.wrp_course.specs.WorldAt.{WorldAt}
use Rattle.wrp_course.proofs.RunTimes.{comes_up_down, not_up}
use Rattle.wrp_bound_laws.specs.Chains.{good_in, goods_since, phase_in as unwrapped_in}
use Rattle.wrp_bound_laws.specs.Leases.{ChainHasSource, FollowsSource, IsCarried}
use Rattle.wrp_bound_laws.specs.Moments.{AtEach}
use Rattle.wrp_bound_laws.specs.Rates.{HasChain}
use Rattle.wrp_bound_laws.proofs.DelayPairs.DelayCalls.{only_kept, unless_kept}
use Rattle.wrp_bound_laws.proofs.DelayPairs.DelayEvents.{Brings, event_told, given_node, start_told}
use Rattle.wrp_bound_laws.proofs.Sources.LeaseSources.{both_nodes}
use Rattle.wrp_bound_laws.proofs.Runs.LinksAbove.{above_is}
use Rattle.wrp_bound_laws.proofs.Samples.LiveChains.{sample_keeps}
use Rattle.wrp_bound_laws.proofs.Sources.Parents.{has_servo}
use Rattle.wrp_bound_laws.proofs.Samples.SampleEvents.{IsNoSampleOf, IsLowOf, low_none, low_stay, sampled_samples, samples_then, stood_before}
use Rattle.wrp_bound_laws.proofs.Nodes.StepTold.{KeptByNews, KeptByTurns, before_tick, sample_told}
use Rattle.wrp_bound_laws.proofs.Runs.Suffixes.{at_newest, run_before}

-- What each input of a port keeps of its exchange's samples

abbrev EachOf : (GoodSample → Type 0) → PortSetting → List PortIn → Type 0
EachOf B set told = AllByRecursion B (samples (calls_of set told))

abbrev EachIn : (GoodSample → Type 0) → List Call → Type 0
EachIn B calls = AllByRecursion B (samples calls)

news_each : (B : GoodSample → Type 0) (set : PortSetting) → KeptByNews (EachOf B set)
news_each B set told Same h = only_kept (EachIn B) set.ds.role None (calls_of set told) h h
news_each B set told (Started n) h = only_kept (EachIn B) set.ds.role (Some (CallStart n)) (calls_of set told) h h
news_each B set told Ended h = only_kept (EachIn B) set.ds.role (Some CallClear) (calls_of set told) tt h

turns_each : (B : GoodSample → Type 0) (set : PortSetting) → KeptByTurns (EachOf B set)
turns_each B set = record { carrier = λ told up own_module h. h; reset = λ told h. tt }

sample_each : (B : GoodSample → Type 0) (set : PortSetting) (told : List PortIn) (number : ℕ) (phase : ℤ) → B (record { number = number; phase = phase }) → EachOf B set told → EachOf B set (PortSample number phase ∷ told)
sample_each B set told number phase new h = only_kept (EachIn B) set.ds.role (Some (CallSample number phase)) (calls_of set told) (new, h) h

piece_each : (B : GoodSample → Type 0) (role : Role) (head : Head) (body : Body) (stamp : Stamp) (tick : ℕ) (calls : List Call) → EachIn B calls → EachIn B (with_call (piece_of role head body stamp tick) calls)
piece_each B Slave head (DelayResp receive requesting) stamp tick calls h = h
piece_each B Slave head (Sync origin) stamp tick calls h = h
piece_each B Slave head (FollowUp precise) stamp tick calls h = h
piece_each B Slave head (DelayReq origin) stamp tick calls h = h
piece_each B Slave head (Announce origin utc p1 quality p2 gm steps source suffix) stamp tick calls h = h
piece_each B Slave head (Signal target message) stamp tick calls h = h
piece_each B Master head body stamp tick calls h = h

message_each : (B : GoodSample → Type 0) (set : PortSetting) (told : List PortIn) (m : PtpMsg) (stamp : Stamp) (tick : ℕ) → EachOf B set told → EachOf B set (Msg m stamp tick ∷ told)
message_each B set told m stamp tick h =
    unless_kept (EachIn B) (early_reason set (rest_after set told).link m) (piece_of set.ds.role m.head m.body stamp tick) (calls_of set told) (piece_each B set.ds.role m.head m.body stamp tick (calls_of set told) h) h

sending_each : (B : GoodSample → Type 0) (set : PortSetting) (told : List PortIn) (seq tick : ℕ) (delay : Bool) (stamp : Stamp) → EachOf B set told → EachOf B set (PortSent delay seq stamp tick ∷ told)
sending_each B set told seq tick true stamp h = only_kept (EachIn B) set.ds.role (Some (CallReqSent seq stamp tick)) (calls_of set told) h h
sending_each B set told seq tick false stamp h = h

due_each : (B : GoodSample → Type 0) (role : Role) (due : Bool) (id : ℕ) (calls : List Call) → EachIn B calls → EachIn B (with_call (only_slave role (if due then Some (CallReqOut id) else None)) calls)
due_each B Slave true id calls h = h
due_each B Slave false id calls h = h
due_each B Master due id calls h = h

tick_each : (B : GoodSample → Type 0) (set : PortSetting) (told : List PortIn) (locked certain : Bool) → EachOf B set told → EachOf B set (PortTick locked certain ∷ told)
tick_each B set told locked certain h = due_each B set.ds.role (requests_on (ticked set (rest_after set told) locked)) (ticked set (rest_after set told) locked).ids.request (calls_of set told) h

each_brings : (B : GoodSample → Type 0) (set : PortSetting) (s : Setting) (w : WorldAt) (says : Result PtpMsg FrameFault) (n p : ℕ) (e : Event) → IsNoSampleOf n e → EachOf B set ((w.node n).told p) → Brings (EachOf B set) s w says n p e
each_brings B set s w says n p (Tick m) none h = λ is.
    tick_each B set ((servo_ticked (node_setting_of s n) (w.node n)).node.told p) (locked_of (node_setting_of s n) (servo_ticked (node_setting_of s n) (w.node n)).node) (certain_of (node_setting_of s n) (servo_ticked (node_setting_of s n) (w.node n)).node) (before_tick (EachOf B set) (news_each B set) (λ told k. k) (node_setting_of s n) (w.node n) p h)
each_brings B set s w says n p (Sample m base bits) none h = λ is. absurd (none is)
each_brings B set s w says n p (Depart m q stamp) none h = λ a b x rest delay queue is. sending_each B set ((w.node n).told p) x.message.head.seq (w.node n).ticks delay (record { value = stamp; sample = (w.clock m).samples }) h
each_brings B set s w says n p (Deliver i) none h = λ f a end there arrived at_end at_node at_port hears. message_each B set ((w.node n).told p) f.sending.message (stamp_of (node_setting_of s n) (w.node n) p a.raw a.sample) (w.node n).ticks h
each_brings B set s w says n p (Noise m q octets raw) none h = λ x at_node at_port is hears. message_each B set ((w.node n).told p) x (stamp_of (node_setting_of s n) (w.node n) p raw (w.clock m).samples) (w.node n).ticks h
each_brings B set s w says n p _ none h = tt

-- A sample of the node

phase_told : (v w : Core) (chain : ChainNews) (far : Bool) → (out_by (cond far Lost Followed) w chain).unwrapped ≡ Some w.phase.u
phase_told v w chain true = refl
phase_told v w chain false = refl

unheard_out : (v w : Core) (chain : ChainNews) (b : Bool) (o : Option ℕ) → cond b o None ≡ None → (out_by (cond b (tag_as v o) Ignored) w chain).unwrapped ≡ None
unheard_out v w chain true None e = refl
unheard_out v w chain true (Some tag) e = absurd cc
unheard_out v w chain false o e = refl

heard_out : (v w : Core) (chain : ChainNews) (b : Bool) (o : Option ℕ) (tag : ℕ) → cond b o None ≡ Some tag → (out_by (cond b (tag_as v o) Ignored) w chain).unwrapped ≡ Some w.phase.u
heard_out v w chain true None tag e = absurd cc
heard_out v w chain true (Some t) tag e = phase_told v w chain (is_far (with_tag v t).phase.u)
heard_out v w chain false o tag e = absurd cc

-- what the exchange hears of it
heard_each : (B C : GoodSample → Type 0) (set : PortSetting) (out : ServoOut) (number : ℕ) (told : List PortIn) (o : Option ℤ) → out.unwrapped ≡ o → ((u : ℤ) → o ≡ Some u → C (record { number = number; phase = u })) → ((g : GoodSample) → B g → C g) → EachOf B set told →
    EachOf C set (heard_of out number told)
heard_each B C set out number told o is new weaker h =
    subst (λ z. EachOf C set (with_sample z number (with_news out.chain told))) (sym is) (with_it o new)
  where
    each_less : (gs : List GoodSample) → AllByRecursion B gs → AllByRecursion C gs
    each_less [] k = tt
    each_less (g ∷ gs) k = (weaker g k.0, each_less gs k.1)

    with_chain : (news : ChainNews) → EachOf C set (with_news news told)
    with_chain Same = each_less (samples (calls_of set told)) h
    with_chain (Started n) = news_each C set told (Started n) (each_less (samples (calls_of set told)) h)
    with_chain Ended = news_each C set told Ended (each_less (samples (calls_of set told)) h)

    with_it : (z : Option ℤ) → ((u : ℤ) → z ≡ Some u → C (record { number = number; phase = u })) → EachOf C set (with_sample z number (with_news out.chain told))
    with_it None f = with_chain out.chain
    with_it (Some u) f = sample_each C set (with_news out.chain told) number u (f u refl) (with_chain out.chain)

-- the samples so far of a node
abbrev count_at : Setting → List Happened → ℕ → ℕ
count_at s events n = ((world_after s events).clock n).samples

one_sample : (s : Setting) (says : Result PtpMsg FrameFault) (y : ℤ) (before : List Happened) (base bits n : ℕ) → count_at s (record { event = Sample n base bits; says = says; answer = y } ∷ before) n ≡ count_at s before n + 1
one_sample s says y before base bits n =
    samples_then s (record { event = Sample n base bits; says = says; answer = y }) before n ∙ sampled_samples s (world_after s before) n n base bits refl

abbrev set_below : Setting → LinkCfg → PortSetting
set_below s link = setting_of (s.set link.lower) link.lower_port

abbrev EachAt : (GoodSample → Type 0) → Setting → LinkCfg → List Happened → Type 0
EachAt B s link events = EachOf B (set_below s link) (((world_after s events).node link.lower).told link.lower_port)

calm_each : (B : GoodSample → Type 0) (s : Setting) (h : Happened) (before : List Happened) (link : LinkCfg) → IsLowOf link.lower h.event → EachAt B s link before → EachAt B s link (h ∷ before)
calm_each B s h before link calm k =
    event_told (EachOf B (set_below s link)) (news_each B (set_below s link)) (turns_each B (set_below s link)) s h.says h.answer (world_after s before) h.event link.lower link.lower_port
    (each_brings B (set_below s link) s (world_after s before) h.says link.lower link.lower_port h.event (low_none link.lower h.event calm) k) k

-- what its tag is, if it is good
abbrev heard_in : Setting → List Happened → ℕ → ℕ → ℕ → Option ℕ
heard_in s before n base bits = heard_tag (servo_setting_of (node_setting_of s n)) ((world_after s before).node n).calls (count_at s before n + 1) base bits

abbrev sampled_core : Setting → List Happened → ℕ → ℕ → ℕ → Core
sampled_core s before n base bits = run (servo_setting_of (node_setting_of s n)) (ServoSample (count_at s before n + 1) base bits ∷ ((world_after s before).node n).calls)

sample_event : (B C : GoodSample → Type 0) (s : Setting) (says : Result PtpMsg FrameFault) (y : ℤ) (before : List Happened) (base bits : ℕ) (link : LinkCfg) →
    ((u : ℤ) (tag : ℕ) → heard_in s before link.lower base bits ≡ Some tag → u ≡ (sampled_core s before link.lower base bits).phase.u → C (record { number = count_at s before link.lower + 1; phase = u })) → ((g : GoodSample) → B g → C g) → EachAt B s link before →
    EachAt C s link (record { event = Sample link.lower base bits; says = says; answer = y } ∷ before)
sample_event B C s says y before base bits link new weaker h =
    let n : ℕ = link.lower in
    let w : WorldAt = world_after s before in
    let v : WorldAt = moved s w (Sample n base bits) in
    let g : Given = given_plain n (SampleInput (v.clock n).samples base bits) in
    let number : (v.clock n).samples ≡ count_at s before n + 1 = ap (λ b. (if b then record (w.clock n) { samples = (w.clock n).samples + 1 } else w.clock n).samples) (eq_self n) in
    let told : List PortIn = (w.node n).told link.lower_port in
    subst (λ (z : NodeAt). EachOf C (set_below s link) (z.told link.lower_port)) (sym (given_node s y v g n refl))
    (sample_told (EachOf C (set_below s link)) (news_each C (set_below s link)) (node_setting_of s n) g.says y (w.node n) link.lower_port (v.clock n).samples base bits
    (subst (λ i. EachOf C (set_below s link) (heard_of (answer_of (node_setting_of s n) (Some (ServoSample i base bits)) (w.node n).calls) i told)) (sym number) (heard (heard_in s before n base bits) refl))
    (each_less (samples (calls_of (set_below s link) told)) h))
  where
    each_less : (gs : List GoodSample) → AllByRecursion B gs → AllByRecursion C gs
    each_less [] k = tt
    each_less (x ∷ gs) k = (weaker x k.0, each_less gs k.1)

    heard : (o : Option ℕ) → heard_in s before link.lower base bits ≡ o →
        EachOf C (set_below s link) (heard_of (answer_of (node_setting_of s link.lower) (Some (ServoSample (count_at s before link.lower + 1) base bits)) ((world_after s before).node link.lower).calls) (count_at s before link.lower + 1) (((world_after s before).node link.lower).told link.lower_port))
    heard None e =
        let x : ServoSetting = servo_setting_of (node_setting_of s link.lower) in
        let core : Core = run x ((world_after s before).node link.lower).calls in
        let call : ServoCall = ServoSample (count_at s before link.lower + 1) base bits in
        heard_each B C (set_below s link) (answer_of (node_setting_of s link.lower) (Some call) ((world_after s before).node link.lower).calls) (count_at s before link.lower + 1) (((world_after s before).node link.lower).told link.lower_port) None
        (unheard_out core (sampled_core s before link.lower base bits) (news_at x core call) (hears core) (good_tag core.last (count_at s before link.lower + 1) base bits) e) (λ u f. absurd (none-some u f)) weaker h
    heard (Some tag) e =
        let x : ServoSetting = servo_setting_of (node_setting_of s link.lower) in
        let core : Core = run x ((world_after s before).node link.lower).calls in
        let call : ServoCall = ServoSample (count_at s before link.lower + 1) base bits in
        heard_each B C (set_below s link) (answer_of (node_setting_of s link.lower) (Some call) ((world_after s before).node link.lower).calls) (count_at s before link.lower + 1) (((world_after s before).node link.lower).told link.lower_port)
        (Some (sampled_core s before link.lower base bits).phase.u)
        (heard_out core (sampled_core s before link.lower base bits) (news_at x core call) (hears core) (good_tag core.last (count_at s before link.lower + 1) base bits) tag e)
        (λ u f. new u tag e (sym (same_Some (sampled_core s before link.lower base bits).phase.u u f))) weaker h

-- The numbers of its samples

abbrev IsPast : ℕ → GoodSample → Type 0
IsPast count g = g.number ≤ count

past_calm : (s : Setting) (says : Result PtpMsg FrameFault) (y : ℤ) (e : Event) (before : List Happened) (link : LinkCfg) → IsLowOf link.lower e → EachAt (IsPast (count_at s before link.lower)) s link before →
    EachAt (IsPast (count_at s (record { event = e; says = says; answer = y } ∷ before) link.lower)) s link (record { event = e; says = says; answer = y } ∷ before)
past_calm s says y e before link calm h =
    subst (λ c. EachAt (IsPast c) s link (record { event = e; says = says; answer = y } ∷ before)) (sym (low_stay s (record { event = e; says = says; answer = y }) before link.lower calm))
    (calm_each (IsPast (count_at s before link.lower)) s (record { event = e; says = says; answer = y }) before link calm h)

past_event : (s : Setting) (says : Result PtpMsg FrameFault) (y : ℤ) (e : Event) (before : List Happened) (link : LinkCfg) → EachAt (IsPast (count_at s before link.lower)) s link before →
    EachAt (IsPast (count_at s (record { event = e; says = says; answer = y } ∷ before) link.lower)) s link (record { event = e; says = says; answer = y } ∷ before)
past_event s says y (Sample m base bits) before link h = elim (eqb_tells link.lower m) [
  | inl x ↦
      subst (λ i. EachAt (IsPast (count_at s (record { event = Sample i base bits; says = says; answer = y } ∷ before) link.lower)) s link (record { event = Sample i base bits; says = says; answer = y } ∷ before)) x.1
      (subst (λ c. EachAt (IsPast c) s link (record { event = Sample link.lower base bits; says = says; answer = y } ∷ before)) (sym (one_sample s says y before base bits link.lower))
      (sample_event (IsPast (count_at s before link.lower)) (IsPast (count_at s before link.lower + 1)) s says y before base bits link (λ u tag heard is. nat_le_self (count_at s before link.lower + 1)) (λ g k. le_later g.number (count_at s before link.lower) k) h))
  | inr x ↦
      subst (λ c. EachAt (IsPast c) s link (record { event = Sample m base bits; says = says; answer = y } ∷ before)) (sym (low_stay s (record { event = Sample m base bits; says = says; answer = y }) before link.lower x.1))
      (calm_each (IsPast (count_at s before link.lower)) s (record { event = Sample m base bits; says = says; answer = y }) before link x.1 h)
]
past_event s says y (Up m off swaps) before link h = elim (eqb_tells link.lower m) [
  | inl x ↦
      start_told (EachOf (IsPast (count_at s (record { event = Up m off swaps; says = says; answer = y } ∷ before) link.lower)) (set_below s link)) (news_each _ (set_below s link)) (turns_each _ (set_below s link)) s says y (world_after s before) m off swaps link.lower link.lower_port x.1 tt
  | inr x ↦
      subst (λ c. EachAt (IsPast c) s link (record { event = Up m off swaps; says = says; answer = y } ∷ before)) (sym (low_stay s (record { event = Up m off swaps; says = says; answer = y }) before link.lower x.1))
      (calm_each (IsPast (count_at s before link.lower)) s (record { event = Up m off swaps; says = says; answer = y }) before link x.1 h)
]
past_event s says y e before link h = past_calm s says y e before link tt h

past_all : (s : Setting) (events : List Happened) (link : LinkCfg) → EachAt (IsPast (count_at s events link.lower)) s link events
past_all s [] link = tt
past_all s (h ∷ before) link = past_event s h.says h.answer h.event before link (past_all s before link)

-- In a chain

-- the newest good sample has this phase
abbrev pub IsHead : List Good → ℤ → Type 0
IsHead [] u = ⊥
IsHead (g ∷ gs) u = g.u ≡ u

-- the sample of the node's last number, if it is among them, is the newest good sample
abbrev Known : ℕ → List Good → GoodSample → Type 0
Known count goods g = (g.number ≤ count) × (g.number ≡ count → IsHead goods g.phase)

not_past : (a b : ℕ) → a ≤ b → a ≡ b + 1 → ⊥
not_past a b h e = omega (arith, h, e)

-- its phase as noted of the event
phase_sampled : PhaseMovesByTags → (s : Setting) (says : Result PtpMsg FrameFault) (y : ℤ) (before : List Happened) (base bits n : ℕ) → is_some (slave_of (s.set n)) ≡ true →
    unwrapped_in s (world_after s (record { event = Sample n base bits; says = says; answer = y } ∷ before)) n ≡ (sampled_core s before n base bits).phase.u
phase_sampled law s says y before base bits n servo =
    let w : WorldAt = world_after s before in
    let v : WorldAt = moved s w (Sample n base bits) in
    let g : Given = given_plain n (SampleInput (v.clock n).samples base bits) in
    let x : ServoSetting = servo_setting_of (node_setting_of s n) in
    let calls : List ServoCall = (w.node n).calls in
    let number : (v.clock n).samples ≡ count_at s before n + 1 = ap (λ b. (if b then record (w.clock n) { samples = (w.clock n).samples + 1 } else w.clock n).samples) (eq_self n) in
    ap (λ (z : NodeAt). (run x z.calls).phase.u) (given_node s y v g n refl)
    ∙ sample_keeps (λ now. (run x now).phase.u ≡ (run x (ServoSample (v.clock n).samples base bits ∷ calls)).phase.u) (phase_kept law x (run x (ServoSample (v.clock n).samples base bits ∷ calls)).phase.u) (node_setting_of s n) (taken_of y g) (w.node n)
    (v.clock n).samples base bits refl servo refl
    ∙ ap (λ i. (run x (ServoSample i base bits ∷ calls)).phase.u) number

good_where : {A : Type 0} (b : Bool) (o : Option A) → b ≡ true → (if b then o else None) ≡ o
good_where true o e = refl
good_where false o e = absurd (false≢true e)

sample_known : PhaseMovesByTags → (s : Setting) (says : Result PtpMsg FrameFault) (y : ℤ) (before : List Happened) (base bits : ℕ) (link : LinkCfg) (goods : List Good) → is_some (slave_of (s.set link.lower)) ≡ true →
    ((good : Good) → good_in s link.lower (record { event = Sample link.lower base bits; says = says; answer = y }) before (Sample link.lower base bits) ≡ Some good → IsHead goods good.u) →
    EachAt (Known (count_at s (record { event = Sample link.lower base bits; says = says; answer = y } ∷ before) link.lower) goods) s link (record { event = Sample link.lower base bits; says = says; answer = y } ∷ before)
sample_known law s says y before base bits link goods servo head =
    let n : ℕ = link.lower in
    let h : Happened = record { event = Sample n base bits; says = says; answer = y } in
    let now : WorldAt = world_after s (h ∷ before) in
    let found : (tag : ℕ) → heard_in s before n base bits ≡ Some tag → IsHead goods (unwrapped_in s now n) =
    λ tag e.
    head (record { number = count_at s before n + 1; tag = tag; u = unwrapped_in s now n; at = length before + 1 })
    (good_where (n == n) (option_map (λ t. record { number = count_at s before n + 1; tag = t; u = unwrapped_in s now n; at = length before + 1 }) (heard_in s before n base bits)) (eq_self n)
    ∙ ap (option_map (λ t. record { number = count_at s before n + 1; tag = t; u = unwrapped_in s now n; at = length before + 1 })) e) in
    subst (λ c. EachAt (Known c goods) s link (h ∷ before)) (sym (one_sample s says y before base bits n))
    (sample_event (IsPast (count_at s before n)) (Known (count_at s before n + 1) goods) s says y before base bits link
    (λ u tag heard is. (nat_le_self (count_at s before n + 1), λ e. subst (IsHead goods) (phase_sampled law s says y before base bits n servo ∙ sym is) (found tag heard)))
    (λ g k. (le_later g.number (count_at s before n) k, λ e. absurd (not_past g.number (count_at s before n) k e))) (past_all s before link))

-- events that bring no sample
none_good : (s : Setting) (h : Happened) (before : List Happened) (n : ℕ) (e : Event) → IsLowOf n e → good_in s n h before e ≡ None
none_good s h before n (Sample m base bits) calm = elim (eqb_tells n m) [
  | inl x ↦ absurd (calm x.1)
  | inr x ↦ no_where (n == m) _ x.0
]
  where
    no_where : {A : Type 0} (b : Bool) (o : Option A) → b ≡ false → (if b then o else None) ≡ None
    no_where true o e = absurd cc
    no_where false o e = refl
none_good s h before n e calm = refl

-- the laws that this rests on
pub record SampleLaws : Type 0 where
  pub since : ChainSince
  pub moves : PhaseMovesByTags
  pub lit : (s : Setting) (events : List Happened) (k : ℕ) (link : LinkCfg) → IsRun s events → link_of s k ≡ Some link → HasChain s link.lower events → IsCarried s k events

-- a chain's link has its carrier
pub lit_in_chain : ChainHasSource → (s : Setting) (events : List Happened) (k : ℕ) (link : LinkCfg) → IsRun s events → link_of s k ≡ Some link → HasChain s link.lower events → IsCarried s k events
lit_in_chain law s events k link run_is is chain =
    let f : FollowsSource s events k link = law s events k link run_is is chain in
    subst (IsCarried s k) (sym f.splits) (at_newest (IsCarried s k) f.newer f.older f.carried)

-- the event that starts the chain
start_known : SampleLaws → (s : Setting) (says : Result PtpMsg FrameFault) (y : ℤ) (e : Event) (before : List Happened) (k : ℕ) (link : LinkCfg) → IsRun s (record { event = e; says = says; answer = y } ∷ before) → link_of s k ≡ Some link →
    HasChain s link.lower (record { event = e; says = says; answer = y } ∷ before) → (HasChain s link.lower before → ⊥) →
    EachAt (Known (count_at s (record { event = e; says = says; answer = y } ∷ before) link.lower) (goods_since s link.lower [] (record { event = e; says = says; answer = y } ∷ before))) s link (record { event = e; says = says; answer = y } ∷ before)
start_known laws s says y (Sample m base bits) before k link run_is is stands begins = elim (eqb_tells link.lower m) [
  | inl x ↦
      subst
      (λ i. EachAt (Known (count_at s (record { event = Sample i base bits; says = says; answer = y } ∷ before) link.lower) (goods_since s link.lower [] (record { event = Sample i base bits; says = says; answer = y } ∷ before))) s link (record { event = Sample i base bits; says = says; answer = y } ∷ before)) x.1
      (sample_known laws.moves s says y before base bits link (goods_since s link.lower [] (record { event = Sample link.lower base bits; says = says; answer = y } ∷ before)) (has_servo s run_is.network link.lower link (above_is s run_is.network k link is))
      (λ good e. subst (λ o. IsHead (option_to_list o) good.u) (sym e) refl))
  | inr x ↦ absurd (begins (stood_before laws.since s (record { event = Sample m base bits; says = says; answer = y }) before link.lower x.1 stands))
]
start_known laws s says y e before k link run_is is stands begins = absurd (begins (stood_before laws.since s (record { event = e; says = says; answer = y }) before link.lower tt stands))

abbrev KnownAt : Setting → LinkCfg → (newer older : List Happened) → Type 0
KnownAt s link newer older = EachAt (Known (count_at s (newer ++ older) link.lower) (goods_since s link.lower newer older)) s link (newer ++ older)

calm_known : (s : Setting) (h : Happened) (newer older : List Happened) (link : LinkCfg) → IsLowOf link.lower h.event → KnownAt s link newer older → KnownAt s link (h ∷ newer) older
calm_known s h newer older link calm k =
    let goods : List Good = goods_since s link.lower newer older in
    subst (λ c. EachAt (Known c (goods_since s link.lower (h ∷ newer) older)) s link (h ∷ (newer ++ older))) (sym (low_stay s h (newer ++ older) link.lower calm))
    (subst (λ o. EachAt (Known (count_at s (newer ++ older) link.lower) (option_to_list o ++ goods)) s link (h ∷ (newer ++ older))) (sym (none_good s h (newer ++ older) link.lower h.event calm))
    (calm_each (Known (count_at s (newer ++ older) link.lower) goods) s h (newer ++ older) link calm k))

next_known : SampleLaws → (s : Setting) (says : Result PtpMsg FrameFault) (y : ℤ) (e : Event) (newer older : List Happened) (k : ℕ) (link : LinkCfg) → IsRun s (record { event = e; says = says; answer = y } ∷ (newer ++ older)) → link_of s k ≡ Some link →
    HasChain s link.lower (newer ++ older) → KnownAt s link newer older → KnownAt s link (record { event = e; says = says; answer = y } ∷ newer) older
next_known laws s says y (Sample m base bits) newer older k link run_is is stands old = elim (eqb_tells link.lower m) [
  | inl x ↦
      subst (λ i. KnownAt s link (record { event = Sample i base bits; says = says; answer = y } ∷ newer) older) x.1
      (sample_known laws.moves s says y (newer ++ older) base bits link (goods_since s link.lower (record { event = Sample link.lower base bits; says = says; answer = y } ∷ newer) older) (has_servo s run_is.network link.lower link (above_is s run_is.network k link is))
      (λ good e. subst (λ o. IsHead (option_to_list o ++ goods_since s link.lower newer older) good.u) (sym e) refl))
  | inr x ↦ calm_known s (record { event = Sample m base bits; says = says; answer = y }) newer older link x.1 old
]
next_known laws s says y (Up m off swaps) newer older k link run_is is stands old =
    let before : List Happened = newer ++ older in
    let h : Happened = record { event = Up m off swaps; says = says; answer = y } in
    let up : ((world_after s before).clock link.lower).up ≡ true = (both_nodes s (world_after s before) k link is (laws.lit s before k link (run_before s h before run_is) is stands)).1 in
    calm_known s h newer older link
    (λ same. not_up ((world_after s before).clock link.lower).up up (subst (λ n. not (not ((world_after s before).clock n).up) ≡ false) (sym same) (comes_up_down s (world_after s before) says m off swaps run_is.accepted.0))) old
next_known laws s says y e newer older k link run_is is stands old = calm_known s (record { event = e; says = says; answer = y }) newer older link tt old

chain_known : SampleLaws → (s : Setting) (newer : List Happened) (start : Happened) (before : List Happened) (k : ℕ) (link : LinkCfg) → IsRun s (newer ++ start ∷ before) → link_of s k ≡ Some link → AtEach (HasChain s link.lower) newer (start ∷ before) →
    (HasChain s link.lower before → ⊥) → KnownAt s link newer (start ∷ before)
chain_known laws s [] start before k link run_is is stands begins = start_known laws s start.says start.answer start.event before k link run_is is stands begins
chain_known laws s (h ∷ newer) start before k link run_is is stands begins =
    next_known laws s h.says h.answer h.event newer (start ∷ before) k link run_is is (at_newest (HasChain s link.lower) newer (start ∷ before) stands.1)
    (chain_known laws s newer start before k link (run_before s h (newer ++ start ∷ before) run_is) is stands.1 begins)

-- The phase that a stamp latches now

found_by : (goods : List Good) (number : ℕ) (u : ℤ) (x : GoodSample) (xs : List GoodSample) → Known number goods x → (phase_in xs number ≡ Some u → IsHead goods u) → (t : Bool) → (x.number == number) ≡ t → phase_in (x ∷ xs) number ≡ Some u → IsHead goods u
found_by goods number u x xs known rest true e is = subst (IsHead goods) (same_Some x.phase u (sym (ap (λ b. option_map (λ (s : GoodSample). s.phase) (if b then Some x else find (λ s. s.number == number) xs)) e) ∙ is)) (known.1 (eqb-true x.number number e))
found_by goods number u x xs known rest false e is = rest (sym (ap (λ b. option_map (λ (s : GoodSample). s.phase) (if b then Some x else find (λ s. s.number == number) xs)) e) ∙ is)

found : (goods : List Good) (number : ℕ) (u : ℤ) (xs : List GoodSample) → AllByRecursion (Known number goods) xs → phase_in xs number ≡ Some u → IsHead goods u
found goods number u [] all is = absurd (none-some u is)
found goods number u (x ∷ xs) all is = found_by goods number u x xs all.0 (λ rest. found goods number u xs all.1 rest) (x.number == number) refl is

since_in : (o : Option ℕ) (good : List GoodSample) (number : ℕ) (u : ℤ) → phase_since o good number ≡ Some u → phase_in good number ≡ Some u
since_in None good number u e = absurd (none-some u e)
since_in (Some first) good number u e = by_test (nat_le first number) (phase_in good number) e
  where
    by_test : (b : Bool) (o : Option ℤ) → (if b then o else None) ≡ Some u → o ≡ Some u
    by_test true o f = f
    by_test false o f = absurd (none-some u f)

-- what is true of each of a list is true of its first ones
all_take : (P : GoodSample → Type 0) (n : ℕ) (xs : List GoodSample) → AllByRecursion P xs → AllByRecursion P (take n xs)
all_take P zero xs all = tt
all_take P (suc n) [] all = tt
all_take P (suc n) (x ∷ xs) all = (all.0, all_take P n xs all.1)

-- it is the phase of the chain's newest good sample
pub latched_newest : SampleLaws → (s : Setting) (newer : List Happened) (start : Happened) (before : List Happened) (k : ℕ) (link : LinkCfg) (ring : ℕ) (u : ℤ) → IsRun s (newer ++ start ∷ before) → link_of s k ≡ Some link →
    AtEach (HasChain s link.lower) newer (start ∷ before) → (HasChain s link.lower before → ⊥) →
    latched_phase ring (calls_of (set_below s link) (((world_after s (newer ++ start ∷ before)).node link.lower).told link.lower_port)) (count_at s (newer ++ start ∷ before) link.lower) ≡ Some u → IsHead (goods_since s link.lower newer (start ∷ before)) u
latched_newest laws s newer start before k link ring u run_is is stands begins latched =
    let events : List Happened = newer ++ start ∷ before in
    let calls : List Call = calls_of (set_below s link) (((world_after s events).node link.lower).told link.lower_port) in
    found (goods_since s link.lower newer (start ∷ before)) (count_at s events link.lower) u (last_samples ring calls)
    (all_take (Known (count_at s events link.lower) (goods_since s link.lower newer (start ∷ before))) ring (samples calls) (chain_known laws s newer start before k link run_is is stands begins))
    (since_in (first_sample calls) (last_samples ring calls) (count_at s events link.lower) u latched)
