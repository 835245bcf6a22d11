-- A Delay_Resp that a slave's exchange is given carries the arrival of its newest Delay_Req, and so gives the chain's
-- constant and both ways.
use Rattle.std.proofs.Common.{◌≡◌, ◌∙◌, ap, sym, subst, ℕ, ◌*◌, ◌%◌, ◌≤◌, ℤ, pos, ◌+ℤ◌, ◌-ℤ◌, ◌≤ℤ◌, unsigned_abs, true, List, [], ◌∷◌, ◌++◌, length, Some, arith}
use Rattle.std.proofs.lemmas.Int.{ints}
use Rattle.std.specs.Prelude.{IfSome}
use Rattle.std.proofs.lemmas.Option.{same_Some}
use Rattle.wrp_base.specs.declared.link.Role.{Role}
use Rattle.wrp_base.specs.declared.link.Role.TheVariants.{Master, Slave}
use Rattle.wrp_base.specs.declared.message.Body.TheVariants.{DelayResp}
use Rattle.wrp_base.specs.declared.message.PortIdentity.{PortIdentity}
use Rattle.wrp_base.specs.declared.message.PtpMsg.{PtpMsg}
use Rattle.wrp_base.specs.declared.time.Raw.{Raw}
use Rattle.wrp_base.specs.declared.time.Stamp.{Stamp}
use Rattle.wrp_base.specs.declared.time.Ts.{Ts}
use Rattle.wrp_network.specs.Network.{End}
use Rattle.wrp_base.specs.Closeness.{IsWithin}
use Rattle.wrp_base.proofs.Lists.{append_assoc}
use Rattle.wrp_bounds.specs.Hop.{up_error}
use Rattle.wrp_bounds.specs.Times.{frame_life}
use Rattle.wrp_exch.specs.declared.delay.Sent.{Sent}
use Rattle.wrp_exch.specs.DelayPair.{pair_of_sent}
use Rattle.wrp_node.specs.NodeAt.{link_at}
use Rattle.wrp_base.specs.Clock.{steps_of_period}
use Rattle.wrp_node.specs.NodeStep.{stamp_of}
use Rattle.wrp_stamp.specs.Merge.{transition_of, merged}
use Rattle.wrp_port.specs.Wire.{corrected_by, earlier_by, timestamp_of}
use Rattle.wrp_tracking_laws.specs.Chain.{FlewAt}
use Rattle.wrp_tracking_laws.specs.DelayPieces.{PairTrue}
use Rattle.wrp_tracking_laws.specs.History.{Was}
use Rattle.wrp_tracking_laws.specs.Moment.{Moment, ways_at}
use Rattle.wrp_course.specs.declared.event.Event.{Event}
use Rattle.wrp_course.specs.declared.event.Event.TheVariants.{Deliver}
use Rattle.wrp_course.specs.Premises.{Accepts}
use Rattle.wrp_course.specs.Run.{Happened, world_after}
use Rattle.wrp_course.specs.RunLaws.{HasTimes}
use Rattle.wrp_course.specs.Runs.{IsRun, WasPutOut}
use Rattle.wrp_course.specs.RunStamps.{ArrivedSo, DepartedSo}
use Rattle.wrp_course.specs.Setting.{Setting, end_at, end_of, node_setting_of, of_node}
use Rattle.wrp_course.specs.WorldAt.{Arrival, FrameAt, Sending, WorldAt, delay_from, has_carrier, reading}
use Rattle.wrp_bound_laws.proofs.Motion.Moving.{joined_is}
use Rattle.wrp_course.proofs.RunGiven.{end_is}
use Rattle.wrp_bound_laws.specs.Fibres.{IsFibre}
use Rattle.wrp_bound_laws.specs.Leases.{IsCarried}
use Rattle.wrp_bound_laws.specs.Moments.{AtEach}
use Rattle.wrp_bound_laws.specs.OneMessage.{NewestRequest}
use Rattle.wrp_bound_laws.specs.SequenceIds.{IsOpenAt}
use Rattle.wrp_bound_laws.specs.Views.{moment_at, moments_of}
use Rattle.wrp_bound_laws.proofs.Frames.ArrivalStamps.{stamp_near}
use Rattle.wrp_bound_laws.proofs.DelayPairs.DelayDepartures.{Departs, Given, Inside, open_at, past_of, run_at, start_at}
use Rattle.wrp_bound_laws.proofs.DelayPairs.DelayPieces.{same_end, same_request, still_deliver, was_then}
use Rattle.wrp_bound_laws.proofs.DelayPairs.DelayPutOut.{Answered, AnsweredIn, was_answered}
use Rattle.wrp_bound_laws.proofs.DelayPairs.DelayResponses.{IsResponse}
use Rattle.wrp_bound_laws.proofs.DelayPairs.DelayWire.{merged_whole, told_back}
use Rattle.wrp_bound_laws.proofs.Frames.DepartedFrames.{Stayed, arrival_raw, frame_stays}
use Rattle.wrp_bound_laws.proofs.Schedules.OpenPorts.{carried_since}
use Rattle.wrp_bound_laws.proofs.Frames.PutOut.{put_since}
use Rattle.wrp_bound_laws.proofs.Frames.Sendings.{WasPut, was_put}
use Rattle.wrp_bound_laws.proofs.Runs.Suffixes.{at_rest, count_is, older_run, run_before}
use Rattle.wrp_bound_laws.proofs.Frames.TimedQueues.{departs_once}
use Rattle.wrp_bound_laws.proofs.Frames.TimedTicks.{sent_timed}
use Rattle.wrp_bound_laws.proofs.Runs.HopNumbers.{HopHas, hop_has}
use Rattle.wrp_bound_laws.proofs.Frames.Deliveries.{deliver_holds}
use Rattle.wrp_bound_laws.proofs.Nodes.StepSends.{IsRequest}

-- The departure

-- as it was in the events before it
pub record LeftSo (c : Given) (older : List Happened) (f : FrameAt) : Type 0 where
  pub at : f.at ≡ (world_after c.s older).time
  pub stamp : unsigned_abs (f.stamp -ℤ reading (world_after c.s older) c.link.lower) ≤ of_node (λ node. node.e_tx) c.s c.link.lower
  pub carried : has_carrier c.s (world_after c.s older) c.k ≡ true
  pub due : f.due ≡ f.at +ℤ delay_from (world_after c.s older) c.k Slave

left_so : (c : Given) (newer older : List Happened) (f : FrameAt) → c.events ≡ newer ++ older → f.moment ≡ length older → f.link ≡ c.k → f.by ≡ Slave → DepartedSo c.s c.events f → LeftSo c older f
left_so c newer older f splits moment link by d =
    let s : Setting = c.s in
    let same : d.older ≡ older =
    same_end (d.came.0 ++ (d.came.1 ∷ [])) d.older newer older (append_assoc d.came.0 (d.came.1 ∷ []) d.older ∙ sym d.came.2 ∙ splits) (sym (count_is s d.older) ∙ sym d.moment ∙ moment) in
    let end : d.end ≡ end_of Slave c.link =
    same_Some d.end (end_of Slave c.link) (sym d.end_is ∙ ap (λ l. end_at s l f.by) link ∙ ap (end_at s c.k) by ∙ end_is s c.k Slave c.link c.is) in
    record {
      at = d.time ∙ ap (λ l. (world_after s l).time) same;
      stamp =
          subst (λ l. unsigned_abs (f.stamp -ℤ reading (world_after s l) c.link.lower) ≤ of_node (λ node. node.e_tx) s c.link.lower) same
          (subst (λ (n : End). unsigned_abs (f.stamp -ℤ reading (world_after s d.older) n.node) ≤ of_node (λ node. node.e_tx) s n.node) end d.stamp);
      carried = sym (ap (λ l. has_carrier s (world_after s l) c.k) same) ∙ sym (ap (has_carrier s (world_after s d.older)) link) ∙ d.carried;
      due =
          d.due
          ∙ ap (λ l. f.at +ℤ delay_from (world_after s d.older) l f.by) link
          ∙ ap (λ r. f.at +ℤ delay_from (world_after s d.older) c.k r) by
          ∙ ap (λ l. f.at +ℤ delay_from (world_after s l) c.k Slave) same;
    }

-- The Delay_Req that is answered

both_young : (now z d y : ℤ) (life : ℕ) → now ≤ℤ (z +ℤ pos life) → z ≡ d → d ≤ℤ (y +ℤ pos life) → now ≤ℤ (y +ℤ pos (2 * life))
both_young now z d y life h e k = omega (arith, ints, h, e, k)

-- after these events the slave is handed a Delay_Resp with the id of its newest Delay_Req
pub record Hands (c : Given) (events : List Happened) (h : Happened) (x : Sending) : Type 0 where
  pub number : ℕ
  pub frame : FrameAt
  pub receive : Ts
  pub requesting : PortIdentity
  pub event : h.event ≡ Deliver number
  pub there : (world_after c.s events).frame number ≡ Some frame
  pub link_is : frame.link ≡ c.k
  pub by_is : frame.by ≡ Master
  pub body : frame.sending.message.body ≡ DelayResp receive requesting
  pub newest : NewestRequest c.s (h ∷ events) c.k x
  pub seq : frame.sending.message.head.seq ≡ x.message.head.seq

-- the master was handed its Delay_Req after these earlier events, at most two frame's lives after it was put out
record Asks (c : Given) (events : List Happened) (z : Sending) : Type 0 where
  since : List Happened
  handed : List Happened
  splits : events ≡ since ++ handed
  run : IsRun c.s handed
  event : Event
  it : AnsweredIn c.s (world_after c.s handed) event c.k c.link z
  put : WasPutOut it.frame.sending ((world_after c.s handed).end_at c.k Slave).sent
  young : (world_after c.s events).time ≤ℤ (it.frame.sending.at +ℤ pos (2 * frame_life c.s.cfg))

frame_at_end : (c : Given) (events : List Happened) (number : ℕ) (f : FrameAt) (r : Role) → IsRun c.s events → (world_after c.s events).frame number ≡ Some f → f.link ≡ c.k → f.by ≡ r → WasPutOut f.sending ((world_after c.s events).end_at c.k r).sent
frame_at_end c events number f r run there link by =
    subst (λ q. WasPutOut f.sending ((world_after c.s events).end_at c.k q).sent) by (subst (λ l. WasPutOut f.sending ((world_after c.s events).end_at l f.by).sent) link (c.laws.put c.s events number f run there))

asks_by : (c : Given) (events : List Happened) (z : Sending) → IsRun c.s events → (world_after c.s events).time ≤ℤ (z.at +ℤ pos (frame_life c.s.cfg)) → Answered c.s events c.k c.link z → Asks c events z
asks_by c events z run young an =
    let s : Setting = c.s in
    let d : List Happened = an.older in
    let g : FrameAt = an.in_it.frame in
    let after : IsRun s (an.hands ∷ d) = older_run s an.newer (an.hands ∷ d) (subst (IsRun s) an.splits run) in
    let then_run : IsRun s d = run_before s an.hands d after in
    record {
      since = an.newer ++ (an.hands ∷ []);
      handed = d;
      splits = an.splits ∙ sym (append_assoc an.newer (an.hands ∷ []) d);
      run = then_run;
      event = an.hands.event;
      it = an.in_it;
      put = frame_at_end c d an.in_it.number g Slave then_run an.in_it.there an.in_it.link_is an.in_it.by_is;
      young =
          both_young (world_after s events).time z.at (world_after s d).time g.sending.at (frame_life s.cfg) young (an.at ∙ still_deliver s an.hands d an.in_it.number an.in_it.event)
          (deliver_holds s (world_after s d) an.hands.says an.in_it.number g (subst (Accepts s (world_after s d) an.hands.says) an.in_it.event after.accepted.0) an.in_it.there).0;
    }

asks : (c : Given) (events : List Happened) (h : Happened) (x : Sending) → IsRun c.s events → IsRun c.s (h ∷ events) → (it : Hands c events h x) → Asks c events it.frame.sending
asks c events h x run next it =
    asks_by c events it.frame.sending run
    (deliver_holds c.s (world_after c.s events) h.says it.number it.frame (subst (Accepts c.s (world_after c.s events) h.says) it.event next.accepted.0) it.there).0
    (was_answered c.s events c.k c.link it.frame.sending run c.is (subst IsResponse (sym it.body) tt) (frame_at_end c events it.number it.frame Master run it.there it.link_is it.by_is))

-- it is that newest one
asked_newest : (c : Given) (events : List Happened) (h : Happened) (x : Sending) → Inside c (h ∷ events) → (it : Hands c events h x) (a : Asks c events it.frame.sending) → a.it.frame.sending ≡ x
asked_newest c events h x j it a =
    let y : Sending = a.it.frame.sending in
    same_request c.laws c.s (h ∷ events) c.k c.link x y (run_at c (h ∷ events) j) c.is (open_at c (h ∷ events) j) it.newest (record {
      request = a.it.request;
      put = subst (λ l. WasPutOut y ((world_after c.s (h ∷ l)).end_at c.k Slave).sent) (sym a.splits) (put_since c.s (h ∷ a.since) a.handed c.k Slave y a.put);
      seq = sym (ap (λ (m : PtpMsg). m.head.seq) a.it.message) ∙ it.seq;
      young = subst (λ t. t ≤ℤ (y.at +ℤ pos (2 * frame_life c.s.cfg))) (sym (still_deliver c.s h events it.number it.event)) a.young;
    })

-- What is reported of its arrival

stamp_told : (receive t : Ts) (requesting source : PortIdentity) → DelayResp receive requesting ≡ DelayResp t source → receive ≡ t
stamp_told receive t requesting source e = cc

-- the stamp of its reception
abbrev stamp_at : (c : Given) (handed : List Happened) (raw : Raw) (sample : ℕ) → Stamp
stamp_at c handed raw sample = stamp_of (node_setting_of c.s c.link.upper) ((world_after c.s handed).node c.link.upper) c.link.upper_port raw sample

time_told : (c : Given) (events : List Happened) (z : Sending) (receive : Ts) (requesting : PortIdentity) → z.message.body ≡ DelayResp receive requesting → (a : Asks c events z) →
    earlier_by receive z.message.head.correction ≡ (stamp_at c a.handed a.it.arrival.raw a.it.arrival.sample).value
time_told c events z receive requesting body a =
    let y : PtpMsg = a.it.frame.sending.message in
    let transition : ℕ = transition_of (link_at (c.s.set c.link.upper) ((world_after c.s a.handed).node c.link.upper) c.link.upper_port).own_module % steps_of_period in
    let n : ℕ = merged (c.s.set c.link.upper).servo.clock a.it.arrival.raw transition in
    let put_in : WasPut c.s a.handed c.k Slave a.it.frame.sending = was_put c.s a.handed c.k Slave a.it.frame.sending a.put in
    let whole : y.head.correction ≡ pos 0 = (sent_timed c.laws.opens.quiet.links c.s put_in.older c.k Slave c.link a.it.frame.sending c.is a.it.request put_in.in_it).plain in
    let told : receive ≡ timestamp_of n = stamp_told receive (timestamp_of n) requesting y.head.source (sym body ∙ ap (λ (m : PtpMsg). m.body) a.it.message) in
    let rest : z.message.head.correction ≡ corrected_by (pos 0) n = ap (λ (m : PtpMsg). m.head.correction) a.it.message ∙ ap (λ t. corrected_by t n) whole in
    ap (λ t. earlier_by t z.message.head.correction) told ∙ ap (earlier_by (timestamp_of n)) rest ∙ told_back n (merged_whole (c.s.set c.link.upper).servo.clock a.it.arrival.raw transition)

-- the events before the arrival
record Arrives (c : Given) (handed : List Happened) (f : FrameAt) (a : Arrival) : Type 0 where
  so : ArrivedSo c.s handed f a
  between : List Happened
  came : handed ≡ between ++ so.older

arrives : (c : Given) (handed : List Happened) (number : ℕ) (f : FrameAt) (a : Arrival) → IsRun c.s handed → (world_after c.s handed).frame number ≡ Some f → f.arrival ≡ Some a → Arrives c handed f a
arrives c handed number f a run there arrived =
    let so : ArrivedSo c.s handed f a = subst (λ o. IfSome o (ArrivedSo c.s handed f)) arrived (c.laws.stamped c.s handed number f run there).1 in
    record { so = so; between = so.came.0 ++ (so.came.1 ∷ []); came = so.came.2 ∙ sym (append_assoc so.came.0 (so.came.1 ∷ []) so.older) }

later_too : (now y f a : ℤ) (life : ℕ) → now ≤ℤ (y +ℤ pos (2 * life)) → y ≤ℤ f → f ≤ℤ a → now ≤ℤ (a +ℤ pos (2 * life))
later_too now y f a life h k l = omega (arith, ints, h, k, l)

arrived_after : (w : WorldAt) (f : FrameAt) (a : Arrival) → f.arrival ≡ Some a → HasTimes w f → (f.at ≤ℤ a.at) × (a.at ≤ℤ w.time) × (f.moment ≤ a.moment) × (a.moment ≤ w.count) × (a.at ≡ f.due)
arrived_after w f a e h = subst (λ o. IfSome o (λ (z : Arrival). (f.at ≤ℤ z.at) × (z.at ≤ℤ w.time) × (f.moment ≤ z.moment) × (z.moment ≤ w.count) × (z.at ≡ f.due))) e h.arrived

-- since which the link had its carrier
carried_then : (c : Given) (events : List Happened) (z : Sending) (i : Inside c events) (a : Asks c events z) (it : Arrives c a.handed a.it.frame a.it.arrival) → AtEach (IsCarried c.s c.k) it.between it.so.older
carried_then c events z i a it =
    let s : Setting = c.s in
    let e : List Happened = it.so.older in
    let times : HasTimes (world_after s a.handed) a.it.frame = c.laws.times s a.handed a.it.number a.it.frame a.run a.it.there in
    let all : events ≡ (a.since ++ it.between) ++ e = a.splits ∙ ap (λ l. a.since ++ l) it.came ∙ sym (append_assoc a.since it.between e) in
    let soon : (world_after s events).time ≤ℤ ((world_after s e).time +ℤ pos (2 * frame_life s.cfg)) =
    later_too (world_after s events).time a.it.frame.sending.at a.it.frame.at (world_after s e).time (frame_life s.cfg) a.young times.sent
    (subst (λ t. a.it.frame.at ≤ℤ t) it.so.time (arrived_after (world_after s a.handed) a.it.frame a.it.arrival a.it.arrived times).0) in
    at_rest (IsCarried s c.k) a.since it.between e
    (carried_since c.laws.opens.quiet s (a.since ++ it.between) e c.k Slave c.link (subst (IsRun s) all (run_at c events i)) c.is (subst (IsOpenAt s c.link Slave) all (open_at c events i))
    (subst (λ l. (world_after s l).time ≤ℤ ((world_after s e).time +ℤ pos (2 * frame_life s.cfg))) all soon))

-- the stamp is near the reading at the arrival
near_then : (c : Given) (events : List Happened) (z : Sending) (i : Inside c events) (a : Asks c events z) (it : Arrives c a.handed a.it.frame a.it.arrival) →
    unsigned_abs ((stamp_at c a.handed a.it.arrival.raw a.it.arrival.sample).value -ℤ reading (world_after c.s it.so.older) c.link.upper) ≤ of_node (λ node. node.e_tag) c.s c.link.upper
near_then c events z i a it =
    let s : Setting = c.s in
    let e : List Happened = it.so.older in
    subst (λ l. unsigned_abs ((stamp_at c l a.it.arrival.raw a.it.arrival.sample).value -ℤ reading (world_after s e) c.link.upper) ≤ of_node (λ node. node.e_tag) s c.link.upper) (sym it.came)
    (stamp_near c.laws.stamps s it.between e c.k Master c.link a.it.frame a.it.arrival.raw a.it.arrival.sample (subst (IsRun s) it.came a.run) c.is (carried_then c events z i a it) (record {
      link_is = a.it.link_is;
      by_is = a.it.by_is;
      end = it.so.end;
      end_is = it.so.end_is;
      keeps = it.so.raw;
      ranges = arrival_raw s a.handed a.it.number a.it.frame a.it.arrival a.run a.it.there a.it.arrived;
    }))

-- the frame of a Delay_Req, the events before its arrival, and the time that is reported of the arrival
record Heard (c : Given) (events : List Happened) (x : Sending) (t4 : ℤ) : Type 0 where
  number : ℕ
  frame : FrameAt
  handed : List Happened
  since : List Happened
  splits : events ≡ since ++ handed
  there : (world_after c.s handed).frame number ≡ Some frame
  link_is : frame.link ≡ c.k
  by_is : frame.by ≡ Slave
  sending : frame.sending ≡ x
  arrival : Arrival
  arrived : frame.arrival ≡ Some arrival
  older : List Happened
  between : List Happened
  came : handed ≡ between ++ older
  at : arrival.at ≡ (world_after c.s older).time
  moment : arrival.moment ≡ length older
  near : unsigned_abs (t4 -ℤ reading (world_after c.s older) c.link.upper) ≤ of_node (λ node. node.e_tag) c.s c.link.upper

heard : (c : Given) (events : List Happened) (h : Happened) (x : Sending) → Inside c events → Inside c (h ∷ events) → (it : Hands c events h x) → Heard c events x (earlier_by it.receive it.frame.sending.message.head.correction)
heard c events h x i j it =
    let a : Asks c events it.frame.sending = asks c events h x (run_at c events i) (run_at c (h ∷ events) j) it in
    let came : Arrives c a.handed a.it.frame a.it.arrival = arrives c a.handed a.it.number a.it.frame a.it.arrival a.run a.it.there a.it.arrived in
    record {
      number = a.it.number;
      frame = a.it.frame;
      handed = a.handed;
      since = a.since;
      splits = a.splits;
      there = a.it.there;
      link_is = a.it.link_is;
      by_is = a.it.by_is;
      sending = asked_newest c events h x j it a;
      arrival = a.it.arrival;
      arrived = a.it.arrived;
      older = came.so.older;
      between = came.between;
      came = came.came;
      at = came.so.time;
      moment = came.so.moment ∙ count_is c.s came.so.older;
      near =
          subst (λ t. unsigned_abs (t -ℤ reading (world_after c.s came.so.older) c.link.upper) ≤ of_node (λ node. node.e_tag) c.s c.link.upper)
          (sym (time_told c events it.frame.sending it.receive it.requesting it.body a)) (near_then c events it.frame.sending i a came);
    }

-- The pair

within : (a b : ℤ) (e n : ℕ) → e ≡ n → unsigned_abs (a -ℤ b) ≤ n → IsWithin e a b
within a b e n is h = omega (arith, is, h)

pub pair_true : (c : Given) (events : List Happened) (h : Happened) (x : Sending) (kept : Sent) → Inside c events → Inside c (h ∷ events) → (it : Hands c events h x) → Departs c x kept →
    PairTrue c.hop c.chain.constant (past_of c) (start_at c) (pair_of_sent (earlier_by it.receive it.frame.sending.message.head.correction) kept)
pair_true c events h x kept i j it dep =
    let s : Setting = c.s in
    let t4 : ℤ = earlier_by it.receive it.frame.sending.message.head.correction in
    let there : Heard c events x t4 = heard c events h x i j it in
    let top : List Happened = i.top ++ there.since in
    let whole : c.events ≡ top ++ there.handed = i.splits ∙ ap (λ l. i.top ++ l) there.splits ∙ sym (append_assoc i.top there.since there.handed) in
    let later : Stayed s (top ++ there.handed) there.number there.frame = frame_stays s top there.handed there.number there.frame (subst (IsRun s) whole c.run) there.there in
    let at_end : (world_after s c.events).frame there.number ≡ Some later.frame = ap (λ l. (world_after s l).frame there.number) whole ∙ later.there in
    let one : dep.frame ≡ later.frame =
    departs_once c.laws.opens.quiet.ends s c.events c.k Slave c.link dep.number there.number dep.frame later.frame c.run c.is dep.there at_end dep.link_is dep.by_is (later.link ∙ there.link_is) (later.by ∙ there.by_is)
    (subst (λ (t : Sending). IsRequest t.message.body) (sym dep.sending) it.newest.request) (dep.sending ∙ sym there.sending ∙ sym later.sending) in
    let arrived : dep.frame.arrival ≡ Some there.arrival = ap (λ (t : FrameAt). t.arrival) one ∙ later.arrival there.arrival there.arrived in
    let left : LeftSo c dep.older dep.frame = left_so c dep.newer dep.older dep.frame dep.splits dep.moment dep.link_is dep.by_is (c.laws.stamped s c.events dep.number dep.frame c.run dep.there).0 in
    let times : (dep.frame.at ≤ℤ there.arrival.at) × (there.arrival.at ≤ℤ (world_after s c.events).time) × (dep.frame.moment ≤ there.arrival.moment) × (there.arrival.moment ≤ (world_after s c.events).count) × (there.arrival.at ≡ dep.frame.due) =
    arrived_after (world_after s c.events) dep.frame there.arrival arrived (c.laws.times s c.events dep.number dep.frame c.run dep.there) in
    let has : HopHas s c.link c.hop = hop_has s c.run.network c.k c.link c.hop c.is c.numbers in
    let sent : Moment = moment_at c.k c.link (world_after s dep.older) in
    let came : Moment = moment_at c.k c.link (world_after s there.older) in
    let run_older : IsRun s dep.older = older_run s dep.newer dep.older (subst (IsRun s) dep.splits c.run) in
    let fibre : IsFibre s c.k c.link (world_after s dep.older) = c.laws.fibres s dep.older c.k c.link run_older c.is (joined_is s (world_after s dep.older) c.k left.carried) in
    let all : c.events ≡ (top ++ there.between) ++ there.older = whole ∙ ap (λ l. top ++ l) there.came ∙ sym (append_assoc top there.between there.older) in
    let flew : FlewAt c.hop (past_of c) (length dep.older) (length there.older) sent came sent.up = record {
      was_sent = subst (λ l. Was (moments_of s c.k c.link l) (length dep.older) sent) (sym dep.splits) (was_then s c.k c.link dep.newer dep.older);
      was_come = subst (λ l. Was (moments_of s c.k c.link l) (length there.older) came) (sym all) (was_then s c.k c.link (top ++ there.between) there.older);
      order = subst (λ n. n ≤ length there.older) dep.moment (subst (λ n. dep.frame.moment ≤ n) there.moment times.2);
      time = sym there.at ∙ times.4 ∙ left.due ∙ ap (λ t. t +ℤ sent.up) left.at;
      short = subst (λ n. sent.up ≤ℤ pos n) (sym has.reach_is) fibre.reach_up;
    } in
    let own : IsWithin c.hop.own.e_tx kept.t3 (sent.time +ℤ sent.own) =
    within kept.t3 (sent.time +ℤ sent.own) c.hop.own.e_tx (of_node (λ node. node.e_tx) s c.link.lower) has.own_tx
    (subst (λ t. unsigned_abs (t -ℤ reading (world_after s dep.older) c.link.lower) ≤ of_node (λ node. node.e_tx) s c.link.lower) dep.stamp left.stamp) in
    let parent : IsWithin c.hop.parent.e_tag t4 (came.time +ℤ came.parent) = within t4 (came.time +ℤ came.parent) c.hop.parent.e_tag (of_node (λ node. node.e_tag) s c.link.upper) has.parent_tag there.near in
    let tells : IsWithin (up_error c.hop) ((t4 -ℤ kept.t3) +ℤ dep.latched.good.u) (c.chain.constant +ℤ ways_at sent) =
    c.laws.tells c.hop (past_of c) (length c.chain.follows.older) (start_at c) c.chain.constant kept.t3 t4 dep.latched.good (length dep.older) (length there.older) dep.latched.sample sent came c.chain.holds.limits dep.latched.tells flew dep.latched.latched own parent in
    record {
      at = length dep.older;
      sent = sent;
      was = flew.was_sent;
      since = dep.begun;
      tick = dep.tick;
      tells = subst (λ u. IsWithin (up_error c.hop) ((t4 -ℤ kept.t3) +ℤ u) (c.chain.constant +ℤ ways_at sent)) (sym dep.latched.phase) tells;
    }
