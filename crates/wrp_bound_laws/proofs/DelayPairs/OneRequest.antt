-- A slave's newest Delay_Req, what is reported of a sending with its sequenceId, and each Delay_Resp of its sequenceId
-- that can still be delivered are of one Delay_Req.
use Rattle.std.proofs.Common.{◌≡◌, inl, inr, ◌∙◌, refl, ap, sym, subst, ℕ, ◌+◌, ◌*◌, ◌<◌, ◌≤◌, min, ℤ, pos, ◌+ℤ◌, ◌-ℤ◌, ◌≤ℤ◌, unsigned_abs, List, [], ◌∷◌, ◌++◌, length, Option, None, Some, IfSome, arith}
use Rattle.std.proofs.lemmas.Int.{ints}
use Rattle.wrp_base.specs.declared.link.Role.{Role}
use Rattle.wrp_base.specs.declared.link.Role.TheVariants.{Master, Slave}
use Rattle.wrp_base.specs.declared.message.Body.TheVariants.{DelayResp}
use Rattle.wrp_base.specs.declared.message.PortIdentity.{PortIdentity}
use Rattle.wrp_base.specs.declared.message.PtpMsg.{PtpMsg}
use Rattle.wrp_network.specs.declared.network.LinkCfg.{LinkCfg}
use Rattle.wrp_base.specs.declared.time.Ts.{Ts}
use Rattle.wrp_bounds.specs.Bounds.{numbers_of}
use Rattle.wrp_bounds.specs.declared.numbers.HopNumbers.{HopNumbers}
use Rattle.wrp_bounds.specs.Times.{frame_life, gap_time, shortest_tick}
use Rattle.wrp_exch.specs.declared.delay.Sent.{Sent}
use Rattle.wrp_exch.specs.DelayPair.{first_sent, last_request}
use Rattle.wrp_node.specs.NodeAt.{setting_of}
use Rattle.wrp_node.specs.NodeStep.{stamp_of}
use Rattle.wrp_port.specs.Messages.{response_of}
use Rattle.wrp_course.specs.Premises.{Accepts}
use Rattle.wrp_course.specs.Run.{Happened, world_after}
use Rattle.wrp_course.specs.RunLaws.{FramesWerePutOut}
use Rattle.wrp_course.specs.Runs.{IsRun, WasPutOut}
use Rattle.wrp_course.specs.RunStamps.{DepartedSo}
use Rattle.wrp_course.specs.Setting.{Setting, link_of, node_setting_of}
use Rattle.wrp_course.specs.WorldAt.{FrameAt, Sending}
use Rattle.wrp_course.proofs.RunTimes.{time_never_falls}
use Rattle.wrp_bound_laws.specs.Chains.{AllFit, ChainRuns}
use Rattle.wrp_bound_laws.specs.Exchanges.{exchange_at, ring_below}
use Rattle.wrp_bound_laws.specs.Moments.{AtEach}
use Rattle.wrp_bound_laws.specs.OneMessage.{CanComeStill, FrameOf, IsResponseTo, IsSentOf, NewestRequest, OfOneRequest}
use Rattle.wrp_bound_laws.specs.Rates.{HasChain}
use Rattle.wrp_bound_laws.specs.SequenceIds.{IsOpenAt, IsTimed}
use Rattle.wrp_bound_laws.proofs.DelayPairs.DelayDepartures.{Departs, Given}
use Rattle.wrp_bound_laws.proofs.DelayPairs.DelayNewest.{known_moment}
use Rattle.wrp_bound_laws.proofs.DelayPairs.DelayPieces.{DelayLaws, LongerEnd, less_or_same, longer_end, still_deliver}
use Rattle.wrp_bound_laws.proofs.DelayPairs.DelayPutOut.{Answered, was_answered}
use Rattle.wrp_bound_laws.proofs.DelayPairs.DelayResponses.{IsResponse}
use Rattle.wrp_bound_laws.proofs.DelayPairs.DelayRuns.{Keeps, Waits, keeps_all, told_at}
use Rattle.wrp_bound_laws.proofs.Frames.Deliveries.{deliver_holds}
use Rattle.wrp_bound_laws.proofs.Frames.DepartedFrames.{Stayed, frame_stays}
use Rattle.wrp_bound_laws.proofs.SyncPairs.ExchangeChains.{in_chain, request_in_chain}
use Rattle.wrp_bound_laws.proofs.Runs.LinksAbove.{above_is}
use Rattle.wrp_bound_laws.proofs.Schedules.OpenPorts.{open_since}
use Rattle.wrp_bound_laws.proofs.Frames.PutOut.{put_since}
use Rattle.wrp_bound_laws.proofs.Frames.Sendings.{WasPut, was_put}
use Rattle.wrp_bound_laws.proofs.Runs.Suffixes.{count_is, older_run, one_list, run_before}
use Rattle.wrp_bound_laws.proofs.Frames.TimedTicks.{sent_timed}
use Rattle.wrp_bound_laws.proofs.Hops.TrackedHops.{has_hop}

-- Two Delay_Reqs of one sequenceId

too_soon : (y x : ℤ) (life span more : ℕ) → more + 4 * life < span → (y +ℤ pos span) ≤ℤ x → x ≤ℤ (y +ℤ pos (2 * life)) → ⊥
too_soon y x life span more room h k = omega (arith, ints, room, h, k)

-- a Delay_Req of the slave with the id of its newest one, which was put out at most two frame's lives before
record Alike (s : Setting) (events : List Happened) (k : ℕ) (x y : Sending) : Type 0 where
  put : WasPutOut y ((world_after s events).end_at k Slave).sent
  request : IsTimed Slave y.message.body
  seq : y.message.head.seq ≡ x.message.head.seq
  near : x.at ≤ℤ (y.at +ℤ pos (2 * frame_life s.cfg))

-- was not put out before it
not_before : DelayLaws → (s : Setting) (events : List Happened) (k : ℕ) (link : LinkCfg) (x y : Sending) → IsRun s events → link_of s k ≡ Some link → NewestRequest s events k x → Alike s events k x y → y.moment < x.moment → (a : WasPut s events k Slave x) (b : WasPut s events k Slave y) →
    LongerEnd a.newer a.older b.newer b.older → ⊥
not_before laws s events k link x y run is newest same less a b it =
    let run_a : IsRun s a.older = older_run s a.newer a.older (subst (IsRun s) a.splits run) in
    let run_b : IsRun s (it.between ++ b.older) = subst (IsRun s) it.is run_a in
    let open_a : IsOpenAt s link Slave a.older = (sent_timed laws.opens.quiet.links s a.older k Slave link x is newest.request a.in_it).open_then in
    let open_b : IsOpenAt s link Slave b.older = (sent_timed laws.opens.quiet.links s b.older k Slave link y is same.request b.in_it).open_then in
    let soon : (world_after s (it.between ++ b.older)).time ≤ℤ ((world_after s b.older).time +ℤ pos (2 * frame_life s.cfg)) =
    subst (λ l. (world_after s l).time ≤ℤ ((world_after s b.older).time +ℤ pos (2 * frame_life s.cfg))) it.is
    (subst (λ t. t ≤ℤ ((world_after s b.older).time +ℤ pos (2 * frame_life s.cfg))) a.in_it.at (subst (λ t. x.at ≤ℤ (t +ℤ pos (2 * frame_life s.cfg))) b.in_it.at same.near)) in
    let still : AtEach (IsOpenAt s link Slave) it.between b.older = open_since laws.opens.quiet s it.between b.older Slave link run_b open_b (subst (IsOpenAt s link Slave) it.is open_a) soon in
    too_soon y.at x.at (frame_life s.cfg) (65_000 * min (unsigned_abs s.cfg.sync) (unsigned_abs s.cfg.delay) * shortest_tick s.cfg) (unsigned_abs s.cfg.ring * gap_time s.cfg) run.network.accepted.inequalities.id_reuse
    (laws.late s it.between b.older k link Slave y x run_b is b.in_it.put b.in_it.moment (subst (λ l. WasPutOut x ((world_after s l).end_at k Slave).sent) it.is a.in_it.put) same.request newest.request same.seq still less) same.near

-- so it is the newest one
is_newest : DelayLaws → (s : Setting) (events : List Happened) (k : ℕ) (link : LinkCfg) (x y : Sending) → IsRun s events → link_of s k ≡ Some link → NewestRequest s events k x → Alike s events k x y → y ≡ x
is_newest laws s events k link x y run is newest same =
    let a : WasPut s events k Slave x = was_put s events k Slave x newest.put in
    let b : WasPut s events k Slave y = was_put s events k Slave y same.put in
    let later : y.moment ≤ x.moment = newest.newest y same.put same.request in
    elim (less_or_same y.moment x.moment later) [
      | inl less ↦
          absurd (not_before laws s events k link x y run is newest same less a b
          (longer_end a.newer a.older b.newer b.older (sym a.splits ∙ b.splits) (subst (λ n. n ≤ length a.older) b.in_it.moment (subst (λ n. y.moment ≤ n) a.in_it.moment later))))
      | inr moment ↦ laws.once s events k link Slave y x run is same.put newest.put same.request newest.request moment
    ]

-- Frames that can still be delivered

put_by_end : FramesWerePutOut → (s : Setting) (events : List Happened) (k : ℕ) (r : Role) (x : Sending) → IsRun s events → (f : FrameOf (world_after s events) k r x) → WasPutOut x ((world_after s events).end_at k r).sent
put_by_end law s events k r x run f =
    subst (λ z. WasPutOut z ((world_after s events).end_at k r).sent) f.sending_is
    (subst (λ q. WasPutOut f.frame.sending ((world_after s events).end_at k q).sent) f.by_is
    (subst (λ l. WasPutOut f.frame.sending ((world_after s events).end_at l f.frame.by).sent) f.link_is (law s events f.number f.frame run f.there)))

one_life : (x now y : ℤ) (life : ℕ) → x ≤ℤ now → now ≤ℤ (y +ℤ pos life) → x ≤ℤ (y +ℤ pos (2 * life))
one_life x now y life h k = omega (arith, ints, h, k)

pub of_this : DelayLaws → (s : Setting) (events : List Happened) (k : ℕ) (link : LinkCfg) (x z : Sending) → IsRun s events → link_of s k ≡ Some link → NewestRequest s events k x → CanComeStill s (world_after s events) k Slave z → IsTimed Slave z.message.body → z.message.head.seq ≡ x.message.head.seq → z ≡ x
of_this laws s events k link x z run is newest comes request seq =
    is_newest laws s events k link x z run is newest (record {
      put = comes.put;
      request = request;
      seq = seq;
      near = one_life x.at (world_after s events).time z.at (frame_life s.cfg) (known_moment s events k Slave x run newest.put).1 comes.young;
    })

-- What departed since

left_young : (x left y : ℤ) (life : ℕ) → x ≤ℤ left → (left -ℤ y) ≤ℤ pos life → x ≤ℤ (y +ℤ pos (2 * life))
left_young x left y life h k = omega (arith, ints, h, k)

pub told_of_this : DelayLaws → (s : Setting) (events : List Happened) (k : ℕ) (link : LinkCfg) (x z : Sending) → IsRun s events → link_of s k ≡ Some link → NewestRequest s events k x → (f : FrameOf (world_after s events) k Slave z) → IsTimed Slave z.message.body →
    z.message.head.seq ≡ x.message.head.seq → x.moment ≤ f.frame.moment → z ≡ x
told_of_this laws s events k link x z run is newest f request seq since =
    let d : DepartedSo s events f.frame = (laws.stamped s events f.number f.frame run f.there).0 in
    let a : WasPut s events k Slave x = was_put s events k Slave x newest.put in
    let moment : f.frame.moment ≡ length d.older = d.moment ∙ count_is s d.older in
    let front : List Happened = d.came.0 ++ d.came.1 ∷ [] in
    let it : LongerEnd front d.older a.newer a.older =
    longer_end front d.older a.newer a.older (sym (one_list d.came.0 d.came.1 d.older) ∙ sym d.came.2 ∙ a.splits) (subst (λ n. n ≤ length d.older) a.in_it.moment (subst (λ n. x.moment ≤ n) moment since)) in
    let run_d : IsRun s d.older = older_run s front d.older (subst (IsRun s) (d.came.2 ∙ one_list d.came.0 d.came.1 d.older) run) in
    let order : x.at ≤ℤ f.frame.at =
    subst (λ t. x.at ≤ℤ t) (sym d.time) (subst (λ l. x.at ≤ℤ (world_after s l).time) (sym it.is) (subst (λ t. t ≤ℤ (world_after s (it.between ++ a.older)).time) (sym a.in_it.at) (time_never_falls s it.between a.older (subst (IsRun s) it.is run_d)))) in
    is_newest laws s events k link x z run is newest (record {
      put = put_by_end laws.put s events k Slave z run f;
      request = request;
      seq = seq;
      near = left_young x.at f.frame.at z.at (frame_life s.cfg) order (subst (λ (t : Sending). (f.frame.at -ℤ t.at) ≤ℤ pos (frame_life s.cfg)) f.sending_is d.young);
    })

-- A Delay_Resp

two_lives : (x now z d y : ℤ) (life : ℕ) → x ≤ℤ now → now ≤ℤ (z +ℤ pos life) → z ≡ d → d ≤ℤ (y +ℤ pos life) → x ≤ℤ (y +ℤ pos (2 * life))
two_lives x now z d y life h k e l = omega (arith, ints, h, k, e, l)

one_later : (h : Happened) (before : List Happened) (m : ℕ) → m ≡ length (h ∷ before) → m ≡ length before + 1
one_later h before m e = omega (arith, e)

-- the frame that it answers
record Asked (s : Setting) (events : List Happened) (k : ℕ) (link : LinkCfg) (y : Sending) (an : Answered s events k link y) : Type 0 where
  stay : Stayed s events an.in_it.number an.in_it.frame
  put : WasPutOut an.in_it.frame.sending ((world_after s events).end_at k Slave).sent
  young : (world_after s an.older).time ≤ℤ (an.in_it.frame.sending.at +ℤ pos (frame_life s.cfg))
  time : y.at ≡ (world_after s an.older).time

asked : DelayLaws → (s : Setting) (events : List Happened) (k : ℕ) (link : LinkCfg) (y : Sending) → IsRun s events → (an : Answered s events k link y) → Asked s events k link y an
asked laws s events k link y run an =
    let f : FrameAt = an.in_it.frame in
    let front : List Happened = an.newer ++ an.hands ∷ [] in
    let all : events ≡ front ++ an.older = an.splits ∙ one_list an.newer an.hands an.older in
    let after : IsRun s (an.hands ∷ an.older) = older_run s an.newer (an.hands ∷ an.older) (subst (IsRun s) an.splits run) in
    let then_run : IsRun s an.older = run_before s an.hands an.older after in
    let there : FrameOf (world_after s an.older) k Slave f.sending = record { number = an.in_it.number; frame = f; there = an.in_it.there; link_is = an.in_it.link_is; by_is = an.in_it.by_is; sending_is = refl } in
    record {
      stay = subst (λ l. Stayed s l an.in_it.number f) (sym all) (frame_stays s front an.older an.in_it.number f (subst (IsRun s) all run) an.in_it.there);
      put =
          subst (λ l. WasPutOut f.sending ((world_after s l).end_at k Slave).sent) (sym all)
          (put_since s front an.older k Slave f.sending (put_by_end laws.put s an.older k Slave f.sending then_run there));
      young = (deliver_holds s (world_after s an.older) an.hands.says an.in_it.number f (subst (Accepts s (world_after s an.older) an.hands.says) an.in_it.event after.accepted.0) an.in_it.there).0;
      time = an.at ∙ still_deliver s an.hands an.older an.in_it.number an.in_it.event;
    }

pub response_to_this : DelayLaws → (s : Setting) (events : List Happened) (k : ℕ) (link : LinkCfg) (x y : Sending) (receive : Ts) (requesting : PortIdentity) → IsRun s events → link_of s k ≡ Some link → NewestRequest s events k x → CanComeStill s (world_after s events) k Master y →
    y.message.body ≡ DelayResp receive requesting → y.message.head.seq ≡ x.message.head.seq → IsResponseTo s events k link x y
response_to_this laws s events k link x y receive requesting run is newest comes body seq =
    let an : Answered s events k link y = was_answered s events k link y run is (subst IsResponse (sym body) tt) comes.put in
    let z : Sending = an.in_it.frame.sending in
    let it : Asked s events k link y an = asked laws s events k link y run an in
    let one : z ≡ x =
    is_newest laws s events k link x z run is newest (record {
      put = it.put;
      request = an.in_it.request;
      seq = sym (ap (λ (m : PtpMsg). m.head.seq) an.in_it.message) ∙ seq;
      near =
          two_lives x.at (world_after s events).time y.at (world_after s an.older).time z.at (frame_life s.cfg) (known_moment s events k Slave x run newest.put).1 comes.young it.time it.young;
    }) in
    record {
      frame = record {
        number = an.in_it.number;
        frame = it.stay.frame;
        there = it.stay.there;
        link_is = it.stay.link ∙ an.in_it.link_is;
        by_is = it.stay.by ∙ an.in_it.by_is;
        sending_is = it.stay.sending ∙ one;
      };
      older = an.older;
      delivered = record {
        newer = an.newer;
        hands = an.hands;
        splits = an.splits;
        event = an.in_it.event;
        arrival = an.in_it.arrival;
        arrived = it.stay.arrival an.in_it.arrival an.in_it.arrived;
      };
      message =
          an.in_it.message
          ∙ ap (λ (t : Sending). response_of (setting_of (s.set link.upper) link.upper_port) t.message.head (stamp_of (node_setting_of s link.upper) ((world_after s an.older).node link.upper) link.upper_port an.in_it.arrival.raw an.in_it.arrival.sample)) one;
      at = it.time;
      moment = one_later an.hands an.older y.moment an.moment;
    }

-- What the exchange keeps

abbrev IsKept : (s : Setting) (events : List Happened) (k : ℕ) (x : Sending) → ℕ → Option Sent → Type 0
IsKept s events k x id o = (id ≡ x.message.head.seq) × IfSome o (IsSentOf (world_after s events) k x)

sent_of : (c : Given) (x : Sending) (o : Option Sent) → IfSome o (Departs c x) → IfSome o (IsSentOf (world_after c.s c.events) c.k x)
sent_of c x None h = tt
sent_of c x (Some kept) h = record {
  frame = record { number = h.number; frame = h.frame; there = h.there; link_is = h.link_is; by_is = h.by_is; sending_is = h.sending };
  t3 = sym h.stamp;
}

both_newest : (a b : ℕ) → a ≤ b → b ≤ a → a ≡ b
both_newest a b h k = omega (arith, h, k)

of_newest : DelayLaws → (c : Given) (x : Sending) (id : ℕ) (o : Option Sent) → NewestRequest c.s c.events c.k x → Waits c c.events id o → IsKept c.s c.events c.k x id o
of_newest laws c x id o newest (y, other, seq, departs) =
    let one : y ≡ x =
    laws.once c.s c.events c.k c.link Slave y x c.run c.is other.put newest.put other.request newest.request
    (both_newest y.moment x.moment (newest.newest y other.put other.request) (other.newest x newest.put newest.request)) in
    (sym seq ∙ ap (λ (z : Sending). z.message.head.seq) one, sent_of c x o (subst (λ (z : Sending). IfSome o (Departs c z)) one departs))

in_a_chain : DelayLaws → (s : Setting) (events : List Happened) (k : ℕ) (link : LinkCfg) (x : Sending) → IsRun s events → AllFit events → link_of s k ≡ Some link → NewestRequest s events k x → HasChain s link.lower events →
    IfSome (last_request (exchange_at s link events)) (λ id. IsKept s events k x id (first_sent (ring_below s link) (exchange_at s link events)))
in_a_chain laws s events k link x run fits is newest stands =
    let hop : (hop : HopNumbers) × (numbers_of s.cfg link.lower ≡ Some hop) = has_hop s run.network link.lower link (above_is s run.network k link is) in
    let chain : ChainRuns s events k link hop.0 = laws.constant s events k link hop.0 run fits is hop.1 stands in
    let c : Given = record { laws = laws; s = s; events = events; k = k; link = link; hop = hop.0; run = run; fits = fits; is = is; numbers = hop.1; chain = chain } in
    let kept : Keeps c events (told_at c events) = subst (λ l. Keeps c l (told_at c l)) (sym chain.splits) (keeps_all c [] chain.newer chain.splits refl chain.stands) in
    weaker (last_request (exchange_at s link events)) (λ id. of_newest laws c x id (first_sent (ring_below s link) (exchange_at s link events)) newest) kept.0
  where
    weaker : {A : Type 0} {P Q : A → Type 0} (o : Option A) → ((a : A) → P a → Q a) → IfSome o P → IfSome o Q
    weaker None f h = tt
    weaker (Some a) f h = f a h

none_or : (P : ℕ → Type 0) (o : Option ℕ) → ((id : ℕ) → o ≡ Some id → IfSome o P) → IfSome o P
none_or P None f = tt
none_or P (Some id) f = f id refl

pub kept_of_this : DelayLaws → (s : Setting) (events : List Happened) (k : ℕ) (link : LinkCfg) (x : Sending) → IsRun s events → AllFit events → link_of s k ≡ Some link → NewestRequest s events k x →
    IfSome (last_request (exchange_at s link events)) (λ id. IsKept s events k x id (first_sent (ring_below s link) (exchange_at s link events)))
kept_of_this laws s events k link x run fits is newest =
    none_or (λ id. IsKept s events k x id (first_sent (ring_below s link) (exchange_at s link events))) (last_request (exchange_at s link events))
    (λ id e. in_a_chain laws s events k link x run fits is newest (in_chain laws.opens.quiet.ends s run.network events k link is (request_in_chain (exchange_at s link events) id e)))

-- Every run

pub of_one_request : DelayLaws → (s : Setting) (events : List Happened) (k : ℕ) (link : LinkCfg) → IsRun s events → AllFit events → link_of s k ≡ Some link → (x : Sending) → NewestRequest s events k x → OfOneRequest s events k link x
of_one_request laws s events k link run fits is x newest = record {
  told = λ z f request seq since. told_of_this laws s events k link x z run is newest f request seq since;
  kept = kept_of_this laws s events k link x run fits is newest;
  requests = λ z comes request seq. of_this laws s events k link x z run is newest comes request seq;
  responses = λ y receive requesting comes body seq. response_to_this laws s events k link x y receive requesting run is newest comes body seq;
}
