-- In every run a Sync pair that the exchange kept in a chain gives the chain's constant.
use Rattle.std.proofs.Common.{◌≡◌, inl, inr, ◌∙◌, refl, ap, sym, subst, ℕ, suc, ◌+◌, ◌*◌, ◌≤◌, ℤ, pos, ◌+ℤ◌, ◌-ℤ◌, ◌≤ℤ◌, unsigned_abs, true, is_some, List, [], ◌∷◌, ◌++◌, length, Option, None, Some, IfSome, arith}
use Rattle.std.proofs.lemmas.Int.{ints}
use Rattle.wrp_base.specs.declared.link.Role.TheVariants.{Master}
use Rattle.wrp_base.specs.declared.message.Body.{Body}
use Rattle.wrp_base.specs.declared.message.Body.TheVariants.{FollowUp}
use Rattle.wrp_base.specs.declared.message.PtpMsg.{PtpMsg}
use Rattle.wrp_network.specs.declared.network.LinkCfg.{LinkCfg}
use Rattle.wrp_base.specs.declared.time.Ts.{Ts}
use Rattle.wrp_base.specs.Closeness.{IsWithin}
use Rattle.wrp_base.proofs.Integers.{int_le_trans}
use Rattle.wrp_base.proofs.Lists.{append_assoc}
use Rattle.wrp_bounds.specs.Bounds.{numbers_of}
use Rattle.wrp_bounds.specs.declared.numbers.HopNumbers.{HopNumbers}
use Rattle.wrp_bounds.specs.Hop.{down_error}
use Rattle.wrp_bounds.specs.Times.{frame_life}
use Rattle.wrp_exch.specs.declared.sync.HeldSync.{HeldSync}
use Rattle.wrp_exch.specs.declared.sync.SyncPair.{SyncPair}
use Rattle.wrp_exch.specs.Samples.{last_samples, phase_in}
use Rattle.wrp_exch.specs.SyncPair.{pair_of_sync, sync_pair}
use Rattle.wrp_node.specs.declared.interface.NodeSet.{NodeSet}
use Rattle.wrp_port.specs.Wire.{later_by, rest_of, timestamp_of}
use Rattle.wrp_course.specs.EventAt.{IsEventOf, IsTime}
use Rattle.wrp_course.specs.Run.{Happened, world_after}
use Rattle.wrp_course.specs.RunLaws.{FramesWerePutOut}
use Rattle.wrp_course.specs.RunStamps.{DepartedSo}
use Rattle.wrp_course.specs.Runs.{IsRun, WasPutOut}
use Rattle.wrp_course.specs.Setting.{Setting, link_of}
use Rattle.wrp_course.specs.WorldAt.{FrameAt, Sending}
use Rattle.wrp_course.proofs.RunTimes.{time_never_falls}
use Rattle.wrp_bound_laws.specs.Chains.{AllFit, ChainRuns}
use Rattle.wrp_bound_laws.specs.Exchanges.{SyncsTell, exchange_at, ring_below}
use Rattle.wrp_bound_laws.specs.Rates.{HasChain}
use Rattle.wrp_bound_laws.proofs.Runs.HopNumbers.{HopHas, hop_has}
use Rattle.wrp_bound_laws.proofs.Frames.Sendings.{WasPut, was_put}
use Rattle.wrp_bound_laws.proofs.Runs.Suffixes.{older_run, run_before, one_list, no_more}
use Rattle.wrp_bound_laws.proofs.SyncPairs.SyncCalls.{Found, PairOf, pair_of, some_phase}
use Rattle.wrp_bound_laws.proofs.Frames.DepartedFrames.{Stayed, frame_stays}
use Rattle.wrp_bound_laws.proofs.SyncPairs.SyncGiven.{IsSync, TakesFollowUp}
use Rattle.wrp_bound_laws.proofs.SyncPairs.SyncHanded.{either_end, young}
use Rattle.wrp_bound_laws.proofs.SyncPairs.SyncHeld.{HeldIs, HeldLaws, held_is, held_tells, was_time}
use Rattle.wrp_bound_laws.proofs.SyncPairs.SyncLatched.{at_front, found_newest, found_recent}
use Rattle.wrp_bound_laws.proofs.SyncPairs.SyncMasters.{sent_sync}
use Rattle.wrp_bound_laws.proofs.SyncPairs.SyncPasts.{InRun, PairCame, SyncCame, began, earlier_in, pair_came, sync_came, then_in, fit_then}
use Rattle.wrp_bound_laws.proofs.Frames.TimedQueues.{departs_once}
use Rattle.wrp_bound_laws.proofs.SyncPairs.SyncReadings.{told_plain, told_whole}
use Rattle.wrp_bound_laws.proofs.SyncPairs.SyncSame.{Departed, SameLaws, TwoSyncs, departed, ring_time, same_sending}
use Rattle.wrp_bound_laws.proofs.SyncPairs.SyncSamples.{Begun, sample_of}
use Rattle.wrp_bound_laws.proofs.SyncPairs.SyncSends.{FollowedIn, IsFollowUp, followed_in}

-- the laws that this rests on
pub record SyncLaws : Type 0 where
  pub held : HeldLaws
  pub same : SameLaws
  pub put : FramesWerePutOut

-- What a Follow_Up carries

-- a frame that was handed over was put out by the master
pub put_out_by : FramesWerePutOut → (s : Setting) (events : List Happened) (i k : ℕ) (f : FrameAt) → IsRun s events → (world_after s events).frame i ≡ Some f → f.link ≡ k → f.by ≡ Master → WasPutOut f.sending ((world_after s events).end_at k Master).sent
put_out_by law s events i k f run there link by =
    subst (λ r. WasPutOut f.sending ((world_after s events).end_at k r).sent) by (subst (λ l. WasPutOut f.sending ((world_after s events).end_at l f.by).sent) link (law s events i f run there))

follow_body : (body : Body) (told : Ts) → body ≡ FollowUp told → IsFollowUp body
follow_body body told e = subst IsFollowUp (sym e) tt

same_told : (a b : Ts) → ◌≡◌ {A = Body} (FollowUp a) (FollowUp b) → a ≡ b
same_told a b e = cc

-- a Follow_Up that was handed over: of which Sync it is, and that it carries the stamp of that Sync's departure
record Tells (s : Setting) (events : List Happened) (k : ℕ) (seq : ℕ) (precise : ℤ) : Type 0 where
  sync : Sending
  stamp : ℤ
  at : ℤ
  kind : IsSync sync.message.body
  moment : ℕ
  gone : Departed s events k sync stamp at moment
  of : seq ≡ sync.message.head.seq
  tells : precise ≡ stamp
  young : (world_after s events).time ≤ℤ (at +ℤ pos (frame_life s.cfg))

tells : SyncLaws → (s : Setting) (events : List Happened) (h : Happened) (k : ℕ) (link : LinkCfg) (seq : ℕ) (precise : ℤ) → link_of s k ≡ Some link → IsRun s (h ∷ events) → TakesFollowUp s events h k link seq precise → Tells s events k seq precise
tells laws s events h k link seq precise is all t =
    let run : IsRun s events = run_before s h events all in
    let f : FrameAt = t.handed.frame in
    let z : Sending = f.sending in
    let it : FollowedIn s events k link z =
    followed_in s run.network events k link z is (follow_body z.message.body t.told t.body) (put_out_by laws.put s events t.handed.number k f run t.handed.there t.handed.link_is t.handed.by_is) in
    let time : IsTime it.follows.stamp = (subst (IsEventOf s.cfg) it.follows.event (older_run s it.newer (it.event ∷ it.before) (subst (IsRun s) it.splits run)).each.0).1 in
    let n : ℕ = unsigned_abs it.follows.stamp in
    let told : t.told ≡ timestamp_of n = same_told t.told (timestamp_of n) (sym t.body ∙ ap (λ (m : PtpMsg). m.body) it.follows.message) in
    let rest : z.message.head.correction ≡ pos (rest_of n) = ap (λ (m : PtpMsg). m.head.correction) it.follows.message in
    record {
      sync = it.follows.oldest;
      stamp = it.follows.stamp;
      at = z.at;
      kind = it.follows.sync;
      moment = length it.before;
      gone = departed s events k link z it run;
      of = t.seq_is ∙ ap (λ (m : PtpMsg). m.head.seq) it.follows.message;
      tells = t.precise_is ∙ ap (λ y. later_by y z.message.head.correction) told ∙ ap (later_by (timestamp_of n)) rest ∙ told_whole it.follows.stamp time.least time.whole;
      young = young s events h k link t.handed all;
    }

-- Which Sync it is

sum_up : (now sample arrived at : ℤ) (ring life : ℕ) → now ≤ℤ (sample +ℤ pos ring) → sample ≤ℤ arrived → arrived ≤ℤ (at +ℤ pos life) → now ≤ℤ (at +ℤ pos (life + ring))
sum_up now sample arrived at ring life h k l = omega (arith, ints)

two_lives : (now left at : ℤ) (life : ℕ) → now ≤ℤ (left +ℤ pos life) → (left -ℤ at) ≤ℤ pos life → now ≤ℤ (at +ℤ pos (2 * life))
two_lives now left at life h k = omega (arith, ints)

-- the ring's gaps are those of the network
ring_is : (s : Setting) (k : ℕ) (link : LinkCfg) (hop : HopNumbers) (events : List Happened) → IsRun s events → link_of s k ≡ Some link → numbers_of s.cfg link.lower ≡ Some hop → ring_below s link * hop.gap_time ≡ ring_time s
ring_is s k link hop events run is numbers =
    let has : HopHas s link hop = hop_has s run.network k link hop is numbers in
    ap (λ (x : NodeSet). x.ring * hop.gap_time) (run.network.set link.lower) ∙ ap (λ g. unsigned_abs s.cfg.ring * g) has.gap

-- a Sync that is held, and a later event of the chain, while its sample is in the ring
pub record Later (s : Setting) (k : ℕ) (link : LinkCfg) (hop : HopNumbers) (gap older : List Happened) (start : Happened) (before : List Happened) (held : HeldSync) : Type 0 where
  pub here : InRun s k link (gap ++ older) start before
  pub fit : AllFit ((gap ++ older) ++ start ∷ before)
  pub numbers : numbers_of s.cfg link.lower ≡ Some hop
  pub begun : Begun s start before link
  pub is : HeldIs s k link hop older start before held
  pub in_ring : is_some (phase_in (last_samples (ring_below s link) (exchange_at s link ((gap ++ older) ++ start ∷ before))) held.sample) ≡ true

-- it was put out not long before
near : SyncLaws → (s : Setting) (k : ℕ) (link : LinkCfg) (hop : HopNumbers) (gap older : List Happened) (start : Happened) (before : List Happened) (held : HeldSync) (x : Later s k link hop gap older start before held) →
    (world_after s ((gap ++ older) ++ start ∷ before)).time ≤ℤ (x.is.handed.frame.sending.at +ℤ pos (frame_life s.cfg + ring_time s))
near laws s k link hop gap older start before held x =
    let sb : List Happened = start ∷ before in
    let c : List Happened = x.is.flight.chain in
    let front : List Happened = gap ++ x.is.flight.newer in
    let whole : gap ++ older ≡ front ++ c = ap (λ l. gap ++ l) x.is.flight.splits ∙ sym (append_assoc gap x.is.flight.newer c) in
    let y : InRun s k link (front ++ c) start before = subst (λ l. InRun s k link l start before) whole x.here in
    let fit : AllFit ((front ++ c) ++ sb) = subst (λ l. AllFit (l ++ sb)) whole x.fit in
    let u : (u : ℤ) × (phase_in (last_samples (ring_below s link) (exchange_at s link ((gap ++ older) ++ sb))) held.sample ≡ Some u) = some_phase (phase_in (last_samples (ring_below s link) (exchange_at s link ((gap ++ older) ++ sb))) held.sample) x.in_ring in
    let there : phase_in (last_samples (ring_below s link) (exchange_at s link ((front ++ c) ++ sb))) held.sample ≡ Some u.0 =
    subst (λ l. phase_in (last_samples (ring_below s link) (exchange_at s link (l ++ sb))) held.sample ≡ Some u.0) whole u.1 in
    let f : Found (ring_below s link) held.sample u.0 _ (sample_of x.is.recent.newest) =
    found_newest laws.held.chain s k link hop front c start before y x.begun x.is.recent (ring_below s link) held.sample u.0 (x.is.sample ∙ x.is.flight.sample) there in
    let late : (world_after s ((front ++ c) ++ sb)).time ≤ℤ (x.is.recent.moment.time +ℤ pos (ring_below s link * hop.gap_time)) =
    found_recent laws.held.chain s k link hop front c start before y fit x.numbers x.is.recent (ring_below s link) held.sample u.0 f in
    let late_here : (world_after s ((gap ++ older) ++ sb)).time ≤ℤ (x.is.recent.moment.time +ℤ pos (ring_time s)) =
    subst (λ n. (world_after s ((gap ++ older) ++ sb)).time ≤ℤ (x.is.recent.moment.time +ℤ pos n)) (ring_is s k link hop ((gap ++ older) ++ sb) x.here.run x.here.is x.numbers)
    (subst (λ l. (world_after s (l ++ sb)).time ≤ℤ (x.is.recent.moment.time +ℤ pos (ring_below s link * hop.gap_time))) (sym whole) late) in
    let split : older ++ sb ≡ x.is.flight.newer ++ (c ++ sb) = ap (λ l. l ++ sb) x.is.flight.splits ∙ append_assoc x.is.flight.newer c sb in
    let run : IsRun s (older ++ sb) = run_before s x.is.hands (older ++ sb) x.is.run in
    let run_split : IsRun s (x.is.flight.newer ++ (c ++ sb)) = subst (IsRun s) split run in
    let come : x.is.recent.moment.time ≤ℤ (world_after s (c ++ sb)).time = was_time s k link (c ++ sb) x.is.recent.newest.at x.is.recent.moment (older_run s x.is.flight.newer (c ++ sb) run_split) x.is.recent.was in
    let before_it : x.is.recent.moment.time ≤ℤ (world_after s (older ++ sb)).time =
    int_le_trans x.is.recent.moment.time (world_after s (c ++ sb)).time (world_after s (older ++ sb)).time come
    (subst (λ l. (world_after s (c ++ sb)).time ≤ℤ (world_after s l).time) (sym split) (time_never_falls s x.is.flight.newer (c ++ sb) run_split)) in
    sum_up (world_after s ((gap ++ older) ++ sb)).time x.is.recent.moment.time (world_after s (older ++ sb)).time x.is.handed.frame.sending.at (ring_time s) (frame_life s.cfg) late_here before_it
    (young s (older ++ sb) x.is.hands k link x.is.handed x.is.run)

-- its frame, and the frame of this sending and stamp, are one
pub record OneFrame (s : Setting) (events : List Happened) (k i : ℕ) (f : FrameAt) (y : Sending) (stamp at : ℤ) (moment : ℕ) : Type 0 where
  pub stay : Stayed s events i f
  pub gone : Departed s events k y stamp at moment
  pub alike : stay.frame ≡ gone.frame

-- this holds if a Follow_Up of its sequenceId reports that sending, and was put out at most a frame's life ago
pub one_frame : SyncLaws → (s : Setting) (k : ℕ) (link : LinkCfg) (hop : HopNumbers) (gap older : List Happened) (start : Happened) (before : List Happened) (held : HeldSync) (x : Later s k link hop gap older start before held) (y : Sending) (stamp at : ℤ) (moment : ℕ) → held.seq ≡ y.message.head.seq →
    IsSync y.message.body → Departed s ((gap ++ older) ++ start ∷ before) k y stamp at moment → (world_after s ((gap ++ older) ++ start ∷ before)).time ≤ℤ (at +ℤ pos (frame_life s.cfg)) →
    OneFrame s (gap ++ (older ++ start ∷ before)) k x.is.handed.number x.is.handed.frame y stamp at moment
one_frame laws s k link hop gap older start before held x y stamp at moment same kind told soon =
    let sb : List Happened = start ∷ before in
    let was : List Happened = older ++ sb in
    let assoc : (gap ++ older) ++ sb ≡ gap ++ was = append_assoc gap older sb in
    let run : IsRun s (gap ++ was) = subst (IsRun s) assoc x.here.run in
    let run_was : IsRun s was = older_run s gap was run in
    let f : FrameAt = x.is.handed.frame in
    let gone : Departed s (gap ++ was) k y stamp at moment = subst (λ l. Departed s l k y stamp at moment) assoc told in
    let stay : Stayed s (gap ++ was) x.is.handed.number f = frame_stays s gap was x.is.handed.number f run x.is.handed.there in
    let put_still : WasPutOut f.sending ((world_after s (gap ++ was)).end_at k Master).sent =
    subst (λ (z : Sending). WasPutOut z ((world_after s (gap ++ was)).end_at k Master).sent) stay.sending
    (put_out_by laws.put s (gap ++ was) x.is.handed.number k stay.frame run stay.there (stay.link ∙ x.is.handed.link_is) (stay.by ∙ x.is.handed.by_is)) in
    let put_other : WasPutOut y ((world_after s (gap ++ was)).end_at k Master).sent =
    subst (λ (z : Sending). WasPutOut z ((world_after s (gap ++ was)).end_at k Master).sent) gone.sending (put_out_by laws.put s (gap ++ was) gone.number k gone.frame run gone.there gone.link gone.by) in
    let dep : DepartedSo s (gap ++ was) gone.frame = (laws.held.flight.stamped s (gap ++ was) gone.number gone.frame run gone.there).0 in
    let left : (at -ℤ y.at) ≤ℤ pos (frame_life s.cfg) =
    subst (λ (z : Sending). (at -ℤ z.at) ≤ℤ pos (frame_life s.cfg)) gone.sending (subst (λ d. (d -ℤ gone.frame.sending.at) ≤ℤ pos (frame_life s.cfg)) gone.at_is dep.young) in
    let two : TwoSyncs s k gap was f.sending y = record {
      put_first = put_out_by laws.put s was x.is.handed.number k f run_was x.is.handed.there x.is.handed.link_is x.is.handed.by_is;
      put_still = put_still;
      put_other = put_other;
      first = x.is.sync;
      other = kind;
      same = sym x.is.seq ∙ same;
      young = young s was x.is.hands k link x.is.handed x.is.run;
      near = subst (λ l. (world_after s l).time ≤ℤ (f.sending.at +ℤ pos (frame_life s.cfg + ring_time s))) assoc (near laws s k link hop gap older start before held x);
      near_other = subst (λ l. (world_after s l).time ≤ℤ (y.at +ℤ pos (2 * frame_life s.cfg))) assoc (two_lives (world_after s ((gap ++ older) ++ sb)).time at y.at (frame_life s.cfg) soon left);
    } in
    let one : f.sending ≡ y = same_sending laws.same s k link gap was f.sending y run x.here.is (at_front (HasChain s link.lower) gap older sb x.here.standing.stands) two in
    record {
      stay = stay;
      gone = gone;
      alike =
          departs_once laws.same.master.chains.lease.quiet.ends s (gap ++ was) k Master link x.is.handed.number gone.number stay.frame gone.frame run x.here.is stay.there gone.there (stay.link ∙ x.is.handed.link_is) (stay.by ∙ x.is.handed.by_is) gone.link gone.by
          (subst (λ (z : Sending). IsSync z.message.body) (sym stay.sending) x.is.sync) (stay.sending ∙ one ∙ sym gone.sending);
    }

-- so that Follow_Up carries the stamp of the departure of the Sync that is held
own_stamp : SyncLaws → (s : Setting) (k : ℕ) (link : LinkCfg) (hop : HopNumbers) (gap older : List Happened) (start : Happened) (before : List Happened) (held : HeldSync) (seq : ℕ) (precise : ℤ) (x : Later s k link hop gap older start before held) → held.seq ≡ seq →
    Tells s ((gap ++ older) ++ start ∷ before) k seq precise → precise ≡ x.is.handed.frame.stamp
own_stamp laws s k link hop gap older start before held seq precise x same t =
    let it : OneFrame s (gap ++ (older ++ start ∷ before)) k x.is.handed.number x.is.handed.frame t.sync t.stamp t.at t.moment =
    one_frame laws s k link hop gap older start before held x t.sync t.stamp t.at t.moment (same ∙ t.of) t.kind t.gone t.young in
    t.tells ∙ sym it.gone.stamp_is ∙ ap (λ (z : FrameAt). z.stamp) (sym it.alike) ∙ it.stay.stamp

-- A pair

no_correction : SyncLaws → (s : Setting) (k : ℕ) (link : LinkCfg) (hop : HopNumbers) (older : List Happened) (start : Happened) (before : List Happened) (held : HeldSync) → link_of s k ≡ Some link → (h : HeldIs s k link hop older start before held) → held.correction ≡ pos 0
no_correction laws s k link hop older start before held is h =
    let events : List Happened = older ++ start ∷ before in
    let x : Sending = h.handed.frame.sending in
    let it : WasPut s events k Master x = was_put s events k Master x (put_out_by laws.put s events h.handed.number k h.handed.frame (run_before s h.hands events h.run) h.handed.there h.handed.link_is h.handed.by_is) in
    h.correction ∙ (sent_sync laws.same.master s it.older k link x is h.sync it.in_it).plain

pair_sum : (a b c d e f : ℤ) → a ≡ d → b ≡ e → c ≡ f → (a -ℤ b) +ℤ c ≡ (d -ℤ e) +ℤ f
pair_sum a b c d e f p q r = ap (λ z. (z -ℤ b) +ℤ c) p ∙ ap (λ z. (d -ℤ z) +ℤ c) q ∙ ap (λ z. (d -ℤ e) +ℤ z) r

-- by the Follow_Up that made it and the Sync that was held then
made_tells : SyncLaws → (s : Setting) (events : List Happened) (k : ℕ) (link : LinkCfg) (hop : HopNumbers) → link_of s k ≡ Some link → numbers_of s.cfg link.lower ≡ Some hop → (chain : ChainRuns s events k link hop) (front gap older : List Happened) → chain.newer ≡ front ++ (gap ++ older) →
    (p : SyncPair) (held : HeldSync) (seq : ℕ) (precise : ℤ) (x : Later s k link hop gap older chain.start chain.before held) → held.seq ≡ seq → p ≡ pair_of_sync held precise → Tells s ((gap ++ older) ++ chain.start ∷ chain.before) k seq precise →
    IsWithin (down_error hop) ((p.t1 -ℤ p.t2) +ℤ p.u2) chain.constant
made_tells laws s events k link hop is numbers chain front gap older e p held seq precise x same made t =
    let stamp : precise ≡ x.is.handed.frame.stamp = own_stamp laws s k link hop gap older chain.start chain.before held seq precise x same t in
    let t1 : p.t1 ≡ x.is.handed.frame.stamp = ap (λ (q : SyncPair). q.t1) made ∙ told_plain precise held.correction (no_correction laws s k link hop older chain.start chain.before held is x.is) ∙ stamp in
    subst (λ z. IsWithin (down_error hop) z chain.constant)
    (sym (pair_sum p.t1 p.t2 p.u2 x.is.handed.frame.stamp held.t2 held.u2 t1 (ap (λ (q : SyncPair). q.t2) made) (ap (λ (q : SyncPair). q.u2) made)))
    (held_tells laws.held s events k link hop is numbers chain (front ++ gap) older (e ∙ sym (append_assoc front gap older)) held x.is)

pair_tells : SyncLaws → (s : Setting) (events : List Happened) (k : ℕ) (link : LinkCfg) (hop : HopNumbers) → IsRun s events → AllFit events → link_of s k ≡ Some link → numbers_of s.cfg link.lower ≡ Some hop → (chain : ChainRuns s events k link hop) (front newer : List Happened) → chain.newer ≡ front ++ newer →
    (p : SyncPair) → sync_pair (ring_below s link) (exchange_at s link (newer ++ chain.start ∷ chain.before)) ≡ Some p → IsWithin (down_error hop) ((p.t1 -ℤ p.t2) +ℤ p.u2) chain.constant
pair_tells laws s events k link hop run fit is numbers chain front newer e p made =
    let start : Happened = chain.start in
    let before : List Happened = chain.before in
    let sb : List Happened = start ∷ before in
    let ring : ℕ = ring_below s link in
    let all : InRun s k link chain.newer start before = record { run = subst (IsRun s) chain.splits run; is = is; standing = record { stands = chain.stands; begins = chain.begins } } in
    let b : Begun s start before link = began laws.held.chain s k link chain.newer start before all in
    let x : InRun s k link newer start before = then_in s k link front newer start before (subst (λ l. InRun s k link l start before) e all) in
    let c : PairCame s k link newer start before p = pair_came laws.held.chain s k link newer start before x b p made in
    let y : InRun s k link (c.hands ∷ c.older) start before = then_in s k link c.since (c.hands ∷ c.older) start before (subst (λ l. InRun s k link l start before) c.splits x) in
    let z : InRun s k link c.older start before = earlier_in s k link c.hands c.older start before y in
    let q : PairOf ring (exchange_at s link (c.older ++ sb)) c.seq c.precise p = pair_of ring (exchange_at s link (c.older ++ sb)) c.seq c.precise p c.pair in
    let d : SyncCame s k link c.older start before q.held = sync_came laws.held.chain s k link c.older start before z b q.held q.last in
    let gap : List Happened = d.since ++ d.hands ∷ [] in
    let split : c.older ≡ gap ++ d.older = d.splits ∙ one_list d.since d.hands d.older in
    let upto : chain.newer ≡ (front ++ (c.since ++ c.hands ∷ [])) ++ c.older =
    e ∙ ap (λ l. front ++ l) (c.splits ∙ one_list c.since c.hands c.older) ∙ sym (append_assoc front (c.since ++ c.hands ∷ []) c.older) in
    let fit_all : AllFit (chain.newer ++ sb) = subst AllFit chain.splits fit in
    let fit_here : AllFit (c.older ++ sb) =
    fit_then (front ++ (c.since ++ c.hands ∷ [])) (c.older ++ sb) (subst AllFit (ap (λ l. l ++ sb) upto ∙ append_assoc (front ++ (c.since ++ c.hands ∷ [])) c.older sb) fit_all) in
    let later : Later s k link hop gap d.older start before q.held = record {
      here = subst (λ l. InRun s k link l start before) split z;
      fit = subst (λ l. AllFit (l ++ sb)) split fit_here;
      numbers = numbers;
      begun = b;
      is = held_is laws.held s k link hop c.older start before z fit_here numbers b q.held d;
      in_ring = subst (λ l. is_some (phase_in (last_samples ring (exchange_at s link (l ++ sb))) q.held.sample) ≡ true) split q.in_ring;
    } in
    made_tells laws s events k link hop is numbers chain (front ++ (c.since ++ c.hands ∷ [])) gap d.older (upto ∙ ap (λ l. (front ++ (c.since ++ c.hands ∷ [])) ++ l) split) p q.held c.seq c.precise later q.same q.is
    (subst (λ l. Tells s (l ++ sb) k c.seq c.precise) split (tells laws s (c.older ++ sb) c.hands k link c.seq c.precise is y.run c.takes))

-- Every run

too_long : (sb between : List Happened) (x : Happened) (earlier : List Happened) → sb ≡ (x ∷ between) ++ earlier → length sb ≤ length earlier → ⊥
too_long sb between x earlier e h =
    let longer : length earlier ≤ length (between ++ earlier) = adds between earlier in
    let same : length sb ≡ suc (length (between ++ earlier)) = ap length e in
    omega (arith, h, longer, same)
  where
    adds : (zs ys : List Happened) → length ys ≤ length (zs ++ ys)
    adds [] ys = omega arith
    adds (z ∷ zs) ys = let k : length ys ≤ length (zs ++ ys) = adds zs ys in omega (arith, k)

pair_if : (P : SyncPair → Type 0) (o : Option SyncPair) → ((p : SyncPair) → o ≡ Some p → P p) → IfSome o P
pair_if P None f = tt
pair_if P (Some p) f = f p refl

-- the earlier events of the chain
inside : SyncLaws → (s : Setting) (events : List Happened) (k : ℕ) (link : LinkCfg) (hop : HopNumbers) → IsRun s events → AllFit events → link_of s k ≡ Some link → numbers_of s.cfg link.lower ≡ Some hop → (chain : ChainRuns s events k link hop) (front newer earlier : List Happened) →
    chain.newer ≡ front ++ newer → earlier ≡ newer ++ chain.start ∷ chain.before → IfSome (sync_pair (ring_below s link) (exchange_at s link earlier)) (λ p. IsWithin (down_error hop) ((p.t1 -ℤ p.t2) +ℤ p.u2) chain.constant)
inside laws s events k link hop run fit is numbers chain front newer earlier e f =
    subst (λ l. IfSome (sync_pair (ring_below s link) (exchange_at s link l)) (λ p. IsWithin (down_error hop) ((p.t1 -ℤ p.t2) +ℤ p.u2) chain.constant)) (sym f)
    (pair_if (λ p. IsWithin (down_error hop) ((p.t1 -ℤ p.t2) +ℤ p.u2) chain.constant) (sync_pair (ring_below s link) (exchange_at s link (newer ++ chain.start ∷ chain.before)))
    (pair_tells laws s events k link hop run fit is numbers chain front newer e))

pub syncs_tell : SyncLaws → SyncsTell
syncs_tell laws s events k link hop run fit is numbers chain since earlier within =
    let sb : List Happened = chain.start ∷ chain.before in
    elim (either_end since earlier chain.newer sb (sym within.splits ∙ chain.splits)) [
      | inl it ↦ inside laws s events k link hop run fit is numbers chain since it.between earlier it.front it.end
      | inr it ↦ at_start it.between it.end it.front
    ]
  where
    at_start : (between : List Happened) → chain.start ∷ chain.before ≡ between ++ earlier → since ≡ chain.newer ++ between →
        IfSome (sync_pair (ring_below s link) (exchange_at s link earlier)) (λ p. IsWithin (down_error hop) ((p.t1 -ℤ p.t2) +ℤ p.u2) chain.constant)
    at_start [] end front = inside laws s events k link hop run fit is numbers chain chain.newer [] earlier (no_more chain.newer) (sym end)
    at_start (x ∷ between) end front = absurd (too_long (chain.start ∷ chain.before) between x earlier end within.begun)
