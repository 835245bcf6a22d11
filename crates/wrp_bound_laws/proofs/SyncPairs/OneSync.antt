-- The Sync that is pending in a slave's exchange, while its sample is in the ring, and each Follow_Up of its sequenceId
-- that can still be delivered are of one Sync.
use Rattle.std.proofs.Common.{◌≡◌, ◌∙◌, ap, sym, subst, ℕ, ◌+◌, pos, ◌+ℤ◌, ◌≤ℤ◌, true, is_some, List, [], ◌∷◌, ◌++◌, length, Some, arith}
use Rattle.std.proofs.lemmas.Option.{same_Some}
use Rattle.wrp_base.specs.declared.link.Role.TheVariants.{Master}
use Rattle.wrp_base.specs.declared.message.Body.{Body}
use Rattle.wrp_base.specs.declared.message.Body.TheVariants.{FollowUp}
use Rattle.wrp_base.specs.declared.message.PtpMsg.{PtpMsg}
use Rattle.wrp_network.specs.declared.network.LinkCfg.{LinkCfg}
use Rattle.wrp_base.specs.declared.time.Ts.{Ts}
use Rattle.wrp_base.proofs.Lists.{append_assoc}
use Rattle.wrp_bounds.specs.Bounds.{numbers_of}
use Rattle.wrp_bounds.specs.declared.numbers.HopNumbers.{HopNumbers}
use Rattle.wrp_bounds.specs.Times.{frame_life}
use Rattle.wrp_exch.specs.declared.sync.HeldSync.{HeldSync}
use Rattle.wrp_exch.specs.Samples.{last_samples, phase_in}
use Rattle.wrp_exch.specs.SyncPair.{last_sync}
use Rattle.wrp_node.specs.NodeAt.{setting_of}
use Rattle.wrp_port.specs.Messages.{follow_up_of}
use Rattle.wrp_course.specs.Run.{Happened, world_after}
use Rattle.wrp_course.specs.Runs.{IsRun}
use Rattle.wrp_course.specs.Setting.{Setting, link_of}
use Rattle.wrp_course.specs.WorldAt.{FrameAt, Sending}
use Rattle.wrp_bound_laws.specs.Chains.{AllFit, ChainRuns}
use Rattle.wrp_bound_laws.specs.Exchanges.{exchange_at, ring_below}
use Rattle.wrp_bound_laws.specs.OneMessage.{CanComeStill, FrameOf, IsFollowUpOf, IsHeldOf, OfOneSync, PendsInRing}
use Rattle.wrp_bound_laws.specs.Rates.{HasChain}
use Rattle.wrp_bound_laws.proofs.Frames.DepartedFrames.{Stayed, frame_stays}
use Rattle.wrp_bound_laws.proofs.SyncPairs.ExchangeChains.{in_chain, pending_in_chain, pending_last}
use Rattle.wrp_bound_laws.proofs.Runs.LinksAbove.{above_is}
use Rattle.wrp_bound_laws.proofs.Runs.Suffixes.{one_list}
use Rattle.wrp_bound_laws.proofs.SyncPairs.SyncHeld.{HeldIs, held_hands, held_is}
use Rattle.wrp_bound_laws.proofs.SyncPairs.SyncPasts.{InRun, SyncCame, began, sync_came}
use Rattle.wrp_bound_laws.proofs.SyncPairs.SyncRuns.{Later, OneFrame, SyncLaws, one_frame}
use Rattle.wrp_bound_laws.proofs.SyncPairs.SyncSame.{Departed, departed}
use Rattle.wrp_bound_laws.proofs.SyncPairs.SyncSamples.{Begun}
use Rattle.wrp_bound_laws.proofs.SyncPairs.SyncSends.{FollowedIn, IsFollowUp, followed_in}
use Rattle.wrp_bound_laws.proofs.Hops.TrackedHops.{has_hop}

-- The Sync

-- a Sync that is pending, and the event that handed it over
record Pending (s : Setting) (events : List Happened) (k : ℕ) (link : LinkCfg) (held : HeldSync) : Type 0 where
  hop : HopNumbers
  gap : List Happened
  older : List Happened
  start : Happened
  before : List Happened
  splits : events ≡ (gap ++ older) ++ start ∷ before
  since : List Happened
  later : Later s k link hop gap older start before held
  handed : gap ≡ since ++ later.is.hands ∷ []

pending : SyncLaws → (s : Setting) (events : List Happened) (k : ℕ) (link : LinkCfg) (held : HeldSync) → IsRun s events → AllFit events → link_of s k ≡ Some link → PendsInRing s events link held → Pending s events k link held
pending laws s events k link held run fit is p =
    let ring : ℕ = ring_below s link in
    let stands : HasChain s link.lower events =
    in_chain laws.same.master.chains.lease.quiet.ends s run.network events k link is (pending_in_chain ring (exchange_at s link events) held p.pends) in
    let hop : (hop : HopNumbers) × (numbers_of s.cfg link.lower ≡ Some hop) = has_hop s run.network link.lower link (above_is s run.network k link is) in
    let c : ChainRuns s events k link hop.0 = laws.held.chain.constant s events k link hop.0 run fit is hop.1 stands in
    let start : Happened = c.start in
    let before : List Happened = c.before in
    let sb : List Happened = start ∷ before in
    let all : InRun s k link c.newer start before = record { run = subst (IsRun s) c.splits run; is = is; standing = record { stands = c.stands; begins = c.begins } } in
    let fit_all : AllFit (c.newer ++ sb) = subst AllFit c.splits fit in
    let b : Begun s start before link = began laws.held.chain s k link c.newer start before all in
    let last : last_sync ring (exchange_at s link (c.newer ++ sb)) ≡ Some held =
    subst (λ l. last_sync ring (exchange_at s link l) ≡ Some held) c.splits (pending_last ring (exchange_at s link events) held p.pends) in
    let d : SyncCame s k link c.newer start before held = sync_came laws.held.chain s k link c.newer start before all b held last in
    let gap : List Happened = d.since ++ d.hands ∷ [] in
    let split : c.newer ≡ gap ++ d.older = d.splits ∙ one_list d.since d.hands d.older in
    let there : events ≡ (gap ++ d.older) ++ sb = c.splits ∙ ap (λ l. l ++ sb) split in
    record {
      hop = hop.0;
      gap = gap;
      older = d.older;
      start = start;
      before = before;
      splits = there;
      since = d.since;
      later = record {
        here = subst (λ l. InRun s k link l start before) split all;
        fit = subst (λ l. AllFit (l ++ sb)) split fit_all;
        numbers = hop.1;
        begun = b;
        is = held_is laws.held s k link hop.0 c.newer start before all fit_all hop.1 b held d;
        in_ring = subst (λ l. is_some (phase_in (last_samples ring (exchange_at s link l)) held.sample) ≡ true) there p.in_ring;
      };
      handed = ap (λ h. d.since ++ h ∷ []) (sym (held_hands laws.held s k link hop.0 c.newer start before all fit_all hop.1 b held d));
    }

-- Its frame

-- the events since it was handed over, and those before
splits_there : (s : Setting) (events : List Happened) (k : ℕ) (link : LinkCfg) (held : HeldSync) (p : Pending s events k link held) → events ≡ p.gap ++ (p.older ++ p.start ∷ p.before)
splits_there s events k link held p = p.splits ∙ append_assoc p.gap p.older (p.start ∷ p.before)

-- it stays what it was then
abbrev StaysSo : (s : Setting) (events : List Happened) (k : ℕ) (link : LinkCfg) (held : HeldSync) (p : Pending s events k link held) → Type 0
StaysSo s events k link held p = Stayed s events p.later.is.handed.number p.later.is.handed.frame

stays_so : (s : Setting) (events : List Happened) (k : ℕ) (link : LinkCfg) (held : HeldSync) → IsRun s events → (p : Pending s events k link held) → StaysSo s events k link held p
stays_so s events k link held run p =
    let h : HeldIs s k link p.hop p.older p.start p.before held = p.later.is in
    let was : List Happened = p.older ++ p.start ∷ p.before in
    let splits : events ≡ p.gap ++ was = splits_there s events k link held p in
    subst (λ l. Stayed s l h.handed.number h.handed.frame) (sym splits) (frame_stays s p.gap was h.handed.number h.handed.frame (subst (IsRun s) splits run) h.handed.there)

abbrev frame_now : (s : Setting) (events : List Happened) (k : ℕ) (link : LinkCfg) (held : HeldSync) (p : Pending s events k link held) → StaysSo s events k link held p → FrameOf (world_after s events) k Master p.later.is.handed.frame.sending
frame_now s events k link held p stay = record {
  number = p.later.is.handed.number;
  frame = stay.frame;
  there = stay.there;
  link_is = stay.link ∙ p.later.is.handed.link_is;
  by_is = stay.by ∙ p.later.is.handed.by_is;
  sending_is = stay.sending;
}

-- which is what is held
held_of : (s : Setting) (events : List Happened) (k : ℕ) (link : LinkCfg) (held : HeldSync) (p : Pending s events k link held) (stay : StaysSo s events k link held p) → IsHeldOf s events k link (frame_now s events k link held p stay) held
held_of s events k link held p stay =
    let h : HeldIs s k link p.hop p.older p.start p.before held = p.later.is in
    let was : List Happened = p.older ++ p.start ∷ p.before in
    record {
      older = was;
      delivered = record {
        newer = p.since;
        hands = h.hands;
        splits = splits_there s events k link held p ∙ ap (λ l. l ++ was) p.handed ∙ sym (one_list p.since h.hands was);
        event = h.handed.event;
        arrival = h.handed.arrival;
        arrived = stay.arrival h.handed.arrival h.handed.arrived;
      };
      seq = h.seq;
      correction = h.correction;
      t2 = h.t2;
      sample = h.sample;
    }

-- A Follow_Up of its sequenceId

follow_body : (body : Body) (told : Ts) → body ≡ FollowUp told → IsFollowUp body
follow_body body told e = subst IsFollowUp (sym e) tt

one_later : (h : Happened) (before : List Happened) (m n : ℕ) → m ≡ length (h ∷ before) → n ≡ length before → m ≡ n + 1
one_later h before m n e f = omega (arith, e, f)

follow_up_of_it : SyncLaws → (s : Setting) (events : List Happened) (k : ℕ) (link : LinkCfg) (held : HeldSync) → IsRun s events → link_of s k ≡ Some link → (p : Pending s events k link held) (stay : StaysSo s events k link held p) (y : Sending) (precise : Ts) →
    CanComeStill s (world_after s events) k Master y → y.message.body ≡ FollowUp precise → y.message.head.seq ≡ held.seq → IsFollowUpOf s link (frame_now s events k link held p stay) y
follow_up_of_it laws s events k link held run is p stay y precise comes body seq =
    let h : HeldIs s k link p.hop p.older p.start p.before held = p.later.is in
    let was : List Happened = p.older ++ p.start ∷ p.before in
    let i : ℕ = h.handed.number in
    let f : FrameAt = h.handed.frame in
    let it : FollowedIn s events k link y = followed_in s run.network events k link y is (follow_body y.message.body precise body) comes.put in
    let x : Sending = it.follows.oldest in
    let moment : ℕ = length it.before in
    let gone : Departed s events k x it.follows.stamp y.at moment = departed s events k link y it run in
    let one : OneFrame s (p.gap ++ was) k i f x it.follows.stamp y.at moment =
    one_frame laws s k link p.hop p.gap p.older p.start p.before held p.later x it.follows.stamp y.at moment (sym seq ∙ ap (λ (m : PtpMsg). m.head.seq) it.follows.message) it.follows.sync
    (subst (λ l. Departed s l k x it.follows.stamp y.at moment) p.splits gone) (subst (λ l. (world_after s l).time ≤ℤ (y.at +ℤ pos (frame_life s.cfg))) p.splits comes.young) in
    let same : stay.frame ≡ one.stay.frame =
    same_Some stay.frame one.stay.frame (sym stay.there ∙ ap (λ l. (world_after s l).frame i) (splits_there s events k link held p) ∙ one.stay.there) in
    let alike : stay.frame ≡ one.gone.frame = same ∙ one.alike in
    let sync : x ≡ f.sending = sym one.gone.sending ∙ ap (λ (z : FrameAt). z.sending) (sym alike) ∙ stay.sending in
    let stamp : it.follows.stamp ≡ stay.frame.stamp = sym one.gone.stamp_is ∙ ap (λ (z : FrameAt). z.stamp) (sym alike) in
    record {
      samples = it.follows.samples;
      message =
          it.follows.message
          ∙ ap (λ (z : Sending). follow_up_of (setting_of (s.set link.upper) link.upper_port) z.message.head.seq (record { value = it.follows.stamp; sample = it.follows.samples })) sync
          ∙ ap (λ t. follow_up_of (setting_of (s.set link.upper) link.upper_port) f.sending.message.head.seq (record { value = t; sample = it.follows.samples })) stamp;
      at = sym (ap (λ (z : FrameAt). z.at) alike ∙ one.gone.at_is);
      moment = one_later it.event it.before y.moment stay.frame.moment it.moment (ap (λ (z : FrameAt). z.moment) alike ∙ one.gone.moment_is);
    }

-- Every run

pub of_one_sync : SyncLaws → (s : Setting) (events : List Happened) (k : ℕ) (link : LinkCfg) → IsRun s events → AllFit events → link_of s k ≡ Some link → (held : HeldSync) → PendsInRing s events link held → OfOneSync s events k link held
of_one_sync laws s events k link run fit is held pends =
    let p : Pending s events k link held = pending laws s events k link held run fit is pends in
    let stay : StaysSo s events k link held p = stays_so s events k link held run p in
    record {
      sync = p.later.is.handed.frame.sending;
      is_sync = p.later.is.sync;
      frame = frame_now s events k link held p stay;
      held_is = held_of s events k link held p stay;
      follow_ups = λ y precise comes body seq. follow_up_of_it laws s events k link held run is p stay y precise comes body seq;
    }
