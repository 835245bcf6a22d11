-- Each Sync that a slave's exchange kept in a chain departed no sooner than the parent put out the Announce that had
-- last renewed the lease when the chain began.
use Rattle.std.proofs.Common.{◌≡◌, ◌∙◌, refl, ap, sym, subst, ℕ, ◌≤◌, List, [], ◌∷◌, ◌++◌, length, Option, None, Some}
use Rattle.std.specs.Prelude.{IfSome}
use Rattle.wrp_base.specs.declared.link.Role.TheVariants.{Master}
use Rattle.wrp_network.specs.declared.network.LinkCfg.{LinkCfg}
use Rattle.wrp_base.proofs.Lists.{append_assoc}
use Rattle.wrp_bounds.specs.Bounds.{numbers_of}
use Rattle.wrp_bounds.specs.declared.numbers.HopNumbers.{HopNumbers}
use Rattle.wrp_exch.specs.declared.sync.HeldSync.{HeldSync}
use Rattle.wrp_exch.specs.SyncPair.{last_sync}
use Rattle.wrp_course.specs.Run.{Happened, world_after}
use Rattle.wrp_course.specs.Runs.{IsRun}
use Rattle.wrp_course.specs.Setting.{Setting}
use Rattle.wrp_course.specs.WorldAt.{Arrival, FrameAt}
use Rattle.wrp_bound_laws.specs.Chains.{AllFit}
use Rattle.wrp_bound_laws.specs.Exchanges.{exchange_at, ring_below}
use Rattle.wrp_bound_laws.specs.Leases.{FollowsSource}
use Rattle.wrp_bound_laws.specs.Moments.{AtEach}
use Rattle.wrp_bound_laws.specs.OneMessage.{FrameOf}
use Rattle.wrp_bound_laws.specs.UnbrokenChains.{DepartedSince, SyncDepartedSince}
use Rattle.wrp_bound_laws.proofs.Frames.DepartedFrames.{Stayed, frame_stays}
use Rattle.wrp_bound_laws.proofs.Runs.Suffixes.{one_list, run_before}
use Rattle.wrp_bound_laws.proofs.SyncPairs.SyncHeld.{HeldIs, HeldLaws, enough, held_hands, held_is}
use Rattle.wrp_bound_laws.proofs.SyncPairs.SyncPasts.{InRun, SyncCame, began, earlier_in, sync_came}
use Rattle.wrp_bound_laws.proofs.SyncPairs.SyncSamples.{Begun}

-- The frame of what is kept

abbrev frame_now : (s : Setting) (events : List Happened) (k : ℕ) (link : LinkCfg) (hop : HopNumbers) (older : List Happened) (start : Happened) (before : List Happened) (held : HeldSync) (h : HeldIs s k link hop older start before held) →
    Stayed s events h.handed.number h.handed.frame → FrameOf (world_after s events) k Master h.handed.frame.sending
frame_now s events k link hop older start before held h stay = record {
  number = h.handed.number;
  frame = stay.frame;
  there = stay.there;
  link_is = stay.link ∙ h.handed.link_is;
  by_is = stay.by ∙ h.handed.by_is;
  sending_is = stay.sending;
}

departed_since : (s : Setting) (events since : List Happened) (k : ℕ) (link : LinkCfg) (hop : HopNumbers) (older : List Happened) (start : Happened) (before : List Happened) (held : HeldSync) (h : HeldIs s k link hop older start before held) → IsRun s events →
    events ≡ since ++ h.hands ∷ (older ++ start ∷ before) → (from : ℕ) → from ≤ h.handed.frame.moment → DepartedSince s events k link from held
departed_since s events since k link hop older start before held h run splits from less =
    let was : List Happened = older ++ start ∷ before in
    let one : events ≡ (since ++ h.hands ∷ []) ++ was = splits ∙ one_list since h.hands was in
    let stay : Stayed s events h.handed.number h.handed.frame =
    subst (λ l. Stayed s l h.handed.number h.handed.frame) (sym one) (frame_stays s (since ++ h.hands ∷ []) was h.handed.number h.handed.frame (subst (IsRun s) one run) h.handed.there) in
    record {
      sync = h.handed.frame.sending;
      is_sync = h.sync;
      frame = frame_now s events k link hop older start before held h stay;
      held_is = record {
        older = was;
        delivered = record {
          newer = since;
          hands = h.hands;
          splits = splits;
          event = h.handed.event;
          arrival = h.handed.arrival;
          arrived = stay.arrival h.handed.arrival h.handed.arrived;
        };
        seq = h.seq;
        correction = h.correction;
        t2 = h.t2;
        sample = h.sample;
      };
      since = subst (λ m. from ≤ m) (sym stay.moment) less;
    }

-- it arrived in the chain, and so departed no sooner than the Announce was put out
after_source : HeldLaws → (s : Setting) (k : ℕ) (link : LinkCfg) (hop : HopNumbers) (older : List Happened) (start : Happened) (before : List Happened) (held : HeldSync) (h : HeldIs s k link hop older start before held) (f : FollowsSource s (start ∷ before) k link) →
    length f.older ≤ h.handed.frame.moment
after_source laws s k link hop older start before held h f =
    let frame : FrameAt = h.handed.frame in
    let a : Arrival = h.handed.arrival in
    laws.follow s older (start ∷ before) k link f h.handed.number frame a (run_before s h.hands (older ++ start ∷ before) h.run) h.handed.there h.handed.link_is h.handed.by_is h.handed.arrived
    (enough a.moment 0 h.flight.chain start before h.flight.moment)

-- The last Sync that was kept

last_since : HeldLaws → (s : Setting) (k : ℕ) (link : LinkCfg) (hop : HopNumbers) (newer : List Happened) (start : Happened) (before : List Happened) → InRun s k link newer start before → AllFit (newer ++ start ∷ before) → numbers_of s.cfg link.lower ≡ Some hop →
    (f : FollowsSource s (start ∷ before) k link) (held : HeldSync) → last_sync (ring_below s link) (exchange_at s link (newer ++ start ∷ before)) ≡ Some held → DepartedSince s (newer ++ start ∷ before) k link (length f.older) held
last_since laws s k link hop newer start before x fit numbers f held last =
    let sb : List Happened = start ∷ before in
    let b : Begun s start before link = began laws.chain s k link newer start before x in
    let d : SyncCame s k link newer start before held = sync_came laws.chain s k link newer start before x b held last in
    let h : HeldIs s k link hop d.older start before held = held_is laws s k link hop newer start before x fit numbers b held d in
    let hands : h.hands ≡ d.hands = held_hands laws s k link hop newer start before x fit numbers b held d in
    let splits : newer ++ sb ≡ d.since ++ h.hands ∷ (d.older ++ sb) =
    ap (λ l. l ++ sb) d.splits ∙ append_assoc d.since (d.hands ∷ d.older) sb ∙ ap (λ z. d.since ++ z ∷ (d.older ++ sb)) (sym hands) in
    departed_since s (newer ++ sb) d.since k link hop d.older start before held h x.run splits (length f.older) (after_source laws s k link hop d.older start before held h f)

if_held : (P : HeldSync → Type 0) (o : Option HeldSync) → ((held : HeldSync) → o ≡ Some held → P held) → IfSome o P
if_held P None f = tt
if_held P (Some held) f = f held refl

-- after each event of the chain
sync_then : HeldLaws → (s : Setting) (k : ℕ) (link : LinkCfg) (hop : HopNumbers) (newer : List Happened) (start : Happened) (before : List Happened) → InRun s k link newer start before → AllFit (newer ++ start ∷ before) → numbers_of s.cfg link.lower ≡ Some hop →
    (f : FollowsSource s (start ∷ before) k link) → SyncDepartedSince s k link (length f.older) (newer ++ start ∷ before)
sync_then laws s k link hop newer start before x fit numbers f =
    if_held (DepartedSince s (newer ++ start ∷ before) k link (length f.older)) (last_sync (ring_below s link) (exchange_at s link (newer ++ start ∷ before)))
    (λ held last. last_since laws s k link hop newer start before x fit numbers f held last)

pub each_sync : HeldLaws → (s : Setting) (k : ℕ) (link : LinkCfg) (hop : HopNumbers) (newer : List Happened) (start : Happened) (before : List Happened) → InRun s k link newer start before → AllFit (newer ++ start ∷ before) → numbers_of s.cfg link.lower ≡ Some hop →
    (f : FollowsSource s (start ∷ before) k link) → AtEach (SyncDepartedSince s k link (length f.older)) newer (start ∷ before)
each_sync laws s k link hop [] start before x fit numbers f = sync_then laws s k link hop [] start before x fit numbers f
each_sync laws s k link hop (h ∷ newer) start before x fit numbers f = (
  sync_then laws s k link hop (h ∷ newer) start before x fit numbers f,
  each_sync laws s k link hop newer start before (earlier_in s k link h newer start before x) fit.1 numbers f,
)
