-- The sending that a slave's exchange keeps in a chain is the sending of its newest Delay_Req, with the phase that its
-- stamp latched.
use Rattle.std.proofs.Common.{◌≡◌, ◌∙◌, refl, ap, ap₂, sym, subst, ℕ, ◌+◌, ◌*◌, ◌≤◌, ◌==◌, ℤ, pos, ◌+ℤ◌, ◌-ℤ◌, ◌≤ℤ◌, Bool, true, false, if◌then◌else◌, List, [], ◌∷◌, ◌++◌, length, Option, None, Some, arith}
use Rattle.std.proofs.lemmas.Int.{ints}
use Rattle.std.specs.List.{AllByRecursion}
use Rattle.wrp_base.specs.declared.link.Role.TheVariants.{Slave}
use Rattle.wrp_network.specs.declared.network.LinkCfg.{LinkCfg}
use Rattle.wrp_network.specs.Network.{End}
use Rattle.wrp_base.proofs.Lists.{append_assoc}
use Rattle.wrp_base.proofs.Naturals.{eq_self}
use Rattle.wrp_bounds.specs.Bounds.{numbers_of}
use Rattle.wrp_bounds.specs.declared.numbers.HopNumbers.{HopNumbers}
use Rattle.wrp_bounds.specs.Times.{frame_life}
use Rattle.wrp_exch.specs.Call.{Call}
use Rattle.wrp_exch.specs.Chain.{latched_phase}
use Rattle.wrp_exch.specs.declared.delay.Sent.{Sent}
use Rattle.wrp_node.specs.NodeAt.{setting_of}
use Rattle.wrp_port.specs.History.{calls_of}
use Rattle.wrp_tracking_laws.specs.Chain.{Good, GoodTells, LatchedAt}
use Rattle.wrp_tracking_laws.specs.History.{Was}
use Rattle.wrp_tracking_laws.specs.Moment.{Moment}
use Rattle.wrp_tracking_laws.proofs.Histories.{was_at_most}
use Rattle.wrp_course.specs.declared.event.Event.TheVariants.{Depart}
use Rattle.wrp_course.specs.declared.place.Place.{Place}
use Rattle.wrp_bound_laws.proofs.SyncPairs.SyncHeld.{fewer}
use Rattle.wrp_bound_laws.proofs.SyncPairs.SyncPasts.{fit_then, was_then}
use Rattle.wrp_course.specs.Given.{given_by}
use Rattle.wrp_course.specs.Moved.{departing, moved, waiting_at}
use Rattle.wrp_course.specs.Run.{Happened, world_after}
use Rattle.wrp_course.specs.Runs.{IsRun, WasPutOut}
use Rattle.wrp_course.specs.Setting.{Setting, end_of, link_of, place_of}
use Rattle.wrp_course.specs.WorldAt.{FrameAt, Sending, WorldAt, delay_from}
use Rattle.wrp_course.proofs.RunCarriers.{end_alike}
use Rattle.wrp_course.proofs.RunGiven.{end_is}
use Rattle.wrp_course.proofs.RunNetwork.{LinkEnd, are_apart, end_with, place_end}
use Rattle.wrp_bound_laws.specs.Chains.{AllFit, ChainRuns, goods_since}
use Rattle.wrp_bound_laws.specs.Moments.{AtEach}
use Rattle.wrp_bound_laws.specs.OneMessage.{NewestRequest}
use Rattle.wrp_bound_laws.specs.Rates.{HasChain}
use Rattle.wrp_bound_laws.specs.SequenceIds.{IsOpenAt}
use Rattle.wrp_bound_laws.specs.Views.{moment_at, moments_of}
use Rattle.wrp_bound_laws.proofs.Samples.ChainMoves.{HasNewest, newest_moment, one_longer}
use Rattle.wrp_bound_laws.proofs.Frames.DepartedFrames.{Stayed, frame_stays}
use Rattle.wrp_bound_laws.proofs.DelayPairs.DelayOpen.{chain_open}
use Rattle.wrp_bound_laws.proofs.DelayPairs.DelayPieces.{DelayLaws, behind, later_goods, one_start, same_request, still_depart}
use Rattle.wrp_bound_laws.proofs.Nodes.StepSends.{IsRequest}
use Rattle.wrp_bound_laws.proofs.DelayPairs.DelaySamples.{IsHead, latched_newest}
use Rattle.wrp_bound_laws.proofs.Frames.InOrder.{given_frame}
use Rattle.wrp_bound_laws.proofs.Runs.Suffixes.{at_newest, count_is, older_run}

-- A chain of a run

-- what is given of it
pub record Given : Type 0 where
  pub laws : DelayLaws
  pub s : Setting
  pub events : List Happened
  pub k : ℕ
  pub link : LinkCfg
  pub hop : HopNumbers
  pub run : IsRun s events
  pub fits : AllFit events
  pub is : link_of s k ≡ Some link
  pub numbers : numbers_of s.cfg link.lower ≡ Some hop
  pub chain : ChainRuns s events k link hop

-- the number of its first moment, and the history of its link
abbrev pub start_at : Given → ℕ
start_at c = length (c.chain.start ∷ c.chain.before)

abbrev pub past_of : Given → List Moment
past_of c = moments_of c.s c.k c.link c.events

abbrev pub calls_at : Given → List Happened → List Call
calls_at c events = calls_of (setting_of (c.s.set c.link.lower) c.link.lower_port) (((world_after c.s events).node c.link.lower).told c.link.lower_port)

-- earlier events of the chain
pub record Inside (c : Given) (events : List Happened) : Type 0 where
  pub top : List Happened
  pub splits : c.events ≡ top ++ events
  pub mid : List Happened
  pub is : events ≡ mid ++ c.chain.start ∷ c.chain.before
  pub first : c.chain.newer ≡ top ++ mid
  pub stands : AtEach (HasChain c.s c.link.lower) mid (c.chain.start ∷ c.chain.before)

pub run_at : (c : Given) (events : List Happened) → Inside c events → IsRun c.s events
run_at c events i = older_run c.s i.top events (subst (IsRun c.s) i.splits c.run)

pub chain_at : (c : Given) (events : List Happened) → Inside c events → HasChain c.s c.link.lower events
chain_at c events i = subst (HasChain c.s c.link.lower) (sym i.is) (at_newest (HasChain c.s c.link.lower) i.mid (c.chain.start ∷ c.chain.before) i.stands)

pub open_at : (c : Given) (events : List Happened) → Inside c events → IsOpenAt c.s c.link Slave events
open_at c events i =
    chain_open c.laws.opens c.s events c.k c.link (run_at c events i) c.is (c.laws.samples.lit c.s events c.k c.link (run_at c events i) c.is (chain_at c events i)) (chain_at c events i)

-- The phase that is latched

pub record Latched (c : Given) (events : List Happened) (u : ℤ) : Type 0 where
  pub good : Good
  pub tells : GoodTells c.hop (past_of c) (start_at c) c.chain.constant good
  pub phase : u ≡ good.u
  pub sample : Moment
  pub latched : LatchedAt c.hop (past_of c) good (length events) sample (moment_at c.k c.link (world_after c.s events))

latched_at : (c : Given) (events : List Happened) (i : Inside c events) (u : ℤ) → latched_phase (c.s.set c.link.lower).ring (calls_at c events) ((world_after c.s events).clock c.link.lower).samples ≡ Some u → Latched c events u
latched_at c events i u e =
    let s : Setting = c.s in
    let n : ℕ = c.link.lower in
    let begin : List Happened = c.chain.start ∷ c.chain.before in
    let run : IsRun s events = run_at c events i in
    let now : ChainRuns s events c.k c.link c.hop =
    c.laws.constant s events c.k c.link c.hop run (fit_then i.top events (subst AllFit i.splits c.fits)) c.is c.numbers (chain_at c events i) in
    let head : IsHead (goods_since s n i.mid begin) u =
    latched_newest c.laws.samples s i.mid c.chain.start c.chain.before c.k c.link (s.set n).ring u (subst (IsRun s) i.is run) c.is i.stands c.chain.begins
    (subst (λ l. latched_phase (s.set n).ring (calls_at c l) ((world_after s l).clock n).samples ≡ Some u) i.is e) in
    let one : (now.newer ≡ i.mid) × (now.start ∷ now.before ≡ begin) =
    one_start (HasChain s n) now.newer now.start now.before i.mid c.chain.start c.chain.before (sym now.splits ∙ i.is) now.stands i.stands now.begins c.chain.begins in
    let goods : now.newest ∷ now.earlier ≡ goods_since s n i.mid begin = now.goods ∙ ap₂ (goods_since s n) one.0 one.1 in
    let all : AllByRecursion (GoodTells c.hop (past_of c) (start_at c) c.chain.constant) (goods_since s n (i.top ++ i.mid) begin) =
    subst (λ l. AllByRecursion (GoodTells c.hop (past_of c) (start_at c) c.chain.constant) (goods_since s n l begin)) i.first
    (subst (AllByRecursion (GoodTells c.hop (past_of c) (start_at c) c.chain.constant)) c.chain.goods c.chain.holds.goods) in
    let tells : AllByRecursion (GoodTells c.hop (past_of c) (start_at c) c.chain.constant) (now.newest ∷ now.earlier) =
    subst (AllByRecursion (GoodTells c.hop (past_of c) (start_at c) c.chain.constant)) (sym goods) (later_goods (GoodTells c.hop (past_of c) (start_at c) c.chain.constant) s n i.top i.mid begin all) in
    let history : HasNewest s c.k c.link events = newest_moment s c.k c.link events in
    record {
      good = now.newest;
      tells = tells.0;
      phase = sym (subst (λ l. IsHead l u) (sym goods) head);
      sample = now.holds.moment;
      latched = record {
        was = subst (λ l. Was (moments_of s c.k c.link l) now.newest.at now.holds.moment) (sym i.splits) (was_then s c.k c.link i.top events now.newest.at now.holds.moment now.holds.was);
        order =
            fewer now.newest.at (length (moments_of s c.k c.link events)) (length events) (was_at_most now.newest.at now.holds.moment (moments_of s c.k c.link events) now.holds.was)
            (ap length history.is ∙ one_longer (length history.past) (length events) history.length_is);
        near = now.recent;
      };
    }

-- The frame of a departure

-- a Delay_Req that is the first to wait at the slave's port departs with this stamp, which latches this phase
pub record Leaves (c : Given) (h : Happened) (before : List Happened) (stamp : ℤ) (z : Sending) (u : ℤ) : Type 0 where
  pub node : ℕ
  pub port : ℕ
  pub event : h.event ≡ Depart node port stamp
  pub at_node : c.link.lower ≡ node
  pub at_port : c.link.lower_port ≡ port
  pub rest : List Sending
  pub queue : waiting_at (world_after c.s before) (place_of c.s node port) ≡ z ∷ rest
  pub request : IsRequest z.message.body
  pub latched : latched_phase (c.s.set c.link.lower).ring (calls_at c before) ((world_after c.s before).clock node).samples ≡ Some u

-- the frame that it is
record NewFrame (c : Given) (h : Happened) (before : List Happened) (z : Sending) (stamp : ℤ) : Type 0 where
  number : ℕ
  frame : FrameAt
  there : (world_after c.s (h ∷ before)).frame number ≡ Some frame
  link_is : frame.link ≡ c.k
  by_is : frame.by ≡ Slave
  sending : frame.sending ≡ z
  stamp_is : frame.stamp ≡ stamp
  at : frame.at ≡ (world_after c.s before).time
  moment : frame.moment ≡ length before

none_waits : (x : Sending) (rest : List Sending) → [] ≡ x ∷ rest → ⊥
none_waits x rest e = cc

first_of : {A : Type 0} (b : Bool) (x : A) (o : Option A) → b ≡ true → (if b then Some x else o) ≡ Some x
first_of true x o e = refl
first_of false x o e = absurd cc

frame_at_place : (c : Given) (h : Happened) (before : List Happened) (stamp : ℤ) (z : Sending) (u : ℤ) (it : Leaves c h before stamp z u) (o : Option Place) → place_of c.s it.node it.port ≡ o → waiting_at (world_after c.s before) o ≡ z ∷ it.rest → NewFrame c h before z stamp
frame_at_place c h before stamp z u it None place queue = absurd (none_waits z it.rest queue)
frame_at_place c h before stamp z u it (Some at) place queue =
    let s : Setting = c.s in
    let w : WorldAt = world_after s before in
    let end : End = end_with it.node it.port in
    let found : LinkEnd s at.link at.role end = place_end s it.node it.port at place in
    let same : (at.link ≡ c.k) × (at.role ≡ Slave) =
    are_apart s c.run.network at.link c.k at.role Slave end (end_is s at.link at.role found.link found.there ∙ ap Some found.end_is)
    (end_is s c.k Slave c.link c.is ∙ ap Some (end_alike (end_of Slave c.link) end it.at_node it.at_port)) in
    let i : ℕ = w.departed + 1 in
    let frame : FrameAt = record {
      link = at.link;
      by = at.role;
      sending = z;
      stamp = stamp;
      at = w.time;
      moment = w.count;
      due = w.time +ℤ delay_from w at.link at.role;
      arrival = None;
      gone = false;
    } in
    record {
      number = i;
      frame = frame;
      there =
          (given_frame s h.answer (given_by s w (moved s w h.event) h.says h.event) (moved s w h.event) i).0
          ∙ ap (λ e. (moved s w e).frame i) it.event
          ∙ ap (λ p. departing w p stamp (waiting_at w p) i) place
          ∙ ap (λ l. departing w (Some at) stamp l i) queue
          ∙ first_of (i == i) frame (w.frame i) (eq_self i);
      link_is = same.0;
      by_is = same.1;
      sending = refl;
      stamp_is = refl;
      at = refl;
      moment = count_is s before;
    }

-- The sending that is kept

-- it is the sending of this Delay_Req
pub record Departs (c : Given) (x : Sending) (kept : Sent) : Type 0 where
  pub number : ℕ
  pub frame : FrameAt
  pub there : (world_after c.s c.events).frame number ≡ Some frame
  pub link_is : frame.link ≡ c.k
  pub by_is : frame.by ≡ Slave
  pub sending : frame.sending ≡ x
  pub stamp : frame.stamp ≡ kept.t3
  pub newer : List Happened
  pub older : List Happened
  pub splits : c.events ≡ newer ++ older
  pub moment : frame.moment ≡ length older
  pub begun : start_at c ≤ length older
  pub tick : kept.tick ≡ ((world_after c.s older).node c.link.lower).ticks
  pub latched : Latched c older kept.u3

young_now : (now at sent : ℤ) (life : ℕ) → now ≡ at → (at -ℤ sent) ≤ℤ pos life → now ≤ℤ (sent +ℤ pos (2 * life))
young_now now at sent life e h = omega (arith, ints, e, h)

frame_put : (c : Given) (h : Happened) (before : List Happened) (z : Sending) (stamp : ℤ) → IsRun c.s (h ∷ before) → NewFrame c h before z stamp → WasPutOut z ((world_after c.s (h ∷ before)).end_at c.k Slave).sent
frame_put c h before z stamp run new =
    let w : WorldAt = world_after c.s (h ∷ before) in
    subst (λ t. WasPutOut t (w.end_at c.k Slave).sent) new.sending
    (subst (λ r. WasPutOut new.frame.sending (w.end_at c.k r).sent) new.by_is
    (subst (λ l. WasPutOut new.frame.sending (w.end_at l new.frame.by).sent) new.link_is (c.laws.put c.s (h ∷ before) new.number new.frame run new.there)))

frame_young : (c : Given) (h : Happened) (before : List Happened) (stamp : ℤ) (z : Sending) (u : ℤ) → IsRun c.s (h ∷ before) → Leaves c h before stamp z u → NewFrame c h before z stamp → (world_after c.s (h ∷ before)).time ≤ℤ (z.at +ℤ pos (2 * frame_life c.s.cfg))
frame_young c h before stamp z u run it new =
    young_now (world_after c.s (h ∷ before)).time new.frame.at z.at (frame_life c.s.cfg) (still_depart c.s h before it.node it.port stamp it.event ∙ sym new.at)
    (subst (λ (t : Sending). (new.frame.at -ℤ t.at) ≤ℤ pos (frame_life c.s.cfg)) new.sending (c.laws.stamped c.s (h ∷ before) new.number new.frame run new.there).0.young)

pub departs : (c : Given) (h : Happened) (before : List Happened) (stamp : ℤ) (x z : Sending) (u : ℤ) → Inside c before → Inside c (h ∷ before) → Leaves c h before stamp z u → NewestRequest c.s (h ∷ before) c.k x → z.message.head.seq ≡ x.message.head.seq →
    Departs c x (record { t3 = stamp; u3 = u; tick = ((world_after c.s before).node c.link.lower).ticks })
departs c h before stamp x z u i j it newest seq =
    let s : Setting = c.s in
    let run : IsRun s (h ∷ before) = run_at c (h ∷ before) j in
    let new : NewFrame c h before z stamp = frame_at_place c h before stamp z u it (place_of s it.node it.port) refl it.queue in
    let same : z ≡ x =
    same_request c.laws s (h ∷ before) c.k c.link x z run c.is (open_at c (h ∷ before) j) newest
    (record { request = it.request; put = frame_put c h before z stamp run new; seq = seq; young = frame_young c h before stamp z u run it new }) in
    let later : Stayed s (j.top ++ (h ∷ before)) new.number new.frame = frame_stays s j.top (h ∷ before) new.number new.frame (subst (IsRun s) j.splits c.run) new.there in
    record {
      number = new.number;
      frame = later.frame;
      there = ap (λ l. (world_after s l).frame new.number) j.splits ∙ later.there;
      link_is = later.link ∙ new.link_is;
      by_is = later.by ∙ new.by_is;
      sending = later.sending ∙ new.sending ∙ same;
      stamp = later.stamp ∙ new.stamp_is;
      newer = j.top ++ (h ∷ []);
      older = before;
      splits = j.splits ∙ sym (append_assoc j.top (h ∷ []) before);
      moment = later.moment ∙ new.moment;
      begun = subst (λ l. start_at c ≤ length l) (sym i.is) (behind i.mid (c.chain.start ∷ c.chain.before));
      tick = refl;
      latched = latched_at c before i u (subst (λ n. latched_phase (s.set c.link.lower).ring (calls_at c before) ((world_after s before).clock n).samples ≡ Some u) (sym it.at_node) it.latched);
    }
