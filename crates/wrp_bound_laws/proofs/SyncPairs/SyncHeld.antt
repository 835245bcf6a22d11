-- A Sync that the exchange holds in a chain gives the chain's constant with the stamp of its own departure.
use Rattle.std.proofs.Common.{◌≡◌, inl, inr, ◌∙◌, refl, ap, sym, subst, ℕ, suc, ◌+◌, ◌<◌, ◌≤◌, ℤ, pos, ◌+ℤ◌, ◌-ℤ◌, ◌≤ℤ◌, unsigned_abs, true, List, [], ◌∷◌, ◌++◌, length, Some, IfSome, arith}
use Rattle.std.proofs.lemmas.Int.{ints}
use Rattle.std.specs.List.{AllByRecursion}
use Rattle.std.proofs.lemmas.Bool.{and_parts}
use Rattle.std.proofs.lemmas.Option.{same_Some}
use Rattle.wrp_base.specs.declared.link.Role.TheVariants.{Master, Slave}
use Rattle.wrp_network.specs.declared.network.LinkCfg.{LinkCfg}
use Rattle.wrp_network.specs.Network.{End}
use Rattle.wrp_base.specs.Closeness.{IsWithin}
use Rattle.wrp_base.proofs.Lists.{append_assoc}
use Rattle.wrp_bounds.specs.Bounds.{numbers_of}
use Rattle.wrp_bounds.specs.declared.numbers.HopNumbers.{HopNumbers}
use Rattle.wrp_bounds.specs.Hop.{down_error}
use Rattle.wrp_exch.specs.declared.sync.HeldSync.{HeldSync}
use Rattle.wrp_exch.specs.Samples.{last_samples, phase_in}
use Rattle.wrp_tracking_laws.specs.Chain.{FlewAt, Good, GoodTells, LatchedAt, SyncTellsConstant}
use Rattle.wrp_tracking_laws.specs.History.{Was}
use Rattle.wrp_tracking_laws.specs.Moment.{Moment}
use Rattle.wrp_tracking_laws.proofs.Histories.{was_at_most, was_one}
use Rattle.wrp_course.specs.Run.{Happened, world_after}
use Rattle.wrp_course.specs.RunLaws.{HasTimes}
use Rattle.wrp_course.specs.RunStamps.{DepartedSo}
use Rattle.wrp_course.specs.Runs.{IsRun}
use Rattle.wrp_course.specs.Setting.{Setting, end_at, end_of, link_of, of_node}
use Rattle.wrp_course.specs.WorldAt.{Arrival, FrameAt, WorldAt, delay_from, ends_are_up, has_carrier, reading}
use Rattle.wrp_course.proofs.RunGiven.{end_is}
use Rattle.wrp_course.proofs.RunTimes.{step_time}
use Rattle.wrp_bound_laws.specs.Chains.{AllFit, ChainRuns, goods_since}
use Rattle.wrp_bound_laws.specs.Exchanges.{exchange_at, ring_below}
use Rattle.wrp_bound_laws.specs.Fibres.{FibresKeepTheirShare}
use Rattle.wrp_bound_laws.specs.FlightOrder.{FramesFollowTheSource}
use Rattle.wrp_bound_laws.specs.Views.{moment_at, moments_of}
use Rattle.wrp_bound_laws.proofs.Samples.ChainMoves.{HasNewest, newest_moment}
use Rattle.wrp_bound_laws.proofs.Runs.Suffixes.{count_is, older_run, run_before, one_list}
use Rattle.wrp_bound_laws.proofs.SyncPairs.SyncCalls.{Found, KeptOf, kept_of}
use Rattle.wrp_bound_laws.proofs.SyncPairs.SyncChains.{SyncChainLaws, goods_apart, goods_in}
use Rattle.wrp_bound_laws.proofs.Frames.DepartedFrames.{arrival_raw}
use Rattle.wrp_bound_laws.proofs.SyncPairs.SyncGiven.{Handed, IsSync, received_stamp}
use Rattle.wrp_bound_laws.proofs.SyncPairs.SyncHanded.{Flight, FlightLaws, flight}
use Rattle.wrp_bound_laws.proofs.SyncPairs.SyncLatched.{found_newest}
use Rattle.wrp_bound_laws.proofs.SyncPairs.SyncPasts.{InRun, Recent, SyncCame, earlier_in, first_is, recent, then_in, was_here, was_then, fit_then}
use Rattle.wrp_bound_laws.proofs.SyncPairs.SyncSamples.{Begun, sample_of}
use Rattle.wrp_bound_laws.proofs.Frames.ArrivalStamps.{Arrived, StampLaws, stamp_near}
use Rattle.wrp_bound_laws.proofs.Runs.HopNumbers.{HopHas, hop_has}

-- the laws that this rests on
pub record HeldLaws : Type 0 where
  pub chain : SyncChainLaws
  pub flight : FlightLaws
  pub stamp : StampLaws
  pub follow : FramesFollowTheSource
  pub fibres : FibresKeepTheirShare
  pub sync : SyncTellsConstant

-- Ends of a run

-- the later events of a run, before these older ones
abbrev pub Tail : List Happened → List Happened → Type 0
Tail events older = (front : List Happened) × (events ≡ front ++ older)

pub tail_of : (a b c : List Happened) → Tail a b → Tail b c → Tail a c
tail_of a b c h k = (h.0 ++ k.0, h.1 ∙ ap (λ l. h.0 ++ l) k.1 ∙ sym (append_assoc h.0 k.0 c))

pub tail_run : (s : Setting) (a b : List Happened) → Tail a b → IsRun s a → IsRun s b
tail_run s a b h run = older_run s h.0 b (subst (IsRun s) h.1 run)

was_tail : (s : Setting) (k : ℕ) (link : LinkCfg) (events older : List Happened) (i : ℕ) (m : Moment) → Tail events older → Was (moments_of s k link older) i m → Was (moments_of s k link events) i m
was_tail s k link events older i m h w = subst (λ l. Was (moments_of s k link l) i m) (sym h.1) (was_then s k link h.0 older i m w)

-- a moment of a run is no later than its end
pub was_time : (s : Setting) (k : ℕ) (link : LinkCfg) (events : List Happened) (i : ℕ) (m : Moment) → IsRun s events → Was (moments_of s k link events) i m → m.time ≤ℤ (world_after s events).time
was_time s k link [] i m run h = elim h [ inl here ↦ subst (λ (z : Moment). z.time ≤ℤ (world_after s []).time) (sym here.1) (at_once (world_after s []).time) | inr none ↦ absurd none ]
  where
    at_once : (t : ℤ) → t ≤ℤ t
    at_once t = omega (arith, ints)
was_time s k link (x ∷ before) i m run h = elim h [
  | inl here ↦ subst (λ (z : Moment). z.time ≤ℤ (world_after s (x ∷ before)).time) (sym here.1) (at_once (world_after s (x ∷ before)).time)
  | inr old ↦ after_that m.time (world_after s before).time (world_after s (x ∷ before)).time (was_time s k link before i m (run_before s x before run) old) (step_time s x.says x.answer (world_after s before) x.event run.each.0)
]
  where
    at_once : (t : ℤ) → t ≤ℤ t
    at_once t = omega (arith, ints)

    after_that : (a b c : ℤ) → a ≤ℤ b → b ≤ℤ c → a ≤ℤ c
    after_that a b c h k = omega (arith, ints, h, k)

-- What is held

-- a frame of the master, which arrived in the chain, with the phase of the newest good sample then
pub record HeldIs (s : Setting) (k : ℕ) (link : LinkCfg) (hop : HopNumbers) (older : List Happened) (start : Happened) (before : List Happened) (held : HeldSync) : Type 0 where
  pub hands : Happened
  pub run : IsRun s (hands ∷ (older ++ start ∷ before))
  pub handed : Handed s (older ++ start ∷ before) hands k link
  pub sync : IsSync handed.frame.sending.message.body
  pub seq : held.seq ≡ handed.frame.sending.message.head.seq
  pub correction : held.correction ≡ handed.frame.sending.message.head.correction
  pub t2 : held.t2 ≡ (received_stamp s (world_after s (older ++ start ∷ before)) link handed.arrival).value
  pub sample : held.sample ≡ handed.arrival.sample
  pub flight : Flight s k link older start before handed.frame handed.arrival
  pub recent : Recent s k link hop flight.chain start before
  pub u : held.u2 ≡ recent.newest.u

pub held_is : HeldLaws → (s : Setting) (k : ℕ) (link : LinkCfg) (hop : HopNumbers) (newer : List Happened) (start : Happened) (before : List Happened) → InRun s k link newer start before → AllFit (newer ++ start ∷ before) → numbers_of s.cfg link.lower ≡ Some hop →
    (b : Begun s start before link) (held : HeldSync) (c : SyncCame s k link newer start before held) → HeldIs s k link hop c.older start before held
held_is laws s k link hop newer start before x fit numbers b held c =
    let events : List Happened = c.older ++ start ∷ before in
    let ring : ℕ = ring_below s link in
    let y : InRun s k link (c.hands ∷ c.older) start before = then_in s k link c.since (c.hands ∷ c.older) start before (subst (λ l. InRun s k link l start before) c.splits x) in
    let z : InRun s k link c.older start before = earlier_in s k link c.hands c.older start before y in
    let kept : KeptOf ring (exchange_at s link events) c.seq c.correction c.t2 c.tick held = kept_of ring (exchange_at s link events) c.seq c.correction c.t2 c.tick held c.kept in
    let h : Handed s events c.hands k link = c.takes.handed in
    let number : c.t2.sample ≡ h.arrival.sample = ap (λ t. t.sample) c.takes.t2_is in
    let first : kept.first ≡ b.good.number = same_Some kept.first b.good.number (sym kept.begins ∙ first_is laws.chain s k link c.older start before z b) in
    let since : b.good.number ≤ h.arrival.sample = subst (λ n. n ≤ h.arrival.sample) first (subst (λ n. kept.first ≤ n) number kept.since) in
    let fl : Flight s k link c.older start before h.frame h.arrival = flight laws.flight s k link c.older start before c.hands z b y.run h since in
    let w : InRun s k link (fl.newer ++ fl.chain) start before = subst (λ l. InRun s k link l start before) fl.splits z in
    let v : InRun s k link fl.chain start before = then_in s k link fl.newer fl.chain start before w in
    let fit_older : AllFit ((c.hands ∷ c.older) ++ start ∷ before) =
    fit_then c.since ((c.hands ∷ c.older) ++ start ∷ before) (subst AllFit (ap (λ l. l ++ start ∷ before) c.splits ∙ append_assoc c.since (c.hands ∷ c.older) (start ∷ before)) fit) in
    let fit_chain : AllFit (fl.chain ++ start ∷ before) =
    fit_then fl.newer (fl.chain ++ start ∷ before) (subst AllFit (ap (λ l. l ++ start ∷ before) fl.splits ∙ append_assoc fl.newer fl.chain (start ∷ before)) fit_older.1) in
    let r : Recent s k link hop fl.chain start before = recent laws.chain s k link hop fl.chain start before v fit_chain numbers in
    let latched : phase_in (last_samples ring (exchange_at s link ((fl.newer ++ fl.chain) ++ start ∷ before))) h.arrival.sample ≡ Some kept.phase =
    subst (λ l. phase_in (last_samples ring (exchange_at s link (l ++ start ∷ before))) h.arrival.sample ≡ Some kept.phase) fl.splits
    (subst (λ n. phase_in (last_samples ring (exchange_at s link events)) n ≡ Some kept.phase) number kept.latched) in
    let f : Found ring h.arrival.sample kept.phase _ (sample_of r.newest) = found_newest laws.chain s k link hop fl.newer fl.chain start before w b r ring h.arrival.sample kept.phase fl.sample latched in
    record {
      hands = c.hands;
      run = y.run;
      handed = h;
      sync = c.takes.body;
      seq = ap (λ (q : HeldSync). q.seq) kept.is ∙ c.takes.seq_is;
      correction = ap (λ (q : HeldSync). q.correction) kept.is ∙ c.takes.correction_is;
      t2 = ap (λ (q : HeldSync). q.t2) kept.is ∙ ap (λ t. t.value) c.takes.t2_is;
      sample = ap (λ (q : HeldSync). q.sample) kept.is ∙ number;
      flight = fl;
      recent = r;
      u = ap (λ (q : HeldSync). q.u2) kept.is ∙ f.phase;
    }

-- the event that handed it over
pub held_hands : (laws : HeldLaws) (s : Setting) (k : ℕ) (link : LinkCfg) (hop : HopNumbers) (newer : List Happened) (start : Happened) (before : List Happened) (x : InRun s k link newer start before) (fit : AllFit (newer ++ start ∷ before)) (numbers : numbers_of s.cfg link.lower ≡ Some hop) →
    (b : Begun s start before link) (held : HeldSync) (c : SyncCame s k link newer start before held) → (held_is laws s k link hop newer start before x fit numbers b held c).hands ≡ c.hands
unfolding held_is
held_hands laws s k link hop newer start before x fit numbers b held c = refl

-- Its departure and its arrival

all_at : (P : Good → Type 0) (xs : List Good) (g : Good) (es : List Good) → AllByRecursion P (xs ++ g ∷ es) → P g
all_at P [] g es h = h.0
all_at P (x ∷ xs) g es h = all_at P xs g es h.1

pub fewer : (a b : ℕ) (n : ℕ) → a < b → b ≡ suc n → a ≤ n
fewer a b n h e = omega (arith, h, e)

pub enough : (a b : ℕ) (xs : List Happened) (x : Happened) (ys : List Happened) → a ≡ length (xs ++ x ∷ ys) → length (x ∷ ys) ≤ a + 1
enough a b xs x ys e = let h : length (x ∷ ys) ≤ length (xs ++ x ∷ ys) = longer xs (x ∷ ys) in omega (arith, e, h)
  where
    longer : (zs ys : List Happened) → length ys ≤ length (zs ++ ys)
    longer [] ys = omega arith
    longer (z ∷ zs) ys = let h : length ys ≤ length (zs ++ ys) = longer zs ys in omega (arith, h)

-- the good sample gives the constant
good_tells : (s : Setting) (events : List Happened) (k : ℕ) (link : LinkCfg) (hop : HopNumbers) (chain : ChainRuns s events k link hop) (front older : List Happened) → chain.newer ≡ front ++ older → (r : Recent s k link hop older chain.start chain.before) →
    GoodTells hop (moments_of s k link events) (length (chain.start ∷ chain.before)) chain.constant r.newest
good_tells s events k link hop chain front older e r =
    let n : ℕ = link.lower in
    let P : Good → Type 0 = GoodTells hop (moments_of s k link events) (length (chain.start ∷ chain.before)) chain.constant in
    all_at P (goods_in s n front (older ++ chain.start ∷ chain.before)) r.newest r.earlier
    (subst (AllByRecursion P)
    (chain.goods ∙ ap (λ l. goods_since s n l (chain.start ∷ chain.before)) e ∙ goods_apart s n front older (chain.start ∷ chain.before) ∙ ap (λ gs. goods_in s n front (older ++ chain.start ∷ chain.before) ++ gs) r.goods)
    chain.holds.goods)

-- where it departed and arrived
record Passage (s : Setting) (events : List Happened) (k : ℕ) (link : LinkCfg) (hop : HopNumbers) (from : ℕ) (come_then : List Happened) (f : FrameAt) : Type 0 where
  sent_then : List Happened
  sent_tail : Tail events sent_then
  come_tail : Tail events come_then
  since : from ≤ length sent_then
  order : length sent_then ≤ length come_then
  way : (world_after s come_then).time ≡ (world_after s sent_then).time +ℤ delay_from (world_after s sent_then) k Master
  short : delay_from (world_after s sent_then) k Master ≤ℤ pos hop.reach
  stamp : IsWithin hop.parent.e_tx f.stamp (reading (world_after s sent_then) link.upper)

flew : (s : Setting) (events : List Happened) (k : ℕ) (link : LinkCfg) (hop : HopNumbers) (from : ℕ) (come_then : List Happened) (f : FrameAt) (p : Passage s events k link hop from come_then f) →
    FlewAt hop (moments_of s k link events) (length p.sent_then) (length come_then) (moment_at k link (world_after s p.sent_then)) (moment_at k link (world_after s come_then)) (delay_from (world_after s p.sent_then) k Master)
flew s events k link hop from come_then f p = record {
  was_sent = was_tail s k link events p.sent_then (length p.sent_then) (moment_at k link (world_after s p.sent_then)) p.sent_tail (was_here s k link p.sent_then);
  was_come = was_tail s k link events come_then (length come_then) (moment_at k link (world_after s come_then)) p.come_tail (was_here s k link come_then);
  order = p.order;
  time = p.way;
  short = p.short;
}

passage : HeldLaws → (s : Setting) (events : List Happened) (k : ℕ) (link : LinkCfg) (hop : HopNumbers) → link_of s k ≡ Some link → numbers_of s.cfg link.lower ≡ Some hop → (chain : ChainRuns s events k link hop) (older : List Happened) (held : HeldSync) →
    (h : HeldIs s k link hop older chain.start chain.before held) → Tail events (older ++ chain.start ∷ chain.before) → Passage s events k link hop (length chain.follows.older) (h.flight.chain ++ chain.start ∷ chain.before) h.handed.frame
passage laws s events k link hop is numbers chain older held h tail =
    let here : List Happened = older ++ chain.start ∷ chain.before in
    let f : FrameAt = h.handed.frame in
    let a : Arrival = h.handed.arrival in
    let run : IsRun s here = run_before s h.hands here h.run in
    let dep : DepartedSo s here f = (laws.flight.stamped s here h.handed.number f run h.handed.there).0 in
    let times : HasTimes (world_after s here) f = laws.flight.times s here h.handed.number f run h.handed.there in
    let arrives : _ = subst (λ o. IfSome o (λ z. (f.at ≤ℤ z.at) × (z.at ≤ℤ (world_after s here).time) × (f.moment ≤ z.moment) × (z.moment ≤ (world_after s here).count) × (z.at ≡ f.due))) h.handed.arrived times.arrived in
    let come : List Happened = h.flight.chain ++ chain.start ∷ chain.before in
    let sent : WorldAt = world_after s dep.older in
    let sent_in : Tail here dep.older = (dep.came.0 ++ dep.came.1 ∷ [], dep.came.2 ∙ one_list dep.came.0 dep.came.1 dep.older) in
    let come_in : Tail here come = (h.flight.newer, ap (λ l. l ++ chain.start ∷ chain.before) h.flight.splits ∙ append_assoc h.flight.newer h.flight.chain (chain.start ∷ chain.before)) in
    let moment : f.moment ≡ length dep.older = dep.moment ∙ count_is s dep.older in
    let after_source : length chain.follows.older ≤ f.moment =
    laws.follow s older (chain.start ∷ chain.before) k link chain.follows h.handed.number f a run h.handed.there h.handed.link_is h.handed.by_is h.handed.arrived
    (enough a.moment 0 h.flight.chain chain.start chain.before h.flight.moment) in
    let way : delay_from sent f.link f.by ≡ delay_from sent k Master = ap (λ l. delay_from sent l f.by) h.handed.link_is ∙ ap (delay_from sent k) h.handed.by_is in
    let carried : has_carrier s sent k ≡ true = subst (λ l. has_carrier s sent l ≡ true) h.handed.link_is dep.carried in
    let errors : HopHas s link hop = hop_has s run.network k link hop is numbers in
    let end : dep.end ≡ end_of Master link =
    same_Some dep.end (end_of Master link) (sym dep.end_is ∙ ap (λ l. end_at s l f.by) h.handed.link_is ∙ ap (end_at s k) h.handed.by_is ∙ end_is s k Master link is) in
    record {
      sent_then = dep.older;
      sent_tail = tail_of events here dep.older tail sent_in;
      come_tail = tail_of events here come tail come_in;
      since = subst (λ n. length chain.follows.older ≤ n) moment after_source;
      order = subst (λ n. n ≤ length come) moment (subst (λ n. f.moment ≤ n) h.flight.moment arrives.2);
      way = sym h.flight.at ∙ arrives.4 ∙ dep.due ∙ ap (λ d. f.at +ℤ d) way ∙ ap (λ t. t +ℤ delay_from sent k Master) dep.time;
      short =
          subst (λ n. delay_from sent k Master ≤ℤ pos n) (sym errors.reach_is)
          (laws.fibres s dep.older k link (tail_run s here dep.older sent_in run) is (and_parts (sent.fibre k).joined (ends_are_up sent.clock (link_of s k)) carried).0).reach_down;
      stamp =
          subst (λ n. IsWithin n f.stamp (reading sent link.upper)) (sym errors.parent_tx)
          (subst (λ (e : End). unsigned_abs (f.stamp -ℤ reading sent e.node) ≤ of_node (λ node. node.e_tx) s e.node) end dep.stamp);
    }

-- the stamp of its reception
received : HeldLaws → (s : Setting) (k : ℕ) (link : LinkCfg) (hop : HopNumbers) → link_of s k ≡ Some link → numbers_of s.cfg link.lower ≡ Some hop → (older : List Happened) (start : Happened) (before : List Happened) (held : HeldSync) (h : HeldIs s k link hop older start before held) →
    IsWithin hop.own.e_tag held.t2 (reading (world_after s (h.flight.chain ++ start ∷ before)) link.lower)
received laws s k link hop is numbers older start before held h =
    let here : List Happened = older ++ start ∷ before in
    let come : List Happened = h.flight.chain ++ start ∷ before in
    let a : Arrival = h.handed.arrival in
    let run : IsRun s here = run_before s h.hands here h.run in
    let split : here ≡ h.flight.newer ++ come = ap (λ l. l ++ start ∷ before) h.flight.splits ∙ append_assoc h.flight.newer h.flight.chain (start ∷ before) in
    let errors : HopHas s link hop = hop_has s run.network k link hop is numbers in
    let it : Arrived s come k Slave h.handed.frame a.raw = record {
      link_is = h.handed.link_is;
      by_is = h.handed.by_is;
      end = h.flight.end;
      end_is = h.flight.end_is;
      keeps = h.flight.raw;
      ranges = arrival_raw s here h.handed.number h.handed.frame a run h.handed.there h.handed.arrived;
    } in
    let near : IsWithin (of_node (λ node. node.e_tag) s link.lower) (received_stamp s (world_after s (h.flight.newer ++ come)) link a).value (reading (world_after s come) link.lower) =
    stamp_near laws.stamp s h.flight.newer come k Slave link h.handed.frame a.raw a.sample (subst (IsRun s) split run) is h.flight.carried it in
    subst (λ n. IsWithin n held.t2 (reading (world_after s come) link.lower)) (sym errors.own_tag)
    (subst (λ t. IsWithin (of_node (λ node. node.e_tag) s link.lower) t (reading (world_after s come) link.lower)) (sym h.t2)
    (subst (λ l. IsWithin (of_node (λ node. node.e_tag) s link.lower) (received_stamp s (world_after s l) link a).value (reading (world_after s come) link.lower)) (sym split) near))

-- the constant
pub held_tells : HeldLaws → (s : Setting) (events : List Happened) (k : ℕ) (link : LinkCfg) (hop : HopNumbers) → link_of s k ≡ Some link → numbers_of s.cfg link.lower ≡ Some hop → (chain : ChainRuns s events k link hop) (front older : List Happened) → chain.newer ≡ front ++ older →
    (held : HeldSync) (h : HeldIs s k link hop older chain.start chain.before held) → IsWithin (down_error hop) ((h.handed.frame.stamp -ℤ held.t2) +ℤ held.u2) chain.constant
held_tells laws s events k link hop is numbers chain front older e held h =
    let sb : List Happened = chain.start ∷ chain.before in
    let here : List Happened = older ++ sb in
    let come : List Happened = h.flight.chain ++ sb in
    let past : List Moment = moments_of s k link events in
    let tail : Tail events here = (front, chain.splits ∙ ap (λ l. l ++ sb) e ∙ append_assoc front older sb) in
    let p : Passage s events k link hop (length chain.follows.older) (h.flight.chain ++ chain.start ∷ chain.before) h.handed.frame = passage laws s events k link hop is numbers chain older held h tail in
    let whole : chain.newer ≡ (front ++ h.flight.newer) ++ h.flight.chain = e ∙ ap (λ l. front ++ l) h.flight.splits ∙ sym (append_assoc front h.flight.newer h.flight.chain) in
    let good : GoodTells hop past (length sb) chain.constant h.recent.newest = good_tells s events k link hop chain (front ++ h.flight.newer) h.flight.chain whole h.recent in
    let come_in : Tail here come = (h.flight.newer, ap (λ l. l ++ sb) h.flight.splits ∙ append_assoc h.flight.newer h.flight.chain sb) in
    let come_tail : Tail events come = tail_of events here come tail come_in in
    let same : good.moment ≡ h.recent.moment = was_one h.recent.newest.at good.moment h.recent.moment past good.was (was_tail s k link events come h.recent.newest.at h.recent.moment come_tail h.recent.was) in
    let newest : HasNewest s k link come = newest_moment s k link come in
    let order : h.recent.newest.at ≤ length come =
    fewer h.recent.newest.at (length (moments_of s k link come)) (length come) (was_at_most h.recent.newest.at h.recent.moment (moments_of s k link come) h.recent.was) (ap length newest.is ∙ ap suc newest.length_is) in
    let latched : LatchedAt hop past h.recent.newest (length come) good.moment (moment_at k link (world_after s come)) = record {
      was = good.was;
      order = order;
      near = subst (λ (m : Moment). (world_after s come).time ≤ℤ (m.time +ℤ pos hop.gap_time)) (sym same) h.recent.near;
    } in
    subst (λ u. IsWithin (down_error hop) ((h.handed.frame.stamp -ℤ held.t2) +ℤ u) chain.constant) (sym h.u)
    (laws.sync hop past (length chain.follows.older) (length sb) chain.constant h.handed.frame.stamp held.t2 h.recent.newest (length p.sent_then) (length come) (moment_at k link (world_after s p.sent_then)) good.moment (moment_at k link (world_after s come))
    chain.holds.limits good p.since (flew s events k link hop (length chain.follows.older) come h.handed.frame p) latched p.stamp
    (received laws s k link hop is numbers older chain.start chain.before held h))
