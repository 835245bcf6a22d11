-- What was there in a chain at each of its events: its samples, how near they are in time, and which frames its
-- exchange took.
use Rattle.std.proofs.Common.{◌≡◌, inl, inr, ◌∙◌, refl, ap, ap₂, sym, subst, ℕ, suc, ◌+◌, ◌*◌, ◌<◌, ◌≤◌, ℤ, pos, ◌+ℤ◌, ◌≤ℤ◌, true, List, [], ◌∷◌, ◌++◌, length, map, Option, None, Some, option_to_list, arith}
use Rattle.std.proofs.lemmas.Int.{ints}
use Rattle.std.proofs.lemmas.Option.{none-some}
use Rattle.wrp_network.specs.declared.network.LinkCfg.{LinkCfg}
use Rattle.wrp_base.specs.declared.time.Stamp.{Stamp}
use Rattle.wrp_base.proofs.Lists.{append_assoc}
use Rattle.wrp_base.proofs.Naturals.{nat_le_trans}
use Rattle.wrp_bounds.specs.Bounds.{numbers_of}
use Rattle.wrp_bounds.specs.declared.numbers.HopNumbers.{HopNumbers}
use Rattle.wrp_exch.specs.Call.{Call as Piece, CallStart, CallClear, CallSample as SamplePiece, CallSync, CallFollowUp, CallReqOut, CallReqSent, CallResp}
use Rattle.wrp_exch.specs.Chain.{first_sample}
use Rattle.wrp_exch.specs.declared.sync.HeldSync.{HeldSync}
use Rattle.wrp_exch.specs.declared.sync.SyncPair.{SyncPair}
use Rattle.wrp_exch.specs.Samples.{samples}
use Rattle.wrp_exch.specs.SyncPair.{followed_pair, kept_sync, last_sync, sync_pair}
use Rattle.wrp_tracking_laws.specs.Chain.{Good}
use Rattle.wrp_tracking_laws.specs.History.{Was}
use Rattle.wrp_tracking_laws.specs.Moment.{Moment}
use Rattle.wrp_tracking_laws.proofs.Histories.{was_one}
use Rattle.wrp_course.specs.Run.{Happened, world_after}
use Rattle.wrp_course.specs.Runs.{IsRun}
use Rattle.wrp_course.specs.Setting.{Setting, link_of}
use Rattle.wrp_bound_laws.specs.Chains.{AllFit, ChainRuns, good_in, goods_since}
use Rattle.wrp_bound_laws.specs.Exchanges.{exchange_at, ring_below}
use Rattle.wrp_bound_laws.specs.Moments.{AtEach}
use Rattle.wrp_bound_laws.specs.Rates.{HasChain}
use Rattle.wrp_bound_laws.specs.Views.{moment_at, moments_of}
use Rattle.wrp_bound_laws.proofs.Samples.ChainMoves.{HasNewest, newest_moment}
use Rattle.wrp_bound_laws.proofs.Runs.Suffixes.{older_run, run_before}
use Rattle.wrp_bound_laws.proofs.SyncPairs.SyncCalls.{IsWithin, first_stays, last_by, pair_by}
use Rattle.wrp_bound_laws.proofs.SyncPairs.SyncChains.{AllAbove, BringsGood, Falls, Standing, SyncChainLaws, brings_good, chain_up, falls_more, goods_in, one_start, samples_of, samples_up, stands_now, above_more}
use Rattle.wrp_bound_laws.proofs.SyncPairs.SyncGiven.{ComesOf, Grown, TakesFollowUp, TakesSync}
use Rattle.wrp_bound_laws.proofs.SyncPairs.SyncSamples.{Begun, begun, goods_more, grown, sample_of, samples_more}

-- A chain that is there, in a run

pub record InRun (s : Setting) (k : ℕ) (link : LinkCfg) (newer : List Happened) (start : Happened) (before : List Happened) : Type 0 where
  pub run : IsRun s (newer ++ start ∷ before)
  pub is : link_of s k ≡ Some link
  pub standing : Standing s link newer start before

pub earlier_in : (s : Setting) (k : ℕ) (link : LinkCfg) (h : Happened) (newer : List Happened) (start : Happened) (before : List Happened) → InRun s k link (h ∷ newer) start before → InRun s k link newer start before
earlier_in s k link h newer start before x = record {
  run = run_before s h (newer ++ start ∷ before) x.run;
  is = x.is;
  standing = record { stands = x.standing.stands.1; begins = x.standing.begins };
}

pub then_in : (s : Setting) (k : ℕ) (link : LinkCfg) (a newer : List Happened) (start : Happened) (before : List Happened) → InRun s k link (a ++ newer) start before → InRun s k link newer start before
then_in s k link [] newer start before x = x
then_in s k link (h ∷ a) newer start before x = then_in s k link a newer start before (earlier_in s k link h (a ++ newer) start before x)

pub began : SyncChainLaws → (s : Setting) (k : ℕ) (link : LinkCfg) (newer : List Happened) (start : Happened) (before : List Happened) → InRun s k link newer start before → Begun s start before link
began laws s k link newer start before x =
    begun laws.given laws.chains.lease.quiet.ends s start before k link (older_run s newer (start ∷ before) x.run) x.is x.standing.begins (first_stands newer x.standing.stands)
  where
    first_stands : (l : List Happened) → AtEach (HasChain s link.lower) l (start ∷ before) → HasChain s link.lower (start ∷ before)
    first_stands [] h = h
    first_stands (a ∷ l) h = first_stands l h.1

pub grew : SyncChainLaws → (s : Setting) (k : ℕ) (link : LinkCfg) (h : Happened) (newer : List Happened) (start : Happened) (before : List Happened) → InRun s k link (h ∷ newer) start before →
    Grown s (newer ++ start ∷ before) h k link ((world_after s (h ∷ (newer ++ start ∷ before))).node link.lower)
grew laws s k link h newer start before x =
    let l : List Happened = newer ++ start ∷ before in
    let y : InRun s k link newer start before = earlier_in s k link h newer start before x in
    let was : HasChain s link.lower l = stands_now s link newer start before y.standing in
    grown laws.given laws.chains.lease.quiet.ends s h l k link x.run x.is (chain_up laws.chains s l k link y.run x.is was) was x.standing.stands.0

pub up_each : SyncChainLaws → (s : Setting) (k : ℕ) (link : LinkCfg) (newer older : List Happened) → IsRun s (newer ++ older) → link_of s k ≡ Some link → AtEach (HasChain s link.lower) newer older →
    AtEach (λ l. ((world_after s l).clock link.lower).up ≡ true) newer older
up_each laws s k link [] older run is h = chain_up laws.chains s older k link run is h
up_each laws s k link (x ∷ newer) older run is h = (chain_up laws.chains s (x ∷ (newer ++ older)) k link run is h.0, up_each laws s k link newer older (run_before s x (newer ++ older) run) is h.1)

-- Its samples

within : (s : Setting) (before : List Happened) (h : Happened) (k : ℕ) (link : LinkCfg) (o : Option Piece) → ComesOf s before h k link o → IsWithin o
within s before h k link None c = tt
within s before h k link (Some (CallStart first)) c = c
within s before h k link (Some CallClear) c = c
within s before h k link (Some (SamplePiece number u)) c = tt
within s before h k link (Some (CallSync seq correction t2 tick)) c = tt
within s before h k link (Some (CallFollowUp seq precise)) c = tt
within s before h k link (Some (CallReqOut seq)) c = tt
within s before h k link (Some (CallReqSent seq t3 tick)) c = tt
within s before h k link (Some (CallResp seq t4)) c = tt

pub first_is : (laws : SyncChainLaws) (s : Setting) (k : ℕ) (link : LinkCfg) (newer : List Happened) (start : Happened) (before : List Happened) (x : InRun s k link newer start before) (b : Begun s start before link) →
    first_sample (exchange_at s link (newer ++ start ∷ before)) ≡ Some b.good.number
first_is laws s k link [] start before x b = ap first_sample b.adds
first_is laws s k link (h ∷ newer) start before x b =
    let g : Grown s (newer ++ start ∷ before) h k link ((world_after s (h ∷ (newer ++ start ∷ before))).node link.lower) = grew laws s k link h newer start before x in
    ap first_sample g.adds ∙ first_stays (exchange_at s link (newer ++ start ∷ before)) g.piece (within s (newer ++ start ∷ before) h k link g.piece g.comes)
    ∙ first_is laws s k link newer start before (earlier_in s k link h newer start before x) b

pub samples_are : (laws : SyncChainLaws) (s : Setting) (k : ℕ) (link : LinkCfg) (newer : List Happened) (start : Happened) (before : List Happened) (x : InRun s k link newer start before) (b : Begun s start before link) →
    samples (exchange_at s link (newer ++ start ∷ before)) ≡ map sample_of (goods_since s link.lower newer (start ∷ before)) ++ samples (exchange_at s link before)
samples_are laws s k link [] start before x b = ap samples b.adds ∙ ap (λ o. map sample_of (option_to_list o) ++ samples (exchange_at s link before)) (sym b.is)
samples_are laws s k link (h ∷ newer) start before x b =
    let l : List Happened = newer ++ start ∷ before in
    let g : Grown s l h k link ((world_after s (h ∷ l)).node link.lower) = grew laws s k link h newer start before x in
    let o : Option Good = good_in s link.lower h l h.event in
    ap samples g.adds ∙ samples_more s l h k link g.piece (exchange_at s link l) g.comes
    ∙ ap (λ z. map sample_of (option_to_list o) ++ z) (samples_are laws s k link newer start before (earlier_in s k link h newer start before x) b)
    ∙ goods_more o (goods_since s link.lower newer (start ∷ before)) (samples (exchange_at s link before))

-- they fall, and are above those before the chain
falls_on : (n m : ℕ) (o : Option Good) (gs : List Good) → n ≤ m → ((g : Good) → o ≡ Some g → (g.number ≡ n) × (g.number < m)) → Falls n gs → Falls m (option_to_list o ++ gs)
falls_on n m None gs l h k = falls_more n m gs l k
falls_on n m (Some g) gs l h k = ((h g refl).1, subst (λ z. Falls z gs) (sym (h g refl).0) k)

bump : (a b : ℕ) → a ≤ b → a + 1 ≤ b + 1
bump a b h = omega (arith, h)

under : (g a b : ℕ) → g ≡ a + 1 → b ≡ a + 1 → g < b + 1
under g a b e f = omega (arith, e, f)

above_next : (a g : ℕ) → g ≡ a + 1 → a < g
above_next a g e = omega (arith, e)

pub goods_fall : (laws : SyncChainLaws) (s : Setting) (k : ℕ) (link : LinkCfg) (newer : List Happened) (start : Happened) (before : List Happened) (x : InRun s k link newer start before) (b : Begun s start before link) →
    Falls (samples_of s (newer ++ start ∷ before) link.lower + 1) (goods_since s link.lower newer (start ∷ before))
goods_fall laws s k link [] start before x b =
    let it : BringsGood s start before link.lower b.good = brings_good s start before link.lower b.good b.is in
    subst (λ o. Falls (samples_of s (start ∷ before) link.lower + 1) (option_to_list o)) (sym b.is) (under b.good.number (samples_of s before link.lower) (samples_of s (start ∷ before) link.lower) it.number it.samples, tt)
goods_fall laws s k link (h ∷ newer) start before x b =
    let l : List Happened = newer ++ start ∷ before in
    let n : ℕ = link.lower in
    let y : InRun s k link newer start before = earlier_in s k link h newer start before x in
    falls_on (samples_of s l n + 1) (samples_of s (h ∷ l) n + 1) (good_in s n h l h.event) (goods_since s n newer (start ∷ before))
    (bump (samples_of s l n) (samples_of s (h ∷ l) n) (samples_up s h l n x.run (chain_up laws.chains s l k link y.run x.is (stands_now s link newer start before y.standing))))
    (λ g e.
    let it : BringsGood s h l n g = brings_good s h l n g e in
    (it.number, under g.number (samples_of s l n) (samples_of s (h ∷ l) n) it.number it.samples))
    (goods_fall laws s k link newer start before y b)

past_first : (a b g : ℕ) → a ≤ b → g ≡ b + 1 → a < g
past_first a b g h e = omega (arith, h, e)

one_up : (a b : ℕ) → b ≡ a + 1 → a ≤ b
one_up a b e = omega (arith, e)

pub counted_since : (laws : SyncChainLaws) (s : Setting) (k : ℕ) (link : LinkCfg) (newer : List Happened) (start : Happened) (before : List Happened) (x : InRun s k link newer start before) (b : Begun s start before link) →
    samples_of s before link.lower ≤ samples_of s (newer ++ start ∷ before) link.lower
counted_since laws s k link [] start before x b = one_up (samples_of s before link.lower) (samples_of s (start ∷ before) link.lower) (brings_good s start before link.lower b.good b.is).samples
counted_since laws s k link (h ∷ newer) start before x b =
    let l : List Happened = newer ++ start ∷ before in
    let n : ℕ = link.lower in
    let y : InRun s k link newer start before = earlier_in s k link h newer start before x in
    nat_le_trans (samples_of s before n) (samples_of s l n) (samples_of s (h ∷ l) n) (counted_since laws s k link newer start before y b)
    (samples_up s h l n x.run (chain_up laws.chains s l k link y.run x.is (stands_now s link newer start before y.standing)))

pub goods_past : (laws : SyncChainLaws) (s : Setting) (k : ℕ) (link : LinkCfg) (newer : List Happened) (start : Happened) (before : List Happened) (x : InRun s k link newer start before) (b : Begun s start before link) →
    AllAbove (samples_of s before link.lower) (goods_since s link.lower newer (start ∷ before))
goods_past laws s k link [] start before x b =
    subst (λ o. AllAbove (samples_of s before link.lower) (option_to_list o)) (sym b.is) (above_next (samples_of s before link.lower) b.good.number b.number_is, tt)
goods_past laws s k link (h ∷ newer) start before x b =
    let l : List Happened = newer ++ start ∷ before in
    let n : ℕ = link.lower in
    let y : InRun s k link newer start before = earlier_in s k link h newer start before x in
    above_more (samples_of s before n) (good_in s n h l h.event) (goods_since s n newer (start ∷ before))
    (λ g e. past_first (samples_of s before n) (samples_of s l n) g.number (counted_since laws s k link newer start before y b) (brings_good s h l n g e).number)
    (goods_past laws s k link newer start before y b)

-- The Syncs and the Follow_Ups that it took

-- one event handed over a Sync, which is kept like this
pub record SyncCame (s : Setting) (k : ℕ) (link : LinkCfg) (newer : List Happened) (start : Happened) (before : List Happened) (held : HeldSync) : Type 0 where
  pub since : List Happened
  pub hands : Happened
  pub older : List Happened
  pub splits : newer ≡ since ++ hands ∷ older
  pub seq : ℕ
  pub correction : ℤ
  pub t2 : Stamp
  pub tick : ℕ
  pub kept : kept_sync (ring_below s link) (exchange_at s link (older ++ start ∷ before)) seq correction t2 tick ≡ Some held
  pub takes : TakesSync s (older ++ start ∷ before) hands k link seq correction t2

pub sync_came : SyncChainLaws → (s : Setting) (k : ℕ) (link : LinkCfg) (newer : List Happened) (start : Happened) (before : List Happened) → InRun s k link newer start before → Begun s start before link → (held : HeldSync) →
    last_sync (ring_below s link) (exchange_at s link (newer ++ start ∷ before)) ≡ Some held → SyncCame s k link newer start before held
sync_came laws s k link [] start before x b held e = absurd (none-some held (sym (ap (last_sync (ring_below s link)) b.adds) ∙ e))
sync_came laws s k link (h ∷ newer) start before x b held e =
    let l : List Happened = newer ++ start ∷ before in
    let g : Grown s l h k link ((world_after s (h ∷ l)).node link.lower) = grew laws s k link h newer start before x in
    elim (last_by (ring_below s link) (exchange_at s link l) g.piece held (within s l h k link g.piece g.comes) (sym (ap (last_sync (ring_below s link)) g.adds) ∙ e)) [
      | inl now ↦
          record {
            since = [];
            hands = h;
            older = newer;
            splits = refl;
            seq = now.seq;
            correction = now.correction;
            t2 = now.t2;
            tick = now.tick;
            kept = now.kept;
            takes = (subst (ComesOf s l h k link) now.is g.comes).1;
          }
      | inr old ↦
          let it : SyncCame s k link newer start before held = sync_came laws s k link newer start before (earlier_in s k link h newer start before x) b held old in
          record {
            since = h ∷ it.since;
            hands = it.hands;
            older = it.older;
            splits = ap (λ z. h ∷ z) it.splits;
            seq = it.seq;
            correction = it.correction;
            t2 = it.t2;
            tick = it.tick;
            kept = it.kept;
            takes = it.takes;
          }
    ]

-- one event handed over the Follow_Up that made a pair
pub record PairCame (s : Setting) (k : ℕ) (link : LinkCfg) (newer : List Happened) (start : Happened) (before : List Happened) (p : SyncPair) : Type 0 where
  pub since : List Happened
  pub hands : Happened
  pub older : List Happened
  pub splits : newer ≡ since ++ hands ∷ older
  pub seq : ℕ
  pub precise : ℤ
  pub pair : followed_pair (ring_below s link) (exchange_at s link (older ++ start ∷ before)) seq precise ≡ Some p
  pub takes : TakesFollowUp s (older ++ start ∷ before) hands k link seq precise

pub pair_came : SyncChainLaws → (s : Setting) (k : ℕ) (link : LinkCfg) (newer : List Happened) (start : Happened) (before : List Happened) → InRun s k link newer start before → Begun s start before link → (p : SyncPair) →
    sync_pair (ring_below s link) (exchange_at s link (newer ++ start ∷ before)) ≡ Some p → PairCame s k link newer start before p
pair_came laws s k link [] start before x b p e = absurd (none-some p (sym (ap (sync_pair (ring_below s link)) b.adds) ∙ e))
pair_came laws s k link (h ∷ newer) start before x b p e =
    let l : List Happened = newer ++ start ∷ before in
    let g : Grown s l h k link ((world_after s (h ∷ l)).node link.lower) = grew laws s k link h newer start before x in
    elim (pair_by (ring_below s link) (exchange_at s link l) g.piece p (within s l h k link g.piece g.comes) (sym (ap (sync_pair (ring_below s link)) g.adds) ∙ e)) [
      | inl now ↦
          record {
            since = [];
            hands = h;
            older = newer;
            splits = refl;
            seq = now.seq;
            precise = now.precise;
            pair = now.pair;
            takes = (subst (ComesOf s l h k link) now.is g.comes).1;
          }
      | inr old ↦
          let it : PairCame s k link newer start before p = pair_came laws s k link newer start before (earlier_in s k link h newer start before x) b p old in
          record {
            since = h ∷ it.since;
            hands = it.hands;
            older = it.older;
            splits = ap (λ z. h ∷ z) it.splits;
            seq = it.seq;
            precise = it.precise;
            pair = it.pair;
            takes = it.takes;
          }
    ]

-- The moments of its samples

pub was_here : (s : Setting) (k : ℕ) (link : LinkCfg) (events : List Happened) → Was (moments_of s k link events) (length events) (moment_at k link (world_after s events))
was_here s k link events =
    let it : HasNewest s k link events = newest_moment s k link events in
    subst (λ ms. Was ms (length events) (moment_at k link (world_after s events))) (sym it.is) (inl (sym it.length_is, refl))

pub was_then : (s : Setting) (k : ℕ) (link : LinkCfg) (newer older : List Happened) (i : ℕ) (m : Moment) → Was (moments_of s k link older) i m → Was (moments_of s k link (newer ++ older)) i m
was_then s k link [] older i m h = h
was_then s k link (x ∷ newer) older i m h = inr (was_then s k link newer older i m h)

-- the newest is no longer ago than the gap
pub record Recent (s : Setting) (k : ℕ) (link : LinkCfg) (hop : HopNumbers) (newer : List Happened) (start : Happened) (before : List Happened) : Type 0 where
  pub newest : Good
  pub earlier : List Good
  pub goods : goods_since s link.lower newer (start ∷ before) ≡ newest ∷ earlier
  pub moment : Moment
  pub was : Was (moments_of s k link (newer ++ start ∷ before)) newest.at moment
  pub near : (world_after s (newer ++ start ∷ before)).time ≤ℤ (moment.time +ℤ pos hop.gap_time)

pub fit_then : (newer older : List Happened) → AllFit (newer ++ older) → AllFit older
fit_then [] older h = h
fit_then (x ∷ newer) older h = fit_then newer older h.1

pub recent : SyncChainLaws → (s : Setting) (k : ℕ) (link : LinkCfg) (hop : HopNumbers) (newer : List Happened) (start : Happened) (before : List Happened) → InRun s k link newer start before → AllFit (newer ++ start ∷ before) → numbers_of s.cfg link.lower ≡ Some hop →
    Recent s k link hop newer start before
recent laws s k link hop newer start before x fit numbers =
    let events : List Happened = newer ++ start ∷ before in
    let c : ChainRuns s events k link hop = laws.constant s events k link hop x.run fit x.is numbers (stands_now s link newer start before x.standing) in
    let one : _ = one_start s link newer c.newer start c.start before c.before c.splits x.standing (record { stands = c.stands; begins = c.begins }) in
    record {
      newest = c.newest;
      earlier = c.earlier;
      goods =
          ap₂ (λ (a l : List Happened). goods_since s link.lower a l) one.0 (ap₂ (λ (y : Happened) (l : List Happened). y ∷ l) one.1.0 one.1.1)
          ∙ sym c.goods;
      moment = c.holds.moment;
      was = c.holds.was;
      near = c.recent;
    }

first_of : (a b : Good) (xs ys : List Good) → a ∷ xs ≡ b ∷ ys → a ≡ b
first_of a b xs ys e = cc

zero_on : (t : ℤ) (g : ℕ) → t ≤ℤ (t +ℤ pos (0 * g))
zero_on t g = grind (arith, ints)

one_gap : (now last at : ℤ) (n g : ℕ) → now ≤ℤ (last +ℤ pos g) → last ≤ℤ (at +ℤ pos (n * g)) → now ≤ℤ (at +ℤ pos (suc n * g))
one_gap now last at n g h k =
    let more : suc n * g ≡ n * g + g = grind (arith) in
    sum now last at (n * g) (suc n * g) g more h k
  where
    sum : (now last at : ℤ) (p q g : ℕ) → q ≡ p + g → now ≤ℤ (last +ℤ pos g) → last ≤ℤ (at +ℤ pos p) → now ≤ℤ (at +ℤ pos q)
    sum now last at p q g e h k = omega (arith, ints)

-- of the older part of a chain, and of all of it: this many gaps lie between
abbrev Between : Setting → ℕ → LinkCfg → HopNumbers → (a c : List Happened) → Happened → List Happened → ℤ → Type 0
Between s k link hop a c start before at =
    (now : Recent s k link hop (a ++ c) start before) → now.moment.time ≤ℤ (at +ℤ pos (length (goods_in s link.lower a (c ++ start ∷ before)) * hop.gap_time))

good_between : SyncChainLaws → (s : Setting) (k : ℕ) (link : LinkCfg) (hop : HopNumbers) (h : Happened) (a c : List Happened) (start : Happened) (before : List Happened) (at : ℤ) (o : Option Good) → good_in s link.lower h ((a ++ c) ++ start ∷ before) h.event ≡ o →
    good_in s link.lower h (a ++ (c ++ start ∷ before)) h.event ≡ o → (last : Recent s k link hop (a ++ c) start before) → last.moment.time ≤ℤ (at +ℤ pos (length (goods_in s link.lower a (c ++ start ∷ before)) * hop.gap_time)) → Between s k link hop (h ∷ a) c start before at
good_between laws s k link hop h a c start before at None e f last known now =
    let same : last.newest ≡ now.newest = first_of last.newest now.newest last.earlier now.earlier (sym last.goods ∙ sym (ap (λ o. option_to_list o ++ goods_since s link.lower (a ++ c) (start ∷ before)) e) ∙ now.goods) in
    let moment : last.moment ≡ now.moment = was_one now.newest.at last.moment now.moment (moments_of s k link (h ∷ ((a ++ c) ++ start ∷ before))) (inr (subst (λ (g : Good). Was (moments_of s k link ((a ++ c) ++ start ∷ before)) g.at last.moment) same last.was)) now.was in
    subst (λ o. now.moment.time ≤ℤ (at +ℤ pos (length (option_to_list o ++ goods_in s link.lower a (c ++ start ∷ before)) * hop.gap_time))) (sym f)
    (subst (λ (m : Moment). m.time ≤ℤ (at +ℤ pos (length (goods_in s link.lower a (c ++ start ∷ before)) * hop.gap_time))) moment known)
good_between laws s k link hop h a c start before at (Some g) e f last known now =
    let l : List Happened = (a ++ c) ++ start ∷ before in
    let it : BringsGood s h l link.lower g = brings_good s h l link.lower g e in
    let same : g ≡ now.newest = first_of g now.newest (goods_since s link.lower (a ++ c) (start ∷ before)) now.earlier (sym (ap (λ o. option_to_list o ++ goods_since s link.lower (a ++ c) (start ∷ before)) e) ∙ now.goods) in
    let here : Was (moments_of s k link (h ∷ l)) now.newest.at (moment_at k link (world_after s (h ∷ l))) =
    subst (λ i. Was (moments_of s k link (h ∷ l)) i (moment_at k link (world_after s (h ∷ l)))) (sym it.at ∙ ap (λ (z : Good). z.at) same) (was_here s k link (h ∷ l)) in
    let moment : moment_at k link (world_after s (h ∷ l)) ≡ now.moment = was_one now.newest.at (moment_at k link (world_after s (h ∷ l))) now.moment (moments_of s k link (h ∷ l)) here now.was in
    let near : (world_after s (h ∷ l)).time ≤ℤ (last.moment.time +ℤ pos hop.gap_time) = subst (λ t. t ≤ℤ (last.moment.time +ℤ pos hop.gap_time)) (sym it.time) last.near in
    subst (λ o. now.moment.time ≤ℤ (at +ℤ pos (length (option_to_list o ++ goods_in s link.lower a (c ++ start ∷ before)) * hop.gap_time))) (sym f)
    (subst (λ (m : Moment). m.time ≤ℤ (at +ℤ pos (suc (length (goods_in s link.lower a (c ++ start ∷ before))) * hop.gap_time))) moment
    (one_gap (world_after s (h ∷ l)).time last.moment.time at (length (goods_in s link.lower a (c ++ start ∷ before))) hop.gap_time near known))

pub between : SyncChainLaws → (s : Setting) (k : ℕ) (link : LinkCfg) (hop : HopNumbers) (a c : List Happened) (start : Happened) (before : List Happened) → InRun s k link (a ++ c) start before → AllFit ((a ++ c) ++ start ∷ before) → numbers_of s.cfg link.lower ≡ Some hop →
    (first : Recent s k link hop c start before) → Between s k link hop a c start before first.moment.time
between laws s k link hop [] c start before x fit numbers first now =
    let same : first.newest ≡ now.newest = first_of first.newest now.newest first.earlier now.earlier (sym first.goods ∙ now.goods) in
    let moment : first.moment ≡ now.moment = was_one now.newest.at first.moment now.moment (moments_of s k link (c ++ start ∷ before)) (subst (λ (g : Good). Was (moments_of s k link (c ++ start ∷ before)) g.at first.moment) same first.was) now.was in
    subst (λ (m : Moment). m.time ≤ℤ (first.moment.time +ℤ pos (0 * hop.gap_time))) moment (zero_on first.moment.time hop.gap_time)
between laws s k link hop (h ∷ a) c start before x fit numbers first now =
    let y : InRun s k link (a ++ c) start before = earlier_in s k link h (a ++ c) start before x in
    let last : Recent s k link hop (a ++ c) start before = recent laws s k link hop (a ++ c) start before y fit.1 numbers in
    good_between laws s k link hop h a c start before first.moment.time (good_in s link.lower h ((a ++ c) ++ start ∷ before) h.event) refl
    (ap (λ l. good_in s link.lower h l h.event) (sym (append_assoc a c (start ∷ before)))) last (between laws s k link hop a c start before y fit.1 numbers first last) now
