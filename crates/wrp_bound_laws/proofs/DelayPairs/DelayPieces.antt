-- The Delay_Req that a slave's exchange waits for: whatever departs, or is answered, with its id is this Delay_Req.
use Rattle.std.proofs.Common.{◌≡◌, ◌⊎◌, inl, inr, ◌∙◌, refl, ap, sym, subst, ℕ, suc, ◌+◌, ◌*◌, ◌<◌, ◌≤◌, min, ℤ, pos, ◌+ℤ◌, ◌≤ℤ◌, unsigned_abs, List, [], ◌∷◌, ◌++◌, length, Option, None, Some, option_to_list, arith}
use Rattle.std.proofs.lemmas.Int.{ints}
use Rattle.std.specs.List.{AllByRecursion}
use Rattle.wrp_base.specs.declared.link.Role.TheVariants.{Slave}
use Rattle.wrp_network.specs.declared.network.LinkCfg.{LinkCfg}
use Rattle.wrp_base.proofs.Lists.{heads, tails}
use Rattle.wrp_bounds.specs.Times.{frame_life, gap_time, shortest_tick}
use Rattle.wrp_tracking_laws.specs.Chain.{DelayTellsWays, Good}
use Rattle.wrp_tracking_laws.specs.History.{Was}
use Rattle.wrp_course.specs.declared.event.Event.{Event}
use Rattle.wrp_course.specs.declared.event.Event.TheVariants.{Deliver, Depart}
use Rattle.wrp_bound_laws.proofs.SyncPairs.SyncPasts.{was_then as was_later}
use Rattle.wrp_course.specs.Given.{given_by}
use Rattle.wrp_course.specs.Moved.{moved}
use Rattle.wrp_course.specs.Run.{Happened, world_after}
use Rattle.wrp_course.specs.RunLaws.{FramesHaveTimes, FramesWerePutOut}
use Rattle.wrp_course.specs.Runs.{IsRun, WasPutOut}
use Rattle.wrp_course.specs.RunStamps.{FramesAreStamped}
use Rattle.wrp_course.specs.Setting.{Setting, link_of}
use Rattle.wrp_course.specs.WorldAt.{Sending, WorldAt}
use Rattle.wrp_course.proofs.RunTimes.{all_given_time}
use Rattle.wrp_bound_laws.specs.Chains.{ChainHasConstant, good_in, goods_since}
use Rattle.wrp_bound_laws.specs.Fibres.{FibresKeepTheirShare}
use Rattle.wrp_bound_laws.specs.Moments.{AtEach}
use Rattle.wrp_bound_laws.specs.OneMessage.{NewestRequest}
use Rattle.wrp_bound_laws.specs.SequenceIds.{IdsComeAgainLate, IsOpenAt, OneTimedAnEvent}
use Rattle.wrp_bound_laws.specs.Views.{moment_at, moments_of}
use Rattle.wrp_bound_laws.proofs.Frames.ArrivalStamps.{StampLaws}
use Rattle.wrp_bound_laws.proofs.Samples.ChainMoves.{HasNewest, newest_moment}
use Rattle.wrp_bound_laws.proofs.DelayPairs.DelayNewest.{known_moment}
use Rattle.wrp_bound_laws.proofs.DelayPairs.DelayOpen.{OpenLaws}
use Rattle.wrp_bound_laws.proofs.DelayPairs.DelaySamples.{SampleLaws}
use Rattle.wrp_bound_laws.proofs.Schedules.OpenPorts.{open_since}
use Rattle.wrp_bound_laws.proofs.Frames.Sendings.{WasPut, was_put}
use Rattle.wrp_bound_laws.proofs.Runs.Suffixes.{at_newest}
use Rattle.wrp_bound_laws.proofs.Frames.TimedTicks.{sent_timed}
use Rattle.wrp_bound_laws.proofs.Nodes.StepSends.{IsRequest}

-- the laws that this rests on
pub record DelayLaws : Type 0 where
  pub opens : OpenLaws
  pub stamps : StampLaws
  pub samples : SampleLaws
  pub put : FramesWerePutOut
  pub times : FramesHaveTimes
  pub stamped : FramesAreStamped
  pub fibres : FibresKeepTheirShare
  pub constant : ChainHasConstant
  pub once : OneTimedAnEvent
  pub late : IdsComeAgainLate
  pub tells : DelayTellsWays

-- Lists of events

pub behind : {A : Type 0} (a b : List A) → length b ≤ length (a ++ b)
behind [] b = omega arith
behind (y ∷ a) b = let h : length b ≤ length (a ++ b) = behind a b in omega (arith, h)

shorter : (m n l : ℕ) → m ≤ n → l ≡ suc n → l ≤ m → ⊥
shorter m n l h f g = omega (arith, h, f, g)

same_length : (m n l : ℕ) → m ≤ n → l ≡ suc n → l ≡ m → ⊥
same_length m n l h f g = omega (arith, h, f, g)

-- two ends of one list, of which the first is not the shorter one
pub record LongerEnd {A : Type 0} (a b newer older : List A) : Type 0 where
  pub between : List A
  pub is : b ≡ between ++ older
  pub first : newer ≡ a ++ between

pub longer_end : {A : Type 0} (a b newer older : List A) → a ++ b ≡ newer ++ older → length older ≤ length b → LongerEnd a b newer older
longer_end [] b newer older e le = record { between = newer; is = e; first = refl }
longer_end (x ∷ a) b [] older e le = absurd (shorter (length b) (length (a ++ b)) (length older) (behind a b) (ap length (sym e)) le)
longer_end (x ∷ a) b (y ∷ newer) older e le =
    let it : LongerEnd a b newer older = longer_end a b newer older (tails x y (a ++ b) (newer ++ older) e) le in
    record { between = it.between; is = it.is; first = ap (λ l. y ∷ l) it.first ∙ ap (λ z. z ∷ (a ++ it.between)) (sym (heads x y (a ++ b) (newer ++ older) e)) }

-- two ends of the same length are one
pub same_end : {A : Type 0} (a b c d : List A) → a ++ b ≡ c ++ d → length b ≡ length d → b ≡ d
same_end [] b [] d e n = e
same_end [] b (y ∷ c) d e n = absurd (same_length (length d) (length (c ++ d)) (length b) (behind c d) (ap length e) n)
same_end (x ∷ a) b [] d e n = absurd (same_length (length b) (length (a ++ b)) (length d) (behind a b) (ap length (sym e)) (sym n))
same_end (x ∷ a) b (y ∷ c) d e n = same_end a b c d (tails x y (a ++ b) (c ++ d) e) n

-- what holds since its last beginning begins once
pub one_start : (P : List Happened → Type 0) (newer : List Happened) (start : Happened) (before : List Happened) (other : List Happened) (first : Happened) (older : List Happened) → newer ++ start ∷ before ≡ other ++ first ∷ older →
    AtEach P newer (start ∷ before) → AtEach P other (first ∷ older) → (P before → ⊥) → (P older → ⊥) → (newer ≡ other) × (start ∷ before ≡ first ∷ older)
one_start P [] start before [] first older e h k not_first none = (refl, e)
one_start P [] start before (y ∷ other) first older e h k not_first none =
    absurd (not_first (subst P (sym (tails start y before (other ++ first ∷ older) e)) (at_newest P other (first ∷ older) k.1)))
one_start P (x ∷ newer) start before [] first older e h k not_first none =
    absurd (none (subst P (tails x first (newer ++ start ∷ before) older e) (at_newest P newer (start ∷ before) h.1)))
one_start P (x ∷ newer) start before (y ∷ other) first older e h k not_first none =
    let it : (newer ≡ other) × (start ∷ before ≡ first ∷ older) = one_start P newer start before other first older (tails x y (newer ++ start ∷ before) (other ++ first ∷ older) e) h.1 k.1 not_first none in
    (ap (λ l. x ∷ l) it.0 ∙ ap (λ z. z ∷ other) (heads x y (newer ++ start ∷ before) (other ++ first ∷ older) e), it.1)

-- Histories

pub was_then : (s : Setting) (k : ℕ) (link : LinkCfg) (newer older : List Happened) → Was (moments_of s k link (newer ++ older)) (length older) (moment_at k link (world_after s older))
was_then s k link newer older =
    let it : HasNewest s k link older = newest_moment s k link older in
    was_later s k link newer older (length older) (moment_at k link (world_after s older))
    (subst (λ ms. Was ms (length older) (moment_at k link (world_after s older))) (sym it.is) (inl (sym it.length_is, refl)))

-- the good samples of a later part of a chain are among all of them
pub later_goods : (P : Good → Type 0) (s : Setting) (n : ℕ) (a b older : List Happened) → AllByRecursion P (goods_since s n (a ++ b) older) → AllByRecursion P (goods_since s n b older)
later_goods P s n [] b older h = h
later_goods P s n (x ∷ a) b older h = later_goods P s n a b older (more P (good_in s n x ((a ++ b) ++ older) x.event) (goods_since s n (a ++ b) older) h)
  where
    more : (Q : Good → Type 0) (o : Option Good) (gs : List Good) → AllByRecursion Q (option_to_list o ++ gs) → AllByRecursion Q gs
    more Q None gs k = k
    more Q (Some g) gs k = k.1

-- Ids

pub less_or_same : (a b : ℕ) → a ≤ b → (a < b) ⊎ (a ≡ b)
less_or_same a b h = grind (arith, h)

too_soon : (a x now : ℤ) (life span more : ℕ) → more + 4 * life < span → (a +ℤ pos span) ≤ℤ x → x ≤ℤ now → now ≤ℤ (a +ℤ pos (2 * life)) → ⊥
too_soon a x now life span more room h k l = omega (arith, ints, room, h, k, l)

-- a Delay_Req of the slave with the id of another one, put out at most two frame's lives ago
pub record Comes (s : Setting) (events : List Happened) (k : ℕ) (x y : Sending) : Type 0 where
  pub request : IsRequest y.message.body
  pub put : WasPutOut y ((world_after s events).end_at k Slave).sent
  pub seq : y.message.head.seq ≡ x.message.head.seq
  pub young : (world_after s events).time ≤ℤ (y.at +ℤ pos (2 * frame_life s.cfg))

-- is the newest, if the other one is
pub same_request : DelayLaws → (s : Setting) (events : List Happened) (k : ℕ) (link : LinkCfg) (x y : Sending) → IsRun s events → link_of s k ≡ Some link → IsOpenAt s link Slave events → NewestRequest s events k x → Comes s events k x y → y ≡ x
same_request laws s events k link x y run is takes newest comes =
    let it : WasPut s events k Slave y = was_put s events k Slave y comes.put in
    let then_open : IsOpenAt s link Slave it.older = (sent_timed laws.opens.quiet.links s it.older k Slave link y is comes.request it.in_it).open_then in
    elim (less_or_same y.moment x.moment (newest.newest y comes.put comes.request)) [
      | inl less ↦
          let whole : IsRun s (it.newer ++ it.older) = subst (IsRun s) it.splits run in
          let still : AtEach (IsOpenAt s link Slave) it.newer it.older =
          open_since laws.opens.quiet s it.newer it.older Slave link whole then_open (subst (IsOpenAt s link Slave) it.splits takes)
          (subst (λ l. (world_after s l).time ≤ℤ ((world_after s it.older).time +ℤ pos (2 * frame_life s.cfg))) it.splits (subst (λ t. (world_after s events).time ≤ℤ (t +ℤ pos (2 * frame_life s.cfg))) it.in_it.at comes.young)) in
          absurd (too_soon y.at x.at (world_after s events).time (frame_life s.cfg) (65_000 * min (unsigned_abs s.cfg.sync) (unsigned_abs s.cfg.delay) * shortest_tick s.cfg) (unsigned_abs s.cfg.ring * gap_time s.cfg)
          run.network.accepted.inequalities.id_reuse
          (laws.late s it.newer it.older k link Slave y x whole is it.in_it.put it.in_it.moment (subst (λ l. WasPutOut x ((world_after s l).end_at k Slave).sent) it.splits newest.put) comes.request newest.request comes.seq still less)
          (known_moment s events k Slave x run newest.put).1 comes.young)
      | inr same ↦ laws.once s events k link Slave y x run is comes.put newest.put comes.request newest.request same
    ]

-- no time passes
pub still_deliver : (s : Setting) (h : Happened) (before : List Happened) (i : ℕ) → h.event ≡ Deliver i → (world_after s (h ∷ before)).time ≡ (world_after s before).time
still_deliver s h before i e =
    let w : WorldAt = world_after s before in
    all_given_time s h.answer (given_by s w (moved s w h.event) h.says h.event) (moved s w h.event) ∙ ap (λ (z : Event). (moved s w z).time) e

pub still_depart : (s : Setting) (h : Happened) (before : List Happened) (m q : ℕ) (stamp : ℤ) → h.event ≡ Depart m q stamp → (world_after s (h ∷ before)).time ≡ (world_after s before).time
still_depart s h before m q stamp e =
    let w : WorldAt = world_after s before in
    all_given_time s h.answer (given_by s w (moved s w h.event) h.says h.event) (moved s w h.event) ∙ ap (λ (z : Event). (moved s w z).time) e
