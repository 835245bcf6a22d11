-- A frame of the master that is handed to a slave in a chain, and whose stamp latched a sample of the chain, arrived in it.
use Rattle.std.proofs.Common.{◌≡◌, ◌⊎◌, inl, inr, ◌∙◌, refl, ap, sym, subst, ℕ, ◌+◌, ◌*◌, ◌≤◌, ℤ, pos, ◌+ℤ◌, ◌≤ℤ◌, true, List, [], ◌∷◌, ◌++◌, length, Option, Some, IfSome, arith}
use Rattle.std.proofs.lemmas.Int.{ints}
use Rattle.std.proofs.lemmas.Option.{same_Some}
use Rattle.wrp_base.specs.declared.link.Role.TheVariants.{Slave}
use Rattle.wrp_network.specs.declared.network.LinkCfg.{LinkCfg}
use Rattle.wrp_network.specs.Network.{End}
use Rattle.wrp_base.specs.Link.{other_of}
use Rattle.wrp_base.proofs.Integers.{int_le_trans}
use Rattle.wrp_base.proofs.Lists.{head_and_tail}
use Rattle.wrp_bounds.specs.Times.{frame_life}
use Rattle.wrp_course.specs.Laws.{KeepsStamp}
use Rattle.wrp_course.specs.Premises.{Accepts}
use Rattle.wrp_course.specs.Run.{Happened, world_after}
use Rattle.wrp_course.specs.RunLaws.{FramesHaveTimes, HasTimes}
use Rattle.wrp_course.specs.RunStamps.{ArrivedSo, DepartedSo, FramesAreStamped}
use Rattle.wrp_course.specs.Runs.{IsRun}
use Rattle.wrp_course.specs.Setting.{Setting, end_at, end_of, link_of}
use Rattle.wrp_course.specs.WorldAt.{Arrival, FrameAt, WorldAt}
use Rattle.wrp_course.proofs.RunGiven.{end_is}
use Rattle.wrp_bound_laws.specs.Leases.{IsCarried}
use Rattle.wrp_bound_laws.specs.Moments.{AtEach}
use Rattle.wrp_bound_laws.specs.SequenceIds.{IsOpenAt}
use Rattle.wrp_bound_laws.proofs.Sources.LeaseSources.{both_nodes}
use Rattle.wrp_bound_laws.proofs.Schedules.OpenPorts.{QuietLaws, carried_since}
use Rattle.wrp_bound_laws.proofs.Runs.Suffixes.{at_rest, count_is, older_run, one_list, no_more}
use Rattle.wrp_bound_laws.proofs.SyncPairs.SyncChains.{samples_of, samples_since}
use Rattle.wrp_bound_laws.proofs.SyncPairs.SyncGiven.{Handed}
use Rattle.wrp_bound_laws.proofs.SyncPairs.SyncPasts.{InRun}
use Rattle.wrp_bound_laws.proofs.SyncPairs.SyncSamples.{Begun}
use Rattle.wrp_bound_laws.proofs.Frames.Deliveries.{deliver_holds}

-- Parts of a list

-- of two ends of a list one is an end of the other
pub record EndsIn {A : Type 0} (xs ys zs ws : List A) : Type 0 where
  pub between : List A
  pub end : ys ≡ between ++ ws
  pub front : zs ≡ xs ++ between

pub either_end : {A : Type 0} (xs ys zs ws : List A) → xs ++ ys ≡ zs ++ ws → EndsIn xs ys zs ws ⊎ EndsIn zs ws xs ys
either_end [] ys zs ws e = inl (record { between = zs; end = e; front = refl })
either_end (x ∷ xs) ys [] ws e = inr (record { between = x ∷ xs; end = sym e; front = refl })
either_end (x ∷ xs) ys (z ∷ zs) ws e =
    let h : (x ≡ z) × (xs ++ ys ≡ zs ++ ws) = head_and_tail x z (xs ++ ys) (zs ++ ws) e in
    elim (either_end xs ys zs ws h.1) [
      | inl it ↦ inl (record { between = it.between; end = it.end; front = ap (λ y. y ∷ zs) (sym h.0) ∙ ap (λ l. x ∷ l) it.front })
      | inr it ↦ inr (record { between = it.between; end = it.end; front = ap (λ y. y ∷ xs) h.0 ∙ ap (λ l. z ∷ l) it.front })
    ]

-- A frame that is handed over

-- is no older than its life
pub young : (s : Setting) (before : List Happened) (h : Happened) (k : ℕ) (link : LinkCfg) (x : Handed s before h k link) → IsRun s (h ∷ before) → (world_after s before).time ≤ℤ (x.frame.sending.at +ℤ pos (frame_life s.cfg))
young s before h k link x run =
    let w : WorldAt = world_after s before in
    (deliver_holds s w h.says x.number x.frame (subst (Accepts s w h.says) x.event run.accepted.0) x.there).0

-- The slave's node

-- it is up while the link has its carrier
pub up_since : (s : Setting) (newer older : List Happened) (k : ℕ) (link : LinkCfg) → link_of s k ≡ Some link → AtEach (IsCarried s k) newer older → AtEach (λ l. ((world_after s l).clock link.lower).up ≡ true) newer older
up_since s [] older k link is h = (both_nodes s (world_after s older) k link is h).1
up_since s (x ∷ newer) older k link is h = ((both_nodes s (world_after s (x ∷ (newer ++ older))) k link is h.0).1, up_since s newer older k link is h.1)

-- Its arrival

-- an arrival is known once its frame is
arrived_as : (s : Setting) (events : List Happened) (f : FrameAt) (a : Arrival) (o : Option Arrival) → o ≡ Some a → IfSome o (ArrivedSo s events f) → ArrivedSo s events f a
arrived_as s events f a o e h = subst (λ x. IfSome x (ArrivedSo s events f)) e h

-- in the chain
pub record Flight (s : Setting) (k : ℕ) (link : LinkCfg) (older : List Happened) (start : Happened) (before : List Happened) (f : FrameAt) (a : Arrival) : Type 0 where
  pub newer : List Happened
  pub chain : List Happened
  pub splits : older ≡ newer ++ chain
  pub carried : AtEach (IsCarried s k) newer (chain ++ start ∷ before)
  pub at : a.at ≡ (world_after s (chain ++ start ∷ before)).time
  pub moment : a.moment ≡ length (chain ++ start ∷ before)
  pub sample : a.sample ≡ samples_of s (chain ++ start ∷ before) link.lower
  pub end : End
  pub end_is : end_at s f.link (other_of f.by) ≡ Some end
  pub raw : KeepsStamp s (world_after s (chain ++ start ∷ before)) f a.raw end

two_lives : (now at arrived : ℤ) (life : ℕ) → now ≤ℤ (at +ℤ pos life) → at ≤ℤ arrived → now ≤ℤ (arrived +ℤ pos (2 * life))
two_lives now at arrived life h k = omega (arith, ints)

one_sooner : (a b c first : ℕ) → first ≡ b + 1 → first ≤ a → a ≡ c → c ≤ b → ⊥
one_sooner a b c first e h f k = omega (arith, e, h, f, k)

-- if it was handed over, it arrived, and it had its carrier since
record Came (s : Setting) (k : ℕ) (link : LinkCfg) (events : List Happened) (f : FrameAt) (a : Arrival) : Type 0 where
  newer : List Happened
  older : List Happened
  splits : events ≡ newer ++ older
  carried : AtEach (IsCarried s k) newer older
  at : a.at ≡ (world_after s older).time
  moment : a.moment ≡ length older
  sample : a.sample ≡ samples_of s older link.lower
  end : End
  end_is : end_at s f.link (other_of f.by) ≡ Some end
  raw : KeepsStamp s (world_after s older) f a.raw end

-- the laws that this rests on
pub record FlightLaws : Type 0 where
  pub quiet : QuietLaws
  pub stamped : FramesAreStamped
  pub times : FramesHaveTimes

came : FlightLaws → (s : Setting) (events : List Happened) (h : Happened) (k : ℕ) (link : LinkCfg) (x : Handed s events h k link) → IsRun s (h ∷ events) → IsRun s events → link_of s k ≡ Some link → Came s k link events x.frame x.arrival
came laws s events h k link x all run is =
    let f : FrameAt = x.frame in
    let a : Arrival = x.arrival in
    let told : DepartedSo s events f × IfSome f.arrival (ArrivedSo s events f) = laws.stamped s events x.number f run x.there in
    let arr : ArrivedSo s events f a = arrived_as s events f a f.arrival x.arrived told.1 in
    let times : HasTimes (world_after s events) f = laws.times s events x.number f run x.there in
    let arrives : _ = subst (λ o. IfSome o (λ z. (f.at ≤ℤ z.at) × (z.at ≤ℤ (world_after s events).time) × (f.moment ≤ z.moment) × (z.moment ≤ (world_after s events).count) × (z.at ≡ f.due))) x.arrived times.arrived in
    let newer : List Happened = arr.came.0 ++ arr.came.1 ∷ [] in
    let splits : events ≡ newer ++ arr.older = arr.came.2 ∙ one_list arr.came.0 arr.came.1 arr.older in
    let sent : f.sending.at ≤ℤ (world_after s arr.older).time = subst (λ t. f.sending.at ≤ℤ t) arr.time (int_le_trans f.sending.at f.at a.at times.sent arrives.0) in
    let near : (world_after s (newer ++ arr.older)).time ≤ℤ ((world_after s arr.older).time +ℤ pos (2 * frame_life s.cfg)) =
    subst (λ l. (world_after s l).time ≤ℤ ((world_after s arr.older).time +ℤ pos (2 * frame_life s.cfg))) splits
    (two_lives (world_after s events).time f.sending.at (world_after s arr.older).time (frame_life s.cfg) (young s events h k link x all) sent) in
    let end : arr.end ≡ end_of Slave link =
    same_Some arr.end (end_of Slave link) (sym arr.end_is ∙ ap (λ l. end_at s l (other_of f.by)) x.link_is ∙ ap (λ r. end_at s k (other_of r)) x.by_is ∙ end_is s k Slave link is) in
    record {
      newer = newer;
      older = arr.older;
      splits = splits;
      carried = carried_since laws.quiet s newer arr.older k Slave link (subst (IsRun s) splits run) is (subst (IsOpenAt s link Slave) splits x.takes) near;
      at = arr.time;
      moment = arr.moment ∙ count_is s arr.older;
      sample = arr.sample ∙ ap (λ (e : End). ((world_after s arr.older).clock e.node).samples) end;
      end = arr.end;
      end_is = arr.end_is;
      raw = arr.raw;
    }

-- before the chain it cannot have arrived
not_before : (s : Setting) (k : ℕ) (link : LinkCfg) (start : Happened) (before : List Happened) (b : Begun s start before link) (f : FrameAt) (a : Arrival) (events front between : List Happened) (it : Came s k link events f a) → IsRun s before → link_of s k ≡ Some link →
    b.good.number ≤ a.sample → it.newer ≡ front ++ between → start ∷ before ≡ between ++ it.older → (it.older ≡ start ∷ before) × (it.newer ≡ front)
not_before s k link start before b f a events front [] it run is first e g = (sym g, e ∙ sym (no_more front))
not_before s k link start before b f a events front (z ∷ between) it run is first e g =
    let h : (start ≡ z) × (before ≡ between ++ it.older) = head_and_tail start z before (between ++ it.older) g in
    let carried : AtEach (IsCarried s k) between it.older = (at_rest (IsCarried s k) front (z ∷ between) it.older (subst (λ l. AtEach (IsCarried s k) l it.older) e it.carried)).1 in
    let fewer : samples_of s it.older link.lower ≤ samples_of s before link.lower =
    subst (λ l. samples_of s it.older link.lower ≤ samples_of s l link.lower) (sym h.1) (samples_since s between it.older link.lower (subst (IsRun s) h.1 run) (up_since s between it.older k link is carried)) in
    absurd (one_sooner a.sample (samples_of s before link.lower) (samples_of s it.older link.lower) b.good.number b.number_is first it.sample fewer)

flew : (s : Setting) (k : ℕ) (link : LinkCfg) (older : List Happened) (start : Happened) (before : List Happened) (f : FrameAt) (a : Arrival) (chain : List Happened) (it : Came s k link (older ++ start ∷ before) f a) → it.older ≡ chain ++ start ∷ before → older ≡ it.newer ++ chain →
    Flight s k link older start before f a
flew s k link older start before f a chain it e g = record {
  newer = it.newer;
  chain = chain;
  splits = g;
  carried = subst (AtEach (IsCarried s k) it.newer) e it.carried;
  at = subst (λ l. a.at ≡ (world_after s l).time) e it.at;
  moment = subst (λ l. a.moment ≡ length l) e it.moment;
  sample = subst (λ l. a.sample ≡ samples_of s l link.lower) e it.sample;
  end = it.end;
  end_is = it.end_is;
  raw = subst (λ l. KeepsStamp s (world_after s l) f a.raw it.end) e it.raw;
}

pub flight : FlightLaws → (s : Setting) (k : ℕ) (link : LinkCfg) (older : List Happened) (start : Happened) (before : List Happened) (h : Happened) → InRun s k link older start before → (b : Begun s start before link) → IsRun s (h ∷ (older ++ start ∷ before)) →
    (x : Handed s (older ++ start ∷ before) h k link) → b.good.number ≤ x.arrival.sample → Flight s k link older start before x.frame x.arrival
flight laws s k link older start before h r b all x first =
    let events : List Happened = older ++ start ∷ before in
    let it : Came s k link events x.frame x.arrival = came laws s events h k link x all r.run r.is in
    elim (either_end it.newer it.older older (start ∷ before) (sym it.splits)) [
      | inl y ↦ flew s k link older start before x.frame x.arrival y.between it y.end y.front
      | inr y ↦
          let same : (it.older ≡ start ∷ before) × (it.newer ≡ older) =
          not_before s k link start before b x.frame x.arrival events older y.between it (older_run s (older ++ start ∷ []) before (subst (IsRun s) (one_list older start before) r.run)) r.is first y.front y.end in
          flew s k link older start before x.frame x.arrival [] it same.0 (sym same.1 ∙ no_more it.newer)
    ]
