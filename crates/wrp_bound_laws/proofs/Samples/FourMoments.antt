-- The moments of a chain, and the ticks of its node in it.
use Rattle.std.proofs.Common.{◌≡◌, inl, inr, ◌∙◌, refl, ap, sym, subst, ℕ, suc, ◌+◌, ◌*◌, ◌<◌, ◌≤◌, ℤ, pos, ◌+ℤ◌, ◌≤ℤ◌, true, List, [], ◌∷◌, ◌++◌, length, map, Some, unsigned_abs, arith}
use Rattle.std.proofs.lemmas.Int.{ints}
use Rattle.std.proofs.Math.Nat.{mul-le-mul_right}
use Rattle.wrp_network.specs.declared.network.LinkCfg.{LinkCfg}
use Rattle.wrp_network.specs.Network.{node_count}
use Rattle.wrp_bounds.specs.Bounds.{numbers_of}
use Rattle.wrp_bounds.specs.declared.numbers.HopNumbers.{HopNumbers}
use Rattle.wrp_bounds.specs.Times.{frame_life, longest_tick, shortest_tick}
use Rattle.wrp_tracking_laws.specs.History.{EachStep, Was}
use Rattle.wrp_tracking_laws.specs.Ticks.{IsOnTime, TickMoment, TickStep, TickedSince, WithinTicks}
use Rattle.wrp_tracking_laws.proofs.Histories.{each_seen, each_since, no_steps, was_seen}
use Rattle.wrp_course.specs.Run.{Happened, world_after, worlds_of}
use Rattle.wrp_course.specs.Runs.{IsRun}
use Rattle.wrp_course.specs.Setting.{Setting, link_of}
use Rattle.wrp_course.specs.WorldAt.{WorldAt}
use Rattle.wrp_bound_laws.specs.Chains.{ChainRuns}
use Rattle.wrp_bound_laws.specs.Clocks.{TicksAreOnTime, TicksStepOnTime}
use Rattle.wrp_bound_laws.specs.Leases.{ChainHasSource, FollowsSource, IsCarried}
use Rattle.wrp_bound_laws.specs.Moments.{AtEach}
use Rattle.wrp_bound_laws.specs.Rates.{HasChain}
use Rattle.wrp_bound_laws.specs.Views.{ticks_at}
use Rattle.wrp_bound_laws.proofs.Runs.FourParts.{held_at}
use Rattle.wrp_bound_laws.proofs.Sources.LeaseSources.{both_nodes}
use Rattle.wrp_bound_laws.proofs.Runs.Suffixes.{at_newest, older_run, run_before}
use Rattle.wrp_bound_laws.proofs.Runs.HopNumbers.{hop_has}

-- the laws that this rests on
pub record MomentLaws : Type 0 where
  pub source : ChainHasSource
  pub near : TicksAreOnTime
  pub step : TicksStepOnTime
  pub within : WithinTicks

-- The history of a run

-- a moment of it is the world after some of its events
pub record IsMoment (s : Setting) (events : List Happened) (at : ℕ) (w : WorldAt) : Type 0 where
  pub since : List Happened
  pub earlier : List Happened
  pub splits : events ≡ since ++ earlier
  pub number : length earlier ≡ at
  pub is : w ≡ world_after s earlier

worlds_count : (s : Setting) (events : List Happened) → length (worlds_of s events) ≡ suc (length events)
worlds_count s [] = refl
worlds_count s (h ∷ before) = ap suc (worlds_count s before)

pub was_world : (s : Setting) (events : List Happened) (at : ℕ) (w : WorldAt) → Was (worlds_of s events) at w → IsMoment s events at w
was_world s [] at w (inl it) = record { since = []; earlier = []; splits = refl; number = sym it.0; is = it.1 }
was_world s [] at w (inr none) = absurd none
was_world s (h ∷ before) at w (inl it) = record { since = []; earlier = h ∷ before; splits = refl; number = sym (it.0 ∙ worlds_count s before); is = it.1 }
was_world s (h ∷ before) at w (inr was) =
    let m : IsMoment s before at w = was_world s before at w was in
    record { since = h ∷ m.since; earlier = m.earlier; splits = ap (λ (l : List Happened). h ∷ l) m.splits; number = m.number; is = m.is }

pub was_mapped : {A B : Type 0} (f : A → B) (k : ℕ) (y : B) (ms : List A) → Was (map f ms) k y → (x : A) × Was ms k x × (y ≡ f x)
was_mapped f k y [] none = absurd none
was_mapped f k y (m ∷ ms) (inl it) = (m, inl (it.0 ∙ length_map f ms, refl), it.1)
  where
    length_map : {A B : Type 0} (f : A → B) (ms : List A) → length (map f ms) ≡ length ms
    length_map f [] = refl
    length_map f (m ∷ ms) = ap suc (length_map f ms)
was_mapped f k y (m ∷ ms) (inr was) = let it : _ = was_mapped f k y ms was in (it.0, inr it.1, it.2)

-- The node is up, and ticks on time

abbrev IsUp : Setting → ℕ → List Happened → Type 0
IsUp s n events = ((world_after s events).clock n).up ≡ true

chain_up : MomentLaws → (s : Setting) (events : List Happened) (k : ℕ) (link : LinkCfg) → IsRun s events → link_of s k ≡ Some link → HasChain s link.lower events → IsUp s link.lower events
chain_up laws s events k link run is chain =
    let f : FollowsSource s events k link = laws.source s events k link run is chain in
    (both_nodes s (world_after s events) k link is (subst (IsCarried s k) (sym f.splits) (at_newest (IsCarried s k) f.newer f.older f.carried))).1

each_up : MomentLaws → (s : Setting) (newer older : List Happened) (k : ℕ) (link : LinkCfg) → IsRun s (newer ++ older) → link_of s k ≡ Some link → AtEach (HasChain s link.lower) newer older → AtEach (IsUp s link.lower) newer older
each_up laws s [] older k link run is h = chain_up laws s older k link run is h
each_up laws s (x ∷ newer) older k link run is h =
    (chain_up laws s (x ∷ (newer ++ older)) k link run is h.0, each_up laws s newer older k link (run_before s x (newer ++ older) run) is h.1)

abbrev Steps : Setting → ℕ → WorldAt → WorldAt → Type 0
Steps s n a b = TickStep (shortest_tick s.cfg) (longest_tick s.cfg) (ticks_at a n) (ticks_at b n)

pub longer : (s : Setting) (h : Happened) (before : List Happened) (k : ℕ) (P : WorldAt → WorldAt → Type 0) → P (world_after s before) (world_after s (h ∷ before)) → EachStep P k (worlds_of s before) → EachStep P k (worlds_of s (h ∷ before))
longer s h [] k P p rest = (λ less. p, rest)
longer s h (g ∷ before) k P p rest = (λ less. p, rest)

no_more : (a b : ℕ) → a ≡ suc b → a ≤ b + 1
no_more a b e = omega (arith, e)

ticks_each : MomentLaws → (s : Setting) (n : ℕ) (newer older : List Happened) → IsRun s (newer ++ older) → n < node_count s.cfg → AtEach (IsUp s n) newer older → EachStep (Steps s n) (length older) (worlds_of s (newer ++ older))
ticks_each laws s n [] older run inside up = no_steps (Steps s n) (length older) (worlds_of s older) (no_more (length (worlds_of s older)) (length older) (worlds_count s older))
ticks_each laws s n (h ∷ newer) older run inside up =
    let before : List Happened = newer ++ older in
    longer s h before (length older) (Steps s n) (laws.step s h before n run inside (at_newest (IsUp s n) newer older up.1) up.0)
    (ticks_each laws s n newer older (run_before s h before run) inside up.1)

-- The age of a hop's numbers

age_fits : (age dmax life : ℕ) → (age + 1) * dmax ≤ (age + 2) * dmax + life
age_fits age dmax life = let h : (age + 1) * dmax ≤ (age + 2) * dmax = mul-le-mul_right dmax (omega arith) in omega (arith, h)

more_time : (now at : ℤ) (a b : ℕ) → now ≤ℤ (at +ℤ pos a) → a ≤ b → now ≤ℤ (at +ℤ pos b)
more_time now at a b h k = omega (arith, ints)

-- a moment of a chain, at most this many ticks of its node ago
pub record IsTicksAgo (s : Setting) (events : List Happened) (n start age at : ℕ) (w : WorldAt) : Type 0 where
  pub was : Was (worlds_of s events) at w
  pub since : start ≤ at
  pub few : ((world_after s events).node n).ticks ≤ (w.node n).ticks + age

abbrev SeenTicks : ℕ → WorldAt → TickMoment
SeenTicks n w = ticks_at w n

-- the node ticked on time since then
ticked_since : MomentLaws → (s : Setting) (h : Happened) (before : List Happened) (k : ℕ) (link : LinkCfg) (hop : HopNumbers) → IsRun s (h ∷ before) → link_of s k ≡ Some link → (chain : ChainRuns s (h ∷ before) k link hop) → (age at : ℕ) (w : WorldAt) →
    IsTicksAgo s (h ∷ before) link.lower (length (chain.start ∷ chain.before)) age at w →
    TickedSince (shortest_tick s.cfg) (longest_tick s.cfg) at (ticks_at w link.lower) (ticks_at (world_after s (h ∷ before)) link.lower) (map (SeenTicks link.lower) (worlds_of s before))
ticked_since laws s h before k link hop run is chain age at w ago =
    let n : ℕ = link.lower in
    let events : List Happened = h ∷ before in
    let older : List Happened = chain.start ∷ chain.before in
    let inside : n < node_count s.cfg = (run.network.accepted.tree.ends k link is).1 in
    let m : IsMoment s events at w = was_world s events at w ago.was in
    let parted : IsRun s (chain.newer ++ older) = subst (IsRun s) chain.splits run in
    let up : AtEach (IsUp s n) chain.newer older = each_up laws s chain.newer older k link parted is chain.stands in
    let each : EachStep (Steps s n) (length older) (worlds_of s events) =
    subst (λ (l : List Happened). EachStep (Steps s n) (length older) (worlds_of s l)) (sym chain.splits) (ticks_each laws s n chain.newer older parted inside up) in
    let was_up : IsUp s n m.earlier = held_at (IsUp s n) chain.newer older m.since m.earlier up (sym chain.splits ∙ m.splits) (subst (λ (j : ℕ). length older ≤ j) (sym m.number) ago.since) in
    record {
      was = was_seen (SeenTicks n) at w (worlds_of s events) ago.was;
      steps =
          each_since (TickStep (shortest_tick s.cfg) (longest_tick s.cfg)) (length older) at (map (SeenTicks n) (worlds_of s events)) ago.since
          (each_seen (SeenTicks n) (TickStep (shortest_tick s.cfg) (longest_tick s.cfg)) (length older) (worlds_of s events) each);
      on_time = subst (λ (v : WorldAt). IsOnTime (longest_tick s.cfg) (ticks_at v n)) (sym m.is) (laws.near s m.earlier n (older_run s m.since m.earlier (subst (IsRun s) m.splits run)) inside was_up);
    }

-- and so it is at most an age ago
pub young : MomentLaws → (s : Setting) (h : Happened) (before : List Happened) (k : ℕ) (link : LinkCfg) (hop : HopNumbers) → IsRun s (h ∷ before) → link_of s k ≡ Some link → numbers_of s.cfg link.lower ≡ Some hop → (chain : ChainRuns s (h ∷ before) k link hop) →
    (at : ℕ) (w : WorldAt) → IsTicksAgo s (h ∷ before) link.lower (length (chain.start ∷ chain.before)) (unsigned_abs s.cfg.age) at w → (world_after s (h ∷ before)).time ≤ℤ (w.time +ℤ pos hop.age_time)
young laws s h before k link hop run is numbers chain at w ago =
    let n : ℕ = link.lower in
    let age : ℕ = unsigned_abs s.cfg.age in
    let dmax : ℕ = longest_tick s.cfg in
    more_time (world_after s (h ∷ before)).time w.time ((age + 1) * dmax) hop.age_time
    (laws.within (shortest_tick s.cfg) dmax at age (ticks_at w n) (ticks_at (world_after s (h ∷ before)) n) (map (SeenTicks n) (worlds_of s before)) (ticked_since laws s h before k link hop run is chain age at w ago) ago.few)
    (subst (λ (a : ℕ). (age + 1) * dmax ≤ a) (sym (hop_has s run.network k link hop is numbers).age) (age_fits age dmax (frame_life s.cfg)))
