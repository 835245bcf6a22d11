-- While there is a chain nothing of its link moves faster than the bound of its hop takes it.
use Rattle.std.proofs.Common.{◌≡◌, ◌∙◌, refl, ap, sym, subst, ℕ, suc, ◌≤◌, max, ℤ, true, if◌then◌else◌, is_some, List, [], ◌∷◌, ◌++◌, length, Some, arith}
use Rattle.wrp_network.specs.declared.network.LinkCfg.{LinkCfg}
use Rattle.wrp_network.specs.Network.{link_above}
use Rattle.wrp_base.proofs.Lists.{append_assoc}
use Rattle.wrp_bounds.specs.Bounds.{numbers_of}
use Rattle.wrp_bounds.specs.declared.numbers.HopNumbers.{HopNumbers}
use Rattle.wrp_node.specs.NodeAt.{NodeAt, servo_at}
use Rattle.wrp_tracking_laws.specs.Chain.{KeepsLimitsAbove}
use Rattle.wrp_tracking_laws.specs.History.{EachStep, IsSlow}
use Rattle.wrp_tracking_laws.specs.Moment.{Moment, MovesSlowly}
use Rattle.wrp_course.specs.Run.{Happened, world_after}
use Rattle.wrp_course.specs.RunLaws.{ModulesStay}
use Rattle.wrp_course.specs.Runs.{IsRun}
use Rattle.wrp_course.specs.Setting.{Setting, node_setting_of, link_of, of_node}
use Rattle.wrp_course.specs.WorldAt.{WorldAt}
use Rattle.wrp_bound_laws.specs.Leases.{FollowsSource, HasSource, IsCarried}
use Rattle.wrp_bound_laws.specs.Moments.{AtEach}
use Rattle.wrp_bound_laws.specs.Rates.{ChainPassesSlowly, HasChain, greatest_rate}
use Rattle.wrp_bound_laws.specs.Views.{moment_at, moments_of}
use Rattle.wrp_bound_laws.proofs.Samples.ChainSources.{ChainLaws, chain_has_source}
use Rattle.wrp_bound_laws.proofs.Runs.HopNumbers.{hop_has}
use Rattle.wrp_bound_laws.proofs.Sources.LeaseSources.{both_nodes}
use Rattle.wrp_bound_laws.proofs.Runs.LinksAbove.{above_is}
use Rattle.wrp_bound_laws.proofs.Motion.Moving.{RateLaws, chain_rate, clock_slow, source_moves_slowly, ways_move_slowly}
use Rattle.wrp_bound_laws.proofs.Motion.NodeSteps.{still_in_chain}
use Rattle.wrp_bound_laws.proofs.Motion.Slow.{Slow, as_slow}
use Rattle.wrp_bound_laws.proofs.Runs.Suffixes.{at_newest, at_rest, older_run, run_before}

-- the laws that this rests on
pub record MoveLaws : Type 0 where
  pub chains : ChainLaws
  pub rates : RateLaws
  pub modules : ModulesStay

-- What moves above a node, in an event after which it may be followed

same_limit : (rate most : ℕ) (q : Moment → ℤ) (a b : Moment) → rate ≡ most → MovesSlowly rate q a b → MovesSlowly most q a b
same_limit rate most q a b e h = subst (λ r. MovesSlowly r q a b) e h

pub parent_slow : MoveLaws → (s : Setting) (h : Happened) (before : List Happened) (k : ℕ) (link : LinkCfg) (hop : HopNumbers) → IsRun s (h ∷ before) → link_of s k ≡ Some link → numbers_of s.cfg link.lower ≡ Some hop → HasSource s link before → IsCarried s k before →
    MovesSlowly hop.parent.rate (λ m. m.parent) (moment_at k link (world_after s before)) (moment_at k link (world_after s (h ∷ before)))
parent_slow laws s h before k link hop run is numbers source carried =
    let w : WorldAt = world_after s before in
    let now : WorldAt = world_after s (h ∷ before) in
    let moves : IsSlow (λ (x : WorldAt). x.time) (greatest_rate s link.upper) (λ (x : WorldAt). (x.clock link.upper).off) w now =
    source_moves_slowly laws.rates s h before link.upper run source (both_nodes s w k link is carried).0 in
    same_limit (greatest_rate s link.upper) hop.parent.rate (λ m. m.parent) (moment_at k link w) (moment_at k link now) (sym (hop_has s run.network k link hop is numbers).parent)
    (record { order = moves.order; limit = moves.limit })

-- The node itself

slew_is : (s : Setting) (n : ℕ) (link : LinkCfg) → link_above s.cfg n ≡ Some link → of_node (λ node. node.slew) s n ≤ greatest_rate s n
slew_is s n link above =
    subst (λ b. of_node (λ node. node.slew) s n ≤ (if b then max (of_node (λ node. node.slew) s n) (of_node (λ node. node.held) s n) else 0)) (sym (ap is_some above))
    (most (of_node (λ node. node.slew) s n) (of_node (λ node. node.held) s n))
  where
    most : (a b : ℕ) → a ≤ max a b
    most a b = omega arith

own_slow : MoveLaws → (s : Setting) (h : Happened) (before : List Happened) (k : ℕ) (link : LinkCfg) (hop : HopNumbers) → IsRun s (h ∷ before) → link_of s k ≡ Some link → numbers_of s.cfg link.lower ≡ Some hop → IsCarried s k before → HasChain s link.lower before →
    HasChain s link.lower (h ∷ before) → MovesSlowly hop.own.rate (λ m. m.own) (moment_at k link (world_after s before)) (moment_at k link (world_after s (h ∷ before)))
own_slow laws s h before k link hop run is numbers carried chain later =
    let n : ℕ = link.lower in
    let w : WorldAt = world_after s before in
    let now : WorldAt = world_after s (h ∷ before) in
    let above : link_above s.cfg n ≡ Some link = above_is s run.network k link is in
    let up : (w.clock n).up ≡ true = (both_nodes s w k link is carried).1 in
    let slow : Slow (greatest_rate s n) w.time now.time (w.clock n).off (now.clock n).off =
    clock_slow laws.rates.commands s h.says h.answer before h.event n (of_node (λ node. node.slew) s n) (greatest_rate s n) (λ (m : NodeAt). is_some (servo_at (node_setting_of s n) m).first ≡ true) run
    (run.network.accepted.tree.ends k link is).1 up (chain_rate laws.rates.locked s before n link run.network above up chain) (slew_is s n link above)
    (λ t stands. still_in_chain laws.rates.commands (node_setting_of s n) t (w.node n) stands) later in
    same_limit (greatest_rate s n) hop.own.rate (λ m. m.own) (moment_at k link w) (moment_at k link now) (sym (hop_has s run.network k link hop is numbers).own)
    (as_slow (λ m. m.time) (greatest_rate s n) (λ m. m.own) (moment_at k link w) (moment_at k link now) slow)

pub chain_passes_slowly : MoveLaws → ChainPassesSlowly
chain_passes_slowly laws s h before k link hop run is numbers chain later =
    let was : IsRun s before = run_before s h before run in
    let f : FollowsSource s before k link = chain_has_source laws.chains s before k link was is chain in
    let source : HasSource s link before = subst (HasSource s link) (sym f.splits) (at_newest (HasSource s link) f.newer f.older f.source) in
    let carried : IsCarried s k before = subst (IsCarried s k) (sym f.splits) (at_newest (IsCarried s k) f.newer f.older f.carried) in
    let ways : _ = ways_move_slowly laws.modules s h before k link run is carried in
    record {
      own = own_slow laws s h before k link hop run is numbers carried chain later;
      parent = parent_slow laws s h before k link hop run is numbers source carried;
      down = ways.0;
      up = ways.1;
    }

-- The history of a link

-- it has a newest moment, and one for each event except the first
pub record HasNewest (s : Setting) (k : ℕ) (link : LinkCfg) (events : List Happened) : Type 0 where
  pub past : List Moment
  pub is : moments_of s k link events ≡ moment_at k link (world_after s events) ∷ past
  pub length_is : length past ≡ length events

pub one_longer : (a b : ℕ) → a ≡ b → suc a ≡ suc b
one_longer a b e = ap suc e

pub newest_moment : (s : Setting) (k : ℕ) (link : LinkCfg) (events : List Happened) → HasNewest s k link events
newest_moment s k link [] = record { past = []; is = refl; length_is = refl }
newest_moment s k link (h ∷ before) =
    let it : HasNewest s k link before = newest_moment s k link before in
    record { past = moments_of s k link before; is = refl; length_is = ap length it.is ∙ one_longer (length it.past) (length before) it.length_is }

-- what holds in each event from one on holds in each step of the history from there on
pub nothing_later : {A : Type 0} (P : A → A → Type 0) (k : ℕ) (ms : List A) → length ms ≤ suc k → EachStep P k ms
nothing_later P k [] h = tt
nothing_later P k (m ∷ []) h = tt
nothing_later P k (m ∷ (b ∷ ms)) h = (λ less. absurd (too_few k (length ms) h less), nothing_later P k (b ∷ ms) (fewer k (length ms) h))
  where
    too_few : (a b : ℕ) → suc (suc b) ≤ suc a → a ≤ b → ⊥
    too_few a b h k = omega (arith, h, k)

    fewer : (a b : ℕ) → suc (suc b) ≤ suc a → suc b ≤ suc a
    fewer a b h = omega (arith, h)

no_longer : (a b : ℕ) → a ≡ b → suc a ≤ suc b
no_longer a b e = omega (arith, e)

pub steps_since : (s : Setting) (k : ℕ) (link : LinkCfg) (P : Moment → Moment → Type 0) (newer older : List Happened) →
    ((h : Happened) (a b : List Happened) → newer ≡ a ++ (h ∷ b) → P (moment_at k link (world_after s (b ++ older))) (moment_at k link (world_after s (h ∷ (b ++ older))))) → EachStep P (length older) (moments_of s k link (newer ++ older))
steps_since s k link P [] older f =
    let it : HasNewest s k link older = newest_moment s k link older in
    nothing_later P (length older) (moments_of s k link older) (subst (λ (ms : List Moment). length ms ≤ suc (length older)) (sym it.is) (no_longer (length it.past) (length older) it.length_is))
steps_since s k link P (h ∷ newer) older f =
    let before : List Happened = newer ++ older in
    let it : HasNewest s k link before = newest_moment s k link before in
    let step : P (moment_at k link (world_after s before)) (moment_at k link (world_after s (h ∷ before))) = f h [] newer refl in
    let rest : EachStep P (length older) (moments_of s k link before) = steps_since s k link P newer older (λ g a b e. f g (h ∷ a) b (ap (λ l. h ∷ l) e)) in
    subst (λ (ms : List Moment). EachStep P (length older) (moment_at k link (world_after s (h ∷ before)) ∷ ms)) (sym it.is)
    (λ less. step, subst (EachStep P (length older)) it.is rest)

-- above a node that had a source since then
pub limits_above : MoveLaws → (s : Setting) (k : ℕ) (link : LinkCfg) (hop : HopNumbers) (newer older : List Happened) → IsRun s (newer ++ older) → link_of s k ≡ Some link → numbers_of s.cfg link.lower ≡ Some hop → AtEach (HasSource s link) newer older →
    AtEach (IsCarried s k) newer older → KeepsLimitsAbove hop (moments_of s k link (newer ++ older)) (length older)
limits_above laws s k link hop newer older run is numbers source carried =
    let at : (h : Happened) (a b : List Happened) → newer ≡ a ++ (h ∷ b) → IsRun s (h ∷ (b ++ older)) × (HasSource s link (b ++ older) × IsCarried s k (b ++ older)) =
    λ h a b e. (
      older_run s a (h ∷ (b ++ older)) (subst (IsRun s) (ap (λ l. l ++ older) e ∙ append_assoc a (h ∷ b) older) run),
      (
        at_newest (HasSource s link) b older (at_rest (HasSource s link) a (h ∷ b) older (subst (λ l. AtEach (HasSource s link) l older) e source)).1,
        at_newest (IsCarried s k) b older (at_rest (IsCarried s k) a (h ∷ b) older (subst (λ l. AtEach (IsCarried s k) l older) e carried)).1,
      ),
    ) in
    record {
      parent = steps_since s k link (MovesSlowly hop.parent.rate (λ m. m.parent)) newer older
          (λ h a b e. parent_slow laws s h (b ++ older) k link hop (at h a b e).0 is numbers (at h a b e).1.0 (at h a b e).1.1);
      down = steps_since s k link (MovesSlowly 2 (λ m. m.down)) newer older (λ h a b e. (ways_move_slowly laws.modules s h (b ++ older) k link (at h a b e).0 is (at h a b e).1.1).0);
      up = steps_since s k link (MovesSlowly 2 (λ m. m.up)) newer older (λ h a b e. (ways_move_slowly laws.modules s h (b ++ older) k link (at h a b e).0 is (at h a b e).1.1).1);
    }
