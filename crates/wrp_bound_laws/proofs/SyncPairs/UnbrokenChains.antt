-- Since a chain began its node was locked, and neither the node nor its parent took a step.
use Rattle.std.proofs.Common.{◌≡◌, inl, inr, ◌∙◌, refl, ap, sym, subst, ℕ, ℤ, ◌||◌, Bool, true, false, if◌then◌else◌, is_some, List, [], ◌∷◌, ◌++◌, Option, None, Some, Result}
use Rattle.wrp_base.specs.declared.message.PtpMsg.{PtpMsg}
use Rattle.wrp_network.specs.declared.network.LinkCfg.{LinkCfg}
use Rattle.wrp_network.specs.Network.{link_above}
use Rattle.wrp_bounds.specs.Bounds.{numbers_of}
use Rattle.wrp_bounds.specs.declared.numbers.HopNumbers.{HopNumbers}
use Rattle.wrp_frame.specs.declared.fault.FrameFault.{FrameFault}
use Rattle.wrp_node.specs.NodeAt.{NodeAt, NodeSetting, servo_at, state_of}
use Rattle.wrp_node.specs.StepLaws.{CommandsAreHeld}
use Rattle.wrp_node.specs.Unbroken.{ChainIsLocked}
use Rattle.wrp_servo.specs.Laws.{ChainSince, NoStepInTrack}
use Rattle.wrp_servo.specs.Sampling.{is_holdover}
use Rattle.wrp_servo.specs.Table.{is_track}
use Rattle.wrp_tracking_laws.specs.Tree.{IsSource}
use Rattle.wrp_course.specs.declared.event.Event.{Event}
use Rattle.wrp_course.specs.declared.event.Event.TheVariants.{Deliver, Noise}
use Rattle.wrp_course.specs.Run.{Happened, world_after}
use Rattle.wrp_course.specs.Runs.{IsNetwork, IsRun}
use Rattle.wrp_course.specs.Setting.{Setting, link_of, node_setting_of}
use Rattle.wrp_course.specs.WorldAt.{WorldAt}
use Rattle.wrp_bound_laws.specs.Chains.{AllFit, ChainRuns, goods_since}
use Rattle.wrp_bound_laws.specs.Leases.{FollowsSource, HasSource}
use Rattle.wrp_bound_laws.specs.Moments.{AtEach}
use Rattle.wrp_bound_laws.specs.Rates.{HasChain}
use Rattle.wrp_bound_laws.specs.Steps.{TookNoStep, TookNoStepSince}
use Rattle.wrp_bound_laws.specs.UnbrokenChains.{AreClose, ChainStaysUnbroken, IsLocked}
use Rattle.wrp_bound_laws.specs.Views.{offsets_at}
use Rattle.wrp_bound_laws.proofs.Hops.TrackedHops.{has_hop}
use Rattle.wrp_bound_laws.proofs.Motion.Moving.{either_state, no_slave}
use Rattle.wrp_bound_laws.proofs.Motion.NodeSteps.{still_in_chain, still_in_track, still_without_servo}
use Rattle.wrp_bound_laws.proofs.Motion.Offsets.{event_off, plain_off}
use Rattle.wrp_bound_laws.proofs.Runs.LinksAbove.{above_is}
use Rattle.wrp_bound_laws.proofs.Runs.NodeRuns.{chain_locked}
use Rattle.wrp_bound_laws.proofs.Runs.Suffixes.{at_newest, run_before}
use Rattle.wrp_bound_laws.proofs.Samples.BoundRuns.{at_oldest}
use Rattle.wrp_bound_laws.proofs.Samples.ChainSources.{chain_has_source}
use Rattle.wrp_bound_laws.proofs.Samples.SampleEvents.{stood_before}
use Rattle.wrp_bound_laws.proofs.Sources.Parents.{has_servo, with_servo}
use Rattle.wrp_bound_laws.proofs.SyncPairs.CloseSamples.{samples_close}
use Rattle.wrp_bound_laws.proofs.SyncPairs.KeptSyncs.{each_sync}
use Rattle.wrp_bound_laws.proofs.SyncPairs.SyncHeld.{HeldLaws}
use Rattle.wrp_bound_laws.proofs.SyncPairs.SyncPasts.{InRun}

-- the laws that this rests on
pub record UnbrokenLaws : Type 0 where
  pub held : HeldLaws
  pub locked : ChainIsLocked
  pub commands : CommandsAreHeld
  pub still : NoStepInTrack

-- The lock detector

locked_now : ChainIsLocked → (s : Setting) → IsNetwork s → (events : List Happened) (n : ℕ) (link : LinkCfg) → link_above s.cfg n ≡ Some link → HasChain s n events → IsLocked s n events
locked_now law s net events n link above chain =
    ap (λ (b : Bool). if b then (servo_at (node_setting_of s n) ((world_after s events).node n)).phase.lock.locked else false) (has_servo s net n link above) ∙ chain_locked law s events n chain

each_locked : ChainIsLocked → (s : Setting) → IsNetwork s → (newer older : List Happened) (n : ℕ) (link : LinkCfg) → link_above s.cfg n ≡ Some link → AtEach (HasChain s n) newer older → AtEach (IsLocked s n) newer older
each_locked law s net [] older n link above chain = locked_now law s net older n link above chain
each_locked law s net (h ∷ newer) older n link above chain = (locked_now law s net (h ∷ (newer ++ older)) n link above chain.0, each_locked law s net newer older n link above chain.1)

-- The event that starts the chain

-- it is a sample, and no node takes a step in it
start_still : CommandsAreHeld → ChainSince → (s : Setting) (says : Result PtpMsg FrameFault) (y : ℤ) (before : List Happened) (e : Event) (n m : ℕ) → (HasChain s n before → ⊥) → HasChain s n (record { event = e; says = says; answer = y } ∷ before) →
    TookNoStep s m (record { event = e; says = says; answer = y }) before
start_still held since s says y before (Deliver i) n m none chain = absurd (none (stood_before since s (record { event = Deliver i; says = says; answer = y }) before n tt chain))
start_still held since s says y before (Noise a p octets raw) n m none chain = absurd (none (stood_before since s (record { event = Noise a p octets raw; says = says; answer = y }) before n tt chain))
start_still held since s says y before e n m none chain = plain_off held s says y (world_after s before) e m tt

-- Each event since

own_still : CommandsAreHeld → (s : Setting) (h : Happened) (before : List Happened) (n : ℕ) → HasChain s n (h ∷ before) → TookNoStep s n h before
own_still held s h before n chain =
    event_off held s h.says h.answer (world_after s before) h.event n (λ (m : NodeAt). is_some (servo_at (node_setting_of s n) m).first ≡ true)
    (λ t stands. still_in_chain held (node_setting_of s n) t ((world_after s before).node n) stands) chain

own_steps : CommandsAreHeld → (s : Setting) (newer older : List Happened) (n : ℕ) → AtEach (HasChain s n) newer older → TookNoStepSince s n newer older
own_steps held s [] older n chain = tt
own_steps held s (h ∷ newer) older n chain = (own_still held s h (newer ++ older) n chain.0, own_steps held s newer older n chain.1)

-- a node that may be followed
source_still : UnbrokenLaws → (s : Setting) (h : Happened) (before : List Happened) (n : ℕ) (o : Option LinkCfg) → IsNetwork s → link_above s.cfg n ≡ o → IsSource s.cfg (offsets_at s (world_after s before)) n → TookNoStep s n h before
source_still laws s h before n None net above source =
    event_off laws.commands s h.says h.answer (world_after s before) h.event n (λ _. Unit {0})
    (λ t k. still_without_servo laws.commands (node_setting_of s n) t ((world_after s before).node n) (no_slave s net n above)) tt
source_still laws s h before n (Some link) net above (inl top) = absurd (let f : None ≡ Some link = sym top ∙ above in cc)
source_still laws s h before n (Some link) net above (inr states) =
    let w : WorldAt = world_after s before in
    let fixed : NodeSetting = node_setting_of s n in
    let servo : state_of fixed (w.node n) ≡ (servo_at fixed (w.node n)).state = with_servo fixed (w.node n) (has_servo s net n link above) in
    let there : (is_track (servo_at fixed (w.node n)).state || is_holdover (servo_at fixed (w.node n)).state) ≡ true =
    sym (ap (λ x. is_track x || is_holdover x) servo) ∙ either_state (state_of fixed (w.node n)) states in
    event_off laws.commands s h.says h.answer w h.event n (λ _. Unit {0}) (λ t k. still_in_track laws.commands laws.still fixed t (w.node n) there) tt

-- so the parent, which could be followed at each of them
parent_steps : UnbrokenLaws → (s : Setting) (newer older : List Happened) (k : ℕ) (link : LinkCfg) → IsRun s (newer ++ older) → link_of s k ≡ Some link → AtEach (HasChain s link.lower) newer older → TookNoStepSince s link.upper newer older
parent_steps laws s [] older k link run is chain = tt
parent_steps laws s (h ∷ newer) older k link run is chain =
    let before : List Happened = newer ++ older in
    let was : IsRun s before = run_before s h before run in
    let f : FollowsSource s before k link = chain_has_source laws.held.chain.chains s before k link was is (at_newest (HasChain s link.lower) newer older chain.1) in
    let source : HasSource s link before = subst (HasSource s link) (sym f.splits) (at_newest (HasSource s link) f.newer f.older f.source) in
    (source_still laws s h before link.upper (link_above s.cfg link.upper) run.network refl source, parent_steps laws s newer older k link was is chain.1)

-- The law

pub chain_stays_unbroken : UnbrokenLaws → ChainStaysUnbroken
chain_stays_unbroken laws s events k link run fit is chain =
    let net : IsNetwork s = run.network in
    let above : link_above s.cfg link.lower ≡ Some link = above_is s net k link is in
    let hop : (hop : HopNumbers) × (numbers_of s.cfg link.lower ≡ Some hop) = has_hop s net link.lower link above in
    let c : ChainRuns s events k link hop.0 = laws.held.chain.constant s events k link hop.0 run fit is hop.1 chain in
    let start : Happened = c.start in
    let before : List Happened = c.before in
    let x : InRun s k link c.newer start before = record { run = subst (IsRun s) c.splits run; is = is; standing = record { stands = c.stands; begins = c.begins } } in
    let fit_all : AllFit (c.newer ++ start ∷ before) = subst AllFit c.splits fit in
    let first : (m : ℕ) → TookNoStep s m start before =
    λ m. start_still laws.commands laws.held.chain.given.since s start.says start.answer before start.event link.lower m c.begins (at_oldest (HasChain s link.lower) c.newer (start ∷ before) c.stands) in
    record {
      newer = c.newer;
      start = start;
      before = before;
      splits = c.splits;
      begins = c.begins;
      stands = c.stands;
      locked = each_locked laws.locked s net c.newer (start ∷ before) link.lower link above c.stands;
      own = (first link.lower, own_steps laws.commands s c.newer (start ∷ before) link.lower c.stands);
      parent = (first link.upper, parent_steps laws s c.newer (start ∷ before) k link x.run is c.stands);
      samples =
          subst (λ l. AreClose s l (world_after s l).time (goods_since s link.lower c.newer (start ∷ before))) (sym c.splits)
          (samples_close laws.held.chain.constant s k link hop.0 c.newer start before x fit_all hop.1);
      follows = c.follows;
      syncs = each_sync laws.held s k link hop.0 c.newer start before x fit_all hop.1 c.follows;
    }
