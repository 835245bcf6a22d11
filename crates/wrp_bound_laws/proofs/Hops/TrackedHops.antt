-- In TRACK there is what a hop's bound rests on: a chain with its constant, a four that is true of it, and the fibre.
use Rattle.std.proofs.Common.{◌≡◌, ◌∙◌, refl, ap, sym, subst, ℕ, zero, suc, ◌<◌, ℤ, pos, ◌-ℤ◌, ◌≤ℤ◌, unsigned_abs, true, false, is_some, List, [], ◌∷◌, length, Option, None, Some, option_map, arith}
use Rattle.std.proofs.lemmas.Int.{ints}
use Rattle.std.specs.Prelude.{option_and_then, slice_get}
use Rattle.std.proofs.lemmas.Option.{same_Some}
use Rattle.wrp_base.specs.declared.link.Deltas.{Deltas}
use Rattle.wrp_base.specs.declared.link.ServoState.TheVariants.{Uninit, Track}
use Rattle.wrp_network.specs.declared.network.LinkCfg.{LinkCfg}
use Rattle.wrp_network.specs.declared.network.NodeCfg.{NodeCfg}
use Rattle.wrp_network.specs.Network.{link_above, node_count}
use Rattle.wrp_base.specs.Closeness.{IsWithin}
use Rattle.wrp_bounds.specs.Bounds.{numbers_between, numbers_of, numbers_over}
use Rattle.wrp_bounds.specs.Hop.{estimate_error, hop_bound}
use Rattle.wrp_bounds.specs.declared.numbers.HopNumbers.{HopNumbers}
use Rattle.wrp_bounds.proofs.Placed.{numbers_over-at}
use Rattle.wrp_node.specs.declared.interface.NodeSet.{NodeSet}
use Rattle.wrp_node.specs.NodeAt.{est_of as node_est, servo_setting_of, state_of}
use Rattle.wrp_servo.specs.Call.{Call, ServoSetting, run}
use Rattle.wrp_servo.specs.declared.interface.ServoSet.{ServoSet}
use Rattle.wrp_servo.specs.declared.machine.Core.{Core}
use Rattle.wrp_servo.specs.declared.machine.Measurement.{Measurement}
use Rattle.wrp_servo.specs.Following.{e_tau}
use Rattle.wrp_servo.specs.Laws.{TrackHasChain, TrackIsNear}
use Rattle.wrp_servo.specs.Measuring.{delay_of}
use Rattle.wrp_servo.specs.Sampling.{est_of}
use Rattle.wrp_servo.specs.Table.{is_track}
use Rattle.wrp_servo.proofs.Gone.{set_is}
use Rattle.wrp_tracking_laws.specs.ErrorSum.{TrackFacts, estimate_of}
use Rattle.wrp_tracking_laws.specs.HopInTrack.{EstimateHolds, HopHolds, HopStands}
use Rattle.wrp_tracking_laws.specs.Moment.{Moment}
use Rattle.wrp_tracking_laws.specs.ServoGives.{HasLimits, TrackGives, Tracks}
use Rattle.wrp_course.specs.Run.{Happened, world_after}
use Rattle.wrp_course.specs.Runs.{IsNetwork}
use Rattle.wrp_course.specs.Setting.{Setting, node_setting_of, link_of}
use Rattle.wrp_course.specs.WorldAt.{WorldAt}
use Rattle.wrp_bound_laws.specs.Bounds.{EstimatesAreNear, TrueRun}
use Rattle.wrp_bound_laws.specs.Chains.{ChainHasConstant, ChainRuns}
use Rattle.wrp_bound_laws.specs.Fours.{FourHoldsInTrack, IsReckoned, KeptIsReckoned}
use Rattle.wrp_bound_laws.specs.PortDelays.{FibreHoldsWhileOn}
use Rattle.wrp_bound_laws.specs.Rates.{HasChain}
use Rattle.wrp_bound_laws.specs.Views.{moment_at, moments_of}
use Rattle.wrp_bound_laws.proofs.Hops.HeldRuns.{core_at}
use Rattle.wrp_bound_laws.proofs.Runs.LinksAbove.{above_at, above_is}
use Rattle.wrp_bound_laws.proofs.Sources.Parents.{has_servo, with_servo}

-- the laws that this rests on
pub record TrackLaws : Type 0 where
  pub constant : ChainHasConstant
  pub four : FourHoldsInTrack
  pub kept : KeptIsReckoned
  pub fibre : FibreHoldsWhileOn
  pub chain : TrackHasChain
  pub near : TrackIsNear
  pub gives : TrackGives
  pub estimate : EstimateHolds
  pub hop : HopHolds

-- The numbers of a hop

pub node_at : (nodes : List NodeCfg) (n : ℕ) → n < length nodes → (node : NodeCfg) × (slice_get nodes n ≡ Some node)
node_at [] n h = absurd (omega (arith, h))
node_at (node ∷ nodes) zero h = (node, refl)
node_at (node ∷ nodes) (suc n) h = node_at nodes n (omega (arith, h))

-- below a link they are the numbers of its two ends
numbers_are : (s : Setting) → IsNetwork s → (n : ℕ) (link : LinkCfg) → link_above s.cfg n ≡ Some link →
    (own : NodeCfg) × (parent : NodeCfg) × (numbers_of s.cfg n ≡ numbers_between s.cfg link (Some own) (Some parent))
numbers_are s net n link above =
    let at : (k : ℕ) × (link_of s k ≡ Some link) × (link.lower ≡ n) = above_at s n link above in
    let ends : (link.upper < node_count s.cfg) × (link.lower < node_count s.cfg) = net.accepted.tree.ends at.0 link at.1 in
    let own : (node : NodeCfg) × (slice_get s.cfg.nodes.items link.lower ≡ Some node) = node_at s.cfg.nodes.items link.lower ends.1 in
    let parent : (node : NodeCfg) × (slice_get s.cfg.nodes.items link.upper ≡ Some node) = node_at s.cfg.nodes.items link.upper ends.0 in
    (own.0, parent.0, ap (option_and_then (numbers_over s.cfg)) above ∙ numbers_over-at s.cfg link own.0 parent.0 own.1 parent.1)

some_hop : (o : Option HopNumbers) → is_some o ≡ true → (hop : HopNumbers) × (o ≡ Some hop)
some_hop (Some hop) e = (hop, refl)
some_hop None e = cc

pub has_hop : (s : Setting) → IsNetwork s → (n : ℕ) (link : LinkCfg) → link_above s.cfg n ≡ Some link → (hop : HopNumbers) × (numbers_of s.cfg n ≡ Some hop)
has_hop s net n link above = some_hop (numbers_of s.cfg n) (ap is_some (numbers_are s net n link above).2)

pos_size : (t : ℤ) → pos 1 ≤ℤ t → t ≡ pos (unsigned_abs t)
pos_size t h = omega (arith, ints, h)

-- the limits of its node's servo are among them
has_limits : (s : Setting) → IsNetwork s → (n : ℕ) (link : LinkCfg) (hop : HopNumbers) (calls : List Call) → link_above s.cfg n ≡ Some link → numbers_of s.cfg n ≡ Some hop → HasLimits hop (run (servo_setting_of (node_setting_of s n)) calls).set
has_limits s net n link hop calls above numbers =
    let it : _ = numbers_are s net n link above in
    let track : unsigned_abs s.cfg.track_tau ≡ hop.track_tau = same_Some (unsigned_abs s.cfg.track_tau) hop.track_tau (sym (ap (option_map (λ (h : HopNumbers). h.track_tau)) it.2) ∙ ap (option_map (λ (h : HopNumbers). h.track_tau)) numbers) in
    let loop : unsigned_abs s.cfg.loop_tau ≡ hop.loop_tau = same_Some (unsigned_abs s.cfg.loop_tau) hop.loop_tau (sym (ap (option_map (λ (h : HopNumbers). h.loop_tau)) it.2) ∙ ap (option_map (λ (h : HopNumbers). h.loop_tau)) numbers) in
    let set : (run (servo_setting_of (node_setting_of s n)) calls).set ≡ (s.set n).servo = set_is (servo_setting_of (node_setting_of s n)) calls in
    record {
      track = ap (λ (z : ServoSet). z.track_tau) set ∙ ap (λ (z : NodeSet). z.servo.track_tau) (net.set n) ∙ pos_size s.cfg.track_tau net.accepted.ranges.track_tau.0 ∙ ap pos track;
      loop = ap (λ (z : ServoSet). z.loop_tau) set ∙ ap (λ (z : NodeSet). z.servo.loop_tau) (net.set n) ∙ pos_size s.cfg.loop_tau net.accepted.ranges.loop_tau.0 ∙ ap pos loop;
    }

-- A node in TRACK

pub track_core : (s : Setting) (events : List Happened) (n : ℕ) (link : LinkCfg) → IsNetwork s → link_above s.cfg n ≡ Some link → state_of (node_setting_of s n) ((world_after s events).node n) ≡ Track → (core_at s events n).state ≡ Track
track_core s events n link net above e = sym (with_servo (node_setting_of s n) ((world_after s events).node n) (has_servo s net n link above)) ∙ e

pub track_chain : TrackHasChain → (s : Setting) (events : List Happened) (n : ℕ) → (core_at s events n).state ≡ Track → HasChain s n events
track_chain law s events n e = law (servo_setting_of (node_setting_of s n)) ((world_after s events).node n).calls (ap is_track e)

-- what holds of its hop: the measurement of its servo, with the deltas and the answer from which its delay was computed
pub record TrackStands (s : Setting) (events : List Happened) (k : ℕ) (link : LinkCfg) (hop : HopNumbers) : Type 0 where
  pub kept : Measurement
  pub is : (core_at s events link.lower).kept ≡ Some kept
  pub deltas : Deltas
  pub answer : ℤ
  pub delay : kept.delay ≡ delay_of deltas answer
  pub past : List Moment
  pub stands : HopStands hop (moment_at k link (world_after s events)) past deltas kept.four answer (core_at s events link.lower).phase.u
  pub limits : TrackFacts hop (est_of (core_at s events link.lower).phase.u kept) (e_tau (core_at s events link.lower).phase)

pub new_state : Uninit ≡ Track → ⊥
new_state e = let f : false ≡ true = ap is_track e in cc

pub track_stands : TrackLaws → (s : Setting) (events : List Happened) (k : ℕ) (link : LinkCfg) (hop : HopNumbers) → TrueRun s events → link_of s k ≡ Some link → numbers_of s.cfg link.lower ≡ Some hop → (core_at s events link.lower).state ≡ Track →
    TrackStands s events k link hop
track_stands laws s [] k link hop runs is numbers e = absurd (new_state e)
track_stands laws s (h ∷ before) k link hop runs is numbers e =
    let n : ℕ = link.lower in
    let x : ServoSetting = servo_setting_of (node_setting_of s n) in
    let w : WorldAt = world_after s (h ∷ before) in
    let above : link_above s.cfg n ≡ Some link = above_is s runs.run.network k link is in
    let tracks : Tracks hop (core_at s (h ∷ before) n) =
    laws.gives hop (core_at s (h ∷ before) n) (has_limits s runs.run.network n link hop (w.node n).calls above numbers) (laws.near x (w.node n).calls (ap is_track e)) in
    let chain : ChainRuns s (h ∷ before) k link hop = laws.constant s (h ∷ before) k link hop runs.run runs.fit is numbers (track_chain laws.chain s (h ∷ before) n e) in
    let reckoned : _ = laws.kept s (h ∷ before) k link hop tracks.kept runs.run runs.answered is numbers tracks.is in
    let by : IsReckoned hop reckoned.0 tracks.kept = reckoned.2 in
    record {
      kept = tracks.kept;
      is = tracks.is;
      deltas = reckoned.0;
      answer = by.answer;
      delay = by.delay;
      past = moments_of s k link before;
      stands = record {
        from = length chain.follows.older;
        start = length (chain.start ∷ chain.before);
        constant = chain.constant;
        newest = chain.newest;
        earlier = chain.earlier;
        chain = chain.holds;
        recent = record { moment = chain.holds.moment; was = chain.holds.was; near = chain.recent };
        u_is = chain.phase;
        four_true = laws.four s h before k link hop tracks.kept runs.run runs.fit is numbers chain e tracks.is;
        fibre = laws.fibre s (h ∷ before) k link hop reckoned.0 runs.run is numbers reckoned.1;
        answer = by.near;
      };
      limits = tracks.limits;
    }

-- the estimate by the measurement's delay is the estimate by the deltas and the answer
same_estimate : (P : ℤ → Type 0) (u : ℤ) (kept : Measurement) (deltas : Deltas) (answer : ℤ) → kept.delay ≡ delay_of deltas answer → P (estimate_of deltas kept.four answer u) → P (est_of u kept)
same_estimate P u kept deltas answer e h = subst (λ d. P (est_of u (record { four = kept.four; delay = d }))) (sym e) h

same_limits : (hop : HopNumbers) (u loop : ℤ) (kept : Measurement) (deltas : Deltas) (answer : ℤ) → kept.delay ≡ delay_of deltas answer → TrackFacts hop (est_of u kept) loop → TrackFacts hop (estimate_of deltas kept.four answer u) loop
same_limits hop u loop kept deltas answer e h = subst (λ d. TrackFacts hop (est_of u (record { four = kept.four; delay = d })) loop) e h

-- so it is within its hop of its parent
pub tracked_hop : TrackLaws → (s : Setting) (events : List Happened) (k : ℕ) (link : LinkCfg) (hop : HopNumbers) → TrueRun s events → link_of s k ≡ Some link → numbers_of s.cfg link.lower ≡ Some hop → (core_at s events link.lower).state ≡ Track →
    IsWithin (hop_bound hop) ((world_after s events).clock link.lower).off ((world_after s events).clock link.upper).off
tracked_hop laws s events k link hop runs is numbers e =
    let v : Core = core_at s events link.lower in
    let it : TrackStands s events k link hop = track_stands laws s events k link hop runs is numbers e in
    laws.hop hop (moment_at k link (world_after s events)) it.past it.deltas it.kept.four it.answer v.phase.u (e_tau v.phase) it.stands
    (same_limits hop v.phase.u (e_tau v.phase) it.kept it.deltas it.answer it.delay it.limits)

-- and its estimate near its offset from it
tracked_estimate : TrackLaws → (s : Setting) (events : List Happened) (k : ℕ) (link : LinkCfg) (hop : HopNumbers) (est : ℤ) → TrueRun s events → link_of s k ≡ Some link → numbers_of s.cfg link.lower ≡ Some hop → (core_at s events link.lower).state ≡ Track →
    node_est (node_setting_of s link.lower) ((world_after s events).node link.lower) ≡ Some est → IsWithin (estimate_error hop) est (((world_after s events).clock link.lower).off -ℤ ((world_after s events).clock link.upper).off)
tracked_estimate laws s events k link hop est runs is numbers e told =
    let w : WorldAt = world_after s events in
    let v : Core = core_at s events link.lower in
    let it : TrackStands s events k link hop = track_stands laws s events k link hop runs is numbers e in
    let same : est_of v.phase.u it.kept ≡ est = same_Some (est_of v.phase.u it.kept) est (sym (ap (option_map (est_of v.phase.u)) it.is) ∙ told) in
    subst (λ z. IsWithin (estimate_error hop) z ((w.clock link.lower).off -ℤ (w.clock link.upper).off)) same
    (same_estimate (λ z. IsWithin (estimate_error hop) z ((w.clock link.lower).off -ℤ (w.clock link.upper).off)) v.phase.u it.kept it.deltas it.answer it.delay
    (laws.estimate hop (moment_at k link w) it.past it.deltas it.kept.four it.answer v.phase.u it.stands))

pub estimates_are_near : TrackLaws → EstimatesAreNear
estimates_are_near laws s events n link hop est runs above numbers e told =
    let w : WorldAt = world_after s events in
    let at : (k : ℕ) × (link_of s k ≡ Some link) × (link.lower ≡ n) = above_at s n link above in
    subst (λ i. numbers_of s.cfg i ≡ Some hop → (core_at s events i).state ≡ Track → node_est (node_setting_of s i) (w.node i) ≡ Some est → IsWithin (estimate_error hop) est ((w.clock i).off -ℤ (w.clock link.upper).off)) at.2
    (λ m t o. tracked_estimate laws s events at.0 link hop est runs at.1 m t o) numbers (track_core s events n link runs.run.network above e) told
