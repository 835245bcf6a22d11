-- A chain of a run has a constant.
use Rattle.std.proofs.Common.{◌≡◌, inl, inr, ◌∙◌, refl, ap, ap₂, sym, subst, ℕ, suc, ◌+◌, ◌*◌, ◌^◌, ◌<◌, ◌≤◌, ◌==◌, cond, ℤ, pos, ◌+ℤ◌, ◌-ℤ◌, ◌≤ℤ◌, unsigned_abs, not, Bool, true, false, if◌then◌else◌, is_some, List, [], ◌∷◌, ◌++◌, length, map, Option, None, Some, option_map, option_to_list, Result, arith}
use Rattle.std.proofs.lemmas.Bool.{eqb-true, both_ways, false≢true, not-false}
use Rattle.std.proofs.lemmas.Bool.Decides.{eqb_tells}
use Rattle.std.proofs.lemmas.Int.{ints}
use Rattle.std.proofs.lemmas.Option.{same_Some}
use Rattle.std.proofs.Math.Nat.{mul-le-mul_right}
use Rattle.std.specs.Option.{option_map_or}
use Rattle.wrp_base.specs.declared.link.Role.TheVariants.{Master}
use Rattle.wrp_base.specs.declared.message.PtpMsg.{PtpMsg}
use Rattle.wrp_network.specs.declared.network.LinkCfg.{LinkCfg}
use Rattle.wrp_base.specs.Circle.{distance_round}
use Rattle.wrp_base.specs.Clock.{period_of, step_of as tag_step}
use Rattle.wrp_base.proofs.Lists.{first_is}
use Rattle.wrp_base.proofs.Naturals.{eq_self}
use Rattle.wrp_bounds.specs.declared.numbers.HopNumbers.{HopNumbers}
use Rattle.wrp_bounds.specs.Bounds.{numbers_of}
use Rattle.wrp_bounds.specs.Hop.{detector_error as hop_error, gap_motion}
use Rattle.wrp_bounds.specs.Times.{longest_tick}
use Rattle.wrp_frame.specs.declared.fault.FrameFault.{FrameFault}
use Rattle.wrp_node.specs.declared.interface.Input.TheVariants.{Tick as TickInput, Sample as SampleInput}
use Rattle.wrp_node.specs.declared.interface.NodeSet.{NodeSet}
use Rattle.wrp_node.specs.NodeAt.{NodeAt, Taken, servo_at, servo_setting_of, slave_of}
use Rattle.wrp_node.specs.NodeRun.{node_after}
use Rattle.wrp_node.specs.NodeStep.{node_step}
use Rattle.wrp_node.specs.Unbroken.{ChainIsUnbroken}
use Rattle.wrp_phase.specs.Beat.{phase_of as phase_told}
use Rattle.wrp_phase.specs.BeatPattern.{KeepsBeatPattern, TagWithinDetectorError}
use Rattle.wrp_phase.specs.Unwrapping.{unwrapped}
use Rattle.wrp_servo.specs.Call.{Call, ServoSetting, run}
use Rattle.wrp_servo.specs.Laws.{ChainKeepsGap, ChainSince}
use Rattle.wrp_servo.specs.Sampling.{is_far}
use Rattle.wrp_servo.specs.Tags.{PhaseIsSum, heard_tag, is_empty, tags, with_more}
use Rattle.wrp_servo.specs.Told.{ticks_since_good}
use Rattle.wrp_tracking_laws.specs.Chain.{ChainHolds, ChainStarts, Good, KeepsLimitsAbove, MomentKeepsChain, SampleKeepsChain, TagTells, good_now}
use Rattle.wrp_tracking_laws.specs.ChainPhase.{HasPhaseRoom, unwrapped_by}
use Rattle.wrp_tracking_laws.specs.Moment.{Moment, phase_at}
use Rattle.wrp_tracking_laws.proofs.Histories.{was_one}
use Rattle.wrp_course.specs.declared.event.Event.{Event}
use Rattle.wrp_course.specs.declared.event.Event.TheVariants.{Pass, Tick, Sample, Depart, Arrive, Deliver, Noise, Down, Up, Cut, Join}
use Rattle.wrp_course.specs.Checks.{AllHold, Holds, only_where, needs}
use Rattle.wrp_course.specs.EventAt.{FitsEvent}
use Rattle.wrp_bound_laws.proofs.Hops.HeldRuns.{one_turn}
use Rattle.wrp_bound_laws.proofs.Motion.NodeSteps.{Stands}
use Rattle.wrp_bound_laws.proofs.SyncPairs.SyncSamples.{good_where, no_good_of}
use Rattle.wrp_course.specs.Given.{Given, given_plain, step_of, taken_of, world_step}
use Rattle.wrp_course.specs.Laws.{SampleKeepsBeatPattern}
use Rattle.wrp_course.specs.Moved.{moved}
use Rattle.wrp_course.specs.Premises.{Accepts, beat_checks, sample_checks}
use Rattle.wrp_course.specs.Run.{Happened, world_after}
use Rattle.wrp_course.specs.Runs.{IsNetwork, IsRun}
use Rattle.wrp_course.specs.Setting.{Setting, above, node_setting_of, link_of, of_node}
use Rattle.wrp_course.specs.WorldAt.{WorldAt, delay_from, has_carrier, phase_of}
use Rattle.wrp_course.proofs.RunTimes.{all_right, comes_up_down, not_up}
use Rattle.wrp_bound_laws.specs.Chains.{AllFit, ChainHasConstant, good_in, goods_since, phase_in}
use Rattle.wrp_bound_laws.specs.Leases.{FollowsSource, IsCarried}
use Rattle.wrp_bound_laws.specs.Moments.{AtEach}
use Rattle.wrp_bound_laws.specs.Rates.{HasChain}
use Rattle.wrp_bound_laws.specs.Views.{moment_at, moments_of}
use Rattle.wrp_bound_laws.proofs.Samples.ChainMoves.{HasNewest, MoveLaws, chain_passes_slowly, limits_above, newest_moment}
use Rattle.wrp_bound_laws.proofs.Samples.ChainSources.{chain_has_source}
use Rattle.wrp_bound_laws.proofs.Runs.HopNumbers.{HopHas, hop_has}
use Rattle.wrp_bound_laws.proofs.Nodes.Inputs.{GivesTo, node_kept}
use Rattle.wrp_bound_laws.proofs.Sources.LeaseSources.{both_nodes, same_last}
use Rattle.wrp_bound_laws.proofs.Runs.LinksAbove.{above_is}
use Rattle.wrp_bound_laws.proofs.Samples.LiveChains.{IsIdleInput, IsNoSampleInput, SinceGood, TagsAre, chain_live, heard_deglitched, input_since, input_tags, sample_since, sample_stood, sample_tags, tick_since, unheard_first}
use Rattle.wrp_bound_laws.proofs.Motion.Moving.{ways_stay}
use Rattle.wrp_bound_laws.proofs.Runs.NodeRuns.{node_is}
use Rattle.wrp_bound_laws.proofs.Motion.Offsets.{plain_off, same_off}
use Rattle.wrp_bound_laws.proofs.Motion.OnTime.{on_time, ticked_past}
use Rattle.wrp_bound_laws.proofs.Sources.Parents.{IsCalmOf, has_servo, ticked_node}
use Rattle.wrp_bound_laws.proofs.Samples.SampleEvents.{IsNoSampleOf, no_sample_to, stood_before}
use Rattle.wrp_bound_laws.proofs.Runs.Suffixes.{at_newest, run_before, rest_length}

-- the laws that this rests on
pub record ChainRunLaws : Type 0 where
  pub moves : MoveLaws
  pub unbroken : ChainIsUnbroken
  pub since : ChainSince
  pub sum : PhaseIsSum
  pub gap : ChainKeepsGap
  pub beat : SampleKeepsBeatPattern
  pub tag : TagWithinDetectorError
  pub starts : ChainStarts
  pub moment : MomentKeepsChain
  pub sample : SampleKeepsChain

-- The servo of a node

abbrev set_at : Setting → ℕ → ServoSetting
set_at s n = servo_setting_of (node_setting_of s n)

abbrev calls_at : Setting → List Happened → ℕ → List Call
calls_at s events n = ((world_after s events).node n).calls

abbrev tags_at : Setting → List Happened → ℕ → List ℕ
tags_at s events n = tags (set_at s n) (calls_at s events n)

abbrev since_at : Setting → List Happened → ℕ → ℕ
since_at s events n = ticks_since_good (set_at s n) (calls_at s events n)

-- with a chain it has taken a good sample
has_tags : ChainRunLaws → (s : Setting) (events : List Happened) (n : ℕ) → HasChain s n events → is_empty (tags_at s events n) ≡ false
has_tags laws s events n chain =
    let is : (world_after s events).node n ≡ node_after (node_setting_of s n) ((world_after s events).inputs n) = node_is s events n in
    let live : (servo_at (node_setting_of s n) ((world_after s events).node n)).phase.fresh ≡ false =
    subst (λ (m : NodeAt). (servo_at (node_setting_of s n) m).phase.fresh ≡ false) (sym is)
    (chain_live laws.unbroken (node_setting_of s n) ((world_after s events).inputs n) (subst (λ (m : NodeAt). Stands (servo_at (node_setting_of s n) m)) is chain)) in
    sym (laws.sum (set_at s n) (calls_at s events n)).fresh ∙ live

-- and its phase is their sum
phase_is : ChainRunLaws → (s : Setting) (events : List Happened) (n : ℕ) → IsNetwork s → HasChain s n events → phase_in s (world_after s events) n ≡ unwrapped s.cfg.clock (tags_at s events n)
phase_is laws s events n net chain =
    (laws.sum (set_at s n) (calls_at s events n)).u (has_tags laws s events n chain) ∙ ap (λ (x : NodeSet). unwrapped x.servo.clock (tags_at s events n)) (net.set n)

-- Events that bring no sample to it

other_tags : (s : Setting) (h : Happened) (before : List Happened) (n : ℕ) → IsNoSampleOf n h.event → TagsAre (set_at s n) (tags_at s before n) (calls_at s (h ∷ before) n)
other_tags s h before n none =
    node_kept (λ (m : NodeAt). TagsAre (set_at s n) (tags_at s before n) m.calls) IsNoSampleInput s h.says h.answer (world_after s before) h.event n
    (λ t m q k. input_tags (node_setting_of s n) (tags_at s before n) t m q k) (no_sample_to n h.event none) (λ e. refl)

abbrev IsIdleOf : ℕ → Event → Type 0
IsIdleOf n (Tick m) = n ≡ m → ⊥
IsIdleOf n (Sample m base bits) = n ≡ m → ⊥
IsIdleOf n (Up m off swaps) = n ≡ m → ⊥
IsIdleOf n _ = Unit {0}

idle_to : (n : ℕ) (e : Event) → IsIdleOf n e → GivesTo IsIdleInput n e
idle_to n (Tick m) h = λ is. absurd (h is)
idle_to n (Sample m base bits) h = λ is number. absurd (h is)
idle_to n (Depart m p stamp) h = λ q seq delay t. tt
idle_to n (Deliver i) h = λ q octets raw sample. tt
idle_to n (Noise m p octets raw) h = λ sample. tt
idle_to n (Down m) h = λ q. tt
idle_to n (Up m off swaps) h = (λ is. absurd (h is), λ q own_module. tt)
idle_to n (Cut k) h = λ q. tt
idle_to n (Join k ms sm) h = λ q own_module. tt
idle_to n (Pass dt drifts fibres) h = tt
idle_to n (Arrive i raw) h = tt

idle_calm : (n : ℕ) (e : Event) → IsIdleOf n e → IsCalmOf n e
idle_calm n (Tick m) h = h
idle_calm n (Up m off swaps) h = h
idle_calm n e h = tt

-- A sample of it

sampled_node : (s : Setting) (says : Result PtpMsg FrameFault) (y : ℤ) (w : WorldAt) (n m base bits : ℕ) → n ≡ m →
    (world_step s says y w (Sample m base bits)).node n ≡ (node_step (node_setting_of s n) (taken_of y (given_plain n (SampleInput ((w.clock n).samples + 1) base bits))) (w.node n)).node
sampled_node s says y w n m base bits same =
    let v : WorldAt = moved s w (Sample m base bits) in
    let g : Given = given_plain m (SampleInput (v.clock m).samples base bits) in
    let here : (n == m) ≡ true = ap (λ i. i == m) same ∙ eq_self m in
    let number : (v.clock m).samples ≡ (w.clock m).samples + 1 = ap (λ b. (if b then record (w.clock m) { samples = (w.clock m).samples + 1 } else w.clock m).samples) (eq_self m) in
    ap (λ b. if b then (step_of s y v g).node else w.node n) here
    ∙ ap (λ k. (node_step (node_setting_of s m) (taken_of y (given_plain m (SampleInput k base bits))) (w.node m)).node) number
    ∙ ap (λ i. (node_step (node_setting_of s i) (taken_of y (given_plain i (SampleInput ((w.clock i).samples + 1) base bits))) (w.node i)).node) (sym same)

-- what it hears of it
abbrev heard_in : Setting → List Happened → ℕ → ℕ → ℕ → Option ℕ
heard_in s before n base bits = heard_tag (set_at s n) (calls_at s before n) (((world_after s before).clock n).samples + 1) base bits

not_far : (b : Bool) (l : List ℕ) → is_empty (cond b [] l) ≡ false → cond b [] l ≡ l
not_far true l e = absurd (false≢true (sym e))
not_far false l e = refl

more_tags : (x : ServoSetting) (ts : List ℕ) (o : Option ℕ) (tag : ℕ) → o ≡ Some tag → is_empty (with_more x ts o) ≡ false → with_more x ts o ≡ tag ∷ ts
more_tags x ts None tag e h = cc
more_tags x ts (Some t) tag e h = not_far (is_far (unwrapped x.set.clock (t ∷ ts))) (t ∷ ts) h ∙ ap (λ z. z ∷ ts) (same_Some t tag e)

-- the laws on it, of the event that brought it
record Sampled (s : Setting) (h : Happened) (before : List Happened) (n base bits : ℕ) : Type 0 where
  tags_are : TagsAre (set_at s n) (with_more (set_at s n) (tags_at s before n) (heard_in s before n base bits)) (calls_at s (h ∷ before) n)
  since_is : since_at s (h ∷ before) n ≡ cond (is_some (heard_in s before n base bits)) 0 (since_at s before n)
  stood : heard_in s before n base bits ≡ None → HasChain s n (h ∷ before) → HasChain s n before

sampled : ChainSince → (s : Setting) (says : Result PtpMsg FrameFault) (y : ℤ) (before : List Happened) (n m base bits : ℕ) → n ≡ m → is_some (slave_of (s.set n)) ≡ true → Sampled s (record { event = Sample m base bits; says = says; answer = y }) before n base bits
sampled law s says y before n m base bits same servo =
    let w : WorldAt = world_after s before in
    let number : ℕ = (w.clock n).samples + 1 in
    let t : Taken = taken_of y (given_plain n (SampleInput number base bits)) in
    let is : (world_step s says y w (Sample m base bits)).node n ≡ (node_step (node_setting_of s n) t (w.node n)).node = sampled_node s says y w n m base bits same in
    record {
      tags_are = subst (λ (x : NodeAt). TagsAre (set_at s n) (with_more (set_at s n) (tags_at s before n) (heard_in s before n base bits)) x.calls) (sym is) (sample_tags (node_setting_of s n) t (w.node n) number base bits refl servo);
      since_is = subst (λ (x : NodeAt). SinceGood (set_at s n) (cond (is_some (heard_in s before n base bits)) 0 (since_at s before n)) x.calls) (sym is) (sample_since (node_setting_of s n) t (w.node n) number base bits refl servo);
      stood =
          λ none chain.
          sym (ap is_some (unheard_first (set_at s n) (w.node n).calls number base bits none))
          ∙ sample_stood law (node_setting_of s n) t (w.node n) number base bits refl servo (subst (λ (x : NodeAt). Stands (run (set_at s n) x.calls)) is chain);
    }

-- The tag of a good sample gives the true phase

above_number : (s : Setting) → IsNetwork s → (k : ℕ) (link : LinkCfg) → link_of s k ≡ Some link → above s link.lower ≡ Some k
above_number s net k link is =
    first_is (λ (l : LinkCfg). l.lower == link.lower) s.cfg.links.items k link is (eq_self link.lower)
    (λ j z there ok. net.accepted.tree.one_parent j k z link there is (eqb-true z.lower link.lower ok))

base_fits : (base : ℕ) → base ≤ 16_383 → base < 16_384
base_fits base h = omega (arith, h)

-- the phase stays in it
same_phase : MoveLaws → (s : Setting) (says : Result PtpMsg FrameFault) (y : ℤ) (before : List Happened) (m base bits k : ℕ) (link : LinkCfg) → IsRun s (record { event = Sample m base bits; says = says; answer = y } ∷ before) → IsCarried s k before →
    phase_at (moment_at k link (world_step s says y (world_after s before) (Sample m base bits))) ≡ phase_at (moment_at k link (world_after s before))
same_phase laws s says y before m base bits k link run carried =
    let w : WorldAt = world_after s before in
    let e : Event = Sample m base bits in
    let now : WorldAt = world_step s says y w e in
    let off : (n : ℕ) → (now.clock n).off ≡ (w.clock n).off = λ n. plain_off laws.rates.commands s says y w e n tt ∙ same_off w e n tt in
    let down : delay_from now k Master ≡ delay_from w k Master = (ways_stay laws.modules s (record { event = e; says = says; answer = y }) before k link run carried tt).0 in
    ap₂ (λ a b. (a -ℤ b) +ℤ delay_from now k Master) (off link.lower) (off link.upper) ∙ ap (λ d. ((w.clock link.lower).off -ℤ (w.clock link.upper).off) +ℤ d) down

carried_by : (s : Setting) (w : WorldAt) (says : Result PtpMsg FrameFault) (m base bits k : ℕ) → above s m ≡ Some k → Accepts s w says (Sample m base bits) → has_carrier s w k ≡ true
carried_by s w says m base bits k at a =
    let h : AllHold (sample_checks s w m base bits (Some k)) = subst (λ o. AllHold (sample_checks s w m base bits o)) at a in
    not-false (has_carrier s w k) (all_right Holds (map (only_where (has_carrier s w k)) (option_map_or (beat_checks s w m base bits k) (link_of s k) [])) (needs (has_carrier s w k) ∷ []) h).0

tag_tells : ChainRunLaws → (s : Setting) (says : Result PtpMsg FrameFault) (y : ℤ) (before : List Happened) (m base bits k tag : ℕ) (link : LinkCfg) (hop : HopNumbers) → IsRun s (record { event = Sample m base bits; says = says; answer = y } ∷ before) → bits < 2 ^ 64 →
    link_of s k ≡ Some link → numbers_of s.cfg link.lower ≡ Some hop → link.lower ≡ m → heard_in s before link.lower base bits ≡ Some tag → TagTells hop tag (moment_at k link (world_step s says y (world_after s before) (Sample m base bits)))
tag_tells laws s says y before m base bits k tag link hop run fits is numbers same heard =
    let w : WorldAt = world_after s before in
    let at : above s m ≡ Some k = ap (above s) (sym same) ∙ above_number s run.network k link is in
    let has : HopHas s link hop = hop_has s run.network k link hop is numbers in
    let keeps : KeepsBeatPattern s.cfg.clock base bits (of_node (λ node. node.beat) s m) (phase_of w k link) = laws.beat s w says m base bits k link run.accepted.0 at is in
    let told : distance_round s.cfg.clock (pos (phase_told s.cfg.clock tag)) (phase_of w k link) ≤ (of_node (λ node. node.beat) s m + 1) * tag_step s.cfg.clock =
    laws.tag s.cfg.clock base bits (of_node (λ node. node.beat) s m) tag (phase_of w k link) (base_fits base run.each.0.1) fits keeps
    (heard_deglitched (set_at s link.lower) (calls_at s before link.lower) ((w.clock link.lower).samples + 1) base bits tag heard) in
    let phase : _ = same_phase laws.moves s says y before m base bits k link run (carried_by s w says m base bits k at run.accepted.0) in
    let beat : of_node (λ node. node.beat) s m ≡ hop.beat = ap (of_node (λ node. node.beat) s) (sym same) ∙ sym has.beat in
    subst (λ c. distance_round c (pos (phase_told c tag)) (phase_at (moment_at k link (world_step s says y w (Sample m base bits)))) ≤ (hop.beat + 1) * tag_step c) (sym has.clock)
    (subst (λ b. distance_round s.cfg.clock (pos (phase_told s.cfg.clock tag)) (phase_at (moment_at k link (world_step s says y w (Sample m base bits)))) ≤ (b + 1) * tag_step s.cfg.clock) beat
    (subst (λ z. distance_round s.cfg.clock (pos (phase_told s.cfg.clock tag)) z ≤ (of_node (λ node. node.beat) s m + 1) * tag_step s.cfg.clock) (sym phase) told))

-- What is kept of a chain, event by event

-- in addition to its samples: the tags that the servo has taken, and how late the node's last tick can be
record Held (s : Setting) (events : List Happened) (k : ℕ) (link : LinkCfg) (hop : HopNumbers) : Type 0 where
  newer : List Happened
  start : Happened
  before : List Happened
  splits : events ≡ newer ++ start ∷ before
  stands : AtEach (HasChain s link.lower) newer (start ∷ before)
  begins : HasChain s link.lower before → ⊥
  follows : FollowsSource s (start ∷ before) k link
  constant : ℤ
  newest : Good
  earlier : List Good
  goods : newest ∷ earlier ≡ goods_since s link.lower newer (start ∷ before)
  holds : ChainHolds hop (moments_of s k link events) (length follows.older) (length (start ∷ before)) constant newest earlier
  rest : List ℕ
  tags_are : tags_at s events link.lower ≡ newest.tag ∷ rest
  u : newest.u ≡ unwrapped s.cfg.clock (newest.tag ∷ rest)
  late : ((world_after s events).clock link.lower).ticked ≤ℤ (holds.moment.time +ℤ pos (since_at s events link.lower * longest_tick s.cfg))

-- the newest sample is no longer ago than the gap
in_gap : (now last at : ℤ) (ticks gap dmax : ℕ) → ticks ≤ gap → now ≤ℤ (last +ℤ pos dmax) → last ≤ℤ (at +ℤ pos (ticks * dmax)) → now ≤ℤ (at +ℤ pos ((gap + 1) * dmax))
in_gap now last at ticks gap dmax few h k =
    let more : (ticks + 1) * dmax ≡ ticks * dmax + dmax = grind (arith) in
    let fits : (ticks + 1) * dmax ≤ (gap + 1) * dmax = mul-le-mul_right dmax (omega (arith, few)) in
    sum now last at (ticks * dmax) ((ticks + 1) * dmax) ((gap + 1) * dmax) dmax more fits h k
  where
    sum : (now last at : ℤ) (p q r dmax : ℕ) → q ≡ p + dmax → q ≤ r → now ≤ℤ (last +ℤ pos dmax) → last ≤ℤ (at +ℤ pos p) → now ≤ℤ (at +ℤ pos r)
    sum now last at p q r dmax e fits h k = omega (arith, ints)

node_up : (s : Setting) (events : List Happened) (k : ℕ) (link : LinkCfg) → ChainRunLaws → IsRun s events → link_of s k ≡ Some link → HasChain s link.lower events → ((world_after s events).clock link.lower).up ≡ true
node_up s events k link laws run is chain =
    let f : FollowsSource s events k link = chain_has_source laws.moves.chains s events k link run is chain in
    (both_nodes s (world_after s events) k link is (subst (IsCarried s k) (sym f.splits) (at_newest (IsCarried s k) f.newer f.older f.carried))).1

recent_by : ChainRunLaws → (s : Setting) (events : List Happened) (k : ℕ) (link : LinkCfg) (hop : HopNumbers) → IsRun s events → link_of s k ≡ Some link → numbers_of s.cfg link.lower ≡ Some hop → HasChain s link.lower events → (c : Held s events k link hop) →
    (world_after s events).time ≤ℤ (c.holds.moment.time +ℤ pos hop.gap_time)
recent_by laws s events k link hop run is numbers chain c =
    let n : ℕ = link.lower in
    let w : WorldAt = world_after s events in
    let has : HopHas s link hop = hop_has s run.network k link hop is numbers in
    let few : since_at s events n ≤ unsigned_abs s.cfg.gap =
    subst (λ g. since_at s events n ≤ g) (ap (λ (x : NodeSet). x.servo.gap) (run.network.set n)) (laws.gap (set_at s n) (calls_at s events n) chain) in
    subst (λ g. w.time ≤ℤ (c.holds.moment.time +ℤ pos g)) (sym has.gap)
    (in_gap w.time (w.clock n).ticked c.holds.moment.time (since_at s events n) (unsigned_abs s.cfg.gap) (longest_tick s.cfg) few
    (on_time laws.moves.chains.lease.quiet.apart s events n (run.network.accepted.tree.ends k link is).1 run (node_up s events k link laws run is chain)) c.late)

-- the history with one moment more
kept_holds : ChainRunLaws → (s : Setting) (h : Happened) (before : List Happened) (k : ℕ) (link : LinkCfg) (hop : HopNumbers) → IsRun s (h ∷ before) → link_of s k ≡ Some link → numbers_of s.cfg link.lower ≡ Some hop → HasChain s link.lower before →
    HasChain s link.lower (h ∷ before) → (from start : ℕ) (constant : ℤ) (newest : Good) (earlier : List Good) → ChainHolds hop (moments_of s k link before) from start constant newest earlier →
    ChainHolds hop (moments_of s k link (h ∷ before)) from start constant newest earlier
kept_holds laws s h before k link hop run is numbers chain later from start constant newest earlier holds =
    let it : HasNewest s k link before = newest_moment s k link before in
    let now : Moment = moment_at k link (world_after s (h ∷ before)) in
    subst (λ ms. ChainHolds hop (now ∷ ms) from start constant newest earlier) (sym it.is)
    (laws.moment hop now (moment_at k link (world_after s before)) it.past from start constant newest earlier (chain_passes_slowly laws.moves s h before k link hop run is numbers chain later)
    (subst (λ ms. ChainHolds hop ms from start constant newest earlier) it.is holds))

-- an event without a good sample
no_good : ChainRunLaws → (s : Setting) (h : Happened) (before : List Happened) (k : ℕ) (link : LinkCfg) (hop : HopNumbers) → IsRun s (h ∷ before) → link_of s k ≡ Some link → numbers_of s.cfg link.lower ≡ Some hop → HasChain s link.lower before →
    HasChain s link.lower (h ∷ before) → good_in s link.lower h before h.event ≡ None → tags_at s (h ∷ before) link.lower ≡ tags_at s before link.lower → (c : Held s before k link hop) →
    ((world_after s (h ∷ before)).clock link.lower).ticked ≤ℤ (c.holds.moment.time +ℤ pos (since_at s (h ∷ before) link.lower * longest_tick s.cfg)) → Held s (h ∷ before) k link hop
no_good laws s h before k link hop run is numbers chain later none same c late =
    let holds : ChainHolds hop (moments_of s k link (h ∷ before)) (length c.follows.older) (length (c.start ∷ c.before)) c.constant c.newest c.earlier =
    kept_holds laws s h before k link hop run is numbers chain later (length c.follows.older) (length (c.start ∷ c.before)) c.constant c.newest c.earlier c.holds in
    let moment : c.holds.moment ≡ holds.moment = was_one c.newest.at c.holds.moment holds.moment (moments_of s k link (h ∷ before)) (inr c.holds.was) holds.was in
    record {
      newer = h ∷ c.newer;
      start = c.start;
      before = c.before;
      splits = ap (λ l. h ∷ l) c.splits;
      stands = (subst (λ l. HasChain s link.lower (h ∷ l)) c.splits later, c.stands);
      begins = c.begins;
      follows = c.follows;
      constant = c.constant;
      newest = c.newest;
      earlier = c.earlier;
      goods = c.goods ∙ sym (ap (λ o. option_to_list o ++ goods_since s link.lower c.newer (c.start ∷ c.before)) (subst (λ l. good_in s link.lower h l h.event ≡ None) c.splits none));
      holds = holds;
      rest = c.rest;
      tags_are = same ∙ c.tags_are;
      u = c.u;
      late = subst (λ (m : Moment). ((world_after s (h ∷ before)).clock link.lower).ticked ≤ℤ (m.time +ℤ pos (since_at s (h ∷ before) link.lower * longest_tick s.cfg))) moment late;
    }

count_more : (a b : ℕ) → a ≡ b → suc a ≡ b + 1
count_more a b e = omega (arith, e)

-- two good samples are one
good_same : (a b : Good) → a.number ≡ b.number → a.tag ≡ b.tag → a.u ≡ b.u → a.at ≡ b.at → a ≡ b
good_same a b n t u p = λ i. record { number = n i; tag = t i; u = u i; at = p i }

some_later : (t : ℤ) (n : ℕ) (l : ℤ) → l ≤ℤ t → l ≤ℤ (t +ℤ pos n)
some_later t n l h = omega (arith, ints, h)

-- a good sample
one_good : ChainRunLaws → (s : Setting) (h : Happened) (before : List Happened) (k : ℕ) (link : LinkCfg) (hop : HopNumbers) (tag : ℕ) → IsRun s (h ∷ before) → link_of s k ≡ Some link → numbers_of s.cfg link.lower ≡ Some hop → HasChain s link.lower before →
    HasChain s link.lower (h ∷ before) → TagTells hop tag (moment_at k link (world_after s (h ∷ before))) → (world_after s (h ∷ before)).time ≡ (world_after s before).time →
    good_in s link.lower h before h.event ≡ Some (record { number = ((world_after s before).clock link.lower).samples + 1; tag = tag; u = phase_in s (world_after s (h ∷ before)) link.lower; at = length before + 1 }) →
    tags_at s (h ∷ before) link.lower ≡ tag ∷ tags_at s before link.lower → Held s before k link hop → Held s (h ∷ before) k link hop
one_good laws s h before k link hop tag run is numbers chain later tells time told more c =
    let n : ℕ = link.lower in
    let now : Moment = moment_at k link (world_after s (h ∷ before)) in
    let past : List Moment = moments_of s k link before in
    let it : HasNewest s k link before = newest_moment s k link before in
    let has : HopHas s link hop = hop_has s run.network k link hop is numbers in
    let number : ℕ = ((world_after s before).clock n).samples + 1 in
    let from : ℕ = length c.follows.older in
    let begun : ℕ = length (c.start ∷ c.before) in
    let held : ChainHolds hop (now ∷ past) from begun c.constant c.newest c.earlier = kept_holds laws s h before k link hop run is numbers chain later from begun c.constant c.newest c.earlier c.holds in
    let moment : c.holds.moment ≡ held.moment = was_one c.newest.at c.holds.moment held.moment (now ∷ past) (inr c.holds.was) held.was in
    let near : now.time ≤ℤ (held.moment.time +ℤ pos hop.gap_time) =
    subst (λ (m : Moment). now.time ≤ℤ (m.time +ℤ pos hop.gap_time)) moment
    (subst (λ t. t ≤ℤ (c.holds.moment.time +ℤ pos hop.gap_time)) (sym time) (recent_by laws s before k link hop (run_before s h before run) is numbers chain c)) in
    let room : HasPhaseRoom hop.clock (hop_error hop) (gap_motion hop) =
    subst (λ z. 2 * gap_motion hop + 4 * hop_error hop < period_of z) (sym has.clock) (run.network.accepted.inequalities.phase_room n hop (run.network.accepted.tree.ends k link is).1 numbers) in
    let newest : Good = good_now number tag (unwrapped_by hop.clock c.newest.u c.newest.tag tag) past in
    let holds : ChainHolds hop (now ∷ past) from begun c.constant newest (c.newest ∷ c.earlier) =
    laws.sample hop now past from begun c.constant c.newest c.earlier number tag room held (record { moment = held.moment; was = held.was; near = near }) tells in
    let tags_now : tags_at s (h ∷ before) n ≡ tag ∷ (c.newest.tag ∷ c.rest) = more ∙ ap (λ l. tag ∷ l) c.tags_are in
    let u_now : newest.u ≡ unwrapped s.cfg.clock (tag ∷ (c.newest.tag ∷ c.rest)) =
    ap (λ z. unwrapped_by z c.newest.u c.newest.tag tag) has.clock ∙ ap (λ z. unwrapped_by s.cfg.clock z c.newest.tag tag) c.u in
    let length_is : length past ≡ length before + 1 = ap length it.is ∙ count_more (length it.past) (length before) it.length_is in
    let same : newest ≡ record { number = number; tag = tag; u = phase_in s (world_after s (h ∷ before)) n; at = length before + 1 } =
    good_same newest (record { number = number; tag = tag; u = phase_in s (world_after s (h ∷ before)) n; at = length before + 1 }) refl refl
    (u_now ∙ sym (ap (unwrapped s.cfg.clock) tags_now) ∙ sym (phase_is laws s (h ∷ before) n run.network later)) length_is in
    let here : now ≡ holds.moment = was_one (length past) now holds.moment (now ∷ past) (inl (refl, refl)) holds.was in
    record {
      newer = h ∷ c.newer;
      start = c.start;
      before = c.before;
      splits = ap (λ l. h ∷ l) c.splits;
      stands = (subst (λ l. HasChain s n (h ∷ l)) c.splits later, c.stands);
      begins = c.begins;
      follows = c.follows;
      constant = c.constant;
      newest = newest;
      earlier = c.newest ∷ c.earlier;
      goods =
          ap₂ (λ (g : Good) (gs : List Good). g ∷ gs) same c.goods
          ∙ sym (ap (λ o. option_to_list o ++ goods_since s n c.newer (c.start ∷ c.before)) (subst (λ l. good_in s n h l h.event ≡ good_in s n h before h.event) c.splits refl ∙ told));
      holds = holds;
      rest = c.newest.tag ∷ c.rest;
      tags_are = tags_now;
      u = u_now;
      late =
          subst (λ (m : Moment). ((world_after s (h ∷ before)).clock n).ticked ≤ℤ (m.time +ℤ pos (since_at s (h ∷ before) n * longest_tick s.cfg))) here
          (some_later now.time (since_at s (h ∷ before) n * longest_tick s.cfg) ((world_after s (h ∷ before)).clock n).ticked (ticked_past laws.moves.chains.lease.quiet.apart s (h ∷ before) n run));
    }

-- the limits above, since the Announce
limits_of : ChainRunLaws → (s : Setting) (events : List Happened) (k : ℕ) (link : LinkCfg) (hop : HopNumbers) → IsRun s events → link_of s k ≡ Some link → numbers_of s.cfg link.lower ≡ Some hop → (f : FollowsSource s events k link) →
    KeepsLimitsAbove hop (moments_of s k link events) (length f.older)
limits_of laws s events k link hop run is numbers f =
    subst (λ l. KeepsLimitsAbove hop (moments_of s k link l) (length f.older)) (sym f.splits)
    (limits_above laws.moves s k link hop f.newer f.older (subst (IsRun s) f.splits run) is numbers f.source f.carried)

-- the good sample that starts it
begin_at : ChainRunLaws → (s : Setting) (h : Happened) (before : List Happened) (k : ℕ) (link : LinkCfg) (hop : HopNumbers) (tag : ℕ) → IsRun s (h ∷ before) → link_of s k ≡ Some link → numbers_of s.cfg link.lower ≡ Some hop → (HasChain s link.lower before → ⊥) →
    HasChain s link.lower (h ∷ before) → TagTells hop tag (moment_at k link (world_after s (h ∷ before))) →
    good_in s link.lower h before h.event ≡ Some (record { number = ((world_after s before).clock link.lower).samples + 1; tag = tag; u = phase_in s (world_after s (h ∷ before)) link.lower; at = length before + 1 }) →
    tags_at s (h ∷ before) link.lower ≡ tag ∷ tags_at s before link.lower → Held s (h ∷ before) k link hop
begin_at laws s h before k link hop tag run is numbers none chain tells told more =
    let n : ℕ = link.lower in
    let now : Moment = moment_at k link (world_after s (h ∷ before)) in
    let past : List Moment = moments_of s k link before in
    let it : HasNewest s k link before = newest_moment s k link before in
    let number : ℕ = ((world_after s before).clock n).samples + 1 in
    let u : ℤ = phase_in s (world_after s (h ∷ before)) n in
    let f : FollowsSource s (h ∷ before) k link = chain_has_source laws.moves.chains s (h ∷ before) k link run is chain in
    let length_is : length past ≡ length (h ∷ before) = ap length it.is ∙ ap suc it.length_is in
    let order : length f.older ≤ length past = subst (λ z. length f.older ≤ z) (sym length_is) (subst (λ l. length f.older ≤ length l) (sym f.splits) (rest_length f.newer f.older)) in
    let limits : KeepsLimitsAbove hop (now ∷ past) (length f.older) = limits_of laws s (h ∷ before) k link hop run is numbers f in
    let begun : (constant : ℤ) × ChainHolds hop (now ∷ past) (length f.older) (length past) constant (good_now number tag u past) [] = laws.starts hop now past (length f.older) number tag u order limits tells in
    let newest : Good = good_now number tag u past in
    let at_is : length past ≡ length before + 1 = ap length it.is ∙ count_more (length it.past) (length before) it.length_is in
    let holds : ChainHolds hop (now ∷ past) (length f.older) (length (h ∷ before)) begun.0 newest [] = subst (λ z. ChainHolds hop (now ∷ past) (length f.older) z begun.0 newest []) length_is begun.1 in
    let same : newest ≡ record { number = number; tag = tag; u = u; at = length before + 1 } =
    good_same newest (record { number = number; tag = tag; u = u; at = length before + 1 }) refl refl refl at_is in
    let here : now ≡ holds.moment = was_one (length past) now holds.moment (now ∷ past) (inl (refl, refl)) holds.was in
    record {
      newer = [];
      start = h;
      before = before;
      splits = refl;
      stands = chain;
      begins = none;
      follows = f;
      constant = begun.0;
      newest = newest;
      earlier = [];
      goods = ap (λ (g : Good). g ∷ []) same ∙ sym (ap option_to_list told);
      holds = holds;
      rest = tags_at s before n;
      tags_are = more;
      u = phase_is laws s (h ∷ before) n run.network chain ∙ ap (unwrapped s.cfg.clock) more;
      late =
          subst (λ (m : Moment). ((world_after s (h ∷ before)).clock n).ticked ≤ℤ (m.time +ℤ pos (since_at s (h ∷ before) n * longest_tick s.cfg))) here
          (some_later now.time (since_at s (h ∷ before) n * longest_tick s.cfg) ((world_after s (h ∷ before)).clock n).ticked (ticked_past laws.moves.chains.lease.quiet.apart s (h ∷ before) n run));
    }

-- Each event

-- what is known of the events before it
abbrev Before : Setting → List Happened → ℕ → LinkCfg → HopNumbers → Type 0
Before s before k link hop = HasChain s link.lower before → Held s before k link hop

-- an event without a sample of the node
other_held : ChainRunLaws → (s : Setting) (h : Happened) (before : List Happened) (k : ℕ) (link : LinkCfg) (hop : HopNumbers) → IsRun s (h ∷ before) → link_of s k ≡ Some link → numbers_of s.cfg link.lower ≡ Some hop → HasChain s link.lower (h ∷ before) →
    IsNoSampleOf link.lower h.event → good_in s link.lower h before h.event ≡ None → Before s before k link hop →
    ((tm : ℤ) → HasChain s link.lower before → ((world_after s before).clock link.lower).ticked ≤ℤ (tm +ℤ pos (since_at s before link.lower * longest_tick s.cfg)) →
    ((world_after s (h ∷ before)).clock link.lower).ticked ≤ℤ (tm +ℤ pos (since_at s (h ∷ before) link.lower * longest_tick s.cfg))) → Held s (h ∷ before) k link hop
other_held laws s h before k link hop run is numbers chain none good old late =
    let was : HasChain s link.lower before = stood_before laws.since s h before link.lower none chain in
    let c : Held s before k link hop = old was in
    no_good laws s h before k link hop run is numbers was chain good (other_tags s h before link.lower none (has_tags laws s (h ∷ before) link.lower chain)) c (late c.holds.moment.time was c.late)

-- an event in which neither a tick nor a sample of it comes, nor its start
idle_late : (s : Setting) (h : Happened) (before : List Happened) (n : ℕ) → IsIdleOf n h.event → (tm : ℤ) → ((world_after s before).clock n).ticked ≤ℤ (tm +ℤ pos (since_at s before n * longest_tick s.cfg)) →
    ((world_after s (h ∷ before)).clock n).ticked ≤ℤ (tm +ℤ pos (since_at s (h ∷ before) n * longest_tick s.cfg))
idle_late s h before n idle tm late =
    let ticks : since_at s (h ∷ before) n ≡ since_at s before n =
    node_kept (λ (m : NodeAt). SinceGood (set_at s n) (since_at s before n) m.calls) IsIdleInput s h.says h.answer (world_after s before) h.event n
    (λ t m q k. input_since (node_setting_of s n) (since_at s before n) t m q k) (idle_to n h.event idle) refl in
    subst (λ z. z ≤ℤ (tm +ℤ pos (since_at s (h ∷ before) n * longest_tick s.cfg))) (sym (same_last s h before n (idle_calm n h.event idle)))
    (subst (λ z. ((world_after s before).clock n).ticked ≤ℤ (tm +ℤ pos (z * longest_tick s.cfg))) (sym ticks) late)

idle_held : ChainRunLaws → (s : Setting) (h : Happened) (before : List Happened) (k : ℕ) (link : LinkCfg) (hop : HopNumbers) → IsRun s (h ∷ before) → link_of s k ≡ Some link → numbers_of s.cfg link.lower ≡ Some hop → HasChain s link.lower (h ∷ before) →
    IsNoSampleOf link.lower h.event → good_in s link.lower h before h.event ≡ None → (HasChain s link.lower before → IsIdleOf link.lower h.event) → Before s before k link hop → Held s (h ∷ before) k link hop
idle_held laws s h before k link hop run is numbers chain none good idle old =
    other_held laws s h before k link hop run is numbers chain none good old (λ tm was late. idle_late s h before link.lower (idle was) tm late)

tick_held : ChainRunLaws → (s : Setting) (says : Result PtpMsg FrameFault) (y : ℤ) (before : List Happened) (m k : ℕ) (link : LinkCfg) (hop : HopNumbers) → IsRun s (record { event = Tick m; says = says; answer = y } ∷ before) → link_of s k ≡ Some link →
    numbers_of s.cfg link.lower ≡ Some hop → HasChain s link.lower (record { event = Tick m; says = says; answer = y } ∷ before) → link.lower ≡ m → Before s before k link hop → Held s (record { event = Tick m; says = says; answer = y } ∷ before) k link hop
tick_held laws s says y before m k link hop run is numbers chain same old =
    let n : ℕ = link.lower in
    let h : Happened = record { event = Tick m; says = says; answer = y } in
    let w : WorldAt = world_after s before in
    let servo : is_some (slave_of (s.set n)) ≡ true = has_servo s run.network n link (above_is s run.network k link is) in
    let node : _ = ticked_node s says y w n m same in
    let ticks : since_at s (h ∷ before) n ≡ since_at s before n + 1 =
    subst (λ (x : NodeAt). SinceGood (set_at s n) (since_at s before n + 1) x.calls) (sym node.0) (tick_since (node_setting_of s n) (since_at s before n) (taken_of y (given_plain m TickInput)) (w.node n) refl servo refl) in
    other_held laws s h before k link hop run is numbers chain tt refl old
    (λ tm was late.
    subst (λ z. z ≤ℤ (tm +ℤ pos (since_at s (h ∷ before) n * longest_tick s.cfg))) (sym node.1)
    (subst (λ z. w.time ≤ℤ (tm +ℤ pos (z * longest_tick s.cfg))) (sym ticks)
    (one_turn w.time (w.clock n).ticked tm (since_at s before n) (longest_tick s.cfg)
    (on_time laws.moves.chains.lease.quiet.apart s before n (run.network.accepted.tree.ends k link is).1 (run_before s h before run) (node_up s before k link laws (run_before s h before run) is was)) late)))

all_time : (s : Setting) (says : Result PtpMsg FrameFault) (y : ℤ) (w : WorldAt) (m base bits : ℕ) → (world_step s says y w (Sample m base bits)).time ≡ w.time
all_time s says y w m base bits = refl

sample_good : ChainRunLaws → (s : Setting) (says : Result PtpMsg FrameFault) (y : ℤ) (before : List Happened) (m base bits k : ℕ) (link : LinkCfg) (hop : HopNumbers) (tag : ℕ) → IsRun s (record { event = Sample m base bits; says = says; answer = y } ∷ before) →
    link_of s k ≡ Some link → numbers_of s.cfg link.lower ≡ Some hop → HasChain s link.lower (record { event = Sample m base bits; says = says; answer = y } ∷ before) →
    TagTells hop tag (moment_at k link (world_after s (record { event = Sample m base bits; says = says; answer = y } ∷ before))) →
    good_in s link.lower (record { event = Sample m base bits; says = says; answer = y }) before (Sample m base bits)
    ≡ Some (record { number = ((world_after s before).clock link.lower).samples + 1; tag = tag; u = phase_in s (world_after s (record { event = Sample m base bits; says = says; answer = y } ∷ before)) link.lower; at = length before + 1 }) →
    tags_at s (record { event = Sample m base bits; says = says; answer = y } ∷ before) link.lower ≡ tag ∷ tags_at s before link.lower → (c : Bool) →
    is_some (servo_at (node_setting_of s link.lower) ((world_after s before).node link.lower)).first ≡ c → Before s before k link hop → Held s (record { event = Sample m base bits; says = says; answer = y } ∷ before) k link hop
sample_good laws s says y before m base bits k link hop tag run is numbers chain tells good more true stood old =
    one_good laws s (record { event = Sample m base bits; says = says; answer = y }) before k link hop tag run is numbers stood chain tells (all_time s says y (world_after s before) m base bits) good more (old stood)
sample_good laws s says y before m base bits k link hop tag run is numbers chain tells good more false stood old =
    begin_at laws s (record { event = Sample m base bits; says = says; answer = y }) before k link hop tag run is numbers
    (both_ways (is_some (servo_at (node_setting_of s link.lower) ((world_after s before).node link.lower)).first) stood) chain tells good more

sample_held : ChainRunLaws → (s : Setting) (says : Result PtpMsg FrameFault) (y : ℤ) (before : List Happened) (m base bits k : ℕ) (link : LinkCfg) (hop : HopNumbers) (o : Option ℕ) → IsRun s (record { event = Sample m base bits; says = says; answer = y } ∷ before) → bits < 2 ^ 64 →
    link_of s k ≡ Some link → numbers_of s.cfg link.lower ≡ Some hop → HasChain s link.lower (record { event = Sample m base bits; says = says; answer = y } ∷ before) → link.lower ≡ m → heard_in s before link.lower base bits ≡ o →
    (c : Bool) → is_some (servo_at (node_setting_of s link.lower) ((world_after s before).node link.lower)).first ≡ c → Before s before k link hop → Held s (record { event = Sample m base bits; says = says; answer = y } ∷ before) k link hop
sample_held laws s says y before m base bits k link hop None run fits is numbers chain same heard c stood old =
    let n : ℕ = link.lower in
    let h : Happened = record { event = Sample m base bits; says = says; answer = y } in
    let servo : is_some (slave_of (s.set n)) ≡ true = has_servo s run.network n link (above_is s run.network k link is) in
    let it : Sampled s h before n base bits = sampled laws.since s says y before n m base bits same servo in
    let was : HasChain s n before = it.stood heard chain in
    let held : Held s before k link hop = old was in
    let here : (n == m) ≡ true = ap (λ i. i == m) same ∙ eq_self m in
    let good : good_in s n h before h.event ≡ None =
    good_where (n == m) (option_map (λ tag. record { number = ((world_after s before).clock n).samples + 1; tag = tag; u = phase_in s (world_after s (h ∷ before)) n; at = length before + 1 }) (heard_in s before n base bits)) here
    ∙ ap (option_map (λ tag. record { number = ((world_after s before).clock n).samples + 1; tag = tag; u = phase_in s (world_after s (h ∷ before)) n; at = length before + 1 })) heard in
    let tags_now : tags_at s (h ∷ before) n ≡ tags_at s before n = it.tags_are (has_tags laws s (h ∷ before) n chain) ∙ ap (with_more (set_at s n) (tags_at s before n)) heard in
    let ticks : since_at s (h ∷ before) n ≡ since_at s before n = it.since_is ∙ ap (λ z. cond (is_some z) 0 (since_at s before n)) heard in
    no_good laws s h before k link hop run is numbers was chain good tags_now held
    (subst (λ z. z ≤ℤ (held.holds.moment.time +ℤ pos (since_at s (h ∷ before) n * longest_tick s.cfg))) (sym (same_last s h before n tt))
    (subst (λ z. ((world_after s before).clock n).ticked ≤ℤ (held.holds.moment.time +ℤ pos (z * longest_tick s.cfg))) (sym ticks) held.late))
sample_held laws s says y before m base bits k link hop (Some tag) run fits is numbers chain same heard c stood old =
    let n : ℕ = link.lower in
    let h : Happened = record { event = Sample m base bits; says = says; answer = y } in
    let servo : is_some (slave_of (s.set n)) ≡ true = has_servo s run.network n link (above_is s run.network k link is) in
    let it : Sampled s h before n base bits = sampled laws.since s says y before n m base bits same servo in
    let here : (n == m) ≡ true = ap (λ i. i == m) same ∙ eq_self m in
    let good : good_in s n h before h.event ≡ Some (record { number = ((world_after s before).clock n).samples + 1; tag = tag; u = phase_in s (world_after s (h ∷ before)) n; at = length before + 1 }) =
    good_where (n == m) (option_map (λ t. record { number = ((world_after s before).clock n).samples + 1; tag = t; u = phase_in s (world_after s (h ∷ before)) n; at = length before + 1 }) (heard_in s before n base bits)) here
    ∙ ap (option_map (λ t. record { number = ((world_after s before).clock n).samples + 1; tag = t; u = phase_in s (world_after s (h ∷ before)) n; at = length before + 1 })) heard in
    let some : is_empty (with_more (set_at s n) (tags_at s before n) (heard_in s before n base bits)) ≡ false =
    ap is_empty (sym (it.tags_are (has_tags laws s (h ∷ before) n chain))) ∙ has_tags laws s (h ∷ before) n chain in
    let tags_now : tags_at s (h ∷ before) n ≡ tag ∷ tags_at s before n =
    it.tags_are (has_tags laws s (h ∷ before) n chain) ∙ more_tags (set_at s n) (tags_at s before n) (heard_in s before n base bits) tag heard some in
    let tells : TagTells hop tag (moment_at k link (world_after s (h ∷ before))) = tag_tells laws s says y before m base bits k tag link hop run fits is numbers same heard in
    sample_good laws s says y before m base bits k link hop tag run is numbers chain tells good tags_now c stood old

-- each kind
step_held : ChainRunLaws → (s : Setting) (says : Result PtpMsg FrameFault) (y : ℤ) (before : List Happened) (e : Event) (k : ℕ) (link : LinkCfg) (hop : HopNumbers) → IsRun s (record { event = e; says = says; answer = y } ∷ before) → FitsEvent e →
    link_of s k ≡ Some link → numbers_of s.cfg link.lower ≡ Some hop → HasChain s link.lower (record { event = e; says = says; answer = y } ∷ before) → Before s before k link hop → Held s (record { event = e; says = says; answer = y } ∷ before) k link hop
step_held laws s says y before (Tick m) k link hop run fits is numbers chain old = elim (eqb_tells link.lower m) [
  | inl x ↦ tick_held laws s says y before m k link hop run is numbers chain x.1 old
  | inr x ↦ idle_held laws s (record { event = Tick m; says = says; answer = y }) before k link hop run is numbers chain tt refl (λ was. x.1) old
]
step_held laws s says y before (Sample m base bits) k link hop run fits is numbers chain old = elim (eqb_tells link.lower m) [
  | inl x ↦
      sample_held laws s says y before m base bits k link hop (heard_in s before link.lower base bits) run fits is numbers chain x.1 refl
      (is_some (servo_at (node_setting_of s link.lower) ((world_after s before).node link.lower)).first) refl old
  | inr x ↦
      idle_held laws s (record { event = Sample m base bits; says = says; answer = y }) before k link hop run is numbers chain x.1
      (no_good_of (link.lower == m) _ x.0) (λ was. x.1) old
]
step_held laws s says y before (Up m off swaps) k link hop run fits is numbers chain old =
    let h : Happened = record { event = Up m off swaps; says = says; answer = y } in
    idle_held laws s h before k link hop run is numbers chain tt refl
    (λ was same.
    not_up ((world_after s before).clock link.lower).up (node_up s before k link laws (run_before s h before run) is was)
    (subst (λ n. not (not ((world_after s before).clock n).up) ≡ false) (sym same) (comes_up_down s (world_after s before) says m off swaps run.accepted.0))) old
step_held laws s says y before e k link hop run fits is numbers chain old = idle_held laws s (record { event = e; says = says; answer = y }) before k link hop run is numbers chain tt refl (λ was. tt) old

held_all : ChainRunLaws → (s : Setting) (events : List Happened) (k : ℕ) (link : LinkCfg) (hop : HopNumbers) → IsRun s events → AllFit events → link_of s k ≡ Some link → numbers_of s.cfg link.lower ≡ Some hop → HasChain s link.lower events → Held s events k link hop
held_all laws s [] k link hop run fits is numbers chain = absurd (false≢true chain)
held_all laws s (h ∷ before) k link hop run fits is numbers chain =
    step_held laws s h.says h.answer before h.event k link hop run fits.0 is numbers chain (λ was. held_all laws s before k link hop (run_before s h before run) fits.1 is numbers was)

pub chain_has_constant : ChainRunLaws → ChainHasConstant
chain_has_constant laws s events k link hop run fits is numbers chain =
    let c : Held s events k link hop = held_all laws s events k link hop run fits is numbers chain in
    record {
      newer = c.newer;
      start = c.start;
      before = c.before;
      splits = c.splits;
      stands = c.stands;
      begins = c.begins;
      follows = c.follows;
      constant = c.constant;
      newest = c.newest;
      earlier = c.earlier;
      goods = c.goods;
      holds = c.holds;
      phase = phase_is laws s events link.lower run.network chain ∙ ap (unwrapped s.cfg.clock) c.tags_are ∙ sym c.u;
      recent = recent_by laws s events k link hop run is numbers chain c;
    }
