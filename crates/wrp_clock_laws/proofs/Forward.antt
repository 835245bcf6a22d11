-- In one event a clock in TRACK or HOLDOVER keeps its rate, since its node takes no step; the same holds through many
-- events, and at such rates local time does not fall.
use Rattle.std.proofs.Common.{◌≡◌, inl, inr, ◌∙◌, refl, ap, sym, subst, ℕ, ◌*◌, ◌<◌, ◌≤◌, max, ℤ, ◌+ℤ◌, ◌-ℤ◌, ◌≤ℤ◌, ◌||◌, unsigned_abs, Bool, true, false, if◌then◌else◌, is_some, List, [], ◌∷◌, ◌++◌, Option, None, Some, arith, lit≤}
use Rattle.std.specs.Option.{option_map_or}
use Rattle.std.specs.Prelude.{slice_get}
use Rattle.std.proofs.lemmas.Int.{ints}
use Rattle.std.proofs.Math.Nat.{mul-le-mul_right}
use Rattle.std.proofs.lemmas.Bool.{false≢true}
use Rattle.wrp_base.specs.declared.link.ServoState.{ServoState}
use Rattle.wrp_base.specs.declared.link.ServoState.TheVariants.{Uninit, Track, Holdover}
use Rattle.wrp_network.specs.declared.network.LinkCfg.{LinkCfg}
use Rattle.wrp_network.specs.declared.network.NodeCfg.{NodeCfg}
use Rattle.wrp_network.specs.Network.{link_above, HasRanges}
use Rattle.wrp_base.proofs.Naturals.{nat_le_self, nat_le_trans}
use Rattle.wrp_node.specs.NodeAt.{NodeSetting, locked_of, servo_at, servo_setting_of, state_of}
use Rattle.wrp_node.specs.StepLaws.{CommandsAreHeld}
use Rattle.wrp_node.specs.Unbroken.{ChainIsLocked}
use Rattle.wrp_servo.specs.Laws.{NoStepInTrack}
use Rattle.wrp_servo.specs.Sampling.{is_holdover}
use Rattle.wrp_servo.specs.Table.{is_track}
use Rattle.wrp_tracking_laws.proofs.Histories.{slow_since}
use Rattle.wrp_course.specs.Premises.{rate_of}
use Rattle.wrp_course.specs.Run.{Happened, world_after}
use Rattle.wrp_course.specs.Runs.{IsNetwork, IsRun}
use Rattle.wrp_course.specs.Setting.{Setting, node_setting_of, of_node}
use Rattle.wrp_course.specs.WorldAt.{WorldAt}
use Rattle.wrp_bound_laws.specs.Holdovers.{IsHeld}
use Rattle.wrp_bound_laws.specs.Moments.{AtEach}
use Rattle.wrp_bound_laws.proofs.Hops.HeldRuns.{held_core, is_inside, lasts}
use Rattle.wrp_bound_laws.proofs.Hops.HopsUp.{top_state}
use Rattle.wrp_bound_laws.proofs.Motion.Moving.{chain_rate, clock_slow, kept_by}
use Rattle.wrp_bound_laws.proofs.Motion.NodeSteps.{still_in_track}
use Rattle.wrp_bound_laws.proofs.Motion.Slow.{as_slow}
use Rattle.wrp_bound_laws.proofs.Runs.Suffixes.{run_before}
use Rattle.wrp_bound_laws.proofs.Sources.HeldCalls.{HoldLaws, OnHold, on_hold}
use Rattle.wrp_bound_laws.proofs.Sources.Parents.{has_servo, with_servo}
use Rattle.wrp_clock_laws.specs.Steady.{ClocksRunForward, HoldoverKeepsHeld, IsSteady, IsUpIn, MovesWithin, SteadyKeepsRate, TrackKeepsSlew}

-- the laws that this rests on
pub record ClockLaws : Type 0 where
  pub locked : ChainIsLocked
  pub commands : CommandsAreHeld
  pub still : NoStepInTrack
  pub holds : HoldLaws

-- One event

-- a node in TRACK or HOLDOVER has a link above it
has_above : (s : Setting) (w : WorldAt) (n : ℕ) (state : ServoState) → IsNetwork s → (Uninit ≡ state → ⊥) → state_of (node_setting_of s n) (w.node n) ≡ state → (o : Option LinkCfg) → link_above s.cfg n ≡ o → (link : LinkCfg) × (link_above s.cfg n ≡ Some link)
has_above s w n state net not_new there (Some link) above = (link, above)
has_above s w n state net not_new there None above = absurd (not_new (sym (top_state s net w n above) ∙ there))

not_track : Uninit ≡ Track → ⊥
not_track e = let f : false ≡ true = ap is_track e in cc

not_held : Uninit ≡ Holdover → ⊥
not_held e = let f : false ≡ true = ap is_holdover e in cc

-- if its clock keeps a rate it moves within that rate, and within any greater one
steady_moves : ClockLaws → (s : Setting) (h : Happened) (before : List Happened) (n rate most : ℕ) (link : LinkCfg) → IsRun s (h ∷ before) → link_above s.cfg n ≡ Some link → ((world_after s before).clock n).up ≡ true →
    (is_track (state_of (node_setting_of s n) ((world_after s before).node n)) || is_holdover (state_of (node_setting_of s n) ((world_after s before).node n))) ≡ true →
    rate_of s (world_after s before) n ≡ Some rate → rate ≤ most → MovesWithin most s n before (h ∷ before)
steady_moves laws s h before n rate most link run above up there keeps less =
    let w : WorldAt = world_after s before in
    let fixed : NodeSetting = node_setting_of s n in
    let servo : state_of fixed (w.node n) ≡ (servo_at fixed (w.node n)).state = with_servo fixed (w.node n) (has_servo s run.network n link above) in
    as_slow (λ (v : WorldAt). v.time) most (λ (v : WorldAt). (v.clock n).off) w (world_after s (h ∷ before))
    (clock_slow laws.commands s h.says h.answer before h.event n rate most (λ _. Unit {0}) run (is_inside s n link run.network above) up keeps less
    (λ t k. still_in_track laws.commands laws.still fixed t (w.node n) (sym (ap (λ x. is_track x || is_holdover x) servo) ∙ there)) tt)

track_moves : ClockLaws → (s : Setting) (h : Happened) (before : List Happened) (n most : ℕ) → of_node (λ node. node.slew) s n ≤ most → IsRun s (h ∷ before) → IsUpIn Track s n before → MovesWithin most s n before (h ∷ before)
track_moves laws s h before n most less run is =
    let w : WorldAt = world_after s before in
    let fixed : NodeSetting = node_setting_of s n in
    let it : (link : LinkCfg) × (link_above s.cfg n ≡ Some link) = has_above s w n Track run.network not_track is.there (link_above s.cfg n) refl in
    let servo : state_of fixed (w.node n) ≡ (servo_at fixed (w.node n)).state = with_servo fixed (w.node n) (has_servo s run.network n it.0 it.1) in
    let chain : is_some (servo_at fixed (w.node n)).first ≡ true = laws.holds.chain (servo_setting_of fixed) (w.node n).calls (ap is_track (sym servo ∙ is.there)) in
    steady_moves laws s h before n (of_node (λ node. node.slew) s n) most it.0 run it.1 is.up (ap (λ x. is_track x || is_holdover x) is.there)
    (chain_rate laws.locked s before n it.0 run.network it.1 is.up chain) less

unlocked_keeps : (below up locked held : Bool) (slew hold : ℕ) → below ≡ true → up ≡ true → locked ≡ false → held ≡ true → kept_by below up locked held slew hold ≡ Some hold
unlocked_keeps true true false true slew hold b u l h = refl
unlocked_keeps true true false false slew hold b u l h = absurd (false≢true h)
unlocked_keeps true true true held slew hold b u l h = absurd (false≢true (sym l))
unlocked_keeps true false locked held slew hold b u l h = absurd (false≢true u)
unlocked_keeps false up locked held slew hold b u l h = absurd (false≢true b)

-- in HOLDOVER the detector is not locked
held_rate : HoldLaws → (s : Setting) (events : List Happened) (n : ℕ) (link : LinkCfg) → IsNetwork s → link_above s.cfg n ≡ Some link → IsUpIn Holdover s n events → rate_of s (world_after s events) n ≡ Some (of_node (λ node. node.held) s n)
held_rate laws s events n link net above is =
    let w : WorldAt = world_after s events in
    let fixed : NodeSetting = node_setting_of s n in
    let held : IsHeld s n events = record { up = is.up; state = is.there } in
    let hold : (t : ℕ) × OnHold (servo_at fixed (w.node n)) t × (t < (servo_setting_of fixed).set.holdover) =
    on_hold laws (servo_setting_of fixed) (w.node n).calls (lasts s net n) (held_core s events n link net above held) in
    let lock : locked_of fixed (w.node n) ≡ false = ap (λ (b : Bool). if b then (servo_at fixed (w.node n)).phase.lock.locked else false) (has_servo s net n link above) ∙ hold.1.locked in
    unlocked_keeps (is_some (link_above s.cfg n)) (w.clock n).up (locked_of fixed (w.node n)) (is_holdover (state_of fixed (w.node n))) (of_node (λ node. node.slew) s n) (of_node (λ node. node.held) s n) (ap is_some above) is.up lock (ap is_holdover is.there)

held_moves : ClockLaws → (s : Setting) (h : Happened) (before : List Happened) (n most : ℕ) → of_node (λ node. node.held) s n ≤ most → IsRun s (h ∷ before) → IsUpIn Holdover s n before → MovesWithin most s n before (h ∷ before)
held_moves laws s h before n most less run is =
    let it : (link : LinkCfg) × (link_above s.cfg n ≡ Some link) = has_above s (world_after s before) n Holdover run.network not_held is.there (link_above s.cfg n) refl in
    steady_moves laws s h before n (of_node (λ node. node.held) s n) most it.0 run it.1 is.up (ap (λ x. is_track x || is_holdover x) is.there)
    (held_rate laws.holds s before n it.0 run.network it.1 is) less

-- Many events

two_moves : (rate : ℕ) (s : Setting) (n : ℕ) (a b c : List Happened) → MovesWithin rate s n a b → MovesWithin rate s n b c → MovesWithin rate s n a c
two_moves rate s n a b c first second =
    slow_since (λ (v : WorldAt). v.time) rate (λ (v : WorldAt). (v.clock n).off) 0 (world_after s a) (world_after s c) (world_after s b ∷ (world_after s a ∷ []))
    (inr (inr (inl (refl, refl)))) (λ _. second, (λ _. first, tt))

all_move : (P : List Happened → Type 0) (rate : ℕ) (s : Setting) (n : ℕ) → ((h : Happened) (before : List Happened) → IsRun s (h ∷ before) → P before → MovesWithin rate s n before (h ∷ before)) →
    (h : Happened) (newer older : List Happened) → IsRun s (h ∷ (newer ++ older)) → AtEach P newer older → MovesWithin rate s n older (h ∷ (newer ++ older))
all_move P rate s n each h [] older run at = each h older run at
all_move P rate s n each h (k ∷ newer) older run at =
    let before : List Happened = k ∷ (newer ++ older) in
    two_moves rate s n older before (h ∷ before) (all_move P rate s n each k newer older (run_before s h before run) at.1) (each h before run at.0)

pub track_keeps_slew : ClockLaws → TrackKeepsSlew
track_keeps_slew laws s newest newer older n run at =
    let slew : ℕ = of_node (λ node. node.slew) s n in
    all_move (IsUpIn Track s n) slew s n (λ h before r is. track_moves laws s h before n slew (nat_le_self slew) r is) newest newer older run at

pub holdover_keeps_held : ClockLaws → HoldoverKeepsHeld
holdover_keeps_held laws s newest newer older n run at =
    let held : ℕ = of_node (λ node. node.held) s n in
    all_move (IsUpIn Holdover s n) held s n (λ h before r is. held_moves laws s h before n held (nat_le_self held) r is) newest newer older run at

most_left : (a b : ℕ) → a ≤ max a b
most_left a b = omega arith

most_right : (a b : ℕ) → b ≤ max a b
most_right a b = omega arith

steady_event : ClockLaws → (s : Setting) (h : Happened) (before : List Happened) (n slew held : ℕ) → of_node (λ node. node.slew) s n ≡ slew → of_node (λ node. node.held) s n ≡ held → IsRun s (h ∷ before) → IsSteady s n before → MovesWithin (max slew held) s n before (h ∷ before)
steady_event laws s h before n slew held e f run (inl is) = track_moves laws s h before n (max slew held) (subst (λ r. r ≤ max slew held) (sym e) (most_left slew held)) run is
steady_event laws s h before n slew held e f run (inr is) = held_moves laws s h before n (max slew held) (subst (λ r. r ≤ max slew held) (sym f) (most_right slew held)) run is

pub steady_keeps_rate : ClockLaws → SteadyKeepsRate
steady_keeps_rate laws s newest newer older n run at =
    let slew : ℕ = of_node (λ node. node.slew) s n in
    let held : ℕ = of_node (λ node. node.held) s n in
    all_move (IsSteady s n) (max slew held) s n (λ h before r is. steady_event laws s h before n slew held refl refl r is) newest newer older run at

-- Local time

-- a node's rates are at most one in a thousand
most_of : (number : NodeCfg → ℕ) (o : Option NodeCfg) → ((node : NodeCfg) → o ≡ Some node → number node ≤ 1_000_000_000) → option_map_or number o 0 ≤ 1_000_000_000
most_of number (Some node) most = most node refl
most_of number None most = lit≤ tt

greater : (a b most : ℕ) → a ≤ most → b ≤ most → max a b ≤ most
greater a b most h k = omega (arith, h, k)

most_rate : (s : Setting) → IsNetwork s → (n : ℕ) → max (of_node (λ node. node.slew) s n) (of_node (λ node. node.held) s n) ≤ 1_000_000_000
most_rate s net n =
    let ranges : HasRanges s.cfg = net.accepted.ranges in
    greater (of_node (λ node. node.slew) s n) (of_node (λ node. node.held) s n) 1_000_000_000
    (most_of (λ node. node.slew) (slice_get s.cfg.nodes.items n) (λ node is. (ranges.nodes n node is).slew))
    (most_of (λ node. node.held) (slice_get s.cfg.nodes.items n) (λ node is. (ranges.nodes n node is).held))

-- a clock that moves no faster runs forward
slow_forward : (t0 t1 q0 q1 : ℤ) → t0 ≤ℤ t1 → unsigned_abs (q1 -ℤ q0) * 1_000_000_000_000 ≤ 1_000_000_000 * unsigned_abs (t1 -ℤ t0) → (t0 +ℤ q0) ≤ℤ (t1 +ℤ q1)
slow_forward t0 t1 q0 q1 order limit = omega (arith, ints, order, limit)

rate_forward : (rate : ℕ) (t0 t1 q0 q1 : ℤ) → rate ≤ 1_000_000_000 → t0 ≤ℤ t1 → unsigned_abs (q1 -ℤ q0) * 1_000_000_000_000 ≤ rate * unsigned_abs (t1 -ℤ t0) → (t0 +ℤ q0) ≤ℤ (t1 +ℤ q1)
rate_forward rate t0 t1 q0 q1 few order limit =
    slow_forward t0 t1 q0 q1 order
    (nat_le_trans (unsigned_abs (q1 -ℤ q0) * 1_000_000_000_000) (rate * unsigned_abs (t1 -ℤ t0)) (1_000_000_000 * unsigned_abs (t1 -ℤ t0)) limit (mul-le-mul_right (unsigned_abs (t1 -ℤ t0)) few))

pub clocks_run_forward : ClockLaws → ClocksRunForward
clocks_run_forward laws s newest newer older n run at =
    let rate : ℕ = max (of_node (λ node. node.slew) s n) (of_node (λ node. node.held) s n) in
    let start : WorldAt = world_after s older in
    let now : WorldAt = world_after s (newest ∷ (newer ++ older)) in
    let moves : MovesWithin rate s n older (newest ∷ (newer ++ older)) = steady_keeps_rate laws s newest newer older n run at in
    rate_forward rate start.time now.time (start.clock n).off (now.clock n).off (most_rate s run.network n) moves.order moves.limit
