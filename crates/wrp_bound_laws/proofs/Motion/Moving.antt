-- Clocks and fibres move slowly: the grandmaster's clock not at all, one that may be followed or that has a chain at
-- its rate, and both ways of a link with its carrier.
use Rattle.std.proofs.Common.{◌≡◌, ◌⊎◌, inl, inr, ◌∙◌, refl, ap, sym, subst, ℕ, ◌*◌, ◌<◌, ◌≤◌, ◌==◌, ◌&&◌, ◌||◌, max, ℤ, pos, ◌+ℤ◌, ◌≤ℤ◌, unsigned_abs, not, Bool, true, false, if◌then◌else◌, is_some, List, [], ◌∷◌, ◌++◌, length, map, flat_map, Option, None, Some, option_map, Result, arith}
use Rattle.std.proofs.lemmas.Bool.Decides.{eqb_tells}
use Rattle.std.proofs.lemmas.Int.{ints}
use Rattle.std.proofs.lemmas.Option.{slice_get_past, slice_get_within}
use Rattle.std.specs.Option.{option_map_or}
use Rattle.std.specs.Int.Signed.{le_z}
use Rattle.arrayvec.specs.ArrayVec.{ArrayVec as Items}
use Rattle.std.proofs.lemmas.Bool.{and_parts, cases_lt}
use Rattle.wrp_base.specs.declared.link.Role.TheVariants.{Master, Slave}
use Rattle.wrp_base.specs.declared.link.ServoState.{ServoState}
use Rattle.wrp_base.specs.declared.link.ServoState.TheVariants.{Track, Holdover}
use Rattle.wrp_base.specs.declared.message.PtpMsg.{PtpMsg}
use Rattle.wrp_network.specs.declared.network.LinkCfg.{LinkCfg}
use Rattle.wrp_network.specs.Network.{link_above, node_count}
use Rattle.wrp_base.proofs.Naturals.{nat_le_self}
use Rattle.wrp_frame.specs.declared.fault.FrameFault.{FrameFault}
use Rattle.wrp_node.specs.declared.interface.NodeSet.{NodeSet}
use Rattle.wrp_node.specs.NodeAt.{NodeSetting, NodeAt, locked_of, servo_at, servo_setting_of, slave_of, state_of}
use Rattle.wrp_node.specs.StepLaws.{CommandsAreHeld}
use Rattle.wrp_node.specs.Unbroken.{ChainIsLocked}
use Rattle.wrp_node.proofs.OwnPorts.{slave_is_above}
use Rattle.wrp_servo.specs.Call.{run}
use Rattle.wrp_servo.specs.Laws.{NoStepInTrack, TrackHasChain}
use Rattle.wrp_servo.specs.Sampling.{is_holdover}
use Rattle.wrp_servo.specs.Table.{is_track}
use Rattle.wrp_tracking_laws.specs.Tree.{IsSource}
use Rattle.wrp_course.specs.declared.event.Event.{Event}
use Rattle.wrp_course.specs.declared.event.Event.TheVariants.{Pass, Sample, Down, Up, Cut, Join}
use Rattle.wrp_course.specs.declared.fibres.FibreState.{FibreState}
use Rattle.wrp_course.specs.Checks.{AllHold, Check, Holds}
use Rattle.wrp_course.specs.EventAt.{IsEventOf}
use Rattle.wrp_course.proofs.RunChanges.{not_joined}
use Rattle.wrp_course.specs.Given.{Given, given_by, gives, gives_all, world_step}
use Rattle.wrp_course.specs.Moved.{clock_after, drift_of, fibre_after, move_of, moved}
use Rattle.wrp_course.specs.Premises.{Accepts, fibre_kept, fibre_rate, rate_checks, rate_kept, rate_of, tick_late}
use Rattle.wrp_course.specs.Run.{Happened, world_after}
use Rattle.wrp_course.specs.RunLaws.{ModulesStay, SameModule}
use Rattle.wrp_course.specs.Runs.{IsNetwork, IsRun}
use Rattle.wrp_course.specs.Setting.{Setting, node_setting_of, link_of, links_of, nodes_of, of_node}
use Rattle.wrp_course.specs.WorldAt.{WorldAt, delay_from, ends_are_up, has_carrier}
use Rattle.wrp_course.proofs.RunTimes.{all_right, comes_up_down, step_time, not_up}
use Rattle.wrp_bound_laws.specs.Leases.{IsCarried}
use Rattle.wrp_bound_laws.specs.Rates.{SourceMovesSlowly, TopIsTrue, WaysMoveSlowly, greatest_rate}
use Rattle.wrp_bound_laws.specs.Views.{moment_at, offsets_at}
use Rattle.wrp_bound_laws.proofs.Runs.LinksAbove.{above_at}
use Rattle.wrp_bound_laws.proofs.Runs.NodeRuns.{chain_locked}
use Rattle.wrp_bound_laws.proofs.Motion.NodeSteps.{still_in_track, still_without_servo}
use Rattle.wrp_bound_laws.proofs.Motion.Offsets.{IsAtOnce, IsStill, event_off, same_off}
use Rattle.wrp_bound_laws.proofs.Motion.OnTime.{first_part}
use Rattle.wrp_bound_laws.proofs.Sources.Parents.{has_servo, with_servo}
use Rattle.wrp_bound_laws.proofs.Motion.Slow.{Slow, as_slow, check_says, flat_from, moved_slow, still_slow}
use Rattle.wrp_bound_laws.proofs.Runs.Suffixes.{run_before}

-- The checks as time passes

rates_part : (s : Setting) (w : WorldAt) (dt : ℤ) (drifts : List ℤ) (others : List Check) → AllHold (map (tick_late s w dt) (nodes_of s) ++ (flat_map (rate_kept s w dt drifts) (nodes_of s) ++ others)) → AllHold (flat_map (rate_kept s w dt drifts) (nodes_of s))
rates_part s w dt drifts others h =
    first_part (flat_map (rate_kept s w dt drifts) (nodes_of s)) others (all_right Holds (map (tick_late s w dt) (nodes_of s)) (flat_map (rate_kept s w dt drifts) (nodes_of s) ++ others) h)

-- a node of the network that keeps a rate keeps it
pub rate_is_kept : (s : Setting) (w : WorldAt) (says : Result PtpMsg FrameFault) (dt : ℤ) (drifts : Items ℤ) (fibres : Items (ℤ × ℤ)) (n rate : ℕ) → n < node_count s.cfg → Accepts s w says (Pass dt drifts fibres) → rate_of s w n ≡ Some rate →
    unsigned_abs (drift_of drifts.items n) * 1_000_000_000_000 ≤ rate * unsigned_abs dt
rate_is_kept s w says dt drifts fibres n rate inside a is =
    let kept : AllHold (rate_kept s w dt drifts.items n) = flat_from (rate_kept s w dt drifts.items) (node_count s.cfg) n (rates_part s w dt drifts.items _ a) inside in
    let one : AllHold (rate_checks (drift_of drifts.items n) dt (Some rate)) = subst (λ o. AllHold (rate_checks (drift_of drifts.items n) dt o)) is kept in
    check_says (unsigned_abs (drift_of drifts.items n) * 1_000_000_000_000) (rate * unsigned_abs dt) one.0

fibres_part : (s : Setting) (w v : WorldAt) (dt : ℤ) (drifts : List ℤ) (moves : List (ℤ × ℤ)) →
    AllHold (map (tick_late s w dt) (nodes_of s) ++ (flat_map (rate_kept s w dt drifts) (nodes_of s) ++ (flat_map (fibre_rate dt moves) (links_of s) ++ flat_map (fibre_kept s v) (links_of s)))) → AllHold (flat_map (fibre_rate dt moves) (links_of s))
fibres_part s w v dt drifts moves h =
    first_part (flat_map (fibre_rate dt moves) (links_of s)) (flat_map (fibre_kept s v) (links_of s))
    (all_right Holds (flat_map (rate_kept s w dt drifts) (nodes_of s)) (flat_map (fibre_rate dt moves) (links_of s) ++ flat_map (fibre_kept s v) (links_of s))
    (all_right Holds (map (tick_late s w dt) (nodes_of s)) (flat_map (rate_kept s w dt drifts) (nodes_of s) ++ (flat_map (fibre_rate dt moves) (links_of s) ++ flat_map (fibre_kept s v) (links_of s))) h))

fibre_is_kept : (s : Setting) (w : WorldAt) (says : Result PtpMsg FrameFault) (dt : ℤ) (drifts : Items ℤ) (fibres : Items (ℤ × ℤ)) (k : ℕ) (link : LinkCfg) → link_of s k ≡ Some link → Accepts s w says (Pass dt drifts fibres) →
    (unsigned_abs (move_of fibres.items k).0 * 1_000_000_000_000 ≤ 2 * unsigned_abs dt) × (unsigned_abs (move_of fibres.items k).1 * 1_000_000_000_000 ≤ 2 * unsigned_abs dt)
fibre_is_kept s w says dt drifts fibres k link is a =
    let all : AllHold (flat_map (fibre_rate dt fibres.items) (links_of s)) = fibres_part s w (moved s w (Pass dt drifts fibres)) dt drifts.items fibres.items a in
    let kept : AllHold (fibre_rate dt fibres.items k) = flat_from (fibre_rate dt fibres.items) (length s.cfg.links.items) k all (slice_get_within s.cfg.links.items k link is) in (
      check_says (unsigned_abs (move_of fibres.items k).0 * 1_000_000_000_000) (2 * unsigned_abs dt) kept.0,
      check_says (unsigned_abs (move_of fibres.items k).1 * 1_000_000_000_000) (2 * unsigned_abs dt) kept.1.0,
    )

-- The rate that a node keeps

abbrev pub kept_by : (below up locked held : Bool) (slew hold : ℕ) → Option ℕ
kept_by below up locked held slew hold = if not below then Some 0 else (if not up then None else (if locked then Some slew else (if held then Some hold else None)))

locked_keeps : (below up locked held : Bool) (slew hold : ℕ) → below ≡ true → up ≡ true → locked ≡ true → kept_by below up locked held slew hold ≡ Some slew
locked_keeps true true true held slew hold b u l = refl
locked_keeps true true false held slew hold b u l = absurd (let f : false ≡ true = l in cc)
locked_keeps true false locked held slew hold b u l = absurd (let f : false ≡ true = u in cc)
locked_keeps false up locked held slew hold b u l = absurd (let f : false ≡ true = b in cc)

most_left : (a b : ℕ) → a ≤ max a b
most_left a b = omega arith

most_right : (a b : ℕ) → b ≤ max a b
most_right a b = omega arith

held_keeps : (below up locked held : Bool) (slew hold : ℕ) → below ≡ true → up ≡ true → held ≡ true → (rate : ℕ) × (kept_by below up locked held slew hold ≡ Some rate) × (rate ≤ max slew hold)
held_keeps true true true held slew hold b u h = (slew, refl, most_left slew hold)
held_keeps true true false true slew hold b u h = (hold, refl, most_right slew hold)
held_keeps true true false false slew hold b u h = absurd (let f : false ≡ true = h in cc)
held_keeps true false locked held slew hold b u h = absurd (let f : false ≡ true = u in cc)
held_keeps false up locked held slew hold b u h = absurd (let f : false ≡ true = b in cc)

-- a node with a chain is locked
pub chain_rate : ChainIsLocked → (s : Setting) (events : List Happened) (n : ℕ) (link : LinkCfg) → IsNetwork s → link_above s.cfg n ≡ Some link → ((world_after s events).clock n).up ≡ true →
    is_some (servo_at (node_setting_of s n) ((world_after s events).node n)).first ≡ true → rate_of s (world_after s events) n ≡ Some (of_node (λ node. node.slew) s n)
chain_rate locked s events n link net above up chain =
    let w : WorldAt = world_after s events in
    let fixed : NodeSetting = node_setting_of s n in
    let lock : locked_of fixed (w.node n) ≡ true = ap (λ (b : Bool). if b then (servo_at fixed (w.node n)).phase.lock.locked else false) (has_servo s net n link above) ∙ chain_locked locked s events n chain in
    locked_keeps (is_some (link_above s.cfg n)) (w.clock n).up (locked_of fixed (w.node n)) (is_holdover (state_of fixed (w.node n))) (of_node (λ node. node.slew) s n) (of_node (λ node. node.held) s n) (ap is_some above) up lock

most_is : (b : Bool) (slew hold : ℕ) → b ≡ true → max slew hold ≡ (if b then max slew hold else 0)
most_is true slew hold e = refl
most_is false slew hold e = absurd (let f : false ≡ true = e in cc)

-- the laws that this rests on
pub record RateLaws : Type 0 where
  pub locked : ChainIsLocked
  pub commands : CommandsAreHeld
  pub track : NoStepInTrack
  pub chain : TrackHasChain

source_rate : RateLaws → (s : Setting) (events : List Happened) (n : ℕ) (link : LinkCfg) → IsNetwork s → link_above s.cfg n ≡ Some link → ((world_after s events).clock n).up ≡ true →
    ((state_of (node_setting_of s n) ((world_after s events).node n) ≡ Track) ⊎ (state_of (node_setting_of s n) ((world_after s events).node n) ≡ Holdover)) →
    (rate : ℕ) × (rate_of s (world_after s events) n ≡ Some rate) × (rate ≤ greatest_rate s n)
source_rate laws s events n link net above up (inl track) =
    let w : WorldAt = world_after s events in
    let fixed : NodeSetting = node_setting_of s n in
    let in_track : is_track (servo_at fixed (w.node n)).state ≡ true = ap is_track (sym (with_servo fixed (w.node n) (has_servo s net n link above)) ∙ track) in
    let slew : ℕ = of_node (λ node. node.slew) s n in
    let hold : ℕ = of_node (λ node. node.held) s n in (
      slew,
      chain_rate laws.locked s events n link net above up (laws.chain (servo_setting_of fixed) (w.node n).calls in_track),
      subst (λ z. slew ≤ z) (most_is (is_some (link_above s.cfg n)) slew hold (ap is_some above)) (most_left slew hold),
    )
source_rate laws s events n link net above up (inr held) =
    let w : WorldAt = world_after s events in
    let fixed : NodeSetting = node_setting_of s n in
    let slew : ℕ = of_node (λ node. node.slew) s n in
    let hold : ℕ = of_node (λ node. node.held) s n in
    let it : (rate : ℕ) × (rate_of s w n ≡ Some rate) × (rate ≤ max slew hold) =
    held_keeps (is_some (link_above s.cfg n)) (w.clock n).up (locked_of fixed (w.node n)) (is_holdover (state_of fixed (w.node n))) slew hold (ap is_some above) up (ap is_holdover held) in
    (it.0, it.1, subst (λ z. it.0 ≤ z) (most_is (is_some (link_above s.cfg n)) slew hold (ap is_some above)) it.2)

-- A clock in an event

same_time : (s : Setting) (h : Happened) (before : List Happened) → IsRun s (h ∷ before) → (world_after s before).time ≤ℤ (world_after s (h ∷ before)).time
same_time s h before run = step_time s h.says h.answer (world_after s before) h.event run.each.0

at_once_slow : CommandsAreHeld → (s : Setting) (h : Happened) (before : List Happened) (n rate : ℕ) (K : NodeAt → Type 0) → IsRun s (h ∷ before) → IsAtOnce n h.event → IsStill s (world_after s before) n K → K ((world_after s (h ∷ before)).node n) →
    Slow rate (world_after s before).time (world_after s (h ∷ before)).time ((world_after s before).clock n).off ((world_after s (h ∷ before)).clock n).off
at_once_slow held s h before n rate K run once still k =
    still_slow rate (world_after s before).time (world_after s (h ∷ before)).time ((world_after s before).clock n).off ((world_after s (h ∷ before)).clock n).off (same_time s h before run)
    (event_off held s h.says h.answer (world_after s before) h.event n K still k ∙ same_off (world_after s before) h.event n once)

-- a node that is up, keeps a rate and takes no step
pub clock_slow : CommandsAreHeld → (s : Setting) (says : Result PtpMsg FrameFault) (y : ℤ) (before : List Happened) (e : Event) (n rate most : ℕ) (K : NodeAt → Type 0) → IsRun s (record { event = e; says = says; answer = y } ∷ before) → n < node_count s.cfg →
    ((world_after s before).clock n).up ≡ true → rate_of s (world_after s before) n ≡ Some rate → rate ≤ most → IsStill s (world_after s before) n K → K ((world_step s says y (world_after s before) e).node n) →
    Slow most (world_after s before).time (world_step s says y (world_after s before) e).time ((world_after s before).clock n).off ((world_step s says y (world_after s before) e).clock n).off
clock_slow held s says y before (Pass dt drifts fibres) n rate most K run inside up is less still k =
    let w : WorldAt = world_after s before in
    moved_slow most rate w.time (w.time +ℤ dt) (w.clock n).off ((w.clock n).off +ℤ drift_of drifts.items n) dt (drift_of drifts.items n) refl refl run.each.0.span.0
    (rate_is_kept s w says dt drifts fibres n rate inside run.accepted.0 is) less
clock_slow held s says y before (Up m off swaps) n rate most K run inside up is less still k =
    let w : WorldAt = world_after s before in
    at_once_slow held s (record { event = Up m off swaps; says = says; answer = y }) before n most K run
    (λ same. not_up (w.clock n).up up (subst (λ i. not (not (w.clock i).up) ≡ false) (sym same) (comes_up_down s w says m off swaps run.accepted.0))) still k
clock_slow held s says y before e n rate most K run inside up is less still k = at_once_slow held s (record { event = e; says = says; answer = y }) before n most K run tt still k

-- The grandmaster

pub no_slave : (s : Setting) → IsNetwork s → (n : ℕ) → link_above s.cfg n ≡ None → is_some (slave_of (s.set n)) ≡ false
no_slave s net n above = ap is_some (ap (λ (x : NodeSet). slave_of x) (net.set n) ∙ slave_is_above s.cfg n ∙ ap (option_map (λ (l : LinkCfg). l.lower_port)) above)

zero_drift : (d dt : ℤ) → unsigned_abs d * 1_000_000_000_000 ≤ 0 * unsigned_abs dt → d ≡ pos 0
zero_drift d dt h = omega (arith, ints, h)

top_drift : (s : Setting) (w : WorldAt) (says : Result PtpMsg FrameFault) (dt : ℤ) (drifts : Items ℤ) (fibres : Items (ℤ × ℤ)) (n : ℕ) → IsEventOf s.cfg (Pass dt drifts fibres) → Accepts s w says (Pass dt drifts fibres) → link_above s.cfg n ≡ None → drift_of drifts.items n ≡ pos 0
top_drift s w says dt drifts fibres n event a above = elim (cases_lt n (node_count s.cfg)) [
  | inl inside ↦
      zero_drift (drift_of drifts.items n) dt
      (rate_is_kept s w says dt drifts fibres n 0 inside a (ap (λ o. kept_by (is_some o) (w.clock n).up (locked_of (node_setting_of s n) (w.node n)) (is_holdover (state_of (node_setting_of s n) (w.node n))) (of_node (λ node. node.slew) s n) (of_node (λ node. node.held) s n)) above))
  | inr outside ↦
      ap (λ o. option_map_or (λ drift. drift) o (pos 0)) (slice_get_past drifts.items n (subst (λ z. z ≤ n) (sym event.nodes) outside))
]

size_zero : (off : ℤ) → not (le_z (pos (unsigned_abs off)) (pos 0)) ≡ false → off ≡ pos 0
size_zero off h = let e : unsigned_abs off ≤ 0 = check_says (unsigned_abs off) 0 h in omega (arith, ints, e)

true_check : (b : Bool) (off : ℤ) → b ≡ true → (b && not (le_z (pos (unsigned_abs off)) (pos 0))) ≡ false → off ≡ pos 0
true_check true off e h = size_zero off h
true_check false off e h = absurd (let f : false ≡ true = e in cc)

sum_zero : (a d : ℤ) → a ≡ pos 0 → d ≡ pos 0 → a +ℤ d ≡ pos 0
sum_zero a d e f = omega (arith, ints, e, f)

top_after : (s : Setting) (w : WorldAt) (says : Result PtpMsg FrameFault) (e : Event) (n : ℕ) → IsEventOf s.cfg e → Accepts s w says e → link_above s.cfg n ≡ None → (w.clock n).off ≡ pos 0 → (clock_after w e n).off ≡ pos 0
top_after s w says (Pass dt drifts fibres) n event a above h = sum_zero (w.clock n).off (drift_of drifts.items n) h (top_drift s w says dt drifts fibres n event a above)
top_after s w says (Up m off swaps) n event a above h = elim (eqb_tells n m) [
  | inl x ↦
      ap (λ b. (if b then record { up = true; off = off; ticked = w.time; samples = 0 } else w.clock n).off) x.0
      ∙ true_check (not (is_some (link_above s.cfg m))) off (ap (λ i. not (is_some (link_above s.cfg i))) (sym x.1) ∙ ap (λ o. not (is_some o)) above) a.0
  | inr x ↦ same_off w (Up m off swaps) n x.1 ∙ h
]
top_after s w says (Sample m base bits) n event a above h = same_off w (Sample m base bits) n tt ∙ h
top_after s w says (Down m) n event a above h = same_off w (Down m) n tt ∙ h
top_after s w says e n event a above h = h

pub top_is_true : CommandsAreHeld → TopIsTrue
top_is_true held s [] n run above = refl
top_is_true held s (h ∷ before) n run above =
    let w : WorldAt = world_after s before in
    event_off held s h.says h.answer w h.event n (λ _. Unit {0}) (λ t k. still_without_servo held (node_setting_of s n) t (w.node n) (no_slave s run.network n above)) tt
    ∙ top_after s w h.says h.event n run.each.0 run.accepted.0 above (top_is_true held s before n (run_before s h before run) above)

-- A node that may be followed

pub either_state : (state : ServoState) → (state ≡ Track) ⊎ (state ≡ Holdover) → (is_track state || is_holdover state) ≡ true
either_state state (inl e) = ap (λ x. is_track x || is_holdover x) e
either_state state (inr e) = ap (λ x. is_track x || is_holdover x) e

source_slow : RateLaws → (s : Setting) (h : Happened) (before : List Happened) (n : ℕ) (o : Option LinkCfg) → IsRun s (h ∷ before) → link_above s.cfg n ≡ o → IsSource s.cfg (offsets_at s (world_after s before)) n → ((world_after s before).clock n).up ≡ true →
    Slow (greatest_rate s n) (world_after s before).time (world_after s (h ∷ before)).time ((world_after s before).clock n).off ((world_after s (h ∷ before)).clock n).off
source_slow laws s h before n None run above source up =
    still_slow (greatest_rate s n) (world_after s before).time (world_after s (h ∷ before)).time ((world_after s before).clock n).off ((world_after s (h ∷ before)).clock n).off (same_time s h before run)
    (top_is_true laws.commands s (h ∷ before) n run above ∙ sym (top_is_true laws.commands s before n (run_before s h before run) above))
source_slow laws s h before n (Some link) run above (inl top) up = absurd (let f : None ≡ Some link = sym top ∙ above in cc)
source_slow laws s h before n (Some link) run above (inr states) up =
    let w : WorldAt = world_after s before in
    let fixed : NodeSetting = node_setting_of s n in
    let at : (k : ℕ) × (link_of s k ≡ Some link) × (link.lower ≡ n) = above_at s n link above in
    let inside : n < node_count s.cfg = subst (λ i. i < node_count s.cfg) at.2 (run.network.accepted.tree.ends at.0 link at.1).1 in
    let rate : (rate : ℕ) × (rate_of s w n ≡ Some rate) × (rate ≤ greatest_rate s n) = source_rate laws s before n link run.network above up states in
    let servo : state_of fixed (w.node n) ≡ (servo_at fixed (w.node n)).state = with_servo fixed (w.node n) (has_servo s run.network n link above) in
    let there : (is_track (servo_at fixed (w.node n)).state || is_holdover (servo_at fixed (w.node n)).state) ≡ true =
    sym (ap (λ x. is_track x || is_holdover x) servo) ∙ either_state (state_of fixed (w.node n)) states in
    clock_slow laws.commands s h.says h.answer before h.event n rate.0 (greatest_rate s n) (λ _. Unit {0}) run inside up rate.1 rate.2
    (λ t k. still_in_track laws.commands laws.track fixed t (w.node n) there) tt

pub source_moves_slowly : RateLaws → SourceMovesSlowly
source_moves_slowly laws s h before n run source up =
    as_slow (λ (w : WorldAt). w.time) (greatest_rate s n) (λ (w : WorldAt). (w.clock n).off) (world_after s before) (world_after s (h ∷ before)) (source_slow laws s h before n (link_above s.cfg n) run refl source up)

-- Both ways of a link

given_fibre : (s : Setting) (y : ℤ) (gs : List Given) (v : WorldAt) (k : ℕ) → (gives_all s y v gs).fibre k ≡ v.fibre k
given_fibre s y [] v k = refl
given_fibre s y (g ∷ gs) v k = given_fibre s y gs (gives s y v g) k

-- no time passes
abbrev pub IsStillEvent : Event → Type 0
IsStillEvent (Pass dt drifts fibres) = ⊥
IsStillEvent _ = Unit {0}

-- how far it moves a fibre: two numbers
abbrev FibreMoves : FibreState → FibreState → ℤ → ℤ → Type 0
FibreMoves old new down up = (new.ms ≡ old.ms +ℤ down) × (new.sm ≡ old.sm +ℤ up)

nothing_more : (a : ℤ) → a ≡ a +ℤ pos 0
nothing_more a = omega (arith, ints)

stays_there : (b : Bool) (f g : FibreState) → f.ms ≡ g.ms → f.sm ≡ g.sm → FibreMoves g (if b then f else g) (pos 0) (pos 0)
stays_there true f g e h = (e ∙ nothing_more g.ms, h ∙ nothing_more g.sm)
stays_there false f g e h = (nothing_more g.ms, nothing_more g.sm)

still_fibre : (s : Setting) (w : WorldAt) (says : Result PtpMsg FrameFault) (e : Event) (k : ℕ) → Accepts s w says e → (w.fibre k).joined ≡ true → IsStillEvent e → FibreMoves (w.fibre k) (fibre_after w e k) (pos 0) (pos 0)
still_fibre s w says (Pass dt drifts fibres) k a j h = absurd h
still_fibre s w says (Cut l) k a j h = stays_there (k == l) (record (w.fibre k) { joined = false }) (w.fibre k) refl refl
still_fibre s w says (Join l ms sm) k a j h = elim (eqb_tells k l) [
  | inl x ↦ absurd (not_up (w.fibre l).joined (subst (λ i. (w.fibre i).joined ≡ true) x.1 j) (not_joined s w says l ms sm a))
  | inr x ↦
      subst (λ b. FibreMoves (w.fibre k) (if b then record { joined = true; ms = ms; sm = sm } else w.fibre k) (pos 0) (pos 0)) (sym x.0)
      (nothing_more (w.fibre k).ms, nothing_more (w.fibre k).sm)
]
still_fibre s w says _ k a j h = (nothing_more (w.fibre k).ms, nothing_more (w.fibre k).sm)

down_sum : (tx ms d rx : ℤ) → (tx +ℤ (ms +ℤ d)) +ℤ rx ≡ ((tx +ℤ ms) +ℤ rx) +ℤ d
down_sum tx ms d rx = omega (arith, ints)

-- a way by its parts
way_is : (tx tx' rx rx' : ℕ) (m m' d : ℤ) → tx' ≡ tx → rx' ≡ rx → m' ≡ m +ℤ d → (pos tx' +ℤ m') +ℤ pos rx' ≡ ((pos tx +ℤ m) +ℤ pos rx) +ℤ d
way_is tx tx' rx rx' m m' d t r e =
    ap (λ z. (pos z +ℤ m') +ℤ pos rx') t ∙ ap (λ z. (pos tx +ℤ m') +ℤ pos z) r ∙ ap (λ z. (pos tx +ℤ z) +ℤ pos rx) e ∙ down_sum (pos tx) m d (pos rx)

no_more : (a b : ℤ) → b ≡ a +ℤ pos 0 → b ≡ a
no_more a b e = omega (arith, ints, e)

-- the modules stay, and the fibre moves this far
ways_by : ModulesStay → (s : Setting) (h : Happened) (before : List Happened) (k : ℕ) (link : LinkCfg) (down up : ℤ) → IsRun s (h ∷ before) → IsCarried s k before → FibreMoves ((world_after s before).fibre k) (fibre_after (world_after s before) h.event k) down up →
    (delay_from (world_after s (h ∷ before)) k Master ≡ delay_from (world_after s before) k Master +ℤ down) × (delay_from (world_after s (h ∷ before)) k Slave ≡ delay_from (world_after s before) k Slave +ℤ up)
ways_by stay s h before k link down up run carried moves =
    let w : WorldAt = world_after s before in
    let now : WorldAt = world_after s (h ∷ before) in
    let fibre : now.fibre k ≡ fibre_after w h.event k = given_fibre s h.answer (given_by s w (moved s w h.event) h.says h.event) (moved s w h.event) k in
    let master : SameModule (w.end_at k Master) (now.end_at k Master) = stay s h before k Master run carried in
    let slave : SameModule (w.end_at k Slave) (now.end_at k Slave) = stay s h before k Slave run carried in (
      way_is (w.end_at k Master).tx (now.end_at k Master).tx (w.end_at k Slave).rx (now.end_at k Slave).rx (w.fibre k).ms (now.fibre k).ms down master.tx slave.rx (ap (λ (f : FibreState). f.ms) fibre ∙ moves.0),
      way_is (w.end_at k Slave).tx (now.end_at k Slave).tx (w.end_at k Master).rx (now.end_at k Master).rx (w.fibre k).sm (now.fibre k).sm up slave.tx master.rx (ap (λ (f : FibreState). f.sm) fibre ∙ moves.1),
    )

abbrev WaysSlow : Setting → WorldAt → WorldAt → ℕ → Type 0
WaysSlow s w now k = Slow 2 w.time now.time (delay_from w k Master) (delay_from now k Master) × Slow 2 w.time now.time (delay_from w k Slave) (delay_from now k Slave)

pub joined_is : (s : Setting) (w : WorldAt) (k : ℕ) → has_carrier s w k ≡ true → (w.fibre k).joined ≡ true
joined_is s w k c = (and_parts (w.fibre k).joined (ends_are_up w.clock (link_of s k)) c).0

-- if no time passes they stay
pub ways_stay : ModulesStay → (s : Setting) (h : Happened) (before : List Happened) (k : ℕ) (link : LinkCfg) → IsRun s (h ∷ before) → IsCarried s k before → IsStillEvent h.event →
    (delay_from (world_after s (h ∷ before)) k Master ≡ delay_from (world_after s before) k Master) × (delay_from (world_after s (h ∷ before)) k Slave ≡ delay_from (world_after s before) k Slave)
ways_stay stay s h before k link run carried still =
    let w : WorldAt = world_after s before in
    let now : WorldAt = world_after s (h ∷ before) in
    let both : _ = ways_by stay s h before k link (pos 0) (pos 0) run carried (still_fibre s w h.says h.event k run.accepted.0 (joined_is s w k carried) still) in
    (no_more (delay_from w k Master) (delay_from now k Master) both.0, no_more (delay_from w k Slave) (delay_from now k Slave) both.1)

still_ways : ModulesStay → (s : Setting) (h : Happened) (before : List Happened) (k : ℕ) (link : LinkCfg) → IsRun s (h ∷ before) → IsCarried s k before → IsStillEvent h.event → WaysSlow s (world_after s before) (world_after s (h ∷ before)) k
still_ways stay s h before k link run carried still =
    let w : WorldAt = world_after s before in
    let now : WorldAt = world_after s (h ∷ before) in
    let both : _ = ways_stay stay s h before k link run carried still in (
      still_slow 2 w.time now.time (delay_from w k Master) (delay_from now k Master) (same_time s h before run) both.0,
      still_slow 2 w.time now.time (delay_from w k Slave) (delay_from now k Slave) (same_time s h before run) both.1,
    )

ways_slow : ModulesStay → (s : Setting) (says : Result PtpMsg FrameFault) (y : ℤ) (before : List Happened) (e : Event) (k : ℕ) (link : LinkCfg) → IsRun s (record { event = e; says = says; answer = y } ∷ before) → link_of s k ≡ Some link → IsCarried s k before →
    WaysSlow s (world_after s before) (world_step s says y (world_after s before) e) k
ways_slow stay s says y before (Pass dt drifts fibres) k link run is carried =
    let w : WorldAt = world_after s before in
    let h : Happened = record { event = Pass dt drifts fibres; says = says; answer = y } in
    let now : WorldAt = world_after s (h ∷ before) in
    let move : ℤ × ℤ = move_of fibres.items k in
    let both : _ = ways_by stay s h before k link move.0 move.1 run carried (refl, refl) in
    let kept : _ = fibre_is_kept s w says dt drifts fibres k link is run.accepted.0 in (
      moved_slow 2 2 w.time now.time (delay_from w k Master) (delay_from now k Master) dt move.0 refl both.0 run.each.0.span.0 kept.0 (nat_le_self 2),
      moved_slow 2 2 w.time now.time (delay_from w k Slave) (delay_from now k Slave) dt move.1 refl both.1 run.each.0.span.0 kept.1 (nat_le_self 2),
    )
ways_slow stay s says y before e k link run is carried = still_ways stay s (record { event = e; says = says; answer = y }) before k link run carried tt

pub ways_move_slowly : ModulesStay → WaysMoveSlowly
ways_move_slowly stay s h before k link run is carried =
    let w : WorldAt = world_after s before in
    let now : WorldAt = world_after s (h ∷ before) in
    let both : WaysSlow s w now k = ways_slow stay s h.says h.answer before h.event k link run is carried in (
      as_slow (λ m. m.time) 2 (λ m. m.down) (moment_at k link w) (moment_at k link now) both.0,
      as_slow (λ m. m.time) 2 (λ m. m.up) (moment_at k link w) (moment_at k link now) both.1,
    )
