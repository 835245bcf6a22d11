-- A node in HOLDOVER entered it from within its path, took no step since, and ticked fewer times than HOLDOVER lasts.
use Rattle.std.proofs.Common.{◌≡◌, inl, inr, ◌∙◌, ap, sym, subst, ℕ, ◌+◌, ◌<◌, ◌≤◌, ℤ, ◌||◌, not, unsigned_abs, false, List, [], ◌∷◌, ◌++◌, Some, Result, arith}
use Rattle.std.proofs.lemmas.Bool.Decides.{eqb_tells}
use Rattle.wrp_base.specs.declared.link.ServoState.TheVariants.{Holdover}
use Rattle.wrp_base.specs.declared.message.PtpMsg.{PtpMsg}
use Rattle.wrp_network.specs.declared.network.LinkCfg.{LinkCfg}
use Rattle.wrp_network.specs.Network.{link_above}
use Rattle.wrp_frame.specs.declared.fault.FrameFault.{FrameFault}
use Rattle.wrp_node.specs.declared.interface.Input.TheVariants.{Tick as TickInput}
use Rattle.wrp_node.specs.NodeAt.{NodeAt}
use Rattle.wrp_node.specs.StepLaws.{TicksAreCounted}
use Rattle.wrp_servo.specs.Sampling.{is_holdover}
use Rattle.wrp_servo.specs.Table.{is_track}
use Rattle.wrp_course.specs.declared.event.Event.{Event}
use Rattle.wrp_course.specs.declared.event.Event.TheVariants.{Tick, Up}
use Rattle.wrp_course.specs.Given.{given_plain, taken_of}
use Rattle.wrp_course.specs.Run.{Happened, world_after}
use Rattle.wrp_course.specs.Runs.{IsNetwork, IsRun}
use Rattle.wrp_course.specs.Setting.{Setting, node_setting_of}
use Rattle.wrp_course.specs.WorldAt.{WorldAt}
use Rattle.wrp_course.proofs.RunTimes.{comes_up_down, not_up}
use Rattle.wrp_bound_laws.specs.Bounds.{OffsetsKeepBounds, TrueRun}
use Rattle.wrp_bound_laws.specs.Holding.{HoldoverCameWithinPath}
use Rattle.wrp_bound_laws.specs.Holdovers.{HeldSince, HoldoverIsFromTrack, HoldoverIsShort, IsHeld, LeavesTrack}
use Rattle.wrp_bound_laws.specs.Moments.{AtEach}
use Rattle.wrp_bound_laws.specs.Steps.{TookNoStep, TookNoStepSince}
use Rattle.wrp_bound_laws.proofs.Samples.BoundRuns.{at_oldest, true_before, true_older}
use Rattle.wrp_bound_laws.proofs.Sources.HeldCalls.{IsTicked, OnHold, one_hold}
use Rattle.wrp_bound_laws.proofs.Hops.HeldRuns.{HeldLaws, calm_on, core_at, held_core, is_inside, since_when, tick_on}
use Rattle.wrp_bound_laws.proofs.Motion.NodeSteps.{still_in_track}
use Rattle.wrp_bound_laws.proofs.Motion.Offsets.{event_off}
use Rattle.wrp_bound_laws.proofs.Sources.Parents.{IsCalmOf, state_holdover, ticked_node}
use Rattle.wrp_bound_laws.proofs.Runs.Suffixes.{at_newest, run_before}
use Rattle.wrp_bound_laws.proofs.Motion.TickSteps.{calm_ticks}

-- the laws that this rests on
pub record PathLaws : Type 0 where
  pub held : HeldLaws
  pub counted : TicksAreCounted
  pub short : HoldoverIsShort
  pub leaves : HoldoverIsFromTrack
  pub bounds : OffsetsKeepBounds

-- Steps

held_still : HeldLaws → (s : Setting) (h : Happened) (before : List Happened) (n : ℕ) (link : LinkCfg) → IsNetwork s → link_above s.cfg n ≡ Some link → IsHeld s n before → TookNoStep s n h before
held_still laws s h before n link net above held =
    let w : WorldAt = world_after s before in
    let state : (core_at s before n).state ≡ Holdover = state_holdover (core_at s before n).state (held_core s before n link net above held) in
    event_off laws.commands s h.says h.answer w h.event n (λ _. Unit {0})
    (λ t k. still_in_track laws.commands laws.still (node_setting_of s n) t (w.node n) (ap (λ z. is_track z || is_holdover z) state)) tt

held_steps : HeldLaws → (s : Setting) (newer older : List Happened) (n : ℕ) (link : LinkCfg) → IsNetwork s → link_above s.cfg n ≡ Some link → AtEach (IsHeld s n) newer older → TookNoStepSince s n newer older
held_steps laws s [] older n link net above held = tt
held_steps laws s (h ∷ newer) older n link net above held =
    (held_still laws s h (newer ++ older) n link net above (at_newest (IsHeld s n) newer older held.1), held_steps laws s newer older n link net above held.1)

-- Ticks

-- its ticks since its start are at most those at the beginning plus those of HOLDOVER
abbrev IsCounted : Setting → List Happened → (n start t : ℕ) → Type 0
IsCounted s events n start t = ((world_after s events).node n).ticks ≤ start + t

same_count : (now was start u t : ℕ) → now ≡ was → u ≡ t → was ≤ start + u → now ≤ start + t
same_count now was start u t e f h = omega (arith, e, f, h)

one_more : (now was start u t : ℕ) → now ≡ was + 1 → u + 1 ≡ t → was ≤ start + u → now ≤ start + t
one_more now was start u t e f h = omega (arith, e, f, h)

calm_count : PathLaws → (s : Setting) (h : Happened) (before : List Happened) (n u t start : ℕ) → IsCalmOf n h.event → OnHold (core_at s before n) u → OnHold (core_at s (h ∷ before) n) t → IsCounted s before n start u → IsCounted s (h ∷ before) n start t
calm_count laws s h before n u t start calm was now few =
    same_count ((world_after s (h ∷ before)).node n).ticks ((world_after s before).node n).ticks start u t (calm_ticks laws.counted s h before n calm)
    (one_hold (core_at s (h ∷ before) n) u t (calm_on laws.held s h before n u calm was) now) few

count_step : PathLaws → (s : Setting) (says : Result PtpMsg FrameFault) (y : ℤ) (before : List Happened) (e : Event) (n u t start : ℕ) (link : LinkCfg) → IsRun s (record { event = e; says = says; answer = y } ∷ before) → link_above s.cfg n ≡ Some link → IsHeld s n before →
    OnHold (core_at s before n) u → OnHold (core_at s (record { event = e; says = says; answer = y } ∷ before) n) t → IsCounted s before n start u → IsCounted s (record { event = e; says = says; answer = y } ∷ before) n start t
count_step laws s says y before (Tick m) n u t start link run above held was now few = elim (eqb_tells n m) [
  | inl x ↦
      let w : WorldAt = world_after s before in
      let h : Happened = record { event = Tick m; says = says; answer = y } in
      let ticked : IsTicked (core_at s (h ∷ before) n) (u + 1) = tick_on laws.held s says y before n m u link run.network above x.1 was in
      let ticks : ((world_after s (h ∷ before)).node n).ticks ≡ (w.node n).ticks + 1 =
      ap (λ (z : NodeAt). z.ticks) (ticked_node s says y w n m x.1).0 ∙ laws.counted (node_setting_of s n) (taken_of y (given_plain m TickInput)) (w.node n) in
      one_more ((world_after s (h ∷ before)).node n).ticks (w.node n).ticks start u t ticks (one_hold (core_at s (h ∷ before) n) (u + 1) t (ticked.held (ap is_holdover now.state)) now) few
  | inr x ↦ calm_count laws s (record { event = Tick m; says = says; answer = y }) before n u t start x.1 was now few
]
count_step laws s says y before (Up m off swaps) n u t start link run above held was now few =
    calm_count laws s (record { event = Up m off swaps; says = says; answer = y }) before n u t start
    (λ same. not_up ((world_after s before).clock n).up held.up (subst (λ i. not (not ((world_after s before).clock i).up) ≡ false) (sym same) (comes_up_down s (world_after s before) says m off swaps run.accepted.0)))
    was now few
count_step laws s says y before e n u t start link run above held was now few = calm_count laws s (record { event = e; says = says; answer = y }) before n u t start tt was now few

no_fewer : (start t : ℕ) → start ≤ start + t
no_fewer start t = omega arith

held_ticks : PathLaws → (s : Setting) (newer older : List Happened) (n t : ℕ) (link : LinkCfg) → IsRun s (newer ++ older) → link_above s.cfg n ≡ Some link → AtEach (IsHeld s n) newer older → OnHold (core_at s (newer ++ older) n) t →
    IsCounted s (newer ++ older) n ((world_after s older).node n).ticks t
held_ticks laws s [] older n t link run above held now = no_fewer ((world_after s older).node n).ticks t
held_ticks laws s (h ∷ newer) older n t link run above held now =
    let before : List Happened = newer ++ older in
    let here : IsHeld s n before = at_newest (IsHeld s n) newer older held.1 in
    let it : (u : ℕ) × OnHold (core_at s before n) u × (u < unsigned_abs s.cfg.holdover) = since_when laws.held s before n link run.network above here in
    count_step laws s h.says h.answer before h.event n it.0 t ((world_after s older).node n).ticks link run above here it.1 now
    (held_ticks laws s newer older n it.0 link (run_before s h before run) above held.1 it.1)

-- The law

fewer : (now start t holdover : ℕ) → now ≤ start + t → t < holdover → now < start + holdover
fewer now start t holdover h k = omega (arith, h, k)

pub holdover_came_within_path : PathLaws → HoldoverCameWithinPath
holdover_came_within_path laws s events n link runs above held =
    let net : IsNetwork s = runs.run.network in
    let since : HeldSince s n events = laws.short s events n link runs.run above held in
    let older : List Happened = since.entry ∷ since.before in
    let whole : TrueRun s (since.newer ++ older) = subst (TrueRun s) since.splits runs in
    let then : TrueRun s older = true_older s since.newer older whole in
    let leaves : LeavesTrack s since.entry since.before n =
    laws.leaves s since.entry since.before n link then.run above (at_oldest (IsHeld s n) since.newer older since.held) since.begins in
    let it : (t : ℕ) × OnHold (core_at s events n) t × (t < unsigned_abs s.cfg.holdover) = since_when laws.held s events n link net above held in
    let counted : IsCounted s (since.newer ++ older) n ((world_after s older).node n).ticks it.0 =
    held_ticks laws s since.newer older n it.0 link whole.run above since.held (subst (λ l. OnHold (core_at s l n) it.0) since.splits it.1) in
    record {
      newer = since.newer;
      entry = since.entry;
      before = since.before;
      splits = since.splits;
      leaves = leaves;
      path = (laws.bounds s since.before n (true_before s since.entry since.before then) (is_inside s n link net above) leaves.up).track leaves.state;
      held = since.held;
      steps = held_steps laws.held s since.newer older n link net above since.held;
      ticks =
          fewer ((world_after s events).node n).ticks ((world_after s older).node n).ticks it.0 (unsigned_abs s.cfg.holdover)
          (subst (λ l. IsCounted s l n ((world_after s older).node n).ticks it.0) (sym since.splits) counted) it.2;
    }
