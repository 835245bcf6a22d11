-- In each event a node that stays up either ticks, in its time, or time passes.
use Rattle.std.proofs.Common.{◌≡◌, inl, inr, ◌∙◌, refl, ap, sym, subst, ℕ, ◌<◌, ℤ, pos, ◌+ℤ◌, ◌≤ℤ◌, not, true, false, List, ◌∷◌, Result}
use Rattle.std.proofs.lemmas.Bool.Decides.{eqb_tells}
use Rattle.wrp_base.specs.declared.message.PtpMsg.{PtpMsg}
use Rattle.wrp_network.specs.Network.{node_count}
use Rattle.wrp_bounds.specs.Times.{longest_tick, shortest_tick}
use Rattle.wrp_frame.specs.declared.fault.FrameFault.{FrameFault}
use Rattle.wrp_node.specs.declared.interface.Input.{Input}
use Rattle.wrp_node.specs.declared.interface.Input.TheVariants.{Tick as TickInput, Sample as SampleInput, Frame, Sent, Carrier, Reset}
use Rattle.wrp_node.specs.NodeAt.{NodeAt}
use Rattle.wrp_node.specs.StepLaws.{TicksAreCounted, ticks_by}
use Rattle.wrp_tracking_laws.specs.Ticks.{TickStep}
use Rattle.wrp_course.specs.declared.event.Event.{Event}
use Rattle.wrp_course.specs.declared.event.Event.TheVariants.{Tick, Up}
use Rattle.wrp_course.specs.Given.{given_plain, taken_of, world_step}
use Rattle.wrp_course.specs.Run.{Happened, world_after}
use Rattle.wrp_course.specs.RunLaws.{TicksAreApart}
use Rattle.wrp_course.specs.Runs.{IsRun}
use Rattle.wrp_course.specs.Setting.{Setting, node_setting_of}
use Rattle.wrp_course.specs.WorldAt.{WorldAt}
use Rattle.wrp_course.proofs.RunHanded.{not_early}
use Rattle.wrp_course.proofs.RunTimes.{comes_up_down, step_time, not_up}
use Rattle.wrp_bound_laws.specs.Clocks.{TicksStepOnTime}
use Rattle.wrp_bound_laws.specs.Views.{ticks_at}
use Rattle.wrp_bound_laws.proofs.Nodes.Inputs.{node_kept}
use Rattle.wrp_bound_laws.proofs.Sources.LeaseSources.{same_last}
use Rattle.wrp_bound_laws.proofs.Motion.OnTime.{on_time}
use Rattle.wrp_bound_laws.proofs.Sources.Parents.{IsCalmOf, calm_to, ticked_node}
use Rattle.wrp_bound_laws.proofs.Nodes.StepCalls.{IsCalm}

calm_count : (input : Input) (ticks : ℕ) → IsCalm input → ticks_by input ticks ≡ ticks
calm_count TickInput ticks h = absurd h
calm_count (SampleInput number base bits) ticks h = refl
calm_count (Frame p octets raw sample) ticks h = refl
calm_count (Sent p seq delay stamp) ticks h = refl
calm_count (Carrier p up own_module) ticks h = refl
calm_count Reset ticks h = absurd h

pub calm_ticks : TicksAreCounted → (s : Setting) (h : Happened) (before : List Happened) (n : ℕ) → IsCalmOf n h.event → ((world_after s (h ∷ before)).node n).ticks ≡ ((world_after s before).node n).ticks
calm_ticks counted s h before n calm =
    node_kept (λ (m : NodeAt). m.ticks ≡ ((world_after s before).node n).ticks) IsCalm s h.says h.answer (world_after s before) h.event n
    (λ t m q e. counted (node_setting_of s n) t m ∙ calm_count t.input m.ticks q ∙ e) (calm_to n h.event calm) refl

abbrev Steps : Setting → Happened → List Happened → ℕ → Type 0
Steps s h before n = TickStep (shortest_tick s.cfg) (longest_tick s.cfg) (ticks_at (world_after s before) n) (ticks_at (world_after s (h ∷ before)) n)

passes : TicksAreCounted → TicksAreApart → (s : Setting) (h : Happened) (before : List Happened) (n : ℕ) → IsRun s (h ∷ before) → n < node_count s.cfg → ((world_after s (h ∷ before)).clock n).up ≡ true → IsCalmOf n h.event → Steps s h before n
passes counted apart s h before n run inside up calm =
    let w : WorldAt = world_after s before in
    let now : WorldAt = world_after s (h ∷ before) in
    let last : (now.clock n).ticked ≡ (w.clock n).ticked = same_last s h before n calm in
    inl (record {
      ticks = calm_ticks counted s h before n calm;
      last = last;
      order = step_time s h.says h.answer w h.event run.each.0;
      near = subst (λ t. now.time ≤ℤ (t +ℤ pos (longest_tick s.cfg))) last (on_time apart s (h ∷ before) n inside run up);
    })

tick_step : TicksAreCounted → TicksAreApart → (s : Setting) (says : Result PtpMsg FrameFault) (y : ℤ) (before : List Happened) (e : Event) (n : ℕ) → IsRun s (record { event = e; says = says; answer = y } ∷ before) → n < node_count s.cfg →
    ((world_after s before).clock n).up ≡ true → ((world_step s says y (world_after s before) e).clock n).up ≡ true → Steps s (record { event = e; says = says; answer = y }) before n
tick_step counted apart s says y before (Tick m) n run inside was up = elim (eqb_tells n m) [
  | inl x ↦
      let w : WorldAt = world_after s before in
      let node : _ = ticked_node s says y w n m x.1 in
      inr (record {
        ticks = ap (λ (z : NodeAt). z.ticks) node.0 ∙ counted (node_setting_of s n) (taken_of y (given_plain m TickInput)) (w.node n);
        last = node.1;
        now = refl;
        late =
            subst (λ i. ((w.clock i).ticked +ℤ pos (shortest_tick s.cfg)) ≤ℤ w.time) (sym x.1)
            (not_early (w.clock m).up w.time (w.clock m).ticked (shortest_tick s.cfg) run.accepted.0.1.0 run.accepted.0.0);
      })
  | inr x ↦ passes counted apart s (record { event = Tick m; says = says; answer = y }) before n run inside up x.1
]
tick_step counted apart s says y before (Up m off swaps) n run inside was up =
    passes counted apart s (record { event = Up m off swaps; says = says; answer = y }) before n run inside up
    (λ same. not_up ((world_after s before).clock n).up was (subst (λ i. not (not ((world_after s before).clock i).up) ≡ false) (sym same) (comes_up_down s (world_after s before) says m off swaps run.accepted.0)))
tick_step counted apart s says y before e n run inside was up = passes counted apart s (record { event = e; says = says; answer = y }) before n run inside up tt

pub ticks_step_on_time : TicksAreCounted → TicksAreApart → TicksStepOnTime
ticks_step_on_time counted apart s h before n run inside was up = tick_step counted apart s h.says h.answer before h.event n run inside was up
