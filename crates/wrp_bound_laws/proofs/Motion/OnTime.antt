-- A node that is up ticked, or started, at most dmax ago.
use Rattle.std.proofs.Common.{◌≡◌, ◌⊎◌, inl, inr, ◌∙◌, refl, ap, sym, subst, ℕ, ◌+◌, ◌<◌, ◌==◌, ◌&&◌, ℤ, pos, ◌+ℤ◌, ◌-ℤ◌, ◌≤ℤ◌, not, Bool, true, false, if◌then◌else◌, List, [], ◌∷◌, ◌++◌, map, Result, arith}
use Rattle.std.proofs.lemmas.Bool.Decides.{eqb_tells}
use Rattle.std.proofs.lemmas.Int.{ints}
use Rattle.std.specs.Int.Signed.{le_z}
use Rattle.wrp_base.specs.declared.message.PtpMsg.{PtpMsg}
use Rattle.wrp_network.specs.Network.{node_count}
use Rattle.wrp_base.proofs.Integers.{int_le_self, int_le_trans, le_plus}
use Rattle.wrp_base.proofs.Naturals.{zero_plus}
use Rattle.wrp_bounds.specs.Times.{longest_tick}
use Rattle.wrp_frame.specs.declared.fault.FrameFault.{FrameFault}
use Rattle.wrp_course.specs.declared.clocks.ClockState.{ClockState}
use Rattle.wrp_course.specs.declared.event.Event.{Event}
use Rattle.wrp_course.specs.declared.event.Event.TheVariants.{Pass, Tick, Sample, Depart, Arrive, Deliver, Noise, Down, Up, Cut, Join}
use Rattle.wrp_course.specs.Checks.{AllHold, Check}
use Rattle.wrp_course.proofs.Bounds.{holds_at}
use Rattle.wrp_course.specs.Given.{given_by, world_step}
use Rattle.wrp_course.specs.Moved.{moved}
use Rattle.wrp_course.specs.Premises.{tick_late}
use Rattle.wrp_course.specs.Run.{Happened, world_after}
use Rattle.wrp_course.specs.RunLaws.{TicksAreApart}
use Rattle.wrp_course.specs.Runs.{IsRun}
use Rattle.wrp_course.specs.Setting.{Setting, nodes_of}
use Rattle.wrp_course.specs.WorldAt.{WorldAt}
use Rattle.wrp_course.proofs.RunMoves.{moved_ticked}
use Rattle.wrp_course.proofs.RunTimes.{all_given_time, step_time}
use Rattle.wrp_bound_laws.specs.Clocks.{TicksAreOnTime}
use Rattle.wrp_bound_laws.proofs.Nodes.Inputs.{all_given_stands, no_tick_last}
use Rattle.wrp_bound_laws.proofs.Runs.Suffixes.{run_before}

-- The last tick is past

pub ticked_past : TicksAreApart → (s : Setting) (events : List Happened) (n : ℕ) → IsRun s events → ((world_after s events).clock n).ticked ≤ℤ (world_after s events).time
ticked_past apart s [] n run = int_le_self (world_after s []).time
ticked_past apart s (h ∷ before) n run =
    let w : WorldAt = world_after s before in
    let now : ℤ = (world_after s (h ∷ before)).time in
    elim (apart s h before n run) [
      | inl e ↦
          subst (λ t. t ≤ℤ now) (sym e)
          (int_le_trans (w.clock n).ticked w.time now (ticked_past apart s before n (run_before s h before run)) (step_time s h.says h.answer w h.event run.each.0))
      | inr x ↦ subst (λ t. t ≤ℤ now) (sym x.0) (int_le_self now)
    ]

-- The check of each node as time passes

pub first_part : (xs ys : List Check) → AllHold (xs ++ ys) → AllHold xs
first_part [] ys h = tt
first_part (x ∷ xs) ys h = (h.0, first_part xs ys h.1)

not_late : (s : Setting) (w : WorldAt) (dt : ℤ) (n : ℕ) (others : List Check) → n < node_count s.cfg → AllHold (map (tick_late s w dt) (nodes_of s) ++ others) → (tick_late s w dt n).fails ≡ false
not_late s w dt n others inside h =
    subst (λ i. (tick_late s w dt i).fails ≡ false) (zero_plus n) (holds_at (tick_late s w dt) (node_count s.cfg) 0 n (first_part (map (tick_late s w dt) (nodes_of s)) others h) inside)

in_time : (up : Bool) (after last : ℤ) (most : ℕ) → up ≡ true → (up && not (le_z (after -ℤ last) (pos most))) ≡ false → after ≤ℤ (last +ℤ pos most)
in_time true after last most e h = grind (arith, ints, h)
in_time false after last most e h = absurd (let f : false ≡ true = e in cc)

-- Each event

abbrev OnTime : (dmax : ℕ) → ClockState → ℤ → Type 0
OnTime dmax clock time = clock.up ≡ true → time ≤ℤ (clock.ticked +ℤ pos dmax)

-- an event in which no time passes and the node does not start
abbrev pub IsStill : ℕ → Event → Type 0
IsStill n (Pass dt drifts fibres) = ⊥
IsStill n (Up m off swaps) = n ≡ m → ⊥
IsStill n _ = Unit {0}

up_where : (b : Bool) (c d : ClockState) → (c.up ≡ true → d.up ≡ true) → (if b then c else d).up ≡ true → d.up ≡ true
up_where true c d h e = h e
up_where false c d h e = e

other_up : (n m : ℕ) (c d : ClockState) → (n ≡ m → ⊥) → (if n == m then c else d).up ≡ true → d.up ≡ true
other_up n m c d out e = elim (eqb_tells n m) [
  | inl x ↦ absurd (out x.1)
  | inr x ↦ sym (ap (λ b. (if b then c else d).up) x.0) ∙ e
]

pub was_up : (s : Setting) (w : WorldAt) (e : Event) (n : ℕ) → IsStill n e → ((moved s w e).clock n).up ≡ true → (w.clock n).up ≡ true
was_up s w (Pass dt drifts fibres) n still e = absurd still
was_up s w (Sample m base bits) n still e = up_where (n == m) (record (w.clock n) { samples = (w.clock n).samples + 1 }) (w.clock n) (λ x. x) e
was_up s w (Down m) n still e = up_where (n == m) (record (w.clock n) { up = false }) (w.clock n) (λ x. absurd (let f : false ≡ true = x in cc)) e
was_up s w (Up m off swaps) n still e = other_up n m (record { up = true; off = off; ticked = w.time; samples = 0 }) (w.clock n) still e
was_up s w other n still e = e

still_time : (s : Setting) (w : WorldAt) (e : Event) (n : ℕ) → IsStill n e → (moved s w e).time ≡ w.time
still_time s w (Pass dt drifts fibres) n still = absurd still
still_time s w (Up m off swaps) n still = refl
still_time s w _ n still = refl

still_on_time : (s : Setting) (h : Happened) (before : List Happened) (n dmax : ℕ) → IsStill n h.event →
    (((world_after s (h ∷ before)).clock n).ticked ≡ ((world_after s before).clock n).ticked) ⊎ (((world_after s (h ∷ before)).clock n).ticked ≡ (world_after s (h ∷ before)).time) →
    OnTime dmax ((world_after s before).clock n) (world_after s before).time → OnTime dmax ((world_after s (h ∷ before)).clock n) (world_after s (h ∷ before)).time
still_on_time s h before n dmax still (inr now) old up = subst (λ t. (world_after s (h ∷ before)).time ≤ℤ (t +ℤ pos dmax)) (sym now) (le_plus (world_after s (h ∷ before)).time dmax)
still_on_time s h before n dmax still (inl same) old up =
    let w : WorldAt = world_after s before in
    let v : WorldAt = moved s w h.event in
    let time : (world_after s (h ∷ before)).time ≡ w.time = all_given_time s h.answer (given_by s w v h.says h.event) v ∙ still_time s w h.event n still in
    let was : (w.clock n).up ≡ true = was_up s w h.event n still (sym (all_given_stands s h.answer (given_by s w v h.says h.event) v n) ∙ up) in
    subst (λ t. t ≤ℤ (((world_after s (h ∷ before)).clock n).ticked +ℤ pos dmax)) (sym time)
    (subst (λ t. w.time ≤ℤ (t +ℤ pos dmax)) (sym same) (old was))

either : {A B C : Type 0} → (A ⊎ (B × C)) → A ⊎ B
either (inl a) = inl a
either (inr x) = inr x.0

step_on_time : TicksAreApart → (s : Setting) (says : Result PtpMsg FrameFault) (answer : ℤ) (before : List Happened) (n : ℕ) (e : Event) → n < node_count s.cfg → IsRun s (record { event = e; says = says; answer = answer } ∷ before) →
    OnTime (longest_tick s.cfg) ((world_after s before).clock n) (world_after s before).time →
    OnTime (longest_tick s.cfg) ((world_step s says answer (world_after s before) e).clock n) (world_step s says answer (world_after s before) e).time
step_on_time apart s says answer before n (Pass dt drifts fibres) inside run old up =
    let w : WorldAt = world_after s before in
    in_time (w.clock n).up (w.time +ℤ dt) (w.clock n).ticked (longest_tick s.cfg) up (not_late s w dt n _ inside run.accepted.0)
step_on_time apart s says answer before n (Up m off swaps) inside run old up =
    let w : WorldAt = world_after s before in
    let h : Happened = record { event = Up m off swaps; says = says; answer = answer } in
    elim (eqb_tells n m) [
      | inl x ↦
          let v : WorldAt = moved s w (Up m off swaps) in
          let after : WorldAt = world_step s says answer w (Up m off swaps) in
          let now : (after.clock n).ticked ≡ w.time =
          no_tick_last s says answer w (Up m off swaps) n tt ∙ moved_ticked s w (Up m off swaps) n ∙ ap (λ b. if b then w.time else (w.clock n).ticked) x.0 in
          let time : after.time ≡ w.time = all_given_time s answer (given_by s w v says (Up m off swaps)) v in
          subst (λ t. t ≤ℤ ((after.clock n).ticked +ℤ pos (longest_tick s.cfg))) (sym time)
          (subst (λ t. w.time ≤ℤ (t +ℤ pos (longest_tick s.cfg))) (sym now) (le_plus w.time (longest_tick s.cfg)))
      | inr x ↦ still_on_time s h before n (longest_tick s.cfg) x.1 (either (apart s h before n run)) old up
    ]
step_on_time apart s says answer before n (Tick m) inside run old up =
    let h : Happened = record { event = Tick m; says = says; answer = answer } in
    still_on_time s h before n (longest_tick s.cfg) tt (either (apart s h before n run)) old up
step_on_time apart s says answer before n (Sample m base bits) inside run old up =
    let h : Happened = record { event = Sample m base bits; says = says; answer = answer } in
    still_on_time s h before n (longest_tick s.cfg) tt (either (apart s h before n run)) old up
step_on_time apart s says answer before n (Depart m p stamp) inside run old up =
    let h : Happened = record { event = Depart m p stamp; says = says; answer = answer } in
    still_on_time s h before n (longest_tick s.cfg) tt (either (apart s h before n run)) old up
step_on_time apart s says answer before n (Arrive i raw) inside run old up =
    let h : Happened = record { event = Arrive i raw; says = says; answer = answer } in
    still_on_time s h before n (longest_tick s.cfg) tt (either (apart s h before n run)) old up
step_on_time apart s says answer before n (Deliver i) inside run old up =
    let h : Happened = record { event = Deliver i; says = says; answer = answer } in
    still_on_time s h before n (longest_tick s.cfg) tt (either (apart s h before n run)) old up
step_on_time apart s says answer before n (Noise m p octets raw) inside run old up =
    let h : Happened = record { event = Noise m p octets raw; says = says; answer = answer } in
    still_on_time s h before n (longest_tick s.cfg) tt (either (apart s h before n run)) old up
step_on_time apart s says answer before n (Down m) inside run old up =
    let h : Happened = record { event = Down m; says = says; answer = answer } in
    still_on_time s h before n (longest_tick s.cfg) tt (either (apart s h before n run)) old up
step_on_time apart s says answer before n (Cut k) inside run old up =
    let h : Happened = record { event = Cut k; says = says; answer = answer } in
    still_on_time s h before n (longest_tick s.cfg) tt (either (apart s h before n run)) old up
step_on_time apart s says answer before n (Join k ms sm) inside run old up =
    let h : Happened = record { event = Join k ms sm; says = says; answer = answer } in
    still_on_time s h before n (longest_tick s.cfg) tt (either (apart s h before n run)) old up

pub on_time : TicksAreApart → (s : Setting) (events : List Happened) (n : ℕ) → n < node_count s.cfg → IsRun s events → OnTime (longest_tick s.cfg) ((world_after s events).clock n) (world_after s events).time
on_time apart s [] n inside run up = absurd (let f : false ≡ true = up in cc)
on_time apart s (h ∷ before) n inside run up =
    step_on_time apart s h.says h.answer before n h.event inside run (on_time apart s before n inside (run_before s h before run)) up

pub ticks_are_on_time : TicksAreApart → TicksAreOnTime
ticks_are_on_time apart s events n run inside up = record { past = ticked_past apart s events n run; near = on_time apart s events n inside run up }
