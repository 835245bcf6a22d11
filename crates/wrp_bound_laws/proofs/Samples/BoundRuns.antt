-- The older events of a run with near answers are such a run, and their worlds are in its history.
use Rattle.std.proofs.Common.{◌≡◌, inl, inr, refl, ℕ, ◌+◌, ◌<◌, ℤ, List, [], ◌∷◌, ◌++◌, length, arith}
use Rattle.wrp_node.specs.declared.interface.Input.{Input}
use Rattle.wrp_node.specs.declared.interface.Input.TheVariants.{Tick, Sample, Frame, Sent, Carrier, Reset}
use Rattle.wrp_node.specs.NodeAt.{NodeAt, servo_setting_of}
use Rattle.wrp_servo.specs.Call.{Call, CallSample, CallMeasured, CallTick, CallLease, CallLink, CallCarrier, CallReset, ServoSetting}
use Rattle.wrp_servo.specs.Servo.{AllAnswered}
use Rattle.wrp_tracking_laws.specs.History.{Was}
use Rattle.wrp_course.specs.Run.{Happened, IsAnswered, world_after, worlds_of}
use Rattle.wrp_course.specs.Setting.{Setting, node_setting_of}
use Rattle.wrp_bound_laws.specs.Bounds.{TrueRun}
use Rattle.wrp_bound_laws.specs.Fours.{IsNearAnswer}
use Rattle.wrp_bound_laws.specs.Moments.{AtEach}
use Rattle.wrp_bound_laws.proofs.Samples.ChainSources.{any_to}
use Rattle.wrp_bound_laws.proofs.Nodes.Inputs.{node_kept}
use Rattle.wrp_bound_laws.proofs.Nodes.StepCalls.{Brings, step_keeps}
use Rattle.wrp_bound_laws.proofs.Runs.Suffixes.{run_before}

-- The answers of the laws

fewer_answered : (answers : ℤ → ℤ → Type 0) (x : ServoSetting) (calls : List Call) (call : Call) → AllAnswered answers x (call ∷ calls) → AllAnswered answers x calls
fewer_answered answers x calls (CallSample n base bits) h = h
fewer_answered answers x calls (CallMeasured f y) h = h.1
fewer_answered answers x calls CallTick h = h
fewer_answered answers x calls (CallLease fresh) h = h
fewer_answered answers x calls (CallLink on) h = h
fewer_answered answers x calls (CallCarrier up) h = h
fewer_answered answers x calls CallReset h = h

brings_any : (input : Input) → Brings (λ _. Unit {0}) input
brings_any Tick = tt
brings_any (Sample number base bits) = tt
brings_any (Frame p octets raw sample) = λ four answer. tt
brings_any (Sent p seq delay stamp) = tt
brings_any (Carrier p up own_module) = tt
brings_any Reset = tt

-- what was answered before an event was answered before it still
answered_before : (answers : ℕ → ℤ → ℤ → Type 0) (s : Setting) (h : Happened) (before : List Happened) → IsAnswered answers s (world_after s (h ∷ before)) → IsAnswered answers s (world_after s before)
answered_before answers s h before all n =
    let x : ServoSetting = servo_setting_of (node_setting_of s n) in
    let Kept : List Call → Type 0 = λ calls. AllAnswered (answers n) x calls → AllAnswered (answers n) x ((world_after s before).node n).calls in
    node_kept (λ (m : NodeAt). Kept m.calls) (λ _. Unit {0}) s h.says h.answer (world_after s before) h.event n
    (λ t m q old. step_keeps (λ _. Unit {0}) Kept (λ calls call c f now. f (fewer_answered (answers n) x calls call now)) (λ calls call c f now. f (fewer_answered (answers n) x calls call now)) (node_setting_of s n) t m (brings_any t.input) old)
    (any_to n h.event) (λ a. a) (all n)

-- The run

pub true_before : (s : Setting) (h : Happened) (before : List Happened) → TrueRun s (h ∷ before) → TrueRun s before
true_before s h before runs = record {
  run = run_before s h before runs.run;
  fit = runs.fit.1;
  answered = answered_before (IsNearAnswer s) s h before runs.answered;
}

pub true_older : (s : Setting) (newer older : List Happened) → TrueRun s (newer ++ older) → TrueRun s older
true_older s [] older runs = runs
true_older s (h ∷ newer) older runs = true_older s newer older (true_before s h (newer ++ older) runs)

pub at_oldest : (P : List Happened → Type 0) (newer older : List Happened) → AtEach P newer older → P older
at_oldest P [] older h = h
at_oldest P (x ∷ newer) older h = at_oldest P newer older h.1

pub shorter : (newer : List Happened) (entry : Happened) (before : List Happened) → length before < length (newer ++ entry ∷ before)
shorter [] entry before = omega arith
shorter (x ∷ newer) entry before = let h : length before < length (newer ++ entry ∷ before) = shorter newer entry before in omega (arith, h)

-- The worlds

world_more : (s : Setting) (events : List Happened) → length (worlds_of s events) ≡ length events + 1
world_more s [] = refl
world_more s (h ∷ before) = let e : length (worlds_of s before) ≡ length before + 1 = world_more s before in omega (arith, e)

more_is : (s : Setting) (h : Happened) (before : List Happened) → length (h ∷ before) ≡ length (worlds_of s before)
more_is s h before = let e : length (worlds_of s before) ≡ length before + 1 = world_more s before in omega (arith, e)

was_newest : (s : Setting) (events : List Happened) → Was (worlds_of s events) (length events) (world_after s events)
was_newest s [] = inl (refl, refl)
was_newest s (h ∷ before) = inl (more_is s h before, refl)

pub was_world : (s : Setting) (newer older : List Happened) → Was (worlds_of s (newer ++ older)) (length older) (world_after s older)
was_world s [] older = was_newest s older
was_world s (h ∷ newer) older = inr (was_world s newer older)
