-- Each event that the rules give is accepted, whatever comes between.
use Rattle.std.proofs.Common.{◌≡◌, refl, sym, subst, ℕ, ◌<◌, ℤ, nat_lt, Bool, true, false, if◌then◌else◌, List, [], ◌∷◌, Option, None, Some, arith}
use Rattle.std.proofs.lemmas.Bool.Decides.{nat_tests}
use Rattle.std.proofs.lemmas.Option.{none-some}
use Rattle.wrp_base.proofs.Booleans.{not_both}
use Rattle.wrp_base.proofs.Naturals.{nat_le_self}
use Rattle.wrp_course.specs.declared.event.Event.{Event}
use Rattle.wrp_course.specs.declared.event.Event.TheVariants.{Pass, Tick, Sample, Depart, Arrive, Deliver, Noise, Down, Up, Cut, Join}
use Rattle.wrp_course.specs.EventAt.{IsEventOf}
use Rattle.wrp_course.specs.Premises.{Accepts}
use Rattle.wrp_course.specs.Run.{Happened, world_after}
use Rattle.wrp_course.specs.RunLaws.{FramesHaveTimes}
use Rattle.wrp_course.specs.Runs.{IsNetwork, IsRun}
use Rattle.wrp_course.specs.SameHandshake.{CarriersAreTheLinks}
use Rattle.wrp_course.specs.Setting.{Setting}
use Rattle.wrp_course.specs.Views.{IsNextArrival}
use Rattle.wrp_course.specs.WorldAt.{WorldAt}
use Rattle.wrp_sim.specs.Keeps.{Between, Comes, EventsAreAccepted, IsDriven, LeftOut, MayBeBetween, Silent, SimRunsAreRuns, Turn, events_of}
use Rattle.wrp_sim.specs.Rules.{Next, arrives, begins, delivers, departs, fails, first_of, later_rules, next_of, passes, rest_of, samples, ticks}
use Rattle.wrp_scene.specs.Scenario.{IsSceneOf, SceneAt}
use Rattle.wrp_sim.specs.SimAt.{SimAt}
use Rattle.wrp_sim.specs.SimRun.{GivesEvent, IsSimRun}
use Rattle.wrp_sim.proofs.KeepsFrames.{arrives_good, delivers_good, departs_good}
use Rattle.wrp_sim.proofs.KeepsGood.{Good, GoodIf, Moment}
use Rattle.wrp_sim.proofs.KeepsLit.{run_lit}
use Rattle.wrp_sim.proofs.KeepsSamples.{samples_good}
use Rattle.wrp_sim.proofs.KeepsStart.{begins_good, fails_good, quiet_rest, rest_keeps}
use Rattle.wrp_sim.proofs.KeepsState.{AllQuiet, Keeps, StepKeeps, new_keeps, step_hands, step_keeps}
use Rattle.wrp_sim.proofs.KeepsTime.{passes_good, ticks_good}

-- The first rule that applies

first_good : (scene : SceneAt) (s : Setting) (w : WorldAt) (o : Option Next) (os : List (Option Next)) → GoodIf scene s w o → (o ≡ None → GoodIf scene s w (first_of os)) → GoodIf scene s w (first_of (o ∷ os))
first_good scene s w None os h k = k refl
first_good scene s w (Some next) os h k = h

-- no frame is handed over
not_handed : (b : Bool) (x : Next) → (if b then Some x else None) ≡ None → b ≡ false
not_handed true x e = absurd (none-some x (sym e))
not_handed false x e = refl

test_of : (n : ℕ) → 0 < n → nat_lt 0 n ≡ true
test_of n h = grind (arith, nat_tests)

none_handed : (at : SimAt) → delivers at ≡ None → 0 < at.arrived.times → ⊥
none_handed at e h = not_both (nat_lt 0 at.arrived.times) (test_of at.arrived.times h) (not_handed (nat_lt 0 at.arrived.times) _ e)

later_good : (scene : SceneAt) (s : Setting) (w : WorldAt) (due : Option (ℕ × ℤ)) (at : SimAt) → Moment scene s w → Keeps scene s w at → AllQuiet s w.time at.faults → IsNextArrival w due → GoodIf scene s w (first_of (later_rules scene s w due at))
later_good scene s w due at m h quiet first =
    first_good scene s w (samples scene s w at) (departs s w at ∷ (delivers at ∷ (arrives scene s w due at ∷ (ticks s w at ∷ (passes scene s w due at ∷ []))))) (samples_good scene s w at m h)
    (λ none3. first_good scene s w (departs s w at) (delivers at ∷ (arrives scene s w due at ∷ (ticks s w at ∷ (passes scene s w due at ∷ [])))) (departs_good scene s w at m h)
    (λ none4. first_good scene s w (delivers at) (arrives scene s w due at ∷ (ticks s w at ∷ (passes scene s w due at ∷ []))) (delivers_good scene s w at m h)
    (λ none5. first_good scene s w (arrives scene s w due at) (ticks s w at ∷ (passes scene s w due at ∷ [])) (arrives_good scene s w due at m h quiet first)
    (λ none6. first_good scene s w (ticks s w at) (passes scene s w due at ∷ []) (ticks_good scene s w at m h (none_handed at none5))
    (λ none7. first_good scene s w (passes scene s w due at) [] (passes_good scene s w due at m h (none_handed at none5) none7)
    (λ none9. tt))))))

next_good : (scene : SceneAt) (s : Setting) (w : WorldAt) (due : Option (ℕ × ℤ)) (at : SimAt) → Moment scene s w → Keeps scene s w at → IsNextArrival w due → GoodIf scene s w (next_of scene s w due at)
next_good scene s w due at m h first =
    first_good scene s w (begins scene s w at) (fails scene s w at ∷ later_rules scene s w due (rest_of s w at)) (begins_good scene s w at m h)
    (λ none1. first_good scene s w (fails scene s w at) (later_rules scene s w due (rest_of s w at)) (fails_good scene s w at m h none1)
    (λ none2. later_good scene s w due (rest_of s w at) m (rest_keeps scene s w at h) (quiet_rest scene s w at none2) first))

abbrev next_with : Event → SimAt → Next
next_with e new = record { event = e; at = new }

given_good : (scene : SceneAt) (s : Setting) (w : WorldAt) (at new : SimAt) (e : Event) → Moment scene s w → Keeps scene s w at → GivesEvent scene s w at e new → Good scene s w (next_with e new)
given_good scene s w at new e m h g = subst (GoodIf scene s w) (sym g.next) (next_good scene s w g.due at m h g.first)

-- What comes between

between_steps : (scene : SceneAt) (s : Setting) (w : WorldAt) (at : SimAt) (e : Event) → MayBeBetween e → Keeps scene s w at → StepKeeps scene s w e at at
between_steps scene s w at (Deliver i) may h = record {
  swaps = tt;
  fibres = tt;
  young = tt;
  ticks = h.ticks;
  begun = nat_le_self at.begun;
  most = h.waits.most;
  turn = tt;
  faults = h.faults;
  ticked = h.ticked;
  handed = λ says y t. step_hands s says y w (Deliver i) at at tt h.young refl refl (h.handed t);
}
between_steps scene s w at (Noise n p octets raw) may h = record {
  swaps = tt;
  fibres = tt;
  young = tt;
  ticks = h.ticks;
  begun = nat_le_self at.begun;
  most = h.waits.most;
  turn = tt;
  faults = h.faults;
  ticked = h.ticked;
  handed = λ says y t. step_hands s says y w (Noise n p octets raw) at at tt h.young refl refl (h.handed t);
}
between_steps scene s w at (Pass dt drifts fibres) may h = absurd may
between_steps scene s w at (Tick n) may h = absurd may
between_steps scene s w at (Sample n base bits) may h = absurd may
between_steps scene s w at (Depart n p stamp) may h = absurd may
between_steps scene s w at (Arrive i raw) may h = absurd may
between_steps scene s w at (Down n) may h = absurd may
between_steps scene s w at (Up n off swaps) may h = absurd may
between_steps scene s w at (Cut k) may h = absurd may
between_steps scene s w at (Join k ms sm) may h = absurd may

-- A simulator and its world

-- the laws that this rests on
pub record Laws : Type 0 where
  pub carriers : CarriersAreTheLinks
  pub times : FramesHaveTimes

pub record Driven (scene : SceneAt) (s : Setting) (events : List Happened) (at : SimAt) : Type 0 where
  pub run : IsRun s events
  pub keeps : Keeps scene s (world_after s events) at

moment_of : Laws → (scene : SceneAt) (s : Setting) (events : List Happened) → IsSceneOf s.cfg scene → IsRun s events → Moment scene s (world_after s events)
moment_of laws scene s events fits run = record {
  net = run.network;
  fits = fits;
  lit = run_lit laws.carriers s events run;
  times = λ i f e. laws.times s events i f run e;
}

one_more : (s : Setting) (h : Happened) (before : List Happened) → IsRun s before → IsEventOf s.cfg h.event → Accepts s (world_after s before) h.says h.event → IsRun s (h ∷ before)
one_more s h before run event accepted = record { network = run.network; each = (event, run.each); accepted = (accepted, run.accepted) }

good_now : Laws → (scene : SceneAt) (s : Setting) (events : List Happened) (old new : SimAt) (e : Event) → IsSceneOf s.cfg scene → Driven scene s events old → GivesEvent scene s (world_after s events) old e new →
    Good scene s (world_after s events) (next_with e new)
good_now laws scene s events old new e fits d g = given_good scene s (world_after s events) old new e (moment_of laws scene s events fits d.run) d.keeps g

driven : Laws → (scene : SceneAt) (s : Setting) (seed : ℕ) (turns : List Turn) (at : SimAt) → IsNetwork s → IsSceneOf s.cfg scene → IsDriven scene s seed turns at → Driven scene s (events_of turns) at
driven laws scene s seed [] at net fits h = record {
  run = record { network = net; each = tt; accepted = tt };
  keeps = subst (Keeps scene s (world_after s [])) (sym h) (new_keeps scene s seed fits);
}
driven laws scene s seed (Comes happened ∷ before) at net fits h =
    let d : Driven scene s (events_of before) h.0 = driven laws scene s seed before h.0 net fits h.1 in
    let g : Good scene s (world_after s (events_of before)) (next_with happened.event at) = good_now laws scene s (events_of before) h.0 at happened.event fits d h.2 in
    record {
      run = one_more s happened (events_of before) d.run g.event (g.accepted happened.says);
      keeps = g.keeps happened.says happened.answer;
    }
driven laws scene s seed (LeftOut i ∷ before) at net fits h =
    let d : Driven scene s (events_of before) h.0 = driven laws scene s seed before h.0 net fits h.1 in
    let g : Good scene s (world_after s (events_of before)) (next_with (Deliver i) at) = good_now laws scene s (events_of before) h.0 at (Deliver i) fits d h.2 in
    record { run = d.run; keeps = g.left_out tt }
driven laws scene s seed (Silent ∷ before) at net fits h =
    let d : Driven scene s (events_of before) h.0 = driven laws scene s seed before h.0 net fits h.1 in
    let w : WorldAt = world_after s (events_of before) in
    record { run = d.run; keeps = subst (Keeps scene s w) (sym h.3) (rest_keeps scene s w h.0 d.keeps) }
driven laws scene s seed (Between happened ∷ before) at net fits h =
    let d : Driven scene s (events_of before) at = driven laws scene s seed before at net fits h.0 in
    record {
      run = one_more s happened (events_of before) d.run h.2.0 h.2.1;
      keeps = step_keeps scene s happened.says happened.answer (world_after s (events_of before)) happened.event at at (between_steps scene s (world_after s (events_of before)) at happened.event h.1 d.keeps) d.keeps;
    }

pub events_are_accepted : Laws → EventsAreAccepted
events_are_accepted laws scene s seed turns at new e says net fits h g =
    let it : Good scene s (world_after s (events_of turns)) (next_with e new) = good_now laws scene s (events_of turns) at new e fits (driven laws scene s seed turns at net fits h) g in
    (it.event, it.accepted says)

closed : Laws → (scene : SceneAt) (s : Setting) (seed : ℕ) (events : List Happened) (at : SimAt) → IsNetwork s → IsSceneOf s.cfg scene → IsSimRun scene s seed events at → Driven scene s events at
closed laws scene s seed [] at net fits h = record {
  run = record { network = net; each = tt; accepted = tt };
  keeps = subst (Keeps scene s (world_after s [])) (sym h) (new_keeps scene s seed fits);
}
closed laws scene s seed (happened ∷ before) at net fits h =
    let d : Driven scene s before h.0 = closed laws scene s seed before h.0 net fits h.1 in
    let g : Good scene s (world_after s before) (next_with happened.event at) = good_now laws scene s before h.0 at happened.event fits d h.2 in
    record {
      run = one_more s happened before d.run g.event (g.accepted happened.says);
      keeps = g.keeps happened.says happened.answer;
    }

pub sim_runs_are_runs : Laws → SimRunsAreRuns
sim_runs_are_runs laws scene s seed events at net fits h = (closed laws scene s seed events at net fits h).run
