-- An answer is expected for the lines of each simulation: its run ends by its scenario, or by the number that no
-- event may reach.
use Rattle.std.proofs.Common.{◌≡◌, ◌⊎◌, inl, inr, refl, ap, subst, ℕ, zero, suc, ◌+◌, ◌-◌, ◌<◌, List, [], ◌∷◌, ◌++◌, length, Option, None, Some, Result, Ok, Err, arith}
use Rattle.wrp_base.specs.declared.fault.TraceFault.{TraceFault}
use Rattle.wrp_course.specs.Run.{Happened, world_after}
use Rattle.wrp_course.specs.Setting.{Setting}
use Rattle.wrp_records.specs.declared.machine.Refusal.TheVariants as refusals
use Rattle.wrp_records.specs.declared.status.Status.TheVariants.{Done, TooLarge}
use Rattle.wrp_records.specs.Refusals.{bad_trace_line}
use Rattle.wrp_records.specs.Stream.{large_line}
use Rattle.wrp_sim.specs.Rules.{Next, next_of}
use Rattle.wrp_scene.specs.Scenario.{SceneAt, new_scene}
use Rattle.wrp_scene.specs.ScenarioLines.{scene_read}
use Rattle.wrp_sim.specs.SimAt.{SimAt, new_sim}
use Rattle.wrp_sim.specs.SimRun.{Gives}
use Rattle.wrp_scene.specs.EventLimit.{event_limit}
use Rattle.wrp_scene_records.specs.Scenarios.{Changes, IsScenario, SimAccepts}
use Rattle.wrp_simulate.specs.Simulates.{IsSimulated, Simulates, simulation_of}
use Rattle.wrp_trace.specs.LineSetting.{line_setting_in}
use Rattle.wrp_replay.specs.DownLaw.{law_at}
use Rattle.wrp_simulate.specs.SimText.{sim_lines, sum_lines}
use Rattle.wrp_due_laws.proofs.Arriving.{next_arrival}
use Rattle.wrp_due_laws.proofs.Happening.{event_answered, event_said}
use Rattle.wrp_records.proofs.LinesAnswered.{Ends, GoesOn, IsTotal, Refused, lines_answered}
use Rattle.wrp_records.specs.RecordsAnswer.{HasAnswer}

-- Scenarios

changes_more : (s : Setting) (scene last next : SceneAt) (lines : List (List ℕ)) (line : List ℕ) → Changes s.cfg scene lines last
    → scene_read s.cfg last line ≡ Ok next → Changes s.cfg scene (lines ++ line ∷ []) next
changes_more s scene last next [] line changes reads = (next, subst (λ (x : SceneAt). scene_read s.cfg x line ≡ Ok next) changes reads, refl)
changes_more s scene last next (first ∷ lines) line changes reads = (changes.0, changes.1, changes_more s changes.0 last next lines line changes.2 reads)

decided : (s : Setting) (seed : ℕ) (lines : List (List ℕ)) (line text : List ℕ) (accepted : SimAccepts s lines text) (r : Result SceneAt TraceFault)
    → scene_read s.cfg accepted.0 line ≡ r
    → GoesOn (simulation_of s seed) lines line text ⊎ Refused (simulation_of s seed) lines line
decided s seed lines line text accepted (Ok next) reads =
    inl ([], (next, changes_more s (new_scene s.cfg) accepted.0 next lines line accepted.1 reads, ap (λ (l : List ℕ). l ++ []) accepted.2))
decided s seed lines line text accepted (Err fault) reads =
    inr (refusals.BadTrace, bad_trace_line (length lines + 1) fault, (accepted.0, accepted.1, fault, reads, refl))

-- Runs

-- the rules give an event, or none
pub given : (s : Setting) (scene : SceneAt) (events : List Happened) (at : SimAt) → (next : Option Next) × Gives scene s (world_after s events) at next
given s scene events at =
    let due = next_arrival s events in
    (next_of scene s (world_after s events) due.0 at, record { due = due.0; first = due.1; next = refl })

-- none: the run is over
ended : (s : Setting) (seed : ℕ) (lines : List (List ℕ)) (run : Simulates s seed lines) (next : Option Next)
    → Gives run.scene s (world_after s run.events) run.at next
    → ((n : Next) → Gives run.scene s (world_after s run.events) run.at (Some n) → Ends (simulation_of s seed) lines) → Ends (simulation_of s seed) lines
ended s seed lines run None gives more = (Done, sim_lines s run.events ++ sum_lines s run.events, (run, gives, refl))
ended s seed lines run (Some n) gives more = more n gives

-- an event whose number is too great
overrun : (s : Setting) (seed : ℕ) (lines : List (List ℕ)) (run : Simulates s seed lines) (n : Next) → length run.events + 1 ≡ event_limit
    → Gives run.scene s (world_after s run.events) run.at (Some n)
    → Ends (simulation_of s seed) lines
overrun s seed lines run n number gives =
    (TooLarge, sim_lines s run.events ++ large_line (length run.events + 1), (run, record { next = n; comes = gives; number = number }, refl))

-- one more event
longer : (s : Setting) (seed : ℕ) (scene : SceneAt) (events : List Happened) (at : SimAt) (n : Next) → IsSimulated s scene seed events at
    → length events + 1 < event_limit
    → Gives scene s (world_after s events) at (Some n) → (h : Happened) × IsSimulated s scene seed (h ∷ events) n.at
longer s seed scene events at n simulated count gives =
    let says = event_said n.event in
    let due = event_answered (λ n. law_at (line_setting_in s n)) s (world_after s events) says.0 n.event simulated.answered in (
      record { event = n.event; says = says.0; answer = due.0 },
      record { run = (at, simulated.run, gives); said = (says.1, simulated.said); answered = due.1; count = omega (arith, count) },
    )

-- by how many events may still come
run_on : (s : Setting) (seed : ℕ) (lines : List (List ℕ)) (scene : SceneAt) → IsScenario s lines scene → (left : ℕ) (events : List Happened) (at : SimAt)
    → IsSimulated s scene seed events at
    → length events + suc left ≡ event_limit → Ends (simulation_of s seed) lines
run_on s seed lines scene said zero events at simulated count =
    let run : Simulates s seed lines = record { scene = scene; said = said; events = events; at = at; simulated = simulated } in
    let next = given s scene events at in
    ended s seed lines run next.0 next.1 (λ n gives. overrun s seed lines run n (omega (arith, count)) gives)
run_on s seed lines scene said (suc left) events at simulated count =
    let run : Simulates s seed lines = record { scene = scene; said = said; events = events; at = at; simulated = simulated } in
    let next = given s scene events at in
    ended s seed lines run next.0 next.1
    (λ n gives.
    let more = longer s seed scene events at n simulated (omega (arith, count)) gives in
    run_on s seed lines scene said left (more.0 ∷ events) n.at more.1 (omega (arith, count)))

-- before any event
most_left : ℕ
most_left = event_limit - 1

most_is : suc most_left ≡ event_limit
unfolding most_left
most_is = omega arith

none_yet : (s : Setting) (seed : ℕ) (scene : SceneAt) → IsSimulated s scene seed [] (new_sim scene seed)
none_yet s seed scene = record { run = refl; said = tt; answered = λ n. tt; count = omega arith }

simulation_ends : (s : Setting) (seed : ℕ) (lines : List (List ℕ)) (text : List ℕ) → SimAccepts s lines text → Ends (simulation_of s seed) lines
simulation_ends s seed lines text accepted =
    let most = most_is in
    run_on s seed lines accepted.0 accepted.1 most_left [] (new_sim accepted.0 seed) (none_yet s seed accepted.0) (omega (arith, most))

simulation_total : (s : Setting) (seed : ℕ) → IsTotal (simulation_of s seed)
simulation_total s seed = record {
  starts = (new_scene s.cfg, refl, refl);
  decides = λ lines line text accepted. decided s seed lines line text accepted (scene_read s.cfg accepted.0 line) refl;
  ends = λ lines text accepted. simulation_ends s seed lines text accepted;
}

pub simulation_answered : (s : Setting) (seed : ℕ) (lines : List (List ℕ)) → HasAnswer (simulation_of s seed) lines
simulation_answered s seed lines = lines_answered (simulation_of s seed) (simulation_total s seed) lines
