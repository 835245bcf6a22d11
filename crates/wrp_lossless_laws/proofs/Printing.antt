-- What is expected of a loop over a link that loses nothing, and what is then expected of the simulation.
use Rattle.std.proofs.Common.{◌≡◌, ◌⊎◌, ◌∙◌, inl, inr, refl, ap, sym, subst, append-nil, ℕ, ◌+◌, arith, length, List, [], ◌++◌, map}
use Rattle.wrp_io.specs.declared.link.LinkCall.{LinkCall}
use Rattle.wrp_course.specs.Run.{Happened}
use Rattle.wrp_course.specs.Runs.{IsNetwork}
use Rattle.wrp_course.specs.Setting.{Setting}
use Rattle.wrp_sim.specs.Keeps.{SimRunsAreRuns}
use Rattle.wrp_loop.specs.Laws.{Ending, Large, Over}
use Rattle.wrp_scene.specs.EventLimit.{event_limit}
use Rattle.wrp_loop.specs.Loops.{LoopEnded, closing_lines, loop_of, plan_of}
use Rattle.wrp_loop.specs.LoopRun.{Loops, Plan, events_at, place}
use Rattle.wrp_loop.specs.LoopText.{loop_text}
use Rattle.wrp_loop.proofs.Counting.{events_are_numbered}
use Rattle.wrp_records.specs.declared.status.Status.{Status}
use Rattle.wrp_records.specs.declared.status.Status.TheVariants.{Done, TooLarge}
use Rattle.wrp_records.specs.Lines.{content_of, lines_of}
use Rattle.wrp_records.specs.RecordsAnswer.{BreaksOff, IsLarge, IsWholly, RecordsAnswer}
use Rattle.wrp_records.specs.Stream.{Handles, large_line}
use Rattle.wrp_scene_records.specs.Scenarios.{SimAccepts, scenario_of}
use Rattle.wrp_simulate.specs.Simulates.{Simulates, simulation_of}
use Rattle.wrp_simulate.specs.SimText.{sim_lines, sum_lines}
use Rattle.wrp_simulate.proofs.ScenesFit.{scenario_fits}
use Rattle.wrp_audit.specs.AuditText.{event_lines}
use Rattle.wrp_commands.specs.Request.{CommandLine}
use Rattle.wrp_commands.specs.Request as requests
use Rattle.wrp_asked.specs.Answer.{LoopDue, RecordsDue}
use Rattle.wrp_asked.specs.Headline.{CarriesRun}
use Rattle.wrp_asked.specs.Input.{behind_separator, network_text}
use Rattle.wrp_asked.specs.LoopHeadline.{Looped, LoopedEventsCarryParts}
use Rattle.wrp_asked.specs.Tasks.{AsksFor, IsLooping, IsOnNetwork, IsSimulation, Loop, Simulate, Task, meaning_at, task_row}
use Rattle.wrp_asked.proofs.WordLemmas.{alone_unnetworked, one_command}
use Rattle.wrp_lossless_laws.specs.Kinds.{kinds_in}
use Rattle.wrp_lossless_laws.specs.Printed.{IsEnd, LosslessLoopPrintsTheSimulation, SaysNoLoss}
use Rattle.wrp_lossless_laws.specs.Simulated.{HandsEachOver, IsSimulatedToo}
use Rattle.wrp_lossless_laws.specs.LosesNothing.{LosesNothing}
use Rattle.wrp_lossless_laws.proofs.KindLines.{loop_prints_large, loop_prints, sim_prints_large, sim_prints}
use Rattle.wrp_lossless_laws.proofs.Simulating.{simulated_too}

-- What is expected of a loop

-- its output follows from its link's calls, or from records that are not all of a scenario
record Expected (asked : CommandLine) (input : List ℕ) (calls : List LinkCall) (status : Status) (octets : List ℕ) : Type 0 where
  setting : Setting
  seed : ℕ
  asks : AsksFor asked (network_text input) (Loop setting seed)
  due :
      LoopDue setting seed (behind_separator (lines_of input)) calls status octets
      ⊎ RecordsAnswer (scenario_of setting) (behind_separator (lines_of input)) status octets

task_expected : (asked : CommandLine) (seed : ℕ) (input : List ℕ) (calls : List LinkCall) (status : Status) (octets : List ℕ) (task : Task) →
    IsLooping asked seed → AsksFor asked (network_text input) task →
    RecordsAnswer (meaning_at task) (behind_separator (lines_of input)) status octets → Expected asked input calls status octets
task_expected asked seed input calls status octets (Loop s own) looping asks h = record { setting = s; seed = own; asks = asks; due = inr h }
task_expected asked seed input calls status octets task looping asks h =
    let bad : requests.Loop seed ≡ (task_row task).command = one_command asked (requests.Loop seed) (task_row task).command looping asks.1 in
    absurd (cc)

expected : (asked : CommandLine) (seed : ℕ) (input : List ℕ) (calls : List LinkCall) (status : Status) (octets : List ℕ) → IsLooping asked seed →
    RecordsDue asked input calls status octets → Expected asked input calls status octets
expected asked seed input calls status octets looping (inl task) = task_expected asked seed input calls status octets task.0 looping task.1 task.2
expected asked seed input calls status octets looping (inr (inl alone)) = absurd (alone_unnetworked asked alone.0 alone.1 (requests.Loop seed, looping))
expected asked seed input calls status octets looping (inr (inr loop)) = record { setting = loop.0; seed = loop.1; asks = loop.2; due = inl loop.3 }

-- The run

-- the run of the loop, as the aims of loops name it
came_of : (asked : CommandLine) (input : List ℕ) (calls : List LinkCall) (s : Setting) (seed : ℕ) (ending : Ending) →
    AsksFor asked (network_text input) (Loop s seed) →
    (loop : LoopEnded s seed (map content_of (behind_separator (lines_of input))) calls ending) → Loops (plan_of s loop.scene seed) calls loop.last →
    Looped asked input calls s loop.last
came_of asked input calls s seed ending asks loop loops = record {
  seed = seed;
  asks = asks;
  scene = loop.scene;
  said = loop.said;
  first = calls;
  later = [];
  all = sym (append-nil calls);
  loops = loops;
  frames = loop.frames;
  answered = loop.answered;
}

too_of : SimRunsAreRuns →
    (s : Setting) (seed : ℕ) (lines : List (List ℕ)) (calls : List LinkCall) (ending : Ending) (loop : LoopEnded s seed lines calls ending) → IsNetwork s →
    HandsEachOver loop.scene → LosesNothing calls →
    Loops (plan_of s loop.scene seed) calls loop.last → IsSimulatedToo (plan_of s loop.scene seed) loop.last
too_of runs s seed lines calls ending loop net hands loses loops =
    simulated_too runs (plan_of s loop.scene seed) calls loop.last net (scenario_fits s lines loop.scene loop.said) hands loses loops

-- a simulation has its events
run_of : (s : Setting) (seed : ℕ) (lines : List (List ℕ)) (calls : List LinkCall) (ending : Ending) (loop : LoopEnded s seed lines calls ending) →
    Loops (plan_of s loop.scene seed) calls loop.last →
    IsSimulatedToo (plan_of s loop.scene seed) loop.last → Simulates s seed lines
run_of s seed lines calls ending loop loops it = record {
  scene = loop.scene;
  said = loop.said;
  events = events_at (place loop.last);
  at = it.at;
  simulated = record {
    run = it.run;
    said = loops.said;
    answered = loop.answered;
    count = (events_are_numbered (plan_of s loop.scene seed) calls loop.last loops).0;
  };
}

-- What is expected of the simulation

-- an output is expected, and it has the loop's lines of the four kinds
record Printed (s : Setting) (seed : ℕ) (lines : List (List ℕ)) (status : Status) (octets : List ℕ) : Type 0 where
  text : List ℕ
  due : RecordsAnswer (simulation_of s seed) lines status text
  kinds : kinds_in octets ≡ kinds_in text

-- a loop to the end of its scenario
done_printed : SimRunsAreRuns →
    (s : Setting) (seed : ℕ) (lines : List (List ℕ)) (calls : List LinkCall) (octets : List ℕ) (whole : IsWholly (loop_of s seed calls) lines octets) →
    HandsEachOver whole.closed.0.scene → LosesNothing calls →
    CarriesRun event_lines s (events_at (place whole.closed.0.last)) → Printed s seed lines Done octets
unfolding run_of
done_printed runs s seed lines calls octets whole hands loses carried =
    let loop : LoopEnded s seed (map content_of lines) calls Over = whole.closed.0 in
    let events : List Happened = events_at (place loop.last) in
    let net : IsNetwork s = carried.run.network in
    let it : IsSimulatedToo (plan_of s loop.scene seed) loop.last = too_of runs s seed (map content_of lines) calls Over loop net hands loses loop.ends.0 in
    let text : List ℕ = sim_lines s events ++ sum_lines s events in
    let wrote : octets ≡ loop_text s events ++ closing_lines s (place loop.last) =
    whole.is ∙ ap (λ (l : List ℕ). l ++ whole.last) whole.handled.accepted.2 ∙ whole.closed.1 in
    record {
      text = text;
      due = record {
        written = [];
        last = text;
        handled = subst (Handles (SimAccepts s) lines) whole.handled.accepted.2 whole.handled;
        closed = (run_of s seed (map content_of lines) calls Over loop loop.ends.0 it, it.over loop.ends.1, refl);
        is = refl;
      };
      kinds = ap kinds_in wrote ∙ loop_prints s net events (place loop.last).forged carried.run.each carried.fit ∙ sym (sim_prints s net events);
    }

-- a loop whose next event has too great a number
next_number : (n : ℕ) → n ≡ 4_294_967_294 → n + 1 ≡ event_limit
next_number n is = omega (arith, is)

large_printed : SimRunsAreRuns → (s : Setting) (seed : ℕ) (lines : List (List ℕ)) (calls : List LinkCall) (octets : List ℕ)
    (off : BreaksOff (loop_of s seed calls) TooLarge lines octets) → HandsEachOver off.broken.0.scene → LosesNothing calls →
    CarriesRun event_lines s (events_at (place off.broken.0.last)) → Printed s seed lines TooLarge octets
unfolding run_of
large_printed runs s seed lines calls octets off hands loses carried =
    let loop : LoopEnded s seed (map content_of lines) calls Large = off.broken.0 in
    let x : Plan = plan_of s loop.scene seed in
    let events : List Happened = events_at (place loop.last) in
    let net : IsNetwork s = carried.run.network in
    let it : IsSimulatedToo x loop.last = too_of runs s seed (map content_of lines) calls Large loop net hands loses loop.ends.0 in
    let next = it.large loop.ends.1 in
    let number : length events + 1 ≡ event_limit = next_number (length events) ((events_are_numbered x calls loop.last loop.ends.0).1 loop.ends.1) in
    let text : List ℕ = sim_lines s events ++ large_line (length events + 1) in
    let wrote : octets ≡ loop_text s events ++ large_line event_limit =
    off.is ∙ ap (λ (l : List ℕ). l ++ off.last) off.handled.accepted.2 ∙ off.broken.1 in
    record {
      text = text;
      due = inr (record {
        written = [];
        last = text;
        handled = subst (Handles (SimAccepts s) lines) off.handled.accepted.2 off.handled;
        broken = (run_of s seed (map content_of lines) calls Large loop loop.ends.0 it, record { next = next.0; comes = next.1; number = number }, refl);
        is = refl;
      });
      kinds = ap kinds_in wrote ∙ loop_prints_large s net events event_limit carried.run.each carried.fit
          ∙ sym (sim_prints_large s net events (length events + 1));
    }

-- a record is too large, so neither runs
scene_printed : (s : Setting) (seed : ℕ) (lines : List (List ℕ)) (octets : List ℕ) → IsLarge (scenario_of s) lines octets → Printed s seed lines TooLarge octets
scene_printed s seed lines octets h = record {
  text = octets;
  due = inl (record {
    before = h.before;
    line = h.line;
    behind = h.behind;
    written = h.written;
    divided = h.divided;
    handled = h.handled;
    large = h.large;
    is = h.is;
  });
  kinds = refl;
}

-- each of these ends
printed : SimRunsAreRuns → LoopedEventsCarryParts → (asked : CommandLine) (input : List ℕ) (calls : List LinkCall) (status : Status) (octets : List ℕ) →
    IsEnd status → SaysNoLoss input → LosesNothing calls →
    (h : Expected asked input calls status octets) → Printed h.setting h.seed (behind_separator (lines_of input)) status octets
printed runs parts asked input calls Done octets end none loses h =
    elim h.due [
      | inl whole ↦ done_printed runs h.setting h.seed (behind_separator (lines_of input)) calls octets whole
          (none h.setting whole.closed.0.scene h.asks.2 whole.closed.0.said) loses
          (parts asked input calls h.setting whole.closed.0.last (came_of asked input calls h.setting h.seed Over h.asks whole.closed.0 whole.closed.0.ends.0))
      | inr scene ↦ absurd scene.closed
    ]
printed runs parts asked input calls TooLarge octets end none loses h =
    elim h.due [
      | inl off ↦ large_printed runs h.setting h.seed (behind_separator (lines_of input)) calls octets off
          (none h.setting off.broken.0.scene h.asks.2 off.broken.0.said) loses
          (parts asked input calls h.setting off.broken.0.last (came_of asked input calls h.setting h.seed Large h.asks off.broken.0 off.broken.0.ends.0))
      | inr (inl large) ↦ scene_printed h.setting h.seed (behind_separator (lines_of input)) octets large
      | inr (inr off) ↦ absurd off.broken
    ]
printed runs parts asked input calls _ octets end none loses h = absurd end

-- The law

-- both are asked for with one seed
same_seed : (looping simulating : CommandLine) (seed own : ℕ) → IsLooping looping seed → IsSimulation simulating seed →
    IsOnNetwork looping (requests.Loop own) → IsOnNetwork simulating (requests.Simulate own)
same_seed looping simulating seed own loops simulates on =
    let same : requests.Loop seed ≡ requests.Loop own = one_command looping (requests.Loop seed) (requests.Loop own) loops on in
    let seeds : seed ≡ own = cc in
    subst (λ (k : ℕ). IsOnNetwork simulating (requests.Simulate k)) seeds simulates

of_records : SimRunsAreRuns → LoopedEventsCarryParts →
    (looping simulating : CommandLine) (seed : ℕ) (input octets : List ℕ) (calls : List LinkCall) (status : Status) → IsEnd status → IsLooping looping seed →
    IsSimulation simulating seed →
    SaysNoLoss input → LosesNothing calls → RecordsDue looping input calls status octets →
    (text : List ℕ) × RecordsDue simulating input [] status text × (kinds_in octets ≡ kinds_in text)
of_records runs parts looping simulating seed input octets calls status end loops simulates none loses due =
    let h : Expected looping input calls status octets = expected looping seed input calls status octets loops due in
    let it : Printed h.setting h.seed (behind_separator (lines_of input)) status octets =
    printed runs parts looping input calls status octets end none loses h in (
      it.text,
      inl (Simulate h.setting h.seed, (h.asks.0, same_seed looping simulating seed h.seed loops simulates h.asks.1, h.asks.2), it.due, refl),
      it.kinds,
    )

pub prints_the_simulation : SimRunsAreRuns → LoopedEventsCarryParts → LosslessLoopPrintsTheSimulation
prints_the_simulation runs parts looping simulating seed input octets calls Done end loops simulates none loses answer =
    of_records runs parts looping simulating seed input octets calls Done end loops simulates none loses answer
prints_the_simulation runs parts looping simulating seed input octets calls TooLarge end loops simulates none loses (inl text) =
    (octets, inl ((requests.Simulate seed, simulates), text.1, text.2, refl), refl)
prints_the_simulation runs parts looping simulating seed input octets calls TooLarge end loops simulates none loses (inr answer) =
    let it = of_records runs parts looping simulating seed input octets calls TooLarge end loops simulates none loses answer in
    (it.0, inr it.1, it.2)
prints_the_simulation runs parts looping simulating seed input octets calls _ end loops simulates none loses answer = absurd end
