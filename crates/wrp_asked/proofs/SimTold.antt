-- What a simulation wrote is the lines of the events that its rules make, and what follows them, by its status.
use Rattle.std.proofs.Common.{◌≡◌, ◌⊎◌, inl, inr, ◌∙◌, refl, ap, sym, subst, ℕ, ◌+◌, Option, None, Some, IfSome, List, [], ◌++◌, append-nil, length, map}
use Rattle.std.specs.Io.KnownBytes.{Appends}
use Rattle.wrp_course.specs.Setting.{Setting}
use Rattle.wrp_commands.specs.Request.{CommandLine}
use Rattle.wrp_commands.specs.Request as requests
use Rattle.wrp_records.specs.declared.machine.Refusal.TheVariants as refusals
use Rattle.wrp_records.specs.declared.status.Status.{Status}
use Rattle.wrp_records.specs.declared.status.Status.TheVariants.{Done, BadTrace, Broken, ReadFault, TooLarge, OutOfMemory, BadCalib}
use Rattle.wrp_io.specs.declared.link.LinkCall.{LinkCall}
use Rattle.wrp_asked.specs.Answer.{CutTask}
use Rattle.wrp_asked.specs.Ends.{Ends, Run}
use Rattle.wrp_asked.specs.Headline.{ReachesNone}
use Rattle.wrp_asked.specs.Input.{behind_separator, network_text}
use Rattle.wrp_records.specs.Lines.{content_of, lines_of}
use Rattle.wrp_records.specs.RecordsAnswer.{BreaksOff, IsLarge, IsRefused, IsWholly, RecordsAnswer, StandsFirst}
use Rattle.wrp_asked.specs.SimHeadline.{LacksScenario, Made, MadeEventsCarryParts, RunOf, SimHeadline}
use Rattle.wrp_simulate.specs.SimText.{sim_lines, sum_lines}
use Rattle.wrp_scene_records.specs.Scenarios.{SimRefuses}
use Rattle.wrp_simulate.specs.Simulates.{Simulates, simulation_of}
use Rattle.wrp_records.specs.Stream.{CutHandled, large_line}
use Rattle.wrp_asked.specs.Tasks.{Task, Simulate, AsksFor, IsSimulation, meaning_at, task_row}
use Rattle.wrp_asked.proofs.DueTold.{IsDueSo, PrintsDue, not_linked, prints}
use Rattle.wrp_asked.proofs.WordLemmas.{lacks_none, one_command}

-- The task of a simulation

abbrev pub IsRunDue : CommandLine → List ℕ → List LinkCall → Status → List ℕ → Type 0
IsRunDue asked input calls status due = ReachesNone input status due ⊎ (LacksScenario asked input status due ⊎ RunOf asked input status due)

-- if a simulation is asked for, what holds of every task holds if it does of a simulation
only_simulation : (asked : CommandLine) (text : List ℕ) (seed : ℕ) (P : Task → Type 0) (Q : Type 0) → IsSimulation asked seed
    → ((s : Setting) (own : ℕ) → AsksFor asked text (Simulate s own) → P (Simulate s own) → Q) →
    (task : Task) → AsksFor asked text task → P task → Q
only_simulation asked text seed P Q simulates f (Simulate s own) asks h = f s own asks h
only_simulation asked text seed P Q simulates f task asks h = let bad : requests.Simulate seed ≡ (task_row task).command = one_command asked (requests.Simulate seed) (task_row task).command simulates asks.1 in absurd (cc)

unlooped : (seed own : ℕ) → requests.Simulate seed ≡ requests.Loop own → ⊥
unlooped seed own e = cc

-- Records

-- after lines of a scenario nothing is written but what comes at the end
only_last : (written last octets : List ℕ) → written ≡ [] → octets ≡ written ++ last → octets ≡ last
only_last written last octets none is = is ∙ ap (λ (l : List ℕ). l ++ last) none

abbrev made_of : (asked : CommandLine) (input : List ℕ) (s : Setting) (seed : ℕ) → AsksFor asked (network_text input) (Simulate s seed) →
    (run : Simulates s seed (map content_of (behind_separator (lines_of input)))) → Made asked input s run.events
made_of asked input s seed asks run = record { seed = seed; asks = asks; scene = run.scene; said = run.said; at = run.at; simulated = run.simulated }

wholly : (asked : CommandLine) (input octets : List ℕ) (s : Setting) (seed : ℕ) → AsksFor asked (network_text input) (Simulate s seed)
    → IsWholly (simulation_of s seed) (behind_separator (lines_of input)) octets → RunOf asked input Done octets
wholly asked input octets s seed asks h = record {
  setting = s;
  events = h.closed.0.events;
  made = made_of asked input s seed asks h.closed.0;
  last = sum_lines s h.closed.0.events;
  ends = (h.closed.1, refl);
  is = only_last h.written h.last octets h.handled.accepted.2 h.is ∙ h.closed.2;
}

refused : (asked : CommandLine) (input octets : List ℕ) (s : Setting) (seed : ℕ) → AsksFor asked (network_text input) (Simulate s seed) →
    IsRefused (simulation_of s seed) refusals.BadTrace (behind_separator (lines_of input)) octets → LacksScenario asked input BadTrace octets
refused asked input octets s seed asks h = record {
  setting = s;
  seed = seed;
  asks = asks;
  front = h.before;
  line = h.line;
  behind = h.behind;
  divided = h.divided;
  scene = h.handled.accepted.0;
  said = h.handled.accepted.1;
  is =
      subst (SimRefuses s (map content_of h.before) (content_of h.line) refusals.BadTrace)
      (sym (only_last h.written h.last octets h.handled.accepted.2 h.is)) h.refused;
}

large : (asked : CommandLine) (input octets : List ℕ) (s : Setting) (seed : ℕ) → AsksFor asked (network_text input) (Simulate s seed)
    → IsLarge (simulation_of s seed) (behind_separator (lines_of input)) octets →
    LacksScenario asked input TooLarge octets
large asked input octets s seed asks h = record {
  setting = s;
  seed = seed;
  asks = asks;
  front = h.before;
  line = h.line;
  behind = h.behind;
  divided = h.divided;
  scene = h.handled.accepted.0;
  said = h.handled.accepted.1;
  is = (h.large, only_last h.written (large_line (length h.before + 1)) octets h.handled.accepted.2 h.is);
}

overruns : (asked : CommandLine) (input octets : List ℕ) (s : Setting) (seed : ℕ) → AsksFor asked (network_text input) (Simulate s seed) →
    BreaksOff (simulation_of s seed) TooLarge (behind_separator (lines_of input)) octets → RunOf asked input TooLarge octets
overruns asked input octets s seed asks h = record {
  setting = s;
  events = h.broken.0.events;
  made = made_of asked input s seed asks h.broken.0;
  last = large_line (length h.broken.0.events + 1);
  ends = (h.broken.1.next, h.broken.1.comes, h.broken.1.number, refl);
  is = only_last h.written h.last octets h.handled.accepted.2 h.is ∙ h.broken.2;
}

first_events : (asked : CommandLine) (input octets : List ℕ) (s : Setting) (seed : ℕ) → AsksFor asked (network_text input) (Simulate s seed) →
    BreaksOff (simulation_of s seed) OutOfMemory (behind_separator (lines_of input)) octets → RunOf asked input OutOfMemory octets
first_events asked input octets s seed asks h = record {
  setting = s;
  events = h.broken.0.events;
  made = made_of asked input s seed asks h.broken.0;
  last = [];
  ends = refl;
  is = only_last h.written h.last octets h.handled.accepted.2 h.is ∙ h.broken.1 ∙ sym (append-nil (sim_lines s h.broken.0.events));
}

stand_first : (asked : CommandLine) (input octets : List ℕ) (s : Setting) (seed : ℕ) → AsksFor asked (network_text input) (Simulate s seed)
    → StandsFirst (simulation_of s seed) (behind_separator (lines_of input)) octets →
    IsRunDue asked input [] OutOfMemory octets
stand_first asked input octets s seed asks (inl first) = inl first.handled.accepted.2
stand_first asked input octets s seed asks (inr off) = inr (inr (first_events asked input octets s seed asks off))

records_due : (asked : CommandLine) (input : List ℕ) (status : Status) (octets : List ℕ) (s : Setting) (seed : ℕ)
    → AsksFor asked (network_text input) (Simulate s seed) →
    RecordsAnswer (simulation_of s seed) (behind_separator (lines_of input)) status octets → IsRunDue asked input [] status octets
records_due asked input Done octets s seed asks h = inr (inr (wholly asked input octets s seed asks h))
records_due asked input BadTrace octets s seed asks h = inr (inl (refused asked input octets s seed asks h))
records_due asked input Broken octets s seed asks h = absurd h.refused
records_due asked input TooLarge octets s seed asks (inl one) = inr (inl (large asked input octets s seed asks one))
records_due asked input TooLarge octets s seed asks (inr off) = inr (inr (overruns asked input octets s seed asks off))
records_due asked input BadCalib octets s seed asks h = absurd h.broken
records_due asked input _ octets s seed asks h = absurd h

task_due : (asked : CommandLine) (seed : ℕ) (input : List ℕ) (status : Status) (octets : List ℕ) (task : Task) → IsSimulation asked seed
    → AsksFor asked (network_text input) task →
    RecordsAnswer (meaning_at task) (behind_separator (lines_of input)) status octets → IsRunDue asked input [] status octets
task_due asked seed input status octets task simulates asks due =
    only_simulation asked (network_text input) seed (λ t. RecordsAnswer (meaning_at t) (behind_separator (lines_of input)) status octets)
    (IsRunDue asked input [] status octets) simulates
    (λ s own a due. records_due asked input status octets s own a due) task asks due

first_due : (asked : CommandLine) (seed : ℕ) (input octets : List ℕ) (task : Task) → IsSimulation asked seed → AsksFor asked (network_text input) task
    → StandsFirst (meaning_at task) (behind_separator (lines_of input)) octets →
    IsRunDue asked input [] OutOfMemory octets
first_due asked seed input octets task simulates asks first =
    only_simulation asked (network_text input) seed (λ t. StandsFirst (meaning_at t) (behind_separator (lines_of input)) octets)
    (IsRunDue asked input [] OutOfMemory octets) simulates
    (λ s own a due. stand_first asked input octets s own a due) task asks first

-- if the source failed, no event was made
cut_due : (asked : CommandLine) (seed : ℕ) (input taken octets : List ℕ) → IsSimulation asked seed → CutTask asked taken octets
    → IsRunDue asked input [] ReadFault octets
cut_due asked seed input taken octets simulates h =
    only_simulation asked h.text seed (λ task. CutHandled (meaning_at task).accepts h.back octets) (IsRunDue asked input [] ReadFault octets) simulates
    (λ s own asks cut. inl cut.handled.accepted.2) h.task h.asks h.handled

-- A run

run_so : (asked : CommandLine) (seed : ℕ) → IsSimulation asked seed → IsDueSo asked (IsRunDue asked)
run_so asked seed simulates = record {
  command = requests.Simulate seed;
  on = simulates;
  no_node = λ input none. absurd (lacks_none asked (network_text input) (requests.Simulate seed) simulates refl none);
  none = λ input status octets none. inl none;
  task = λ input status octets task asks due. task_due asked seed input status octets task simulates asks due;
  first = λ input octets task asks first. first_due asked seed input octets task simulates asks first;
  cut = λ input taken left octets all cut. cut_due asked seed input taken octets simulates cut;
  linked = λ input calls status octets loop. absurd (not_linked asked (requests.Simulate seed) simulates (unlooped seed) loop.1 loop.2.1);
  short = λ input calls octets loop. absurd (not_linked asked (requests.Simulate seed) simulates (unlooped seed) loop.1 loop.2.1);
  failed = λ input calls octets loop. absurd (not_linked asked (requests.Simulate seed) simulates (unlooped seed) loop.1 loop.2.1);
}

-- a simulation ended with this status, and wrote what the aim says
abbrev pub IsMadeSo : CommandLine → (held now : Option (List ℕ)) → Status → List ℕ → Type 0
IsMadeSo asked held now status input = (octets : List ℕ) × Appends held now octets × SimHeadline asked input status octets

headline_of : MadeEventsCarryParts → (run : Run) (input : List ℕ) (status : Status) → PrintsDue (IsRunDue run.asked) run status input
    → IsMadeSo run.asked run.sink.before run.sink.now status input
headline_of parts run input status h = (h.0, h.2, record { prints = h.4; carries = λ s events made. parts run.asked input s events made })

run_told : MadeEventsCarryParts → (run : Run) (status : Status) (seed : ℕ) (o : Option (List ℕ)) → Ends run status → IsSimulation run.asked seed
    → run.source.before ≡ o → IfSome o (IsMadeSo run.asked run.sink.before run.sink.now status)
run_told parts run status seed None ends simulates is = tt
run_told parts run status seed (Some input) ends simulates is =
    headline_of parts run input status (prints run input status (IsRunDue run.asked) (run_so run.asked seed simulates) is ends)

pub simulation_told : MadeEventsCarryParts → (run : Run) (status : Status) (seed : ℕ) → Ends run status → IsSimulation run.asked seed
    → IfSome run.source.before (IsMadeSo run.asked run.sink.before run.sink.now status)
simulation_told parts run status seed ends simulates = run_told parts run status seed run.source.before ends simulates refl
