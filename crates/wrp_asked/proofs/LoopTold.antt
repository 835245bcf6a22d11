-- What a run over a link wrote is the lines of its events, and what follows them, by its status.
use Rattle.std.proofs.Common.{◌≡◌, inl, inr, ◌∙◌, refl, ap, ap₂, sym, subst, ℕ, Option, None, Some, IfSome, List, [], ◌++◌, append-nil, map}
use Rattle.std.proofs.lemmas.List.Folds.{concat-append}
use Rattle.std.specs.List.{concat}
use Rattle.std.specs.Io.KnownBytes.{Appends}
use Rattle.wrp_course.specs.Run.{world_after}
use Rattle.wrp_base.proofs.Lists.{all_append}
use Rattle.wrp_course.specs.Setting.{Setting}
use Rattle.wrp_io.specs.declared.link.LinkCall.{LinkCall}
use Rattle.wrp_loop.specs.Calls.{Grew}
use Rattle.wrp_loop.specs.Laws.{Large, LoopIsAudited, Over}
use Rattle.wrp_loop.specs.LoopRun.{Full, Going, Loops, On, Plan, events_at, place}
use Rattle.wrp_scene.specs.EventLimit.{event_limit}
use Rattle.wrp_loop.specs.LoopText as texts
use Rattle.wrp_loop.specs.LoopText.{forged_lines, loop_text, marked_in, others_in}
use Rattle.wrp_records.specs.declared.machine.Refusal.TheVariants as refusals
use Rattle.wrp_records.specs.declared.status.Status.{Status}
use Rattle.wrp_records.specs.declared.status.Status.TheVariants.{Done, BadTrace, Broken, ReadFault, LinkFault, TooLarge, OutOfMemory, BadCalib}
use Rattle.wrp_records.specs.Lines.{IsWhole, content_of, lines_of}
use Rattle.wrp_records.proofs.Reaching.{lines_alone}
use Rattle.wrp_records.specs.RecordsAnswer.{BreaksOff, IsLarge, IsRefused, IsWholly, RecordsAnswer, StandsFirst}
use Rattle.wrp_records.specs.Stream.{CutHandled, large_line}
use Rattle.wrp_audit.specs.AuditText.{audit_lines, event_lines}
use Rattle.wrp_network_world.specs.Counts.{all_counts}
use Rattle.wrp_commands.specs.Request.{CommandLine}
use Rattle.wrp_commands.specs.Request as requests
use Rattle.wrp_asked.specs.Answer.{Answer, CutTask, LoopAnswer}
use Rattle.wrp_asked.specs.Ends.{Ends, Run}
use Rattle.wrp_asked.specs.Input.{behind_separator, network_text}
use Rattle.wrp_asked.specs.Headline.{CarriesRun}
use Rattle.wrp_asked.specs.LoopHeadline.{IsLoopDue, IsToldApart, LacksScene, LoopHeadline, LoopOf, LoopedEventsCarryParts, PrintsTheLoop, TellsApart, came_lines}
use Rattle.wrp_loop.specs.Loops.{LoopEnded, LoopFailed, LoopShort, IsShort, closing_lines, loop_of, plan_of}
use Rattle.wrp_scene_records.specs.Scenarios.{SimRefuses, scenario_of}
use Rattle.wrp_asked.specs.Tasks.{Task, Loop, AsksFor, IsLooping, meaning_at, task_row}
use Rattle.wrp_asked.proofs.DueTold.{IsDueSo, answer_due, prints}
use Rattle.wrp_asked.proofs.LoopedParts.{frames_first}
use Rattle.wrp_asked.proofs.ToldApart.{all_text, came_text, count_lines, counts_plain, counts_text, steps_text}
use Rattle.wrp_asked.proofs.ToldWhole.{all_whole, audit_whole, counts_whole}
use Rattle.wrp_asked.proofs.WordLemmas.{lacks_none, one_command}

-- if a loop is asked for, what holds of every task holds if it does of a loop
only_loop : (asked : CommandLine) (text : List ℕ) (seed : ℕ) (P : Task → Type 0) (Q : Type 0) → IsLooping asked seed
    → ((s : Setting) (own : ℕ) → AsksFor asked text (Loop s own) → P (Loop s own) → Q) → (task : Task) →
    AsksFor asked text task → P task → Q
only_loop asked text seed P Q looping f (Loop s own) asks h = f s own asks h
only_loop asked text seed P Q looping f task asks h = let bad : requests.Loop seed ≡ (task_row task).command = one_command asked (requests.Loop seed) (task_row task).command looping asks.1 in absurd (cc)

-- Records

-- after lines of a scenario nothing is written but what comes at the end
only_last : (written last octets : List ℕ) → written ≡ [] → octets ≡ written ++ last → octets ≡ last
only_last written last octets none is = is ∙ ap (λ (l : List ℕ). l ++ last) none

refused : (asked : CommandLine) (input octets : List ℕ) (calls : List LinkCall) (s : Setting) (seed : ℕ) → AsksFor asked (network_text input) (Loop s seed)
    → calls ≡ [] →
    IsRefused (scenario_of s) refusals.BadTrace (behind_separator (lines_of input)) octets → LacksScene asked input calls BadTrace octets
refused asked input octets calls s seed asks none h = record {
  setting = s;
  seed = seed;
  asks = asks;
  front = h.before;
  line = h.line;
  behind = h.behind;
  divided = h.divided;
  scene = h.handled.accepted.0;
  said = h.handled.accepted.1;
  is =
      subst (SimRefuses s (map content_of h.before) (content_of h.line) refusals.BadTrace)
      (sym (only_last h.written h.last octets h.handled.accepted.2 h.is)) h.refused;
  uncalled = none;
}

large : (asked : CommandLine) (input octets : List ℕ) (calls : List LinkCall) (s : Setting) (seed : ℕ) → AsksFor asked (network_text input) (Loop s seed)
    → calls ≡ [] → IsLarge (scenario_of s) (behind_separator (lines_of input)) octets →
    LacksScene asked input calls TooLarge octets
large asked input octets calls s seed asks none h = record {
  setting = s;
  seed = seed;
  asks = asks;
  front = h.before;
  line = h.line;
  behind = h.behind;
  divided = h.divided;
  scene = h.handled.accepted.0;
  said = h.handled.accepted.1;
  is = (h.large, only_last h.written _ octets h.handled.accepted.2 h.is);
  uncalled = none;
}

scene_due : (asked : CommandLine) (input : List ℕ) (calls : List LinkCall) (status : Status) (octets : List ℕ) (s : Setting) (seed : ℕ)
    → AsksFor asked (network_text input) (Loop s seed) → calls ≡ [] →
    RecordsAnswer (scenario_of s) (behind_separator (lines_of input)) status octets → IsLoopDue asked input calls status octets
scene_due asked input calls BadTrace octets s seed asks none h = inr (inl (refused asked input octets calls s seed asks none h))
scene_due asked input calls TooLarge octets s seed asks none (inl one) = inr (inl (large asked input octets calls s seed asks none one))
scene_due asked input calls TooLarge octets s seed asks none (inr off) = absurd off.broken
scene_due asked input calls Done octets s seed asks none h = absurd h.closed
scene_due asked input calls Broken octets s seed asks none h = absurd h.refused
scene_due asked input calls BadCalib octets s seed asks none h = absurd h.broken
scene_due asked input calls _ octets s seed asks none h = absurd h

-- A loop

-- what was written of its events, and what follows
behind_events : (s : Setting) (last : Going) (written end_text octets text : List ℕ) → written ≡ [] → octets ≡ written ++ end_text
    → end_text ≡ loop_text s (events_at (place last)) ++ text
    → octets ≡ came_lines s (events_at (place last)) ++ text
behind_events s last written end_text octets text none is ends =
    only_last written end_text octets none is ∙ ends ∙ ap (λ (l : List ℕ). l ++ text) (came_text s (events_at (place last)))

over : (asked : CommandLine) (input octets : List ℕ) (calls : List LinkCall) (s : Setting) (seed : ℕ) → AsksFor asked (network_text input) (Loop s seed)
    → IsWholly (loop_of s seed calls) (behind_separator (lines_of input)) octets →
    LoopOf asked input calls Done octets
over asked input octets calls s seed asks h =
    let loop : LoopEnded s seed (map content_of (behind_separator (lines_of input))) calls Over = h.closed.0 in
    record {
      setting = s;
      last = loop.last;
      came = record {
        seed = seed;
        asks = asks;
        scene = loop.scene;
        said = loop.said;
        first = calls;
        later = [];
        all = sym (append-nil calls);
        loops = loop.ends.0;
        frames = loop.frames;
        answered = loop.answered;
      };
      behind = closing_lines s (place loop.last);
      ends = (loop.ends.1, refl, refl);
      is = behind_events s loop.last h.written h.last octets (closing_lines s (place loop.last)) h.handled.accepted.2 h.is h.closed.1;
    }

overrun : (asked : CommandLine) (input octets : List ℕ) (calls : List LinkCall) (s : Setting) (seed : ℕ) → AsksFor asked (network_text input) (Loop s seed)
    → BreaksOff (loop_of s seed calls) TooLarge (behind_separator (lines_of input)) octets →
    LoopOf asked input calls TooLarge octets
overrun asked input octets calls s seed asks h =
    let loop : LoopEnded s seed (map content_of (behind_separator (lines_of input))) calls Large = h.broken.0 in
    record {
      setting = s;
      last = loop.last;
      came = record {
        seed = seed;
        asks = asks;
        scene = loop.scene;
        said = loop.said;
        first = calls;
        later = [];
        all = sym (append-nil calls);
        loops = loop.ends.0;
        frames = loop.frames;
        answered = loop.answered;
      };
      behind = large_line event_limit;
      ends = (loop.ends.1, refl, refl);
      is = behind_events s loop.last h.written h.last octets (large_line event_limit) h.handled.accepted.2 h.is h.broken.1;
    }

-- the calls of the loop, and the calls after them
first_calls : (x : Plan) (calls : List LinkCall) (last : Going) → IsShort x calls last
    → (first : List LinkCall) × (later : List LinkCall) × (calls ≡ first ++ later) × Loops x first last
first_calls x calls (On l) h = (h.before, h.made, h.all, h.loops)
first_calls x calls (Full l) h = (calls, [], sym (append-nil calls), h)

short : (asked : CommandLine) (input octets : List ℕ) (calls : List LinkCall) (s : Setting) (seed : ℕ) → AsksFor asked (network_text input) (Loop s seed)
    → BreaksOff (loop_of s seed calls) OutOfMemory (behind_separator (lines_of input)) octets →
    LoopOf asked input calls OutOfMemory octets
short asked input octets calls s seed asks h =
    let loop : LoopShort s seed (map content_of (behind_separator (lines_of input))) calls = h.broken.0 in
    let part = first_calls (plan_of s loop.scene seed) calls loop.last loop.short in
    record {
      setting = s;
      last = loop.last;
      came = record {
        seed = seed;
        asks = asks;
        scene = loop.scene;
        said = loop.said;
        first = part.0;
        later = part.1;
        all = part.2;
        loops = part.3;
        frames = frames_first calls part.0 part.1 part.2 loop.frames;
        answered = loop.answered;
      };
      behind = [];
      ends = (loop.short, refl);
      is =
          behind_events s loop.last h.written h.last octets [] h.handled.accepted.2 h.is
          (h.broken.1 ∙ sym (append-nil (loop_text s (events_at (place loop.last)))));
    }

cut_off : (asked : CommandLine) (input octets written last : List ℕ) (calls : List LinkCall) (s : Setting) (seed : ℕ)
    → AsksFor asked (network_text input) (Loop s seed) →
    (loop : LoopFailed s seed (map content_of (behind_separator (lines_of input))) calls) → written ≡ [] → octets ≡ written ++ last
    → last ≡ loop_text s (events_at loop.at) → LoopOf asked input calls LinkFault octets
cut_off asked input octets written last calls s seed asks loop none is ends = record {
  setting = s;
  last = On loop.at;
  came = record {
    seed = seed;
    asks = asks;
    scene = loop.scene;
    said = loop.said;
    first = loop.fails.before;
    later = loop.fails.cut;
    all = loop.fails.all;
    loops = loop.fails.loops;
    frames = frames_first calls loop.fails.before loop.fails.cut loop.fails.all loop.frames;
    answered = loop.answered;
  };
  behind = [];
  ends = (loop.fails, refl);
  is = behind_events s (On loop.at) written last octets [] none is (ends ∙ sym (append-nil (loop_text s (events_at loop.at))));
}

failed : (asked : CommandLine) (input octets : List ℕ) (calls : List LinkCall) (s : Setting) (seed : ℕ) → AsksFor asked (network_text input) (Loop s seed)
    → BreaksOff (loop_of s seed calls) LinkFault (behind_separator (lines_of input)) octets →
    IsLoopDue asked input calls LinkFault octets
failed asked input octets calls s seed asks h = elim h.broken [
  | inl none ↦ inr (inr (inl (record {
    setting = s;
    seed = seed;
    asks = asks;
    scene = h.handled.accepted.0;
    said = h.handled.accepted.1;
    uncalled = none.0;
    none = only_last h.written h.last octets h.handled.accepted.2 h.is ∙ none.1;
  })))
  | inr loop ↦ inr (inr (inr (cut_off asked input octets h.written h.last calls s seed asks loop.0 h.handled.accepted.2 h.is loop.1)))
]

looped_due : (asked : CommandLine) (input : List ℕ) (calls : List LinkCall) (status : Status) (octets : List ℕ) → LoopAnswer asked input calls status octets
    → IsLoopDue asked input calls status octets
looped_due asked input calls Done octets h = inr (inr (inr (over asked input octets calls h.0 h.1 h.2 h.3)))
looped_due asked input calls TooLarge octets h = inr (inr (inr (overrun asked input octets calls h.0 h.1 h.2 h.3)))
looped_due asked input calls _ octets h = absurd h.3

-- What is expected

task_due : (asked : CommandLine) (seed : ℕ) (input : List ℕ) (status : Status) (octets : List ℕ) (task : Task) → IsLooping asked seed
    → AsksFor asked (network_text input) task →
    RecordsAnswer (meaning_at task) (behind_separator (lines_of input)) status octets → IsLoopDue asked input [] status octets
task_due asked seed input status octets task looping asks due =
    only_loop asked (network_text input) seed (λ t. RecordsAnswer (meaning_at t) (behind_separator (lines_of input)) status octets)
    (IsLoopDue asked input [] status octets) looping
    (λ s own a due. scene_due asked input [] status octets s own a refl due) task asks due

scene_first : (asked : CommandLine) (input octets : List ℕ) (s : Setting) → StandsFirst (scenario_of s) (behind_separator (lines_of input)) octets
    → IsLoopDue asked input [] OutOfMemory octets
scene_first asked input octets s (inl first) = inl (first.handled.accepted.2, refl)
scene_first asked input octets s (inr off) = absurd off.broken

first_due : (asked : CommandLine) (seed : ℕ) (input octets : List ℕ) (task : Task) → IsLooping asked seed → AsksFor asked (network_text input) task
    → StandsFirst (meaning_at task) (behind_separator (lines_of input)) octets →
    IsLoopDue asked input [] OutOfMemory octets
first_due asked seed input octets task looping asks first =
    only_loop asked (network_text input) seed (λ t. StandsFirst (meaning_at t) (behind_separator (lines_of input)) octets)
    (IsLoopDue asked input [] OutOfMemory octets) looping
    (λ s own a first. scene_first asked input octets s first) task asks first

-- if the source failed, nothing was written
cut_due : (asked : CommandLine) (seed : ℕ) (input taken octets : List ℕ) → IsLooping asked seed → CutTask asked taken octets
    → IsLoopDue asked input [] ReadFault octets
cut_due asked seed input taken octets looping cut =
    only_loop asked cut.text seed (λ task. CutHandled (meaning_at task).accepts cut.back octets) (IsLoopDue asked input [] ReadFault octets) looping
    (λ s own asks at. inl (at.handled.accepted.2, refl)) cut.task cut.asks cut.handled

-- A run

loop_so : (asked : CommandLine) (seed : ℕ) → IsLooping asked seed → IsDueSo asked (IsLoopDue asked)
loop_so asked seed looping = record {
  command = requests.Loop seed;
  on = looping;
  no_node = λ input none. absurd (lacks_none asked (network_text input) (requests.Loop seed) looping refl none);
  none = λ input status octets none. inl (none, refl);
  task = λ input status octets task asks due. task_due asked seed input status octets task looping asks due;
  first = λ input octets task asks first. first_due asked seed input octets task looping asks first;
  cut = λ input taken left octets all cut. cut_due asked seed input taken octets looping cut;
  linked = λ input calls status octets loop. looped_due asked input calls status octets loop;
  short = λ input calls octets loop. inr (inr (inr (short asked input octets calls loop.0 loop.1 loop.2 loop.3)));
  failed = λ input calls octets loop. failed asked input octets calls loop.0 loop.1 loop.2 loop.3;
}

pub loop_answer : (asked : CommandLine) (seed : ℕ) (input : List ℕ) (calls : List LinkCall) (status : Status) (octets : List ℕ) → IsLooping asked seed
    → Answer asked input calls status octets → IsLoopDue asked input calls status octets
loop_answer asked seed input calls status octets looping h = answer_due asked input calls status octets (IsLoopDue asked) (loop_so asked seed looping) h

-- The audit of its events

pub told_apart : LoopIsAudited → (s : Setting) (last : Going) (octets : List ℕ) → CarriesRun event_lines s (events_at (place last)) →
    octets ≡ came_lines s (events_at (place last)) ++ closing_lines s (place last) → IsToldApart s last octets
told_apart audited s last octets carried is =
    let events = events_at (place last) in
    let w = world_after s events in
    let net = carried.run.network in
    let steps = texts.audit_lines s events in
    let counts = count_lines s w in
    let forged = (place last).forged in
    let law = audited s events counts forged net (counts_plain s net w) in
    let told : octets ≡ concat (texts.all_lines s events counts forged) =
    is ∙ ap (λ (l : List ℕ). l ++ closing_lines s (place last)) (sym (came_text s events)) ∙ all_text s events forged in
    let lines : lines_of octets ≡ texts.all_lines s events counts forged =
    ap lines_of told ∙ lines_alone (texts.all_lines s events counts forged) (all_whole s net events carried.run.each carried.fit forged) in
    let rest : lines_of (audit_lines s events ++ all_counts s w) ≡ steps ++ counts =
    ap lines_of (sym (concat-append steps counts ∙ ap₂ (λ (a b : List ℕ). a ++ b) (steps_text s events) (counts_text s w)))
    ∙ lines_alone (steps ++ counts) (all_append IsWhole steps counts (audit_whole s net events) (counts_whole s net w)) in
    record {
      marked = ap marked_in lines ∙ law.0;
      others = ap others_in lines ∙ law.1 ∙ ap (λ (l : List (List ℕ)). l ++ forged_lines forged) (sym rest);
    }

apart_at : LoopedEventsCarryParts → LoopIsAudited → (asked : CommandLine) (input : List ℕ) (calls : List LinkCall) (octets : List ℕ)
    → IsLoopDue asked input calls Done octets → TellsApart asked input calls Done octets
apart_at parts audited asked input calls octets (inl none) = absurd none.0
apart_at parts audited asked input calls octets (inr (inl scene)) = absurd scene.is
apart_at parts audited asked input calls octets (inr (inr (inl link))) = absurd link
apart_at parts audited asked input calls octets (inr (inr (inr loop))) =
    let run = parts asked input calls loop.setting loop.last loop.came in
    (loop, told_apart audited loop.setting loop.last octets run (loop.is ∙ ap (λ (l : List ℕ). came_lines loop.setting (events_at (place loop.last)) ++ l) loop.ends.2))

apart : LoopedEventsCarryParts → LoopIsAudited → (asked : CommandLine) (input : List ℕ) (calls : List LinkCall) (status : Status) (octets : List ℕ)
    → PrintsTheLoop asked input calls status octets → TellsApart asked input calls status octets
apart parts audited asked input calls Done octets h = apart_at parts audited asked input calls octets h
apart parts audited asked input calls _ octets h = tt

-- a run over a link ended with this status, and wrote what the aim says
abbrev pub IsLoopedSo : Run → Status → List ℕ → Type 0
IsLoopedSo run status input =
    (octets : List ℕ) × (calls : List LinkCall) × Appends run.sink.before run.sink.now octets × Grew run.link.before run.link.now calls × LoopHeadline run.asked input calls status octets

pub looped_told : LoopedEventsCarryParts → LoopIsAudited → (run : Run) (status : Status) (seed : ℕ) → Ends run status → IsLooping run.asked seed
    → IfSome run.source.before (IsLoopedSo run status)
looped_told parts audited run status seed ends looping = go run.source.before refl
  where
    go : (o : Option (List ℕ)) → run.source.before ≡ o → IfSome o (IsLoopedSo run status)
    go None is = tt
    go (Some input) is =
        let h = prints run input status (IsLoopDue run.asked) (loop_so run.asked seed looping) is ends in (
          h.0,
          h.1,
          h.2,
          h.3,
          record {
            prints = h.4;
            carries = λ s last came. parts run.asked input h.1 s last came;
            apart = apart parts audited run.asked input h.1 status h.0 h.4;
          },
        )
