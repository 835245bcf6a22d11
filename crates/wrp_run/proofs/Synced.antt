-- In what an audit, a simulation and a run over a link wrote, each step of a clock comes while the last printed
-- state of its servo is SYNC_TAI or SYNC_NSEC: their lines are the lines of the run's outputs, and further lines
-- that say neither a step nor a state.
use Rattle.std.proofs.Common.{◌≡◌, ◌⊎◌, inl, inr, ◌∙◌, refl, ap, ap₂, sym, subst, append-nil, append_assoc, ℕ, ◌+◌, ◌==◌, Bool, true, false, if◌then◌else◌, List, [], ◌∷◌, ◌++◌, flat_map, drop, length, Option, None, Some, IfSome, arith, codes}
use Rattle.std.specs.Fmt.{decimal, signed_decimal}
use Rattle.std.specs.Io.KnownBytes.{Appends}
use Rattle.std.specs.List.{AllByRecursion, concat}
use Rattle.std.proofs.lemmas.List.{length-append, take-append-drop}
use Rattle.std.proofs.lemmas.List.Folds.{concat-append}
use Rattle.wrp_base.proofs.Lists.{all_append, heads, tails}
use Rattle.wrp_caldb.specs.Name.{same_name}
use Rattle.wrp_config.specs.Accepted.{HasNames}
use Rattle.wrp_network_text.specs.SameAnswer.{ReadingIsAccepted}
use Rattle.wrp_course.specs.Given.{NodeStepAt}
use Rattle.wrp_course.specs.Run.{Happened, steps_at, world_after}
use Rattle.wrp_course.specs.Runs.{AllEvents, IsNetwork, IsRun}
use Rattle.wrp_course.specs.Setting.{Setting}
use Rattle.wrp_course.specs.WorldAt.{WorldAt}
use Rattle.wrp_data.specs.Reason.{number_of}
use Rattle.wrp_io.specs.declared.link.LinkCall.{LinkCall}
use Rattle.wrp_lines.specs.Lines.{count_words, output_line, sum_words}
use Rattle.wrp_lines.specs.Words.{reason_word, servo_word}
use Rattle.wrp_loop.specs.Laws.{LoopIsAudited}
use Rattle.wrp_loop.specs.LoopRun.{events_at, place}
use Rattle.wrp_loop.specs.LoopText as looped
use Rattle.wrp_loop.specs.LoopText.{loop_lines, marked_line, steps_lines}
use Rattle.wrp_loop.specs.Loops.{plan_of}
use Rattle.wrp_records.specs.declared.status.Status.{Status}
use Rattle.wrp_records.specs.declared.status.Status.TheVariants.{WriteFault}
use Rattle.wrp_records.specs.Lines.{IsWhole, lines_of}
use Rattle.wrp_records.specs.Refusals.{code_name, code_of, field_of, name_of}
use Rattle.wrp_records.specs.Words.{line_of}
use Rattle.wrp_records.proofs.Reaching.{lines_behind}
use Rattle.wrp_simulate.specs.SimText.{is_printed, printed_line, printed_lines, sim_lines}
use Rattle.wrp_trace.specs.EventPrinting.{event_text}
use Rattle.wrp_trace.specs.Events.{EventsCanCome}
use Rattle.wrp_audit.specs.AuditLaws.{OneAudit}
use Rattle.wrp_audit.specs.AuditText.{event_lines}
use Rattle.wrp_network_world.specs.Counts.{all_counts}
use Rattle.wrp_audit.specs.Broken.{premise_name}
use Rattle.wrp_printed_laws.specs.Laws.{PrintsStates, StepsComeSynced, lines_at, lines_in, output_lines, step_lines}
use Rattle.wrp_printed_laws.specs.Steps.{IsLastState, SaysState, StepsAreSynced}
use Rattle.wrp_printed_laws.specs.Words.{Reads}
use Rattle.wrp_printed_laws.proofs.Words.{reads as reads_as}
use Rattle.wrp_commands.specs.Request.{CommandLine}
use Rattle.wrp_asked.specs.Ends.{Ends, Run}
use Rattle.wrp_asked.specs.Headline.{CarriesRun, EventsCarryParts, Prints, ReachesNone, StepsOf}
use Rattle.wrp_asked.specs.LoopHeadline.{IsLoopDue, LoopHeadline, LoopOf, LoopedEventsCarryParts}
use Rattle.wrp_asked.specs.SimHeadline.{LacksScenario, MadeEventsCarryParts, RunOf, SimHeadline, run_lines}
use Rattle.wrp_asked.specs.Tasks.{IsAuditing, IsLooping, IsSimulation}
use Rattle.wrp_asked.proofs.EventLines.{whole_line}
use Rattle.wrp_records.proofs.WordLemmas.{AreWords}
use Rattle.wrp_asked.proofs.EventWords.{event_word}
use Rattle.wrp_asked.proofs.HeadlineParts.{run_of}
use Rattle.wrp_asked.proofs.HeadlineTold.{IsTold, headline_told}
use Rattle.wrp_asked.proofs.LoopTold.{IsLoopedSo, looped_told}
use Rattle.wrp_asked.proofs.SimTold.{IsMadeSo, simulation_told}
use Rattle.wrp_asked.proofs.ToldApart.{came_text, flat_all, steps_text}
use Rattle.wrp_asked.proofs.ToldWhole.{audit_whole}
use Rattle.wrp_run.specs.Synced.{RunsNetwork, StepsComeInSync}
use Rattle.wrp_run.proofs.Shown.{loop_whole, same_lines}
use Rattle.wrp_asked.proofs.LastLines.{HasLastLines, after_tells, all_told, broken_words, counter_words, forged_words, large_words, last_tells, link_tells, loop_tells, names_tells, network_words, none_tells, run_words, trace_words}

-- Lines of words

-- a line that does not have four words
abbrev NotFour : List ℕ → Type 0
NotFour line = (a b c d : List ℕ) → Reads line (a ∷ b ∷ c ∷ d ∷ []) → ⊥

-- it says no step
abbrev NoStep : List ℕ → Type 0
NoStep line = (node tick cycles : List ℕ) → Reads line (node ∷ tick ∷ codes "step" ∷ cycles ∷ []) → ⊥

counted : (word : List ℕ) (words : List (List ℕ)) → AreWords (word ∷ words) → (length words == 3) ≡ false → NotFour (line_of (word ∷ words))
counted word words are other a b c d reads =
    let size : length ((word ∷ words) ++ [] ∷ []) ≡ 5 = ap length (sym (reads_as word words are) ∙ reads) in
    let more : length ((word ∷ words) ++ [] ∷ []) ≡ length (word ∷ words) + 1 = length-append (word ∷ words) ([] ∷ []) in
    let three : length words ≡ 3 = omega (arith, size, more) in
    let no : true ≡ false = sym (ap (λ (n : ℕ). n == 3) three) ∙ other in
    cc

no_step : (line : List ℕ) → NotFour line → NoStep line
no_step line other node tick cycles reads = other node tick (codes "step") cycles reads

few_words : (word : List ℕ) (words : List (List ℕ)) → AreWords (word ∷ words) → (length words == 3) ≡ false → NoStep (line_of (word ∷ words))
few_words word words are other = no_step (line_of (word ∷ words)) (counted word words are other)

-- Lines that end an output

-- no code of a refusal is named `step`
abbrev IsOther : List ℕ → Type 0
IsOther name = same_name name (codes "step") ≡ false

either_other : (b : Bool) (x y : List ℕ) → IsOther x → IsOther y → IsOther (if b then x else y)
either_other true x y h k = h
either_other false x y h k = k

code_other : (code : ℕ) → IsOther (code_name code)
unfolding code_name
code_other code =
    either_other (code == 1) (codes "Syntax") _ refl (either_other (code == 2) (codes "UnknownKey") _ refl
    (either_other (code == 3) (codes "Missing") _ refl (either_other (code == 4) (codes "Range") _ refl
    (either_other (code == 5) (codes "Twice") _ refl (either_other (code == 7) (codes "NotATree") _ refl
    (either_other (code == 8) (codes "TwoSlaves") _ refl (either_other (code == 9) (codes "TooDeep") _ refl
    (either_other (code == 10) (codes "Clash") [] refl refl))))))))

abbrev third_of : List (List ℕ) → List ℕ
third_of (a ∷ b ∷ c ∷ more) = c
third_of _ = []

third_other : (a b c d : List ℕ) → AreWords (a ∷ b ∷ c ∷ d ∷ []) → IsOther c → NoStep (line_of (a ∷ b ∷ c ∷ d ∷ []))
third_other a b c d are other node tick cycles reads =
    let same : c ≡ codes "step" = ap third_of (sym (reads_as a (b ∷ c ∷ d ∷ []) are) ∙ reads) in
    let no : true ≡ false = ap (λ (k : List ℕ). same_name k (codes "step")) (sym same) ∙ other in
    cc

no_step_last : HasLastLines NoStep
no_step_last = record {
  large = λ n. few_words (codes "too-large") (decimal n ∷ []) (large_words n) refl;
  text = few_words (codes "too-large") (codes "0" ∷ []) (refl, (refl, tt)) refl;
  trace = λ n fault.
      few_words (codes "bad-trace") (decimal n ∷ decimal (code_of fault) ∷ name_of fault ∷ decimal (field_of fault) ∷ []) (trace_words n fault) refl;
  broken = λ n breach.
      few_words (codes "broken")
      (decimal n ∷ decimal breach.premise ∷ premise_name breach.premise ∷ signed_decimal breach.shown ∷ signed_decimal breach.bound ∷ [])
      (broken_words n breach) refl;
  network = λ code place h.
      third_other (codes "bad-network") (decimal code) (code_name code) place (network_words code place h) (code_other code);
  forged = λ count. few_words (codes "forged") (decimal count ∷ []) (forged_words count) refl;
  count = λ name port reason value h.
      few_words name (count_words port (reason_word (number_of reason)) value) (counter_words name port reason value h) refl;
  sum = λ name ticks tracks worst bound state h.
      few_words name (sum_words ticks tracks worst bound (servo_word state)) (run_words name ticks tracks worst bound state h) refl;
}

-- Lines after and before

no_more : (before later : List (List ℕ)) (line : List ℕ) → [] ≡ before ++ line ∷ later → ⊥
no_more [] later line e = cc
no_more (b ∷ before) later line e = cc

abbrev Divided : (xs last before later : List (List ℕ)) → List ℕ → Type 0
Divided xs last before later line =
    ((rest : List (List ℕ)) × (xs ≡ before ++ line ∷ rest)) ⊎ ((mid : List (List ℕ)) × (last ≡ mid ++ line ∷ later))

divided_in : (xs last before later : List (List ℕ)) (line : List ℕ) → xs ++ last ≡ before ++ line ∷ later → Divided xs last before later line
divided_in [] last before later line e = inr (before, e)
divided_in (x ∷ xs) last [] later line e = inl (xs, ap (λ (l : List ℕ). l ∷ xs) (heads x line (xs ++ last) later e))
divided_in (x ∷ xs) last (b ∷ before) later line e = elim (divided_in xs last before later line (tails x b (xs ++ last) (before ++ line ∷ later) e)) [
  | inl it ↦ inl (it.0, ap₂ (λ (a : List ℕ) (l : List (List ℕ)). a ∷ l) (heads x b (xs ++ last) (before ++ line ∷ later) e) it.1)
  | inr it ↦ inr it
]

part_of : (P : List ℕ → Type 0) (mid later : List (List ℕ)) (line : List ℕ) → AllByRecursion P (mid ++ line ∷ later) → P line
part_of P [] later line h = h.0
part_of P (m ∷ mid) later line h = part_of P mid later line h.1

behind : (xs last : List (List ℕ)) → StepsAreSynced xs → AllByRecursion NoStep last → StepsAreSynced (xs ++ last)
behind xs last steps none before later line node tick cycles e reads = elim (divided_in xs last before later line e) [
  | inl it ↦ steps before it.0 line node tick cycles it.1 reads
  | inr it ↦ absurd (part_of NoStep it.0 later line (subst (AllByRecursion NoStep) it.1 none) node tick cycles reads)
]

no_lines : StepsAreSynced []
no_lines before later line node tick cycles e reads = absurd (no_more before later line e)

none_synced : (octets : List ℕ) → AllByRecursion NoStep (lines_of octets) → StepsAreSynced (lines_of octets)
none_synced octets none = behind [] (lines_of octets) no_lines none

first_lines : (xs ys : List (List ℕ)) → StepsAreSynced (xs ++ ys) → StepsAreSynced xs
first_lines xs ys steps before later line node tick cycles e reads =
    steps before (later ++ ys) line node tick cycles (ap (λ (l : List (List ℕ)). l ++ ys) e ∙ append_assoc before (line ∷ later) ys) reads

-- the front of a text
front_synced : (due octets rest : List ℕ) → octets ++ rest ≡ due → StepsAreSynced (lines_of due) → StepsComeInSync octets
front_synced due octets rest all steps lines cut whole is =
    let parts : lines_of due ≡ lines ++ lines_of (cut ++ rest) =
    ap lines_of (sym all ∙ ap (λ (l : List ℕ). l ++ rest) is ∙ append_assoc (concat lines) cut rest) ∙ lines_behind lines (cut ++ rest) whole in
    first_lines lines (lines_of (cut ++ rest)) (subst StepsAreSynced parts steps)

prints_synced : (Due : Status → List ℕ → Type 0) → ((status : Status) (due : List ℕ) → Due status due → StepsAreSynced (lines_of due))
    → (status : Status) (octets : List ℕ) → Prints Due status octets → StepsComeInSync octets
prints_synced Due each WriteFault octets (status, due, count, is, so) =
    front_synced due octets (drop count due) (ap (λ (l : List ℕ). l ++ drop count due) is ∙ take-append-drop count due) (each status due so)
prints_synced Due each status octets so = front_synced octets octets [] (append-nil octets) (each status octets so)

-- Lines among others, which do not have four words

abbrev Among : List (List ℕ) → List (List ℕ) → Type 0
Among [] ys = ys ≡ []
Among (x ∷ xs) ys = (NotFour x × Among xs ys) ⊎ ((zs : List (List ℕ)) × (ys ≡ x ∷ zs) × Among xs zs)

among_all : (xs : List (List ℕ)) → Among xs xs
among_all [] = refl
among_all (x ∷ xs) = inr (xs, refl, among_all xs)

among_append : (a b c d : List (List ℕ)) → Among a b → Among c d → Among (a ++ c) (b ++ d)
among_append [] b c d h k = subst (λ (l : List (List ℕ)). Among c (l ++ d)) (sym h) k
among_append (x ∷ a) b c d (inl it) k = inl (it.0, among_append a b c d it.1 k)
among_append (x ∷ a) b c d (inr it) k = inr (it.0 ++ d, ap (λ (l : List (List ℕ)). l ++ d) it.1, among_append a it.0 c d it.2 k)

abbrev Reached : List (List ℕ) → List (List ℕ) → List ℕ → Type 0
Reached before ys line = (front : List (List ℕ)) × (back : List (List ℕ)) × (ys ≡ front ++ line ∷ back) × Among before front

reach : (before later ys : List (List ℕ)) (line a b c d : List ℕ) → Reads line (a ∷ b ∷ c ∷ d ∷ []) → Among (before ++ line ∷ later) ys → Reached before ys line
reach [] later ys line a b c d reads (inl it) = absurd (it.0 a b c d reads)
reach [] later ys line a b c d reads (inr it) = ([], it.0, it.1, refl)
reach (x ∷ before) later ys line a b c d reads (inl it) =
    let r : Reached before ys line = reach before later ys line a b c d reads it.1 in
    (r.0, r.1, r.2, inl (it.0, r.3))
reach (x ∷ before) later ys line a b c d reads (inr it) =
    let r : Reached before it.0 line = reach before later it.0 line a b c d reads it.2 in
    (x ∷ r.0, r.1, it.1 ∙ ap (λ (l : List (List ℕ)). x ∷ l) r.2, inr (r.0, refl, r.3))

abbrev Told : List (List ℕ) → List (List ℕ) → List ℕ → Type 0
Told xs later line = (front : List (List ℕ)) × (back : List (List ℕ)) × (xs ≡ front ++ line ∷ back) × Among back later

told : (xs ys before later : List (List ℕ)) (line : List ℕ) → ys ≡ before ++ line ∷ later → Among xs ys → Told xs later line
told [] ys before later line e h = absurd (no_more before later line (sym h ∙ e))
told (x ∷ xs) ys before later line e (inl it) =
    let r : Told xs later line = told xs ys before later line e it.1 in
    (x ∷ r.0, r.1, ap (λ (l : List (List ℕ)). x ∷ l) r.2, r.3)
told (x ∷ xs) ys [] later line e (inr it) =
    let both : x ∷ it.0 ≡ line ∷ later = sym it.1 ∙ e in
    ([], xs, ap (λ (l : List ℕ). l ∷ xs) (heads x line it.0 later both), subst (Among xs) (tails x line it.0 later both) it.2)
told (x ∷ xs) ys (b ∷ before) later line e (inr it) =
    let both : x ∷ it.0 ≡ b ∷ (before ++ line ∷ later) = sym it.1 ∙ e in
    let r : Told xs later line = told xs it.0 before later line (tails x b it.0 (before ++ line ∷ later) both) it.2 in
    (x ∷ r.0, r.1, ap (λ (l : List (List ℕ)). x ∷ l) r.2, r.3)

all_among : (P : List ℕ → Type 0) → ((x : List ℕ) → NotFour x → P x) → (xs ys : List (List ℕ)) → Among xs ys → AllByRecursion P ys → AllByRecursion P xs
all_among P others [] ys among h = tt
all_among P others (x ∷ xs) ys (inl it) h = (others x it.0, all_among P others xs ys it.1 h)
all_among P others (x ∷ xs) ys (inr it) h =
    let both : AllByRecursion P (x ∷ it.0) = subst (AllByRecursion P) it.1 h in
    (both.0, all_among P others xs it.0 it.2 both.1)

last_among : (node state : List ℕ) (xs ys : List (List ℕ)) → Among xs ys → IsLastState node state ys → IsLastState node state xs
last_among node state xs ys among is =
    let r : Told xs is.later is.line = told xs ys is.before is.later is.line is.divided among in
    record {
      before = r.0;
      line = is.line;
      later = r.1;
      divided = r.2;
      says = is.says;
      last =
          all_among (λ other. (any : List ℕ) → SaysState node any other → ⊥)
          (λ x none any says. none node says.0 (codes "servo") any says.1) r.1 is.later r.3 is.last;
    }

synced_among : (xs ys : List (List ℕ)) → Among xs ys → StepsAreSynced ys → StepsAreSynced xs
synced_among xs ys among steps before later line node tick cycles e reads =
    let r : Reached before ys line = reach before later ys line node tick (codes "step") cycles reads (subst (λ (l : List (List ℕ)). Among l ys) e among) in
    elim (steps r.0 r.1 line node tick cycles r.2 reads) [
      | inl it ↦ inl (last_among node (codes "sync-tai") before r.0 r.3 it)
      | inr it ↦ inr (last_among node (codes "sync-nsec") before r.0 r.3 it)
    ]

-- An audit

all_states : PrintsStates (λ o. true)
all_states = record { steps = λ cycles. refl; states = λ state. refl }

audit_is : (s : Setting) (events : List Happened) → lines_in (λ o. true) s events ≡ looped.audit_lines s events
audit_is s [] = refl
audit_is s (h ∷ before) = ap₂ (λ (a b : List (List ℕ)). a ++ b) (audit_is s before) (same_lines s before h)

audit_due : ReadingIsAccepted → EventsCanCome → StepsComeSynced → (asked : CommandLine) (input : List ℕ) (status : Status) (due : List ℕ)
    → ReachesNone input status due ⊎ StepsOf asked input status due → StepsAreSynced (lines_of due)
audit_due accepted can law asked input status due (inl none) = none_synced due (none_tells NoStep no_step_last input status due none)
audit_due accepted can law asked input status due (inr steps) =
    let s : Setting = steps.setting in
    let run : IsRun s steps.events = run_of can accepted asked input s steps.events steps.came in
    let lines : List (List ℕ) = looped.audit_lines s steps.events in
    let cut : lines_of due ≡ lines ++ lines_of steps.last =
    ap lines_of (steps.is ∙ ap (λ (l : List ℕ). l ++ steps.last) (sym (steps_text s steps.events)))
    ∙ lines_behind lines steps.last (audit_whole s run.network steps.events) in
    let own : StepsAreSynced lines = subst StepsAreSynced (audit_is s steps.events) (law (λ o. true) s steps.events all_states run) in
    subst StepsAreSynced (sym cut)
    (behind lines (lines_of steps.last) own
    (last_tells NoStep no_step_last status s steps.came.front steps.came.behind (all_counts s (world_after s steps.events)) steps.last (all_told NoStep no_step_last s run.network (world_after s steps.events)) steps.ends))

-- A run over a link

event_other : (s : Setting) (h : Happened) → HasNames s.cfg → AllEvents s.cfg (h ∷ []) → NotFour (marked_line s.cfg h.event)
event_other s h names each = counted (61 ∷ []) (event_text s.cfg h.event ∷ []) (refl, (event_word s.cfg h.event names each.0, tt)) refl

loop_among : (s : Setting) (events : List Happened) → HasNames s.cfg → AllEvents s.cfg events → Among (loop_lines s events) (lines_in (λ o. true) s events)
loop_among s [] names each = refl
loop_among s (h ∷ before) names each =
    among_append (loop_lines s before) (lines_in (λ o. true) s before) (marked_line s.cfg h.event ∷ steps_lines s before h) (lines_at (λ o. true) s before h)
    (loop_among s before names each.1)
    (inl (event_other s h names (each.0, tt), subst (Among (steps_lines s before h)) (sym (same_lines s before h)) (among_all (steps_lines s before h))))

loop_of : StepsComeSynced
    → (asked : CommandLine) (input : List ℕ) (calls : List LinkCall) (status : Status) (due : List ℕ) (loop : LoopOf asked input calls status due) →
    CarriesRun event_lines loop.setting (events_at (place loop.last)) → StepsAreSynced (lines_of due)
loop_of law asked input calls status due loop carried =
    let s : Setting = loop.setting in
    let events : List Happened = events_at (place loop.last) in
    let net : IsNetwork s = carried.run.network in
    let cut : lines_of due ≡ loop_lines s events ++ lines_of loop.behind =
    ap lines_of (loop.is ∙ ap (λ (l : List ℕ). l ++ loop.behind) (sym (came_text s events)))
    ∙ lines_behind (loop_lines s events) loop.behind (loop_whole s net events carried.run.each carried.fit) in
    subst StepsAreSynced (sym cut)
    (behind (loop_lines s events) (lines_of loop.behind)
    (synced_among (loop_lines s events) (lines_in (λ o. true) s events) (loop_among s events net.accepted.names carried.run.each) (law (λ o. true) s events all_states carried.run))
    (loop_tells NoStep no_step_last status (plan_of s loop.came.scene loop.came.seed) calls loop.came.later loop.last loop.behind net loop.ends))

loop_due : StepsComeSynced → (asked : CommandLine) (input : List ℕ) (calls : List LinkCall) (status : Status) (octets : List ℕ)
    → LoopHeadline asked input calls status octets → (other : Status) (due : List ℕ) →
    IsLoopDue asked input calls other due → StepsAreSynced (lines_of due)
loop_due law asked input calls status octets head other due (inl none) = none_synced due (none_tells NoStep no_step_last input other due none.0)
loop_due law asked input calls status octets head other due (inr (inl scene)) =
    none_synced due (names_tells NoStep no_step_last other scene.setting scene.front scene.line due scene.is)
loop_due law asked input calls status octets head other due (inr (inr (inl link))) = none_synced due (link_tells NoStep asked input calls other due link)
loop_due law asked input calls status octets head other due (inr (inr (inr loop))) =
    loop_of law asked input calls other due loop (head.carries loop.setting loop.last loop.came)

-- A simulation

concat_flat : {A : Type 0} (f : A → List (List ℕ)) (g : A → List ℕ) → ((a : A) → concat (f a) ≡ g a) → (xs : List A) → concat (flat_map f xs) ≡ flat_map g xs
concat_flat f g same [] = refl
concat_flat f g same (x ∷ xs) = concat-append (f x) (flat_map f xs) ∙ ap₂ (λ (a b : List ℕ). a ++ b) (same x) (concat_flat f g same xs)

printed_if : (b : Bool) (line : List ℕ) → concat (if b then line ∷ [] else []) ≡ (if b then line else [])
printed_if true line = append-nil line
printed_if false line = refl

outs_text : (s : Setting) (w : WorldAt) (step : NodeStepAt) → concat (step_lines is_printed s w step) ≡ printed_lines s w step
outs_text s w step =
    concat_flat (output_lines is_printed s w step.node) (printed_line s w step.node)
    (λ o. printed_if (is_printed o) (output_line s.cfg step.node (w.node step.node).ticks o (Some (w.clock step.node).off))) step.outs

run_text : (s : Setting) (events : List Happened) → concat (lines_in is_printed s events) ≡ sim_lines s events
run_text s [] = refl
run_text s (h ∷ before) =
    let w : WorldAt = world_after s (h ∷ before) in
    concat-append (lines_in is_printed s before) (lines_at is_printed s before h)
    ∙ ap₂ (λ (a b : List ℕ). a ++ b) (run_text s before) (concat_flat (step_lines is_printed s w) (printed_lines s w) (outs_text s w) (steps_at s before h))

whole_if : (b : Bool) (line : List ℕ) → IsWhole line → AllByRecursion IsWhole (if b then line ∷ [] else [])
whole_if true line h = (h, tt)
whole_if false line h = tt

run_whole : (s : Setting) → HasNames s.cfg → (events : List Happened) → AllByRecursion IsWhole (lines_in is_printed s events)
run_whole s names [] = tt
run_whole s names (h ∷ before) =
    let w : WorldAt = world_after s (h ∷ before) in
    all_append IsWhole (lines_in is_printed s before) (lines_at is_printed s before h) (run_whole s names before)
    (flat_all IsWhole (step_lines is_printed s w)
    (λ (step : NodeStepAt). flat_all IsWhole (output_lines is_printed s w step.node)
    (λ o. whole_if (is_printed o) (output_line s.cfg step.node (w.node step.node).ticks o (Some (w.clock step.node).off)) (whole_line s step.node (w.node step.node).ticks o (Some (w.clock step.node).off) names))
    step.outs) (steps_at s before h))

printed_states : PrintsStates is_printed
printed_states = record { steps = λ cycles. refl; states = λ state. refl }

sim_of : StepsComeSynced → (asked : CommandLine) (input : List ℕ) (status : Status) (due : List ℕ) (run : RunOf asked input status due)
    → CarriesRun run_lines run.setting run.events → StepsAreSynced (lines_of due)
sim_of law asked input status due run carried =
    let s : Setting = run.setting in
    let net : IsNetwork s = carried.run.network in
    let lines : List (List ℕ) = lines_in is_printed s run.events in
    let cut : lines_of due ≡ lines ++ lines_of run.last =
    ap lines_of (run.is ∙ ap (λ (l : List ℕ). l ++ run.last) (sym (run_text s run.events)))
    ∙ lines_behind lines run.last (run_whole s net.accepted.names run.events) in
    subst StepsAreSynced (sym cut)
    (behind lines (lines_of run.last) (law is_printed s run.events printed_states carried.run)
    (after_tells NoStep no_step_last status s run.made.scene run.events run.made.at run.last net run.ends))

sim_due : StepsComeSynced → (asked : CommandLine) (input : List ℕ) (status : Status) (octets : List ℕ) → SimHeadline asked input status octets
    → (other : Status) (due : List ℕ) →
    ReachesNone input other due ⊎ (LacksScenario asked input other due ⊎ RunOf asked input other due) → StepsAreSynced (lines_of due)
sim_due law asked input status octets head other due (inl none) = none_synced due (none_tells NoStep no_step_last input other due none)
sim_due law asked input status octets head other due (inr (inl scene)) =
    none_synced due (names_tells NoStep no_step_last other scene.setting scene.front scene.line due scene.is)
sim_due law asked input status octets head other due (inr (inr run)) = sim_of law asked input other due run (head.carries run.setting run.events run.made)

-- A run

abbrev SyncedSo : Run → List ℕ → Type 0
SyncedSo run input = (octets : List ℕ) × Appends run.sink.before run.sink.now octets × StepsComeInSync octets

pub record SyncLaws : Type 0 where
  pub accepted : ReadingIsAccepted
  pub can : EventsCanCome
  pub law : StepsComeSynced
  pub audits : EventsCarryParts
  pub simulations : MadeEventsCarryParts
  pub loops : LoopedEventsCarryParts
  pub one : OneAudit
  pub apart : LoopIsAudited

audits_synced : SyncLaws → (run : Run) (status : Status) → Ends run status → IsAuditing run.asked → IfSome run.source.before (SyncedSo run)
audits_synced laws run status ends audits = go run.source.before (headline_told laws.audits laws.one run status ends audits)
  where
    go : (o : Option (List ℕ)) → IfSome o (IsTold run.asked run.sink.before run.sink.now status) → IfSome o (SyncedSo run)
    go None h = tt
    go (Some input) h =
        (h.0, h.1, prints_synced (λ due text. ReachesNone input due text ⊎ StepsOf run.asked input due text) (audit_due laws.accepted laws.can laws.law run.asked input) status h.0 h.2.prints)

simulations_synced : SyncLaws → (run : Run) (status : Status) (seed : ℕ) → Ends run status → IsSimulation run.asked seed
    → IfSome run.source.before (SyncedSo run)
simulations_synced laws run status seed ends simulates = go run.source.before (simulation_told laws.simulations run status seed ends simulates)
  where
    go : (o : Option (List ℕ)) → IfSome o (IsMadeSo run.asked run.sink.before run.sink.now status) → IfSome o (SyncedSo run)
    go None h = tt
    go (Some input) h =
        (h.0, h.1, prints_synced (λ due text. ReachesNone input due text ⊎ (LacksScenario run.asked input due text ⊎ RunOf run.asked input due text)) (sim_due laws.law run.asked input status h.0 h.2) status h.0 h.2.prints)

loops_synced : SyncLaws → (run : Run) (status : Status) (seed : ℕ) → Ends run status → IsLooping run.asked seed → IfSome run.source.before (SyncedSo run)
loops_synced laws run status seed ends looping = go run.source.before (looped_told laws.loops laws.apart run status seed ends looping)
  where
    go : (o : Option (List ℕ)) → IfSome o (IsLoopedSo run status) → IfSome o (SyncedSo run)
    go None h = tt
    go (Some input) h =
        (h.0, h.2, prints_synced (λ due text. IsLoopDue run.asked input h.1 due text) (loop_due laws.law run.asked input h.1 status h.0 h.4) status h.0 h.4.prints)

pub steps_synced : SyncLaws → (run : Run) (status : Status) → Ends run status → RunsNetwork run.asked → IfSome run.source.before (SyncedSo run)
steps_synced laws run status ends (inl audits) = audits_synced laws run status ends audits
steps_synced laws run status ends (inr (seed, inl simulates)) = simulations_synced laws run status seed ends simulates
steps_synced laws run status ends (inr (seed, inr looping)) = loops_synced laws run status seed ends looping
