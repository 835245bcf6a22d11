-- What an audit that was asked for the inputs of a node wrote is these inputs, and what follows them, by its status.
use Rattle.std.proofs.Common.{◌≡◌, ◌⊎◌, inl, inr, refl, sym, subst, ℕ, Option, None, Some, IfSome, List, [], ◌++◌}
use Rattle.std.specs.Io.KnownBytes.{Appends}
use Rattle.wrp_course.specs.Setting.{Setting}
use Rattle.wrp_commands.specs.Request.{CommandLine}
use Rattle.wrp_commands.specs.Request as requests
use Rattle.wrp_records.specs.declared.status.Status.{Status}
use Rattle.wrp_records.specs.declared.status.Status.TheVariants.{ReadFault, OutOfMemory}
use Rattle.wrp_io.specs.declared.link.LinkCall.{LinkCall}
use Rattle.wrp_asked.specs.Answer.{CutTask}
use Rattle.wrp_audit.specs.Audits.{emission_of}
use Rattle.wrp_asked.specs.EmitHeadline.{EmissionsTellNoTrack, EmitHeadline, HasPlainUsage, InputsOf, LacksNode}
use Rattle.wrp_asked.specs.Ends.{Ends, Run}
use Rattle.wrp_asked.specs.Headline.{EventsCarryParts, ReachesNone}
use Rattle.wrp_asked.specs.Input.{behind_separator, network_text}
use Rattle.wrp_records.specs.Lines.{lines_of}
use Rattle.wrp_records.specs.RecordsAnswer.{RecordsAnswer, StandsFirst}
use Rattle.wrp_records.specs.Stream.{CutHandled}
use Rattle.wrp_asked.specs.Tasks.{Task, Emit, AsksFor, IsEmission, meaning_at, task_row}
use Rattle.wrp_asked.proofs.DueTold.{IsDueSo, PrintsDue, not_linked, prints}
use Rattle.wrp_asked.proofs.EventsTold.{AreTold, cut_due, emission_means, emission_writes, records_due, stand_first}
use Rattle.wrp_asked.proofs.WordLemmas.{one_command}

-- The task

abbrev pub IsInputDue : CommandLine → List ℕ → List LinkCall → Status → List ℕ → Type 0
IsInputDue asked input calls status due = LacksNode asked input status due ⊎ (ReachesNone input status due ⊎ InputsOf asked input status due)

-- if the inputs of a node are asked for, what holds of every task holds if it does of these
only_inputs : (asked : CommandLine) (name text : List ℕ) (P : Task → Type 0) (Q : Type 0) → IsEmission asked name
    → ((own : List ℕ) (s : Setting) (n : ℕ) → AsksFor asked text (Emit own s n) → P (Emit own s n) → Q) → (task : Task) → AsksFor asked text task → P task → Q
only_inputs asked name text P Q emits f (Emit own s n) asks h = f own s n asks h
only_inputs asked name text P Q emits f task asks h = let bad : requests.Emit name ≡ (task_row task).command = one_command asked (requests.Emit name) (task_row task).command emits asks.1 in absurd (cc)

unlooped : (name : List ℕ) (seed : ℕ) → requests.Emit name ≡ requests.Loop seed → ⊥
unlooped name seed e = cc

-- Records

inputs_of : (asked : CommandLine) (input : List ℕ) (status : Status) (octets : List ℕ) (own : List ℕ) (s : Setting) (n : ℕ)
    → AsksFor asked (network_text input) (Emit own s n) → AreTold input s (emission_writes s n) status octets →
    InputsOf asked input status octets
inputs_of asked input status octets own s n asks told = record {
  name = own;
  setting = s;
  node = n;
  asks = asks;
  events = told.events;
  came = record { asks = inr (own, n, asks); front = told.front; behind = told.behind; divided = told.divided; audit = told.audit };
  last = told.last;
  ends = told.ends;
  is = told.is;
}

task_due : (asked : CommandLine) (name input : List ℕ) (status : Status) (octets : List ℕ) (task : Task) → IsEmission asked name
    → AsksFor asked (network_text input) task →
    RecordsAnswer (meaning_at task) (behind_separator (lines_of input)) status octets → IsInputDue asked input [] status octets
task_due asked name input status octets task emits asks due =
    inr (inr (only_inputs asked name (network_text input) (λ task. RecordsAnswer (meaning_at task) (behind_separator (lines_of input)) status octets) (InputsOf asked input status octets) emits
    (λ own s n asks due. inputs_of asked input status octets own s n asks (records_due input status octets s (emission_of s n) (emission_writes s n) (emission_means s n) due)) task asks due))

task_first : (asked : CommandLine) (name input octets : List ℕ) (task : Task) → IsEmission asked name → AsksFor asked (network_text input) task
    → StandsFirst (meaning_at task) (behind_separator (lines_of input)) octets →
    IsInputDue asked input [] OutOfMemory octets
task_first asked name input octets task emits asks first =
    inr (inr (only_inputs asked name (network_text input) (λ t. StandsFirst (meaning_at t) (behind_separator (lines_of input)) octets) (InputsOf asked input OutOfMemory octets) emits
    (λ name s n own due. inputs_of asked input OutOfMemory octets name s n own (stand_first input octets s (emission_of s n) (emission_writes s n) (emission_means s n) due)) task asks first))

-- if the source failed
cut_inputs : (asked : CommandLine) (input taken left octets own : List ℕ) (s : Setting) (n : ℕ) → input ≡ taken ++ left → (h : CutTask asked taken octets)
    → AsksFor asked h.text (Emit own s n) → CutHandled (emission_of s n).accepts h.back octets →
    InputsOf asked input ReadFault octets
cut_inputs asked input taken left octets own s n all h asks cut =
    let both = cut_due input taken left octets s (emission_of s n) (emission_writes s n) h.front h.back h.text (emission_means s n) all h.all h.divides cut in
    inputs_of asked input ReadFault octets own s n (subst (λ (t : List ℕ). AsksFor asked t (Emit own s n)) (sym both.0) asks) both.1

task_cut : (asked : CommandLine) (name input taken left octets : List ℕ) → IsEmission asked name → input ≡ taken ++ left → CutTask asked taken octets
    → IsInputDue asked input [] ReadFault octets
task_cut asked name input taken left octets emits all h =
    inr (inr (only_inputs asked name h.text (λ task. CutHandled (meaning_at task).accepts h.back octets) (InputsOf asked input ReadFault octets) emits
    (λ own s n asks cut. cut_inputs asked input taken left octets own s n all h asks cut) h.task h.asks h.handled))

-- A run

inputs_so : (asked : CommandLine) (name : List ℕ) → IsEmission asked name → IsDueSo asked (IsInputDue asked)
inputs_so asked name emits = record {
  command = requests.Emit name;
  on = emits;
  no_node = λ input none. inl (none, refl);
  none = λ input status octets none. inr (inl none);
  task = λ input status octets task asks due. task_due asked name input status octets task emits asks due;
  first = λ input octets task asks first. task_first asked name input octets task emits asks first;
  cut = λ input taken left octets all cut. task_cut asked name input taken left octets emits all cut;
  linked = λ input calls status octets loop. absurd (not_linked asked (requests.Emit name) emits (unlooped name) loop.1 loop.2.1);
  short = λ input calls octets loop. absurd (not_linked asked (requests.Emit name) emits (unlooped name) loop.1 loop.2.1);
  failed = λ input calls octets loop. absurd (not_linked asked (requests.Emit name) emits (unlooped name) loop.1 loop.2.1);
}

-- it ended with this status, and wrote what the aim says
abbrev pub IsEmittedSo : CommandLine → (held now : Option (List ℕ)) → Status → List ℕ → Type 0
IsEmittedSo asked held now status input = (octets : List ℕ) × Appends held now octets × EmitHeadline asked input status octets

headline_of : EventsCarryParts → EmissionsTellNoTrack → (run : Run) → HasPlainUsage run.asked → (input : List ℕ) (status : Status)
    → PrintsDue (IsInputDue run.asked) run status input → IsEmittedSo run.asked run.sink.before run.sink.now status input
headline_of parts untracked run plain input status h =
    (h.0, h.2, record { prints = h.4; untracked = untracked run.asked input status h.0 plain h.4; carries = λ s events came. parts run.asked input s events came })

pub emission_told : EventsCarryParts → EmissionsTellNoTrack → (run : Run) (status : Status) (name : List ℕ) → Ends run status → HasPlainUsage run.asked
    → IsEmission run.asked name → IfSome run.source.before (IsEmittedSo run.asked run.sink.before run.sink.now status)
emission_told parts untracked run status name ends plain emits = go run.source.before refl
  where
    go : (o : Option (List ℕ)) → run.source.before ≡ o → IfSome o (IsEmittedSo run.asked run.sink.before run.sink.now status)
    go None is = tt
    go (Some input) is =
        headline_of parts untracked run plain input status (prints run input status (IsInputDue run.asked) (inputs_so run.asked name emits) is ends)
