-- What an audit wrote is the lines of the nodes' steps, and what follows them, by its status.
use Rattle.std.proofs.Common.{◌≡◌, ◌⊎◌, inl, inr, refl, sym, subst, ℕ, Option, None, Some, IfSome, List, [], ◌++◌}
use Rattle.std.specs.Io.KnownBytes.{Appends}
use Rattle.wrp_course.specs.Setting.{Setting}
use Rattle.wrp_records.specs.declared.status.Status.{Status}
use Rattle.wrp_records.specs.declared.status.Status.TheVariants.{ReadFault, OutOfMemory}
use Rattle.wrp_io.specs.declared.link.LinkCall.{LinkCall}
use Rattle.wrp_commands.specs.Request.{CommandLine}
use Rattle.wrp_commands.specs.Request as requests
use Rattle.wrp_asked.specs.Answer.{CutTask}
use Rattle.wrp_audit.specs.AuditLaws.{OneAudit}
use Rattle.wrp_audit.specs.Audits.{audit_of}
use Rattle.wrp_asked.specs.Ends.{Ends, Run}
use Rattle.wrp_asked.specs.Headline.{EventsCarryParts, Headline, ReachesNone, StepsOf}
use Rattle.wrp_asked.specs.Input.{behind_separator, network_text}
use Rattle.wrp_records.specs.Lines.{lines_of}
use Rattle.wrp_records.specs.RecordsAnswer.{RecordsAnswer, StandsFirst}
use Rattle.wrp_records.specs.Stream.{CutHandled}
use Rattle.wrp_asked.specs.Tasks.{Task, Audit, AsksFor, IsAuditing, meaning_at, task_row}
use Rattle.wrp_asked.proofs.DueTold.{IsDueSo, PrintsDue, not_linked, prints}
use Rattle.wrp_asked.proofs.EventsTold.{AreTold, audit_means, audit_writes, cut_due, records_due, stand_first}
use Rattle.wrp_asked.proofs.WordLemmas.{lacks_none, one_command}

-- The task of an audit

abbrev pub IsDue : CommandLine → List ℕ → List LinkCall → Status → List ℕ → Type 0
IsDue asked input calls status due = ReachesNone input status due ⊎ StepsOf asked input status due

-- if an audit is asked for, what holds of every task holds if it does of an audit
only_audit : (asked : CommandLine) (text : List ℕ) (P : Task → Type 0) (Q : Type 0) → IsAuditing asked
    → ((s : Setting) → AsksFor asked text (Audit s) → P (Audit s) → Q) → (task : Task) → AsksFor asked text task → P task → Q
only_audit asked text P Q audits f (Audit s) asks h = f s asks h
only_audit asked text P Q audits f task asks h = let bad : requests.Audit ≡ (task_row task).command = one_command asked requests.Audit (task_row task).command audits asks.1 in absurd (cc)

unlooped : (seed : ℕ) → requests.Audit ≡ requests.Loop seed → ⊥
unlooped seed e = cc

-- Records

steps_of : (asked : CommandLine) (input : List ℕ) (status : Status) (octets : List ℕ) (s : Setting) → AsksFor asked (network_text input) (Audit s)
    → AreTold input s (audit_writes s) status octets → StepsOf asked input status octets
steps_of asked input status octets s asks told = record {
  setting = s;
  events = told.events;
  came = record { asks = inl asks; front = told.front; behind = told.behind; divided = told.divided; audit = told.audit };
  last = told.last;
  ends = told.ends;
  is = told.is;
}

task_due : OneAudit → (asked : CommandLine) (input : List ℕ) (status : Status) (octets : List ℕ) (task : Task) → IsAuditing asked
    → AsksFor asked (network_text input) task →
    RecordsAnswer (meaning_at task) (behind_separator (lines_of input)) status octets → IsDue asked input [] status octets
task_due one asked input status octets task audits asks due =
    inr (only_audit asked (network_text input) (λ task. RecordsAnswer (meaning_at task) (behind_separator (lines_of input)) status octets) (StepsOf asked input status octets) audits
    (λ s asks due. steps_of asked input status octets s asks (records_due input status octets s (audit_of s) (audit_writes s) (audit_means one s) due)) task asks due)

task_first : OneAudit → (asked : CommandLine) (input octets : List ℕ) (task : Task) → IsAuditing asked → AsksFor asked (network_text input) task
    → StandsFirst (meaning_at task) (behind_separator (lines_of input)) octets →
    IsDue asked input [] OutOfMemory octets
task_first one asked input octets task audits asks first =
    inr (only_audit asked (network_text input) (λ t. StandsFirst (meaning_at t) (behind_separator (lines_of input)) octets) (StepsOf asked input OutOfMemory octets) audits
    (λ s own due. steps_of asked input OutOfMemory octets s own (stand_first input octets s (audit_of s) (audit_writes s) (audit_means one s) due)) task asks first)

-- if the source failed
cut_steps : OneAudit → (asked : CommandLine) (input taken left octets : List ℕ) (s : Setting) → input ≡ taken ++ left → (h : CutTask asked taken octets)
    → AsksFor asked h.text (Audit s) → CutHandled (audit_of s).accepts h.back octets →
    StepsOf asked input ReadFault octets
cut_steps one asked input taken left octets s all h asks cut =
    let both = cut_due input taken left octets s (audit_of s) (audit_writes s) h.front h.back h.text (audit_means one s) all h.all h.divides cut in
    steps_of asked input ReadFault octets s (subst (λ (t : List ℕ). AsksFor asked t (Audit s)) (sym both.0) asks) both.1

task_cut : OneAudit → (asked : CommandLine) (input taken left octets : List ℕ) → IsAuditing asked → input ≡ taken ++ left → CutTask asked taken octets
    → IsDue asked input [] ReadFault octets
task_cut one asked input taken left octets audits all h =
    inr (only_audit asked h.text (λ task. CutHandled (meaning_at task).accepts h.back octets) (StepsOf asked input ReadFault octets) audits
    (λ s asks cut. cut_steps one asked input taken left octets s all h asks cut) h.task h.asks h.handled)

-- A run

audit_so : OneAudit → (asked : CommandLine) → IsAuditing asked → IsDueSo asked (IsDue asked)
audit_so one asked audits = record {
  command = requests.Audit;
  on = audits;
  no_node = λ input none. absurd (lacks_none asked (network_text input) requests.Audit audits refl none);
  none = λ input status octets none. inl none;
  task = λ input status octets task asks due. task_due one asked input status octets task audits asks due;
  first = λ input octets task asks first. task_first one asked input octets task audits asks first;
  cut = λ input taken left octets all cut. task_cut one asked input taken left octets audits all cut;
  linked = λ input calls status octets loop. absurd (not_linked asked requests.Audit audits unlooped loop.1 loop.2.1);
  short = λ input calls octets loop. absurd (not_linked asked requests.Audit audits unlooped loop.1 loop.2.1);
  failed = λ input calls octets loop. absurd (not_linked asked requests.Audit audits unlooped loop.1 loop.2.1);
}

-- an audit ended with this status, and wrote what the aim says
abbrev pub IsTold : CommandLine → (held now : Option (List ℕ)) → Status → List ℕ → Type 0
IsTold asked held now status input = (octets : List ℕ) × Appends held now octets × Headline asked input status octets

headline_of : EventsCarryParts → (run : Run) (input : List ℕ) (status : Status) → PrintsDue (IsDue run.asked) run status input
    → IsTold run.asked run.sink.before run.sink.now status input
headline_of parts run input status h = (h.0, h.2, record { prints = h.4; carries = λ s events came. parts run.asked input s events came })

pub headline_told : EventsCarryParts → OneAudit → (run : Run) (status : Status) → Ends run status → IsAuditing run.asked
    → IfSome run.source.before (IsTold run.asked run.sink.before run.sink.now status)
headline_told parts one run status ends audits = go run.source.before refl
  where
    go : (o : Option (List ℕ)) → run.source.before ≡ o → IfSome o (IsTold run.asked run.sink.before run.sink.now status)
    go None is = tt
    go (Some input) is = headline_of parts run input status (prints run input status (IsDue run.asked) (audit_so one run.asked audits) is ends)
