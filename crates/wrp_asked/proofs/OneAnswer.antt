-- For what is asked and an input one status and one text are expected, and no others.
use Rattle.std.proofs.Common.{true, false, ◌≡◌, ◌⊎◌, inl, inr, ℕ, ◌<◌, ◌≤◌, Option, None, Some, IfSome, option_map, Ok, Err, List, [], ◌++◌, length, refl, sym, ap, ap₂, ◌∙◌, subst, arith}
use Rattle.std.specs.Io.KnownBytes.{Appends}
use Rattle.std.proofs.lemmas.List.{append_cancel_left}
use Rattle.std.proofs.lemmas.Option.{same_Some}
use Rattle.wrp_base.specs.declared.fault.ConfFault.TheVariants.{Fault}
use Rattle.wrp_network_text.proofs.OneReading.{one_reading}
use Rattle.wrp_commands.specs.declared.alone.Alone.{Alone}
use Rattle.wrp_commands.specs.Request.{CommandLine}
use Rattle.wrp_records.specs.declared.status.Status.{Status}
use Rattle.wrp_records.specs.declared.status.Status.TheVariants.{Done, Usage, BadNetwork, BadTrace, Broken, ReadFault, WriteFault, LinkFault, TooLarge, OutOfMemory, BadCapture, BadCalib}
use Rattle.wrp_io.specs.declared.link.LinkCall.{LinkCall}
use Rattle.wrp_records.specs.Passages.{Failed}
use Rattle.wrp_records.specs.Statuses.{is_answer}
use Rattle.wrp_records.specs.Lines.{lines_of}
use Rattle.wrp_records.specs.RecordsAnswer.{RecordsAnswer}
use Rattle.wrp_records.specs.Refusals.{bad_network_line, too_large_line}
use Rattle.wrp_replay.specs.Replays.{IsAccepted, IsRefusedBy}
use Rattle.wrp_asked.specs.Alone.{IsAlone, alone_meaning}
use Rattle.wrp_asked.specs.Answer.{Answer, AloneAnswer, AsksNone, IsCommand, IsNetworked, IsOfNode, LoopAnswer, RecordsDue}
use Rattle.wrp_asked.specs.Ends.{Run, Called, Ends, IsToldOf, Wrote}
use Rattle.wrp_asked.specs.Input.{network_text, behind_separator, network_limit}
use Rattle.wrp_asked.specs.Tasks.{Task, Loop, AsksFor, meaning_at, node_of, task_row}
use Rattle.wrp_asked.proofs.AloneTable.{facts_of}
use Rattle.wrp_asked.proofs.Asking.{networked_of}
use Rattle.wrp_asked.proofs.NetworkCommand.{OneLaws, bare_task, meaning_with}
use Rattle.wrp_asked.proofs.NetworkTable.{task_facts}
use Rattle.wrp_asked.proofs.OneLoop.{loop_records, told_calls}
use Rattle.wrp_records.proofs.Unique.{one_records_answer}
use Rattle.wrp_asked.proofs.WordLemmas.{alone_command, alone_unnetworked, networked_command, one_alone, one_command}

-- one status and one text
abbrev pub AreOne : Status → Status → List ℕ → List ℕ → Type 0
AreOne s t o u = (s ≡ t) × (o ≡ u)

-- a text that is refused is refused by one line, and is not accepted
one_refused : (text o u : List ℕ) → IsRefusedBy text o → IsRefusedBy text u → o ≡ u
one_refused text o u p q =
    let same = one_reading text (Err (Fault p.0 p.1)) (Err (Fault q.0 q.1)) p.2 q.2 in
    p.3 ∙ ap₂ (λ (code : ℕ) (place : List ℕ). bad_network_line code place) same.0 same.1 ∙ sym q.3

not_accepted : (text o : List ℕ) → IsRefusedBy text o → IsAccepted text → ⊥
not_accepted text o p q = one_reading text (Ok q.0) (Err (Fault p.0 p.1)) q.1 p.2

-- the cases of an answer
abbrev IsUnknown : CommandLine → Status → List ℕ → Type 0
IsUnknown asked s o = (s ≡ Usage) × (IsCommand asked → ⊥) × (o ≡ asked.usage)

abbrev IsTooLong : CommandLine → List ℕ → Status → List ℕ → Type 0
IsTooLong asked text s o = (s ≡ TooLarge) × IsNetworked asked × (network_limit < length text) × (o ≡ too_large_line)

abbrev IsBadNetwork : CommandLine → List ℕ → Status → List ℕ → Type 0
IsBadNetwork asked text s o = (s ≡ BadNetwork) × IsNetworked asked × (length text ≤ network_limit) × IsRefusedBy text o

abbrev IsNoNode : CommandLine → List ℕ → Status → List ℕ → Type 0
IsNoNode asked text s o = (s ≡ Usage) × AsksNone asked text × (o ≡ asked.usage)

-- what is expected for the records: by themselves, or by the calls of a link too
abbrev TaskCase : CommandLine → List ℕ → Status → List ℕ → Type 0
TaskCase asked input s o =
    (task : Task) × AsksFor asked (network_text input) task × RecordsAnswer (meaning_at task) (behind_separator (lines_of input)) s o

abbrev RecordsCase : CommandLine → List ℕ → List LinkCall → Status → List ℕ → Type 0
RecordsCase asked input calls s o = TaskCase asked input s o ⊎ LoopAnswer asked input calls s o

-- of words that are a command on a network, or none
abbrev Cases : CommandLine → List ℕ → List LinkCall → Status → List ℕ → Type 0
Cases asked input calls s o =
    IsUnknown asked s o
    ⊎ (IsTooLong asked (network_text input) s o
    ⊎ (IsBadNetwork asked (network_text input) s o
    ⊎ (IsNoNode asked (network_text input) s o
    ⊎ RecordsCase asked input calls s o)))

due_cases : (asked : CommandLine) (input : List ℕ) (calls : List LinkCall) (s : Status) (o : List ℕ) → RecordsDue asked input calls s o
    → Cases asked input calls s o ⊎ AloneAnswer asked input calls s o
due_cases asked input calls s o (inl task) = inl (inr (inr (inr (inr (inl (task.0, task.1, task.2))))))
due_cases asked input calls s o (inr (inl alone)) = inr alone
due_cases asked input calls s o (inr (inr looped)) = inl (inr (inr (inr (inr (inr looped)))))

cases_of : (asked : CommandLine) (input : List ℕ) (calls : List LinkCall) (s : Status) (o : List ℕ) → Answer asked input calls s o
    → Cases asked input calls s o ⊎ AloneAnswer asked input calls s o
cases_of asked input calls Usage o p = inl (elim p.0 [ inl none ↦ inl (refl, none, p.1) | inr none ↦ inr (inr (inr (inl (refl, none, p.1)))) ])
cases_of asked input calls BadNetwork o p = elim p [ inl bad ↦ inl (inr (inr (inl (refl, bad.0, bad.1, bad.2)))) | inr alone ↦ inr alone ]
cases_of asked input calls TooLarge o p = elim p [ inl long ↦ inl (inr (inl (refl, long.0, long.1, long.2))) | inr due ↦ due_cases asked input calls TooLarge o due ]
cases_of asked input calls s o p = due_cases asked input calls s o p

-- what is expected for the records, of a task whose link answered these calls
record TaskWith (asked : CommandLine) (input : List ℕ) (calls : List LinkCall) (s : Status) (o : List ℕ) : Type 0 where
  task : Task
  asks : AsksFor asked (network_text input) task
  due : RecordsAnswer (meaning_with task calls) (behind_separator (lines_of input)) s o

task_of : (asked : CommandLine) (input : List ℕ) (calls : List LinkCall) (s : Status) (o : List ℕ) → RecordsCase asked input calls s o
    → TaskWith asked input calls s o
task_of asked input calls s o (inl p) = record { task = p.0; asks = p.1; due = (task_facts p.0).linked calls (behind_separator (lines_of input)) s o p.2 }
task_of asked input calls s o (inr p) = record { task = Loop p.0 p.1; asks = p.2; due = loop_records p.0 p.1 calls (behind_separator (lines_of input)) s o p.3 }

-- a command on a network is asked for, and the network text is one that is accepted
is_networked : (asked : CommandLine) (input : List ℕ) (calls : List LinkCall) (s : Status) (o : List ℕ) → RecordsCase asked input calls s o → IsNetworked asked
is_networked asked input calls s o p = let x = task_of asked input calls s o p in networked_of asked (network_text input) x.task x.asks

accepted_case : (asked : CommandLine) (input : List ℕ) (calls : List LinkCall) (s : Status) (o : List ℕ) → RecordsCase asked input calls s o
    → IsAccepted (network_text input)
accepted_case asked input calls s o p = let x = task_of asked input calls s o p in (task_facts x.task).accepted (network_text input) x.asks.2

within_case : (asked : CommandLine) (input : List ℕ) (calls : List LinkCall) (s : Status) (o : List ℕ) → RecordsCase asked input calls s o
    → length (network_text input) ≤ network_limit
within_case asked input calls s o p = (task_of asked input calls s o p).asks.0

missing_case : (asked : CommandLine) (input : List ℕ) (calls : List LinkCall) (s : Status) (o : List ℕ) → AsksNone asked (network_text input)
    → RecordsCase asked input calls s o → ⊥
missing_case asked input calls s o none p =
    let x = task_of asked input calls s o p in
    let same : (task_row x.task).command ≡ none.asks.0 = one_command asked (task_row x.task).command none.asks.0 x.asks.1 none.asks.1 in
    (task_facts x.task).named (network_text input) none.net none.name none.reads x.asks.2 (ap node_of same ∙ none.asks.2) none.none

-- two answers that came to the records
one_records : OneLaws → (asked : CommandLine) (input : List ℕ) (calls : List LinkCall) (s t : Status) (o u : List ℕ) → RecordsCase asked input calls s o
    → RecordsCase asked input calls t u → AreOne s t o u
one_records laws asked input calls s t o u p q =
    let lines : List (List ℕ) = behind_separator (lines_of input) in
    let x = task_of asked input calls s o p in
    let y = task_of asked input calls t u q in
    let command : (task_row y.task).command ≡ (task_row x.task).command =
    one_command asked (task_row y.task).command (task_row x.task).command y.asks.1 x.asks.1 in
    let same : bare_task y.task ≡ bare_task x.task = (task_facts x.task).same (network_text input) y.task command x.asks.2 y.asks.2 in
    one_records_answer (meaning_with (bare_task x.task) calls) ((task_facts x.task).exact laws calls) lines s t o u
    ((task_facts x.task).bare calls lines s o x.due)
    (subst (λ (task : Task). RecordsAnswer (meaning_with task calls) lines t u) same ((task_facts y.task).bare calls lines t u y.due))

of_node : (asked : CommandLine) (name : List ℕ) → IsOfNode asked name → IsNetworked asked
of_node asked name (command, on, needs) = (command, on)

-- two answers, of cases in order
one_of_cases : OneLaws → (asked : CommandLine) (input : List ℕ) (calls : List LinkCall) (s t : Status) (o u : List ℕ) → Cases asked input calls s o
    → Cases asked input calls t u → AreOne s t o u
one_of_cases laws asked input calls s t o u (inl p) (inl q) = (p.0 ∙ sym q.0, p.2 ∙ sym q.2)
one_of_cases laws asked input calls s t o u (inl p) (inr (inl q)) = absurd (p.1 (networked_command asked q.1))
one_of_cases laws asked input calls s t o u (inl p) (inr (inr (inl q))) = absurd (p.1 (networked_command asked q.1))
one_of_cases laws asked input calls s t o u (inl p) (inr (inr (inr (inl q)))) = absurd (p.1 (networked_command asked (of_node asked q.1.name q.1.asks)))
one_of_cases laws asked input calls s t o u (inl p) (inr (inr (inr (inr q)))) = absurd (p.1 (networked_command asked (is_networked asked input calls t u q)))
one_of_cases laws asked input calls s t o u (inr (inl p)) (inr (inl q)) = (p.0 ∙ sym q.0, p.3 ∙ sym q.3)
one_of_cases laws asked input calls s t o u (inr (inl p)) (inr (inr (inl q))) = absurd (omega (arith, p.2, q.2))
one_of_cases laws asked input calls s t o u (inr (inl p)) (inr (inr (inr (inl q)))) = absurd (omega (arith, p.2, q.1.within))
one_of_cases laws asked input calls s t o u (inr (inl p)) (inr (inr (inr (inr q)))) =
    let within : length (network_text input) ≤ network_limit = within_case asked input calls t u q in
    absurd (omega (arith, p.2, within))
one_of_cases laws asked input calls s t o u (inr (inr (inl p))) (inr (inr (inl q))) = (p.0 ∙ sym q.0, one_refused (network_text input) o u p.3 q.3)
one_of_cases laws asked input calls s t o u (inr (inr (inl p))) (inr (inr (inr (inl q)))) =
    absurd (not_accepted (network_text input) o p.3 (q.1.net, q.1.reads))
one_of_cases laws asked input calls s t o u (inr (inr (inl p))) (inr (inr (inr (inr q)))) =
    absurd (not_accepted (network_text input) o p.3 (accepted_case asked input calls t u q))
one_of_cases laws asked input calls s t o u (inr (inr (inr (inl p)))) (inr (inr (inr (inl q)))) = (p.0 ∙ sym q.0, p.2 ∙ sym q.2)
one_of_cases laws asked input calls s t o u (inr (inr (inr (inl p)))) (inr (inr (inr (inr q)))) =
    absurd (missing_case asked input calls t u p.1 q)
one_of_cases laws asked input calls s t o u (inr (inr (inr (inr p)))) (inr (inr (inr (inr q)))) =
    one_records laws asked input calls s t o u p q
one_of_cases laws asked input calls s t o u (inr (inl p)) (inl q) = absurd (q.1 (networked_command asked p.1))
one_of_cases laws asked input calls s t o u (inr (inr (inl p))) (inl q) = absurd (q.1 (networked_command asked p.1))
one_of_cases laws asked input calls s t o u (inr (inr (inr (inl p)))) (inl q) = absurd (q.1 (networked_command asked (of_node asked p.1.name p.1.asks)))
one_of_cases laws asked input calls s t o u (inr (inr (inr (inr p)))) (inl q) = absurd (q.1 (networked_command asked (is_networked asked input calls s o p)))
one_of_cases laws asked input calls s t o u (inr (inr (inl p))) (inr (inl q)) = absurd (omega (arith, q.2, p.2))
one_of_cases laws asked input calls s t o u (inr (inr (inr (inl p)))) (inr (inl q)) = absurd (omega (arith, q.2, p.1.within))
one_of_cases laws asked input calls s t o u (inr (inr (inr (inr p)))) (inr (inl q)) =
    let within : length (network_text input) ≤ network_limit = within_case asked input calls s o p in
    absurd (omega (arith, q.2, within))
one_of_cases laws asked input calls s t o u (inr (inr (inr (inl p)))) (inr (inr (inl q))) =
    absurd (not_accepted (network_text input) u q.3 (p.1.net, p.1.reads))
one_of_cases laws asked input calls s t o u (inr (inr (inr (inr p)))) (inr (inr (inl q))) =
    absurd (not_accepted (network_text input) u q.3 (accepted_case asked input calls s o p))
one_of_cases laws asked input calls s t o u (inr (inr (inr (inr p)))) (inr (inr (inr (inl q)))) =
    absurd (missing_case asked input calls s o q.1 p)

-- of a command that stands alone
one_alone_answer : (asked : CommandLine) (input : List ℕ) (calls : List LinkCall) (s t : Status) (o u : List ℕ) → AloneAnswer asked input calls s o
    → AloneAnswer asked input calls t u → AreOne s t o u
one_alone_answer asked input calls s t o u p q =
    (facts_of p.0).one input calls s t o u p.2 (subst (λ (a : Alone). (alone_meaning a).answers input calls t u) (one_alone asked q.0 p.0 q.1 p.1) q.2)

-- words on a network, and none, are no command that stands alone
not_both : (asked : CommandLine) (input : List ℕ) (calls : List LinkCall) (s : Status) (o : List ℕ) (alone : Alone) → Cases asked input calls s o
    → IsAlone asked alone → ⊥
not_both asked input calls s o alone (inl p) is = p.1 (alone_command asked alone is)
not_both asked input calls s o alone (inr (inl p)) is = alone_unnetworked asked alone is p.1
not_both asked input calls s o alone (inr (inr (inl p))) is = alone_unnetworked asked alone is p.1
not_both asked input calls s o alone (inr (inr (inr (inl p)))) is = alone_unnetworked asked alone is (of_node asked p.1.name p.1.asks)
not_both asked input calls s o alone (inr (inr (inr (inr p)))) is = alone_unnetworked asked alone is (is_networked asked input calls s o p)

-- for words, an input and calls one status and one text are expected
pub one_answer : OneLaws → (asked : CommandLine) (input : List ℕ) (calls : List LinkCall) (s t : Status) (o u : List ℕ) → Answer asked input calls s o
    → Answer asked input calls t u → AreOne s t o u
one_answer laws asked input calls s t o u p q =
    elim (cases_of asked input calls s o p) [
      | inl a ↦ elim (cases_of asked input calls t u q) [
        | inl b ↦ one_of_cases laws asked input calls s t o u a b
        | inr b ↦ absurd (not_both asked input calls s o b.0 a b.1)
      ]
      | inr a ↦ elim (cases_of asked input calls t u q) [
        | inl b ↦ absurd (not_both asked input calls t u a.0 b a.1)
        | inr b ↦ one_alone_answer asked input calls s t o u a b
      ]
    ]

-- What is expected for no call is expected for any, except for a command that stands alone

uncalled_case : (asked : CommandLine) (input : List ℕ) (calls : List LinkCall) (s : Status) (o : List ℕ) → Cases asked input [] s o
    → Cases asked input calls s o
uncalled_case asked input calls s o (inl p) = inl p
uncalled_case asked input calls s o (inr (inl p)) = inr (inl p)
uncalled_case asked input calls s o (inr (inr (inl p))) = inr (inr (inl p))
uncalled_case asked input calls s o (inr (inr (inr (inl p)))) = inr (inr (inr (inl p)))
uncalled_case asked input calls s o (inr (inr (inr (inr (inl p))))) = inr (inr (inr (inr (inl p))))
uncalled_case asked input calls s o (inr (inr (inr (inr (inr p))))) =
    absurd (told_calls p.0 p.1 (behind_separator (lines_of input)) s o p.3)

-- one status and one text are expected for some calls, and for none
one_uncalled : OneLaws → (asked : CommandLine) (input : List ℕ) (calls : List LinkCall) (s t : Status) (o u : List ℕ) → Answer asked input calls s o
    → Answer asked input [] t u → AreOne s t o u
one_uncalled laws asked input calls s t o u p q =
    elim (cases_of asked input calls s o p) [
      | inl a ↦ elim (cases_of asked input [] t u q) [
        | inl b ↦ one_of_cases laws asked input calls s t o u a (uncalled_case asked input calls t u b)
        | inr b ↦ absurd (not_both asked input calls s o b.0 a b.1)
      ]
      | inr a ↦
          let none : calls ≡ [] = (facts_of a.0).uncalled input calls s o a.2 in
          one_answer laws asked input [] s t o u (subst (λ (c : List LinkCall). Answer asked input c s o) none p) q
    ]

-- a status that is no other than an answer
pub answered : (status : Status) → (is_answer status ≡ false → ⊥) → is_answer status ≡ true
answered ReadFault other = absurd (other refl)
answered WriteFault other = absurd (other refl)
answered LinkFault other = absurd (other refl)
answered OutOfMemory other = absurd (other refl)
answered _ other = refl

-- how a run ends gives what it answered, if the input is reported
abbrev pub Given : Run → Status → List ℕ → Type 0
Given run status input = (octets : List ℕ) × (calls : List LinkCall) × Wrote run octets × Called run calls × Answer run.asked input calls status octets

given_by : (run : Run) (status : Status) (input octets : List ℕ) (calls : List LinkCall) → run.source.before ≡ Some input → Wrote run octets → Called run calls
    → IfSome run.source.before (λ input. Answer run.asked input calls status octets) → Given run status input
given_by run status input octets calls told wrote called has =
    (octets, calls, wrote, called, subst (λ (i : Option (List ℕ)). IfSome i (λ input. Answer run.asked input calls status octets)) told has)

pub given_of : (run : Run) (status : Status) (input : List ℕ) → run.source.before ≡ Some input → Ends run status → is_answer status ≡ true
    → Given run status input
given_of run Done input told ends is = given_by run Done input ends.0.1 ends.0.2 told ends.0.3 ends.0.4 ends.0.5
given_of run Usage input told ends is = (
  run.asked.usage,
  [],
  ends.0,
  ends.2,
  elim ends.1 [
    | inl none ↦ (inl none, refl, refl)
    | inr some ↦ (inr (subst (λ (i : Option (List ℕ)). IfSome i (λ input. AsksNone run.asked (network_text input))) told some.1), refl, refl)
  ],
)
given_of run BadNetwork input told ends is = given_by run BadNetwork input ends.1 ends.2 told ends.3 ends.4 ends.5
given_of run BadTrace input told ends is = given_by run BadTrace input ends.0.1 ends.0.2 told ends.0.3 ends.0.4 ends.0.5
given_of run TooLarge input told ends is = given_by run TooLarge input ends.1 ends.2 told ends.3 ends.4 ends.5
given_of run Broken input told ends is = given_by run Broken input ends.0.1 ends.0.2 told ends.0.3 ends.0.4 ends.0.5
given_of run BadCapture input told ends is = given_by run BadCapture input ends.0.1 ends.0.2 told ends.0.3 ends.0.4 ends.0.5
given_of run BadCalib input told ends is = given_by run BadCalib input ends.0.1 ends.0.2 told ends.0.3 ends.0.4 ends.0.5
given_of run LinkFault input told ends is = absurd (cc)
given_of run ReadFault input told ends is = absurd (cc)
given_of run WriteFault input told ends is = absurd (cc)
given_of run OutOfMemory input told ends is = absurd (cc)

-- what is expected if the source reports the input
abbrev pub DueIs : Run → Status → List LinkCall → Status → List ℕ → Type 0
DueIs run answered calls status octets =
    IfSome run.source.before (λ input. Answer run.asked input calls status octets → (answered ≡ status) × Appends run.sink.before run.sink.now octets)

-- the calls that a link reports are the calls that were made
own_calls : (run : Run) (calls made : List LinkCall) → Called run made → IsToldOf run.link calls → (calls ≡ made) ⊎ (calls ≡ [])
own_calls run calls made called (inl none) = inr none
own_calls run calls made called (inr (told, before, now)) =
    let all : Some (told ++ calls) ≡ Some (told ++ made) = sym now ∙ called ∙ ap (option_map (λ (own : List LinkCall). own ++ made)) before in
    inl (append_cancel_left told calls made (same_Some (told ++ calls) (told ++ made) all))

-- if the source reports the input, what is expected is what was answered and written
pub told_one : OneLaws → (run : Run) (answered status : Status) (octets : List ℕ) (calls : List LinkCall) → Ends run answered → is_answer answered ≡ true
    → IsToldOf run.link calls → DueIs run answered calls status octets
told_one laws run answered status octets calls ends is tells = go run.source.before refl
  where
    go : (told : Option (List ℕ)) → run.source.before ≡ told
        → IfSome told (λ input. Answer run.asked input calls status octets → (answered ≡ status) × Appends run.sink.before run.sink.now octets)
    go None told = tt
    go (Some input) told =
        λ other.
        let given = given_of run answered input told ends is in
        let same : AreOne answered status given.0 octets = elim (own_calls run calls given.1 given.3 tells) [
          | inl own ↦ one_answer laws run.asked input given.1 answered status given.0 octets given.4 (subst (λ (c : List LinkCall). Answer run.asked input c status octets) own other)
          | inr none ↦ one_uncalled laws run.asked input given.1 answered status given.0 octets given.4 (subst (λ (c : List LinkCall). Answer run.asked input c status octets) none other)
        ] in
        (same.0, subst (λ (o : List ℕ). Appends run.sink.before run.sink.now o) same.1 given.2)

-- without a fault and with memory a run ends with an answer
pub ends_answered : (run : Run) (status : Status) → Ends run status → (status ≡ OutOfMemory → ⊥) → (Failed run.source → ⊥) → (Failed run.sink → ⊥)
    → (Failed run.link → ⊥) → is_answer status ≡ true
ends_answered run ReadFault ends memory reads writes links = absurd (reads ends.0)
ends_answered run WriteFault ends memory reads writes links = absurd (writes ends.0)
ends_answered run OutOfMemory ends memory reads writes links = absurd (memory refl)
ends_answered run LinkFault ends memory reads writes links = absurd (links ends.0)
ends_answered run _ ends memory reads writes links = refl
