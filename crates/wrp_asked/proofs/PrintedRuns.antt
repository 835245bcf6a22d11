-- What a run wrote of an audit, a simulation or a run over a link has no track line past its bound: one of these is asked for, or what
-- is written has no track line.
use Rattle.std.proofs.Common.{◌≡◌, ◌⊎◌, inl, inr, refl, subst, ℕ, Option, None, Some, IfSome, List, take}
use Rattle.std.specs.List.{AllByRecursion}
use Rattle.wrp_audit.specs.AuditLaws.{OneAudit}
use Rattle.wrp_network_text.specs.SameAnswer.{ReadingIsAccepted}
use Rattle.wrp_io.specs.declared.link.LinkCall.{LinkCall}
use Rattle.wrp_loop.specs.Laws.{LoopIsAudited}
use Rattle.wrp_records.specs.declared.status.Status.{Status}
use Rattle.wrp_records.specs.declared.status.Status.TheVariants.{Done, Usage, BadNetwork, BadTrace, Broken, ReadFault, WriteFault, LinkFault, TooLarge, OutOfMemory, BadCapture, BadCalib}
use Rattle.wrp_records.specs.Lines.{lines_of}
use Rattle.wrp_commands.specs.Request.{CommandLine}
use Rattle.wrp_commands.specs.Request as requests
use Rattle.wrp_asked.specs.Answer.{Answer, CutAnswer, FirstAnswer, IsCommand, PartAnswer, RecordsDue}
use Rattle.wrp_asked.specs.AnswerLaws.{PrintsWithinBounds, RunsPrintWithinBounds}
use Rattle.wrp_asked.specs.EmitHeadline.{EmissionsTellNoTrack, HasPlainUsage, TellsNoTrack}
use Rattle.wrp_asked.specs.Ends.{AsksSome, Ends, Run, Wrote}
use Rattle.wrp_asked.specs.Headline.{EventsCarryParts}
use Rattle.wrp_asked.specs.Input.{network_text}
use Rattle.wrp_asked.specs.LoopHeadline.{LoopedEventsCarryParts}
use Rattle.wrp_asked.specs.PrintedTracks.{ReportsOffsets}
use Rattle.wrp_asked.specs.SimHeadline.{MadeEventsCarryParts}
use Rattle.wrp_asked.specs.Tasks.{Loop}
use Rattle.wrp_asked.proofs.Asking.{networked_of}
use Rattle.wrp_asked.proofs.EmitTold.{IsEmittedSo, emission_told}
use Rattle.wrp_asked.proofs.HeadlineTold.{IsTold, headline_told}
use Rattle.wrp_asked.proofs.LoopTold.{IsLoopedSo, looped_told}
use Rattle.wrp_asked.proofs.LastLines.{no_line, told_as}
use Rattle.wrp_asked.proofs.NoTrack.{in_front}
use Rattle.wrp_asked.proofs.PrintedTracks.{audit_within, inputs_within, looped_within, simulation_within, untold_within}
use Rattle.wrp_asked.proofs.SimTold.{IsMadeSo, simulation_told}
use Rattle.wrp_asked.proofs.TakenLines.{taken_lines}
use Rattle.wrp_asked.proofs.WordLemmas.{alone_command, networked_command}

-- A command, or a text without track lines

-- a command is asked for, or what was written has no track line
abbrev IsUntold : CommandLine → List ℕ → Type 0
IsUntold asked octets = IsCommand asked ⊎ AllByRecursion TellsNoTrack (lines_of octets)

records_due : (asked : CommandLine) (input : List ℕ) (calls : List LinkCall) (status : Status) (octets : List ℕ) → RecordsDue asked input calls status octets
    → IsCommand asked
records_due asked input calls status octets (inl task) = networked_command asked (networked_of asked (network_text input) task.0 task.1)
records_due asked input calls status octets (inr (inl alone)) = alone_command asked alone.0 alone.1
records_due asked input calls status octets (inr (inr looped)) =
    networked_command asked (networked_of asked (network_text input) (Loop looped.0 looped.1) looped.2)

answer_due : (asked : CommandLine) (input : List ℕ) (calls : List LinkCall) (status : Status) (octets : List ℕ) → HasPlainUsage asked
    → Answer asked input calls status octets → IsUntold asked octets
answer_due asked input calls Usage octets plain h = inr (told_as TellsNoTrack octets asked.usage h.1 plain)
answer_due asked input calls BadNetwork octets plain h = elim h [ inl bad ↦ inl (networked_command asked bad.0) | inr alone ↦ inl (alone_command asked alone.0 alone.1) ]
answer_due asked input calls TooLarge octets plain h = elim h [ inl long ↦ inl (networked_command asked long.0) | inr due ↦ inl (records_due asked input calls TooLarge octets due) ]
answer_due asked input calls status octets plain h = inl (records_due asked input calls status octets h)

first_due : (asked : CommandLine) (input : List ℕ) (calls : List LinkCall) (octets : List ℕ) → FirstAnswer asked input calls octets → IsUntold asked octets
first_due asked input calls octets (inl none) = inr (no_line TellsNoTrack octets none.0)
first_due asked input calls octets (inr (inl task)) = inl (networked_command asked (networked_of asked (network_text input) task.0 task.1))
first_due asked input calls octets (inr (inr (inl alone))) = inl (alone_command asked alone.0 alone.1)
first_due asked input calls octets (inr (inr (inr looped))) =
    inl (networked_command asked (networked_of asked (network_text input) (Loop looped.0 looped.1) looped.2))

-- of the first octets of a text
taken_due : (asked : CommandLine) (due octets : List ℕ) (count : ℕ) → octets ≡ take count due → IsUntold asked due → IsUntold asked octets
taken_due asked due octets count is (inl command) = inl command
taken_due asked due octets count is (inr told) = inr (told_as TellsNoTrack octets (take count due) is (taken_lines TellsNoTrack in_front due count told))

part_due : (asked : CommandLine) (input : List ℕ) (calls : List LinkCall) (octets : List ℕ) → HasPlainUsage asked → PartAnswer asked input calls octets
    → IsUntold asked octets
part_due asked input calls octets plain h =
    taken_due asked h.0 octets h.1 h.2
    (elim h.3 [ inl answer ↦ answer_due asked input calls answer.0 h.0 plain answer.1 | inr first ↦ first_due asked input calls h.0 first ])

cut_due : (asked : CommandLine) (taken octets : List ℕ) → CutAnswer asked taken octets → IsCommand asked
cut_due asked taken octets (inl networked) = networked_command asked networked.0
cut_due asked taken octets (inr alone) = alone_command asked alone.0 alone.1

some_asked : (asked : CommandLine) (status : Status) → AsksSome asked status → IsCommand asked
some_asked asked status (inl networked) = networked_command asked networked
some_asked asked status (inr alone) = alone_command asked alone.0 alone.1

-- A run

abbrev WritesUntold : Run → Type 0
WritesUntold run = (octets : List ℕ) × Wrote run octets × AllByRecursion TellsNoTrack (lines_of octets)

written : (run : Run) (octets : List ℕ) → Wrote run octets → IsUntold run.asked octets → IsCommand run.asked ⊎ WritesUntold run
written run octets wrote (inl command) = inl command
written run octets wrote (inr told) = inr (octets, wrote, told)

ends_told : (run : Run) (input : List ℕ) (status : Status) → run.source.before ≡ Some input → HasPlainUsage run.asked → Ends run status
    → IsCommand run.asked ⊎ WritesUntold run
ends_told run input Done is plain h = inl (some_asked run.asked Done h.0.0)
ends_told run input Usage is plain h = inr (run.asked.usage, h.0, plain)
ends_told run input BadNetwork is plain h = inl (some_asked run.asked BadNetwork h.0)
ends_told run input TooLarge is plain h = inl (some_asked run.asked TooLarge h.0)
ends_told run input BadTrace is plain h = inl (some_asked run.asked BadTrace h.0.0)
ends_told run input Broken is plain h = inl (some_asked run.asked Broken h.0.0)
ends_told run input BadCapture is plain h = inl (some_asked run.asked BadCapture h.0.0)
ends_told run input BadCalib is plain h = inl (some_asked run.asked BadCalib h.0.0)
ends_told run input ReadFault is plain h = inl (cut_due run.asked h.1 h.2 h.5)
ends_told run input WriteFault is plain h =
    written run h.1 h.3
    (part_due run.asked input h.2 h.1 plain (subst (λ (o : Option (List ℕ)). IfSome o (λ (i : List ℕ). PartAnswer run.asked i h.2 h.1)) is h.5))
ends_told run input OutOfMemory is plain h =
    written run h.0 h.2 (first_due run.asked input h.1 h.0 (subst (λ (o : Option (List ℕ)). IfSome o (λ (i : List ℕ). FirstAnswer run.asked i h.1 h.0)) is h.4))
ends_told run input LinkFault is plain h = inl (networked_command run.asked (requests.Loop h.1.0, h.1.1))

-- the laws of what each command writes
pub record PrintLaws : Type 0 where
  pub accepted : ReadingIsAccepted
  pub audits : EventsCarryParts
  pub inputs : EmissionsTellNoTrack
  pub simulations : MadeEventsCarryParts
  pub loops : LoopedEventsCarryParts
  pub one : OneAudit
  pub apart : LoopIsAudited

command_told : PrintLaws → (run : Run) (input : List ℕ) (status : Status) → run.source.before ≡ Some input → Ends run status → ReportsOffsets run.asked.request
    → HasPlainUsage run.asked → IsCommand run.asked → PrintsWithinBounds run
command_told laws run input status is ends reports plain (requests.OnNetwork requests.Audit, audits) =
    let told : IsTold run.asked run.sink.before run.sink.now status input =
    subst (λ (o : Option (List ℕ)). IfSome o (IsTold run.asked run.sink.before run.sink.now status)) is
    (headline_told laws.audits laws.one run status ends audits) in
    (told.0, told.1, audit_within laws.accepted run.asked input status told.0 told.2)
command_told laws run input status is ends reports plain (requests.OnNetwork (requests.Replay name), replay) = absurd (subst ReportsOffsets replay reports)
command_told laws run input status is ends reports plain (requests.OnNetwork (requests.Emit name), emits) =
    let told : IsEmittedSo run.asked run.sink.before run.sink.now status input =
    subst (λ (o : Option (List ℕ)). IfSome o (IsEmittedSo run.asked run.sink.before run.sink.now status)) is
    (emission_told laws.audits laws.inputs run status name ends plain emits) in
    (told.0, told.1, inputs_within run.asked input status told.0 told.2)
command_told laws run input status is ends reports plain (requests.OnNetwork (requests.Simulate seed), simulates) =
    let told : IsMadeSo run.asked run.sink.before run.sink.now status input =
    subst (λ (o : Option (List ℕ)). IfSome o (IsMadeSo run.asked run.sink.before run.sink.now status)) is
    (simulation_told laws.simulations run status seed ends simulates) in
    (told.0, told.1, simulation_within laws.accepted run.asked input status told.0 told.2)
command_told laws run input status is ends reports plain (requests.OnNetwork (requests.Loop seed), looping) =
    let told : IsLoopedSo run status input =
    subst (λ (o : Option (List ℕ)). IfSome o (IsLoopedSo run status)) is (looped_told laws.loops laws.apart run status seed ends looping) in
    (told.0, told.2, looped_within run.asked input told.1 status told.0 told.4)
command_told laws run input status is ends reports plain (requests.StandAlone alone, own) = absurd (subst ReportsOffsets own reports)

run_told : PrintLaws → (run : Run) (status : Status) (o : Option (List ℕ)) → run.source.before ≡ o → Ends run status → ReportsOffsets run.asked.request
    → HasPlainUsage run.asked → IfSome o (λ input. PrintsWithinBounds run)
run_told laws run status None is ends reports plain = tt
run_told laws run status (Some input) is ends reports plain = elim (ends_told run input status is plain ends) [
  | inl command ↦ command_told laws run input status is ends reports plain command
  | inr told ↦ (told.0, told.1, untold_within told.0 told.2)
]

pub runs_print_within_bounds : PrintLaws → RunsPrintWithinBounds
runs_print_within_bounds laws run status ends reports plain = run_told laws run status run.source.before refl ends reports plain
