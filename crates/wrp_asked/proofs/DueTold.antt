-- What a run wrote is what is expected for what is asked, its input, the calls of its link and its status, for every
-- command on a network; if the sink failed, the first octets of what is expected for another status.
use Rattle.std.proofs.Common.{◌≡◌, ◌⊎◌, inl, inr, sym, subst, ℕ, Option, None, Some, IfSome, List, [], ◌++◌}
use Rattle.std.specs.Io.KnownBytes.{Appends, Consumes}
use Rattle.wrp_commands.specs.Request.{CommandLine, Networked}
use Rattle.wrp_commands.specs.Request as requests
use Rattle.wrp_records.specs.declared.status.Status.{Status}
use Rattle.wrp_records.specs.declared.status.Status.TheVariants.{Done, Usage, BadNetwork, BadTrace, Broken, ReadFault, WriteFault, LinkFault, TooLarge, OutOfMemory, BadCapture, BadCalib}
use Rattle.wrp_io.specs.declared.link.LinkCall.{LinkCall}
use Rattle.wrp_asked.specs.Answer.{Answer, AsksNone, CutAnswer, CutTask, FirstAnswer, IsCommand, LoopAnswer, LoopBroken, PartAnswer, RecordsDue}
use Rattle.wrp_asked.specs.Ends.{Answered, Called, Ends, Run}
use Rattle.wrp_asked.specs.Headline.{Prints, ReachesNone}
use Rattle.wrp_asked.specs.Input.{behind_separator, network_text}
use Rattle.wrp_records.specs.Lines.{lines_of}
use Rattle.wrp_records.specs.RecordsAnswer.{RecordsAnswer, StandsFirst}
use Rattle.wrp_asked.specs.Tasks.{Task, AsksFor, IsOnNetwork, meaning_at}
use Rattle.wrp_asked.proofs.WordLemmas.{alone_unnetworked, networked_command, one_command}

-- what is expected for an input, the calls of a link and a status
abbrev pub DueFor : Type 1
DueFor = List ℕ → List LinkCall → Status → List ℕ → Type 0

-- so it is for a command on a network, by the ways in which its run may end: its node is missing; no record is reached;
-- its records decide, all of them, or the first if memory ran out or the source failed; and the calls of its link
-- decide, all of them, or the first if memory ran out or a call failed
pub record IsDueSo (asked : CommandLine) (Due : DueFor) : Type 0 where
  pub command : Networked
  pub on : IsOnNetwork asked command
  pub no_node : (input : List ℕ) → AsksNone asked (network_text input) → Due input [] Usage asked.usage
  pub none : (input : List ℕ) (status : Status) (octets : List ℕ) → ReachesNone input status octets → Due input [] status octets
  pub task :
      (input : List ℕ) (status : Status) (octets : List ℕ) (task : Task) → AsksFor asked (network_text input) task →
      RecordsAnswer (meaning_at task) (behind_separator (lines_of input)) status octets → Due input [] status octets
  pub first :
      (input octets : List ℕ) (task : Task) → AsksFor asked (network_text input) task →
      StandsFirst (meaning_at task) (behind_separator (lines_of input)) octets → Due input [] OutOfMemory octets
  pub cut : (input taken left octets : List ℕ) → input ≡ taken ++ left → CutTask asked taken octets → Due input [] ReadFault octets
  pub linked :
      (input : List ℕ) (calls : List LinkCall) (status : Status) (octets : List ℕ) → LoopAnswer asked input calls status octets →
      Due input calls status octets
  pub short : (input : List ℕ) (calls : List LinkCall) (octets : List ℕ) → LoopBroken asked input calls OutOfMemory octets → Due input calls OutOfMemory octets
  pub failed : (input : List ℕ) (calls : List LinkCall) (octets : List ℕ) → LoopBroken asked input calls LinkFault octets → Due input calls LinkFault octets

-- a command that calls no link has no run over one
pub not_linked : (asked : CommandLine) (command : Networked) → IsOnNetwork asked command → ((seed : ℕ) → command ≡ requests.Loop seed → ⊥) → (seed : ℕ)
    → IsOnNetwork asked (requests.Loop seed) → ⊥
not_linked asked command on other seed looping = other seed (one_command asked command (requests.Loop seed) on looping)

usage_due : (asked : CommandLine) (input : List ℕ) (Due : DueFor) → IsDueSo asked Due → ((IsCommand asked → ⊥) ⊎ AsksNone asked (network_text input))
    → Due input [] Usage asked.usage
usage_due asked input Due so (inl none) = absurd (none (networked_command asked (so.command, so.on)))
usage_due asked input Due so (inr none) = so.no_node input none

-- if no link was called
uncalled : (Due : DueFor) (input : List ℕ) (calls : List LinkCall) (status : Status) (octets : List ℕ) → calls ≡ [] → Due input [] status octets
    → Due input calls status octets
uncalled Due input calls status octets none due = subst (λ (c : List LinkCall). Due input c status octets) (sym none) due

records_due : (asked : CommandLine) (input : List ℕ) (calls : List LinkCall) (status : Status) (octets : List ℕ) (Due : DueFor) → IsDueSo asked Due
    → RecordsDue asked input calls status octets → Due input calls status octets
records_due asked input calls status octets Due so (inl task) = uncalled Due input calls status octets task.3 (so.task input status octets task.0 task.1 task.2)
records_due asked input calls status octets Due so (inr (inl alone)) = absurd (alone_unnetworked asked alone.0 alone.1 (so.command, so.on))
records_due asked input calls status octets Due so (inr (inr looped)) = so.linked input calls status octets looped

pub answer_due : (asked : CommandLine) (input : List ℕ) (calls : List LinkCall) (status : Status) (octets : List ℕ) (Due : DueFor) → IsDueSo asked Due
    → Answer asked input calls status octets → Due input calls status octets
answer_due asked input calls Usage octets Due so h =
    uncalled Due input calls Usage octets h.2 (subst (Due input [] Usage) (sym h.1) (usage_due asked input Due so h.0))
answer_due asked input calls BadNetwork octets Due so h = elim h [
  | inl bad ↦ uncalled Due input calls BadNetwork octets bad.3 (so.none input BadNetwork octets (bad.1, bad.2))
  | inr alone ↦ absurd (alone_unnetworked asked alone.0 alone.1 (so.command, so.on))
]
answer_due asked input calls TooLarge octets Due so h = elim h [
  | inl long ↦ uncalled Due input calls TooLarge octets long.3 (so.none input TooLarge octets (long.1, long.2))
  | inr task ↦ records_due asked input calls TooLarge octets Due so task
]
answer_due asked input calls status octets Due so h = records_due asked input calls status octets Due so h

first_due : (asked : CommandLine) (input : List ℕ) (calls : List LinkCall) (octets : List ℕ) (Due : DueFor) → IsDueSo asked Due
    → FirstAnswer asked input calls octets → Due input calls OutOfMemory octets
first_due asked input calls octets Due so (inl none) = uncalled Due input calls OutOfMemory octets none.1 (so.none input OutOfMemory octets none.0)
first_due asked input calls octets Due so (inr (inl h)) = uncalled Due input calls OutOfMemory octets h.3 (so.first input octets h.0 h.1 h.2)
first_due asked input calls octets Due so (inr (inr (inl alone))) = absurd (alone_unnetworked asked alone.0 alone.1 (so.command, so.on))
first_due asked input calls octets Due so (inr (inr (inr looped))) = so.short input calls octets looped

part : (asked : CommandLine) (input : List ℕ) (calls : List LinkCall) (octets : List ℕ) (Due : DueFor) → IsDueSo asked Due → PartAnswer asked input calls octets
    → Prints (Due input calls) WriteFault octets
part asked input calls octets Due so h = elim h.3 [
  | inl answer ↦ (answer.0, h.0, h.1, h.2, answer_due asked input calls answer.0 h.0 Due so answer.1)
  | inr first ↦ (OutOfMemory, h.0, h.1, h.2, first_due asked input calls h.0 Due so first)
]

cut_answer : (asked : CommandLine) (input taken left octets : List ℕ) (Due : DueFor) → IsDueSo asked Due → input ≡ taken ++ left → CutAnswer asked taken octets
    → Due input [] ReadFault octets
cut_answer asked input taken left octets Due so all (inl h) = elim h.1 [
  | inl none ↦ so.none input ReadFault octets none.1
  | inr cut ↦ so.cut input taken left octets all cut
]
cut_answer asked input taken left octets Due so all (inr alone) = absurd (alone_unnetworked asked alone.0 alone.1 (so.command, so.on))

consumed : (asked : CommandLine) (input taken octets : List ℕ) (left : Option (List ℕ)) (Due : DueFor) → IsDueSo asked Due → Consumes (Some input) left taken
    → CutAnswer asked taken octets → Due input [] ReadFault octets
consumed asked input taken octets None Due so took h = absurd took
consumed asked input taken octets (Some left) Due so took h = cut_answer asked input taken left octets Due so took h

-- A run

-- a run wrote some octets, and these calls of its link decide them
abbrev pub PrintsDue : DueFor → Run → Status → List ℕ → Type 0
PrintsDue Due run status input =
    (octets : List ℕ) × (calls : List LinkCall) × Appends run.sink.before run.sink.now octets × Called run calls × Prints (Due input calls) status octets

answered : (run : Run) (input : List ℕ) (status : Status) (Due : DueFor) → IsDueSo run.asked Due → run.source.before ≡ Some input → (h : Answered run status)
    → Due input h.2 status h.1
answered run input status Due so is h =
    answer_due run.asked input h.2 status h.1 Due so (subst (λ (o : Option (List ℕ)). IfSome o (λ (i : List ℕ). Answer run.asked i h.2 status h.1)) is h.5)

pub prints : (run : Run) (input : List ℕ) (status : Status) (Due : DueFor) → IsDueSo run.asked Due → run.source.before ≡ Some input → Ends run status
    → PrintsDue Due run status input
prints run input Done Due so is h = (h.0.1, h.0.2, h.0.3, h.0.4, answered run input Done Due so is h.0)
prints run input BadNetwork Due so is h = (h.1, h.2, h.3, h.4, answered run input BadNetwork Due so is h)
prints run input TooLarge Due so is h = (h.1, h.2, h.3, h.4, answered run input TooLarge Due so is h)
prints run input BadTrace Due so is h = (h.0.1, h.0.2, h.0.3, h.0.4, answered run input BadTrace Due so is h.0)
prints run input Broken Due so is h = (h.0.1, h.0.2, h.0.3, h.0.4, answered run input Broken Due so is h.0)
prints run input Usage Due so is h = elim h.1 [
  | inl none ↦ absurd (none (networked_command run.asked (so.command, so.on)))
  | inr node ↦ (run.asked.usage, [], h.0, h.2, so.no_node input (subst (λ (o : Option (List ℕ)). IfSome o (λ (i : List ℕ). AsksNone run.asked (network_text i))) is node.1))
]
prints run input ReadFault Due so is h =
    (h.2, [], h.4, h.6, consumed run.asked input h.1 h.2 run.source.now Due so (subst (λ (o : Option (List ℕ)). Consumes o run.source.now h.1) is h.3) h.5)
prints run input WriteFault Due so is h =
    (h.1, h.2, h.3, h.4, part run.asked input h.2 h.1 Due so (subst (λ (o : Option (List ℕ)). IfSome o (λ (i : List ℕ). PartAnswer run.asked i h.2 h.1)) is h.5))
prints run input OutOfMemory Due so is h =
    (h.0, h.1, h.2, h.3, first_due run.asked input h.1 h.0 Due so (subst (λ (o : Option (List ℕ)). IfSome o (λ (i : List ℕ). FirstAnswer run.asked i h.1 h.0)) is h.4))
prints run input LinkFault Due so is h =
    (h.3, h.4, h.5, h.6, so.failed input h.4 h.3 (subst (λ (o : Option (List ℕ)). IfSome o (λ (i : List ℕ). LoopBroken run.asked i h.4 LinkFault h.3)) is h.7))
prints run input BadCapture Due so is h = absurd (alone_unnetworked run.asked h.2.0 h.2.1 (so.command, so.on))
prints run input BadCalib Due so is h = absurd (alone_unnetworked run.asked h.1.0 h.1.1 (so.command, so.on))
