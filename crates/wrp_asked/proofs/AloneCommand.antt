-- What is shown of each command that stands alone, for all that is said of it above.
use Rattle.std.proofs.Common.{◌≡◌, ◌⊎◌, refl, true, ℕ, List, [], ◌++◌, take}
use Rattle.wrp_io.specs.declared.link.LinkCall.{LinkCall}
use Rattle.wrp_records.specs.RecordsAnswer.{HasAnswer}
use Rattle.wrp_records.specs.ByLines.{of_lines}
use Rattle.wrp_records.specs.LineMeaning.{LineMeaning}
use Rattle.wrp_records.specs.Lines.{lines_of}
use Rattle.wrp_records.specs.Meaning.{Meaning}
use Rattle.wrp_records.specs.declared.status.Status.{Status}
use Rattle.wrp_records.specs.declared.status.Status.TheVariants.{Usage, ReadFault, WriteFault, LinkFault, OutOfMemory}
use Rattle.wrp_records.specs.Statuses.{is_answer}
use Rattle.wrp_commands.specs.declared.alone.Alone.{Alone}
use Rattle.wrp_asked.specs.Alone.{HasAim, MayAnswer, alone_meaning}

-- lines that are answered are the answer to the input, and no link is called
pub by_lines : (M : LineMeaning) (input : List ℕ) → HasAnswer M (lines_of input)
    → (status : Status) × (octets : List ℕ) × (of_lines M).answers input [] status octets
by_lines M input due = (due.0, due.1, (refl, due.2))

-- the first records of an input write this, or nothing is written
abbrev pub IsFirstOf : Meaning → List ℕ → List ℕ → Type 0
IsFirstOf M input octets = (octets ≡ []) ⊎ ((calls : List LinkCall) × M.first input calls octets)

-- the first octets of an expected answer, or of what the first records write
abbrev pub IsPartOf : Meaning → List ℕ → List ℕ → Type 0
IsPartOf M input octets =
    (whole : List ℕ) × (count : ℕ) × (octets ≡ take count whole)
    × (((status : Status) × M.answers input [] status whole) ⊎ IsFirstOf M input whole)

-- what a run left of an input: an expected answer, or what is written if the source failed, if memory ran out, or if a
-- write failed; no link fails
pub record Leaves (M : Meaning) (input : List ℕ) (status : Status) (octets : List ℕ) : Type 0 where
  pub answer : is_answer status ≡ true → M.answers input [] status octets
  pub cut : status ≡ ReadFault → (taken : List ℕ) × (left : List ℕ) × (input ≡ taken ++ left) × M.cut taken octets
  pub first : status ≡ OutOfMemory → IsFirstOf M input octets
  pub part : status ≡ WriteFault → IsPartOf M input octets
  pub linked : status ≡ LinkFault → ⊥

-- for an input and some calls one status and one text are expected, the calls are none, and the status is one of its
-- own; for each input some are expected; no link fails; and what a run left has the aim
pub record IsAloneCommand (alone : Alone) : Type 0 where
  pub one :
      (input : List ℕ) (calls : List LinkCall) (s t : Status) (o u : List ℕ) → (alone_meaning alone).answers input calls s o →
      (alone_meaning alone).answers input calls t u → (s ≡ t) × (o ≡ u)
  pub uncalled :
      (input : List ℕ) (calls : List LinkCall) (status : Status) (octets : List ℕ) → (alone_meaning alone).answers input calls status octets → calls ≡ []
  pub unlinked : (input octets : List ℕ) → (alone_meaning alone).unlinked input [] octets → ⊥
  pub no_usage : (input octets : List ℕ) → (alone_meaning alone).answers input [] Usage octets → ⊥
  pub answered : (input : List ℕ) → (status : Status) × (octets : List ℕ) × (alone_meaning alone).answers input [] status octets
  pub may : (input : List ℕ) (status : Status) (octets : List ℕ) → (alone_meaning alone).answers input [] status octets → MayAnswer alone status
  pub aim : (input : List ℕ) (status : Status) (octets : List ℕ) → Leaves (alone_meaning alone) input status octets → HasAim alone input status octets
