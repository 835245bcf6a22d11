-- What is expected for the record lines of an input: one status and the octets that are written
-- (this project's profile).
use Rattle.std.specs.Prelude.{◌≡◌, ◌⊎◌, ℕ, ◌+◌, ◌<◌, List, ◌∷◌, ◌++◌, length, map}
use Rattle.wrp_records.specs.declared.machine.Refusal.{Refusal}
use Rattle.wrp_records.specs.declared.machine.Refusal.TheVariants as refusals
use Rattle.wrp_records.specs.declared.status.Status.{Status}
use Rattle.wrp_records.specs.declared.status.Status.TheVariants.{Done, BadTrace, Broken, TooLarge, OutOfMemory, BadCalib}
use Rattle.wrp_records.specs.Lines.{content_of}
use Rattle.wrp_records.specs.LineMeaning.{LineMeaning}
use Rattle.wrp_records.specs.Stream.{Handles, IsWithin, IsTooLarge, number_limit, large_line}

-- all lines are records: they write this, and then this is written at the end
pub record IsWholly (M : LineMeaning) (lines : List (List ℕ)) (octets : List ℕ) : Type 0 where
  pub written : List ℕ
  pub last : List ℕ
  pub handled : Handles M.accepts lines written
  pub closed : M.closes (map content_of lines) last
  pub is : octets ≡ written ++ last

-- the first line that is no record is refused in this way
pub record IsRefused (M : LineMeaning) (refusal : Refusal) (lines : List (List ℕ)) (octets : List ℕ)
    : Type 0 where
  pub before : List (List ℕ)
  pub line : List ℕ
  pub behind : List (List ℕ)
  pub written : List ℕ
  pub last : List ℕ
  pub divided : lines ≡ before ++ line ∷ behind
  pub handled : Handles M.accepts before written
  pub within : IsWithin line
  pub number : length before + 1 < number_limit
  pub refused : M.refuses (map content_of before) (content_of line) refusal last
  pub is : octets ≡ written ++ last

-- the first line that is no record is too large, or has too great a number
pub record IsLarge (M : LineMeaning) (lines : List (List ℕ)) (octets : List ℕ) : Type 0 where
  pub before : List (List ℕ)
  pub line : List ℕ
  pub behind : List (List ℕ)
  pub written : List ℕ
  pub divided : lines ≡ before ++ line ∷ behind
  pub handled : Handles M.accepts before written
  pub large : IsTooLarge line (length before)
  pub is : octets ≡ written ++ large_line (length before + 1)

-- all lines are records: they write this, and what is written at the end breaks off with a status
pub record BreaksOff (M : LineMeaning) (status : Status) (lines : List (List ℕ)) (octets : List ℕ)
    : Type 0 where
  pub written : List ℕ
  pub last : List ℕ
  pub handled : Handles M.accepts lines written
  pub broken : M.breaks_off (map content_of lines) status last
  pub is : octets ≡ written ++ last

-- the expected answer to the record lines
abbrev pub RecordsAnswer : LineMeaning → List (List ℕ) → Status → List ℕ → Type 0
RecordsAnswer M lines Done octets = IsWholly M lines octets
RecordsAnswer M lines BadTrace octets = IsRefused M refusals.BadTrace lines octets
RecordsAnswer M lines Broken octets = IsRefused M refusals.Broken lines octets
RecordsAnswer M lines TooLarge octets =
    IsLarge M lines octets ⊎ BreaksOff M TooLarge lines octets
RecordsAnswer M lines BadCalib octets = BreaksOff M BadCalib lines octets
RecordsAnswer M lines _ octets = ⊥

-- the first so many lines are records, and write this
pub record AreFirst (M : LineMeaning) (lines : List (List ℕ)) (octets : List ℕ) : Type 0 where
  pub front : List (List ℕ)
  pub behind : List (List ℕ)
  pub divided : lines ≡ front ++ behind
  pub handled : Handles M.accepts front octets

-- what the first so many records write; or what all records write, and the first part of what is
-- written at the end
abbrev pub StandsFirst : LineMeaning → List (List ℕ) → List ℕ → Type 0
StandsFirst M lines octets = AreFirst M lines octets ⊎ BreaksOff M OutOfMemory lines octets

-- for record lines of this meaning some status and octets are expected
abbrev pub HasAnswer : LineMeaning → List (List ℕ) → Type 0
HasAnswer M lines = (status : Status) × (octets : List ℕ) × RecordsAnswer M lines status octets
