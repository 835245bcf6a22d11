-- A reader of lines: what it holds of what it took, and whether the input ended (this project's
-- profile).
use Rattle.std.specs.Prelude.{◌≡◌, true, ℕ, ◌<◌, ◌≤◌, ◌⊎◌, Bool, Option, List, [], ◌++◌, length}
use Rattle.std.specs.Io.KnownBytes.{Consumes}
use Rattle.wrp_records.specs.Lines.{HasNoFeed, IsWhole}
use Rattle.wrp_records.specs.declared.reader.Next.{Next}
use Rattle.wrp_records.specs.declared.reader.Next.TheVariants.{Line, TooLong, Memory}

-- how many octets are asked for at a time
abbrev pub piece_limit : ℕ
piece_limit = 65_536

-- what a reader holds of what it took, and whether the source answered that nothing more comes
pub record ReaderAt : Type 0 where
  pub rest : List ℕ
  pub ended : Bool

-- the input ended, and nothing is held
pub record IsLast (r : ReaderAt) : Type 0 where
  pub ended : r.ended ≡ true
  pub none : r.rest ≡ []

-- the line has no LF, and nothing is held after it
pub record IsCut (line : List ℕ) (r : ReaderAt) : Type 0 where
  pub plain : HasNoFeed line
  pub none : r.rest ≡ []

-- the line ends with the input, without an LF
pub record EndsInput (line : List ℕ) (r : ReaderAt) : Type 0 where
  pub plain : HasNoFeed line
  pub some : 0 < length line
  pub last : IsLast r

-- the line is whole, or the last one
abbrev pub IsNext : List ℕ → ReaderAt → Type 0
IsNext line r = IsWhole line ⊎ EndsInput line r

-- what was taken from the source follows what was held: from both together a line is given, and the
-- rest is held; if the input had ended, nothing is taken
abbrev pub Takes : Option (List ℕ) → Option (List ℕ) → List ℕ → Bool → ReaderAt → List ℕ → Type 0
Takes before now held ended r line =
    (given : List ℕ) × Consumes before now given × (line ++ r.rest ≡ held ++ given)
    × (ended ≡ true → (given ≡ []) × (r.ended ≡ true))

-- what ends the reading of a line before the source is asked
abbrev pub GivesOn : Next → List ℕ → ReaderAt → ℕ → Type 0
GivesOn Line line r most = IsWhole line × (length r.rest ≤ piece_limit)
GivesOn TooLong line r most = IsCut line r × (most < length line)
GivesOn Memory line r most = Unit {0}
GivesOn _ line r most = ⊥
