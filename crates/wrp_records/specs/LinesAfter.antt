-- What the output is after the text in front, for each status: the records are handled as they come,
-- and at the end of the input the text that closes them is written (this project's profile).
use Rattle.std.specs.Prelude.{◌≡◌, ◌⊎◌, ℕ, Option, List, take}
use Rattle.wrp_records.specs.declared.status.Status.{Status}
use Rattle.wrp_records.specs.declared.status.Status.TheVariants.{Done, ReadFault, WriteFault, TooLarge, OutOfMemory, BadCalib}
use Rattle.wrp_records.specs.Engine.{Finishes}
use Rattle.wrp_records.specs.Lines.{lines_of}
use Rattle.wrp_records.specs.LineMeaning.{LineMeaning}
use Rattle.wrp_records.specs.Reader.{ReaderAt, IsLast}
use Rattle.wrp_records.specs.RecordsAnswer.{BreaksOff, IsWholly}
use Rattle.wrp_records.specs.Stream.{CutHandled, Due}

-- the input ended, and all its lines are handled
pub record DoneAt (M : LineMeaning) (octets : List ℕ) (r : ReaderAt) (text : List ℕ) : Type 0 where
  pub end : IsLast r
  pub wholly : IsWholly M (lines_of octets) text

-- the input ended, and the text that is written after all its lines breaks off with a status
pub record BrokenAt (M : LineMeaning) (octets : List ℕ) (r : ReaderAt) (status : Status) (text : List ℕ)
    : Type 0 where
  pub end : IsLast r
  pub breaks : BreaksOff M status (lines_of octets) text

-- the expected output
abbrev pub DueAt : LineMeaning → List ℕ → ReaderAt → Status → List ℕ → Type 0
DueAt M octets r Done text = DoneAt M octets r text
DueAt M octets r TooLarge text =
    Due M.accepts M.refuses octets r TooLarge text ⊎ BrokenAt M octets r TooLarge text
DueAt M octets r OutOfMemory text =
    Due M.accepts M.refuses octets r OutOfMemory text ⊎ BrokenAt M octets r OutOfMemory text
DueAt M octets r BadCalib text = BrokenAt M octets r BadCalib text
DueAt M octets r status text = Due M.accepts M.refuses octets r status text

-- what the output is
abbrev pub LinesAfter : LineMeaning → List ℕ → ReaderAt → Status → List ℕ → Type 0
LinesAfter M octets r ReadFault text = CutHandled M.accepts octets text
LinesAfter M octets r WriteFault text =
    (status : Status) × (due : List ℕ) × (count : ℕ) × DueAt M octets r status due
    × (text ≡ take count due)
LinesAfter M octets r status text = DueAt M octets r status text

-- what is written after all lines, and the status that this ends with
abbrev pub ClosesWith : LineMeaning → Status → List (List ℕ) → List ℕ → Type 0
ClosesWith M Done lines text = M.closes lines text
ClosesWith M TooLarge lines text = M.breaks_off lines TooLarge text
ClosesWith M OutOfMemory lines text = M.breaks_off lines OutOfMemory text
ClosesWith M BadCalib lines text = M.breaks_off lines BadCalib text
ClosesWith M _ lines text = ⊥

-- what is written after all lines, whole or as far as it goes, with the status that this ends with; or a part
-- of it; or nothing, if memory runs out
abbrev pub Closed : (List (List ℕ) → Type 0) → LineMeaning → Status → Option (List ℕ)
    → Option (List ℕ) → Type 0
Closed T M status before now =
    ((status ≡ OutOfMemory) × (now ≡ before))
    ⊎ ((due : Status) × (text : List ℕ) × ((lines : List (List ℕ)) → T lines → ClosesWith M due lines text)
    × Finishes due status before now text)
