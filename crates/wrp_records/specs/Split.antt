-- The parts of a line, as `csv` gives them (this project's profile).
use Rattle.std.specs.Prelude.{◌≡◌, if◌then◌else◌, ℕ, Option, MatchOption, Result, Err, List}
use Rattle.std.specs.Borrow.{Bor}
use Rattle.csv.specs.Records.{Row, fields_of}
use Rattle.wrp_base.specs.declared.fault.TraceFault.{TraceFault}
use Rattle.wrp_base.specs.declared.fault.TraceFault.TheVariants.{Fields}
use Rattle.wrp_base.specs.Lines.{parts_of}
use Rattle.wrp_fields.specs.Lines.{IsLine}
use Rattle.wrp_fields.specs.Reading.{is_plain}

-- the record has the parts of a plain line
abbrev pub HasParts : List ℕ → Row → Type 0
HasParts line row = IsLine line × (fields_of row ≡ parts_of line)

-- the parts of a line if it is plain, and none if it is not
abbrev pub IsSplit : List ℕ → Option (Bor Row) → Type 0
IsSplit line parts = MatchOption parts (IsLine line → ⊥) (λ row. HasParts line row.now)

-- what a line says, by a reading of its parts: a line that is not plain has none
abbrev pub read_by : {A : Type 0} → (List (List ℕ) → Result A TraceFault) → List ℕ → Result A TraceFault
read_by reading line = if is_plain line then reading (parts_of line) else Err Fields
