-- The lines that name what is refused (this project's profile).
use Rattle.std.specs.Prelude.{◌≡◌, ℕ, ℤ, ◌==◌, if◌then◌else◌, Bool, true, false, List, [], ◌∷◌, ◌++◌, codes}
use Rattle.std.specs.Fmt.{decimal, signed_decimal}
use Rattle.wrp_base.specs.declared.fault.TraceFault.{TraceFault}
use Rattle.wrp_base.specs.declared.fault.TraceFault.TheVariants.{Fields, Kind, Number, Name, Memory}
use Rattle.wrp_records.specs.declared.machine.Refusal.TheVariants.{BadTrace}
use Rattle.wrp_records.specs.declared.machine.Taken.{Taken}
use Rattle.wrp_records.specs.declared.machine.Taken.TheVariants.{Refused}
use Rattle.wrp_records.specs.Words.{line_of}

-- the only line of output if a text in front of all records is too large
abbrev pub too_large_line : List ℕ
too_large_line = codes "too-large 0\n"

-- the name of a fault of a network or calibration text, by its code
unfoldable pub code_name : ℕ → List ℕ
code_name code =
    if code == 1 then codes "Syntax"
    else if code == 2 then codes "UnknownKey"
    else if code == 3 then codes "Missing"
    else if code == 4 then codes "Range"
    else if code == 5 then codes "Twice"
    else if code == 7 then codes "NotATree"
    else if code == 8 then codes "TwoSlaves"
    else if code == 9 then codes "TooDeep"
    else if code == 10 then codes "Clash"
    else []

-- the only line of output if such a text is refused
abbrev pub bad_network_line : ℕ → List ℕ → List ℕ
bad_network_line code place =
    line_of (codes "bad-network" ∷ decimal code ∷ code_name code ∷ place ∷ [])

-- the code of a line's fault
abbrev pub code_of : TraceFault → ℕ
code_of Fields = 1
code_of Kind = 2
code_of (Number field) = 3
code_of (Name field) = 4
code_of (Memory e) = 0

-- its name
abbrev pub name_of : TraceFault → List ℕ
name_of Fields = codes "Fields"
name_of Kind = codes "Kind"
name_of (Number field) = codes "Number"
name_of (Name field) = codes "Name"
name_of (Memory e) = []

-- its field, counted from 1; 0 if the whole line is at fault
abbrev pub field_of : TraceFault → ℕ
field_of Fields = 0
field_of Kind = 0
field_of (Number field) = field
field_of (Name field) = field
field_of (Memory e) = 0

-- the last line of output if a record, counted from 1, is refused
abbrev pub bad_trace_line : ℕ → TraceFault → List ℕ
bad_trace_line number fault =
    line_of
    (codes "bad-trace" ∷ decimal number ∷ decimal (code_of fault) ∷ name_of fault
    ∷ decimal (field_of fault) ∷ [])

-- whether a fault is lack of memory, and so says nothing about the line
abbrev pub is_memory : TraceFault → Bool
is_memory (Memory e) = true
is_memory _ = false

-- a record is refused for a fault that its line has, and the line that names the fault is appended
pub record RefusesLine (fault : TraceFault) (number : ℕ) (old new : List ℕ) (taken : Taken) : Type 0 where
  pub refused : taken ≡ Refused BadTrace
  pub cause : is_memory fault ≡ false
  pub line : new ≡ old ++ bad_trace_line number fault

-- the last line of output if a record, counted from 1, breaks the premise with this number and name: the value
-- shown, and its bound
abbrev pub broken_words : ℕ → ℕ → List ℕ → ℤ → ℤ → List ℕ
broken_words number premise name shown bound =
    line_of
    (codes "broken" ∷ decimal number ∷ decimal premise ∷ name ∷ signed_decimal shown
    ∷ signed_decimal bound ∷ [])
