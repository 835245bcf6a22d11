-- The lines of a calibration: what each says by its place among them, and which fault comes first in one that says nothing
-- (this project's profile). The first field is tried first, then the number of fields, then the fields from left to right.
use Rattle.std.specs.Prelude.{ℕ, ℤ, pos, negsuc, ◌==◌, if◌then◌else◌, Option, None, Some, Result, Ok, Err, List, [], ◌∷◌, length, nat_eq, Bool, codes}
use Rattle.std.specs.Cmp.Lexicographic.{pointwise}
use Rattle.std.specs.List.{find}
use Rattle.wrp_base.specs.declared.fault.TraceFault.{TraceFault}
use Rattle.wrp_base.specs.declared.fault.TraceFault.TheVariants.{Fields, Kind}
use Rattle.wrp_base.specs.Lines.{parts_of}
use Rattle.wrp_fields.specs.Fields.{number_at}
use Rattle.wrp_fields.specs.Numbers.{number_in}
use Rattle.wrp_fields.specs.Reading.{◌>>=◌, field_of, number_or_fault, is_plain}
use Rattle.wrp_calib.specs.declared.run.RunKind.{RunKind}
use Rattle.wrp_calib.specs.declared.run.RunKind.TheVariants.{Ref, Straight, Swapped}
use Rattle.wrp_calib.specs.Run.{Run}

-- Fields

-- an error, in tau: 0 to 10^9
abbrev pub error_at : ℕ → List (List ℕ) → Result ℕ TraceFault
error_at place fields = number_at 0 1_000_000_000 place fields

-- the delay of the patch cord, in tau: 0 to 10^15
abbrev pub delay_at : ℕ → List (List ℕ) → Result ℕ TraceFault
delay_at place fields = number_at 0 1_000_000_000_000_000 place fields

-- a time or an offset, in tau: within 2^60, either sign
abbrev pub time_at : ℕ → List (List ℕ) → Result ℤ TraceFault
time_at place fields =
    number_or_fault place
    (number_in (negsuc 1_152_921_504_606_846_975) (pos 1_152_921_504_606_846_976) (field_of place fields))

-- Lines

-- what a line says: how far a measured delay may be off; what the patch cord takes either way, and how far that may be off;
-- or a run
pub data CalibRecord : Type 0 where
  SaysError : (e : ℕ) → CalibRecord
  SaysCord : (d : ℕ) (ep : ℕ) → CalibRecord
  SaysRun : (run : Run) → CalibRecord

-- the word of a kind of runs
abbrev pub word_of : RunKind → List ℕ
word_of Ref = codes "ref"
word_of Straight = codes "straight"
word_of Swapped = codes "swapped"

-- the two words have the same octets
abbrev pub is_word : List ℕ → List ℕ → Bool
is_word word text = pointwise nat_eq word text

-- the kinds of runs
abbrev pub all_kinds : List RunKind
all_kinds = Ref ∷ Straight ∷ Swapped ∷ []

-- the kind of runs that a word names
abbrev pub kind_named : List ℕ → Option RunKind
kind_named text = find (λ kind. is_word (word_of kind) text) all_kinds

-- if a line has this many fields, what they say
abbrev pub counted : {A : Type 0} → ℕ → List (List ℕ) → Result A TraceFault → Result A TraceFault
counted count fields said = if length fields == count then said else Err Fields

-- `E`, after `err`
abbrev pub error_said : List (List ℕ) → Result CalibRecord TraceFault
error_said fields = do
  e ← error_at 2 fields
  Ok (SaysError e)

-- `D,EP`, after `patch`
abbrev pub cord_said : List (List ℕ) → Result CalibRecord TraceFault
cord_said fields = do
  d ← delay_at 2 fields
  ep ← error_at 3 fields
  Ok (SaysCord d ep)

-- `T1,T2,T3,T4,SKEW`, after the word of a kind of runs
abbrev pub run_said : RunKind → List (List ℕ) → Result CalibRecord TraceFault
run_said kind fields = do
  t1 ← time_at 2 fields
  t2 ← time_at 3 fields
  t3 ← time_at 4 fields
  t4 ← time_at 5 fields
  skew ← time_at 6 fields
  Ok (SaysRun (record { kind = kind; t1 = t1; t2 = t2; t3 = t3; t4 = t4; skew = skew }))

-- `err,E`: record 1
abbrev pub error_line : List (List ℕ) → Result CalibRecord TraceFault
error_line fields =
    if is_word (codes "err") (field_of 1 fields) then counted 2 fields (error_said fields) else Err Kind

-- `patch,D,EP`: record 2
abbrev pub cord_line : List (List ℕ) → Result CalibRecord TraceFault
cord_line fields =
    if is_word (codes "patch") (field_of 1 fields) then counted 3 fields (cord_said fields) else Err Kind

-- `ref,T1,T2,T3,T4,SKEW`, and the same with `straight` and `swapped`: every other record
abbrev pub run_of_kind : List (List ℕ) → Option RunKind → Result CalibRecord TraceFault
run_of_kind fields None = Err Kind
run_of_kind fields (Some kind) = counted 6 fields (run_said kind fields)

abbrev pub run_line : List (List ℕ) → Result CalibRecord TraceFault
run_line fields = run_of_kind fields (kind_named (field_of 1 fields))

-- what the fields of a record say, by the record's number, which counts from 1; or the first fault that they have
abbrev pub record_of : ℕ → List (List ℕ) → Result CalibRecord TraceFault
record_of number fields =
    if number == 1 then error_line fields
    else if number == 2 then cord_line fields
    else run_line fields

-- what the line of a record says, by the record's number; or the first fault that it has
abbrev pub record_read : ℕ → List ℕ → Result CalibRecord TraceFault
record_read number line = if is_plain line then record_of number (parts_of line) else Err Fields
