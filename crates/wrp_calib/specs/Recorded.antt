-- What the lines of a calibration say as a whole: the stated errors, the runs, and what is written after the last line
-- (this project's profile).
use Rattle.std.specs.Prelude.{◌≡◌, ℕ, ◌+◌, Option, None, Some, Result, Ok, Err, List, [], ◌∷◌, reverse, codes}
use Rattle.std.specs.List.{filter_map}
use Rattle.wrp_calib.specs.declared.calibration.CalibOut.{CalibOut}
use Rattle.wrp_calib.specs.declared.calibration.CalibFault.{CalibFault}
use Rattle.wrp_calib.specs.declared.lines.fields.Cord.{Cord}
use Rattle.wrp_calib.specs.Run.{Run}
use Rattle.wrp_calib.specs.Answer.{answer_of}
use Rattle.wrp_calib.specs.Lines.{CalibRecord, SaysError, SaysCord, SaysRun, record_read}
use Rattle.wrp_calib.specs.Printing.{answer_lines, fault_line, missing_line}

-- each line says its record: the first line the record of this number, and each further line the record of the next
-- number
abbrev pub SayFrom : ℕ → List (List ℕ) → List CalibRecord → Type 0
SayFrom number [] [] = Unit {0}
SayFrom number (line ∷ lines) (said ∷ records) =
    (record_read number line ≡ Ok said) × SayFrom (number + 1) lines records
SayFrom number lines records = ⊥

-- the lines are records 1, 2 and so on, and say this
abbrev pub Say : List (List ℕ) → List CalibRecord → Type 0
Say lines records = SayFrom 1 lines records

-- how far a measured delay may be off, if the records say it
abbrev pub error_in : List CalibRecord → Option ℕ
error_in [] = None
error_in (SaysError e ∷ records) = Some e
error_in (said ∷ records) = error_in records

-- what the patch cord takes and how far that may be off, if the records say it
abbrev pub cord_in : List CalibRecord → Option Cord
cord_in [] = None
cord_in (SaysCord d ep ∷ records) = Some (record { d = d; ep = ep })
cord_in (said ∷ records) = cord_in records

-- the run that a record says
abbrev pub run_in : CalibRecord → Option Run
run_in (SaysRun run) = Some run
run_in said = None

-- the runs that the records say, the newest first
abbrev pub runs_in : List CalibRecord → List Run
runs_in records = reverse (filter_map run_in records)

-- what is written after the last line: an answer, or the line of a refusal of the records as a whole
pub data Ending : Type 0 where
  Answered : (text : List ℕ) → Ending
  Barred : (line : List ℕ) → Ending

-- the answer, or why there is none
abbrev pub ending_by : Result CalibOut CalibFault → Ending
ending_by (Ok out) = Answered (answer_lines out)
ending_by (Err fault) = Barred (fault_line fault)

-- no error, no cord, or the answer of the runs by them, the first that is so
abbrev pub ending_with : Option ℕ → Option Cord → List Run → Ending
ending_with None cord runs = Barred (missing_line (codes "err"))
ending_with (Some e) None runs = Barred (missing_line (codes "patch"))
ending_with (Some e) (Some cord) runs = ending_by (answer_of (record { e = e; d = cord.d; ep = cord.ep }) runs)

-- what is expected after the last of these records
abbrev pub ending_of : List CalibRecord → Ending
ending_of records = ending_with (error_in records) (cord_in records) (runs_in records)
