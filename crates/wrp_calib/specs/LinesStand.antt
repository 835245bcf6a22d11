-- What represents the lines of a calibration that were taken (this project's profile).
use Rattle.std.specs.Prelude.{◌≡◌, ℕ, ◌+◌, ◌^◌, ◌≤◌, Result, Ok, Err, List, [], ◌∷◌, ◌++◌, length}
use Rattle.wrp_base.specs.declared.fault.TraceFault.{TraceFault}
use Rattle.wrp_records.specs.declared.machine.Closing.{Closing}
use Rattle.wrp_records.specs.declared.machine.Closing.TheVariants as closing
use Rattle.wrp_calib.specs.declared.lines.CalibLines.{CalibLines}
use Rattle.wrp_calib.specs.declared.lines.Held.{Held}
use Rattle.wrp_calib.specs.declared.lines.Held.TheVariants.{Nothing, Error, Runs}
use Rattle.wrp_calib.specs.Estimate.{Errors}
use Rattle.wrp_calib.specs.Lines.{CalibRecord, SaysError, SaysCord, record_of}
use Rattle.wrp_calib.specs.LinesMeaning.{Closes, Bars}
use Rattle.wrp_calib.specs.Recorded.{Ending, Answered, Barred, Say, runs_in}
use Rattle.wrp_calib.specs.StandsFor.{CalibAt, StandsFor}

-- the calibration was given the runs of these records, and by the first two of them its errors
pub record HoldsRuns (calib : CalibAt) (records : List CalibRecord) : Type 0 where
  pub errors : Errors
  pub further : List CalibRecord
  pub are : records ≡ SaysError errors.e ∷ SaysCord errors.d errors.ep ∷ further
  pub stands : StandsFor errors calib (runs_in further)

-- what these records said is held
abbrev pub Holds : Held → List CalibRecord → Type 0
Holds Nothing records = records ≡ []
Holds (Error e) records = records ≡ SaysError e ∷ []
Holds (Runs calib) records = HoldsRuns calib records

-- what these lines said is held
abbrev pub HasTaken : CalibLines → List (List ℕ) → Type 0
HasTaken held lines = (records : List CalibRecord) × Say lines records × Holds held.held records

-- it can take a line: an error that it holds is in its range
abbrev pub IsSound : Held → Type 0
IsSound Nothing = Unit {0}
IsSound (Error e) = e ≤ 10 ^ 9
IsSound (Runs calib) = Unit {0}

abbrev pub IsReady : CalibLines → Type 0
IsReady held = IsSound held.held

-- the fields of the next record say something, and it is held; or they have this fault, and nothing changes
abbrev pub TakesNext : CalibLines → CalibLines → List (List ℕ) → Result (Unit {0}) TraceFault → Type 0
TakesNext old new fields (Ok done) =
    (records : List CalibRecord) → Holds old.held records
    → (said : CalibRecord) × (record_of (length records + 1) fields ≡ Ok said)
    × Holds new.held (records ++ said ∷ [])
TakesNext old new fields (Err fault) =
    (new ≡ old) × ((records : List CalibRecord) → Holds old.held records
    → record_of (length records + 1) fields ≡ Err fault)

-- the fields of a further record say a run, and the calibration was given it; or they have this fault, and nothing changes
abbrev pub TakesRun : CalibAt → CalibAt → List (List ℕ) → Result (Unit {0}) TraceFault → Type 0
TakesRun old new fields (Ok done) =
    (records : List CalibRecord) → HoldsRuns old records
    → (said : CalibRecord) × (record_of (length records + 1) fields ≡ Ok said)
    × HoldsRuns new (records ++ said ∷ [])
TakesRun old new fields (Err fault) =
    (new ≡ old) × ((records : List CalibRecord) → HoldsRuns old records
    → record_of (length records + 1) fields ≡ Err fault)

-- this is what is expected at the end, and it is reported so
abbrev pub IsTold : Ending → Closing → List ℕ → Type 0
IsTold ending closing.Closed text = ending ≡ Answered text
IsTold ending closing.BadCalib text = ending ≡ Barred text

-- the lines end so
abbrev pub Ends : List (List ℕ) → Closing → List ℕ → Type 0
Ends lines closing.Closed text = Closes lines text
Ends lines closing.BadCalib text = Bars lines text
