-- What the text of a calibration shows of the true delays (this project's profile).
use Rattle.std.specs.Prelude.{◌≡◌, ◌⊎◌, ℕ, ℤ, All, Some, List}
use Rattle.wrp_calib.specs.declared.calibration.CalibOut.{CalibOut}
use Rattle.wrp_calib.specs.declared.calibration.Unknown.{Unknown}
use Rattle.wrp_calib.specs.Estimate.{Errors}
use Rattle.wrp_calib.specs.Lines.{CalibRecord}
use Rattle.wrp_calib.specs.LinesMeaning.{Bars, Closes}
use Rattle.wrp_calib.specs.Printing.{answer_lines, conflict_line, short_line}
use Rattle.wrp_calib.specs.Recorded.{Say, cord_in, error_in, runs_in}
use Rattle.wrp_calib.specs.Truth.{CameAll, Delays, HoldsAll, KeepsErrors}

-- runs of every kind came, and in each of them the true delays keep the errors that the records state: each measured delay
-- is within E of the sum of the delays passed, and the cord's delay is within EP of D
pub record KeepStated (records : List CalibRecord) (true : Delays) : Type 0 where
  pub errors : Errors
  pub error : error_in records ≡ Some errors.e
  pub cord : cord_in records ≡ Some (record { d = errors.d; ep = errors.ep })
  pub came : CameAll (runs_in records)
  pub keep : All (KeepsErrors errors true) (runs_in records)

-- the text is the five lines of an answer whose intervals hold the true delays, and the asymmetry that comes of them
abbrev pub HoldsTruth : Delays → List ℕ → Type 0
HoldsTruth true text = (out : CalibOut) × (text ≡ answer_lines out) × HoldsAll out true

-- the line says that a strand may be shorter than 1
abbrev pub IsShort : List ℕ → Type 0
IsShort line = (name : Unknown) × (lo : ℤ) × (line ≡ short_line name lo)

-- what is expected after these lines: an answer that holds the truth, or that a strand may be too short
pub record TellTruth (lines : List (List ℕ)) (true : Delays) : Type 0 where
  pub due : ((text : List ℕ) × Closes lines text) ⊎ ((line : List ℕ) × Bars lines line)
  pub answer : (text : List ℕ) → Closes lines text → HoldsTruth true text
  pub refusal : (line : List ℕ) → Bars lines line → IsShort line

-- so it is whenever some true delays keep the stated errors
abbrev pub LinesTellTruth : Type 0
LinesTellTruth =
    (lines : List (List ℕ)) (records : List CalibRecord) (true : Delays) → Say lines records → KeepStated records true
    → TellTruth lines true

-- if a conflict is reported, no delays keep them
abbrev pub ConflictsAreReal : Type 0
ConflictsAreReal =
    (lines : List (List ℕ)) (name : Unknown) (lo hi : ℤ) → Bars lines (conflict_line name lo hi)
    → (records : List CalibRecord) (true : Delays) → Say lines records → KeepStated records true → ⊥
