-- What a calibration's octets show of the true delays, by the status that they come with (this project's profile).
use Rattle.std.specs.Prelude.{ℕ, List, map}
use Rattle.wrp_records.specs.declared.status.Status.{Status}
use Rattle.wrp_records.specs.declared.status.Status.TheVariants.{Done, BadTrace, Broken, BadCalib}
use Rattle.wrp_records.specs.Lines.{content_of, lines_of}
use Rattle.wrp_records.specs.RecordsAnswer.{RecordsAnswer}
use Rattle.wrp_calib.specs.Lines.{CalibRecord}
use Rattle.wrp_calib.specs.LinesMeaning.{calibration}
use Rattle.wrp_calib.specs.LinesTruth.{HoldsTruth, IsShort, KeepStated}
use Rattle.wrp_calib.specs.Recorded.{Say}
use Rattle.wrp_calib.specs.Truth.{Delays}

-- the lines of an input say these records, in which the true delays keep the stated errors, and runs of every kind came
pub record SayTruly (input : List ℕ) (true : Delays) : Type 0 where
  pub records : List CalibRecord
  pub say : Say (map content_of (lines_of input)) records
  pub keep : KeepStated records true

-- with status Done an answer is written that holds the truth, with BadCalib that a strand may be too short; no record is refused
abbrev pub TellsSo : Status → List ℕ → Delays → Type 0
TellsSo Done text true = HoldsTruth true text
TellsSo BadCalib text true = IsShort text
TellsSo BadTrace text true = ⊥
TellsSo Broken text true = ⊥
TellsSo status text true = Unit {0}

-- whatever is expected for such an input says so
abbrev pub InputsTellTruth : Type 0
InputsTellTruth =
    (input : List ℕ) (true : Delays) → SayTruly input true
    → (status : Status) (text : List ℕ) → RecordsAnswer calibration (lines_of input) status text → TellsSo status text true
