-- Every input of a calibration has an answer (this project's profile).
use Rattle.std.specs.Prelude.{ℕ, List}
use Rattle.wrp_records.specs.declared.status.Status.{Status}
use Rattle.wrp_records.specs.Lines.{lines_of}
use Rattle.wrp_records.specs.RecordsAnswer.{RecordsAnswer}
use Rattle.wrp_calib.specs.LinesMeaning.{calibration}

-- for each input a status and a text are expected
abbrev pub EachInputHasAnswer : Type 0
EachInputHasAnswer =
    (input : List ℕ) → (status : Status) × (text : List ℕ) × RecordsAnswer calibration (lines_of input) status text
