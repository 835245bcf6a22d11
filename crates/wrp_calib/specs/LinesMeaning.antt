-- What the lines of a calibration mean: which lines are its records, which line is none, and what is written at the end
-- (this project's profile).
use Rattle.std.specs.Prelude.{◌≡◌, ℕ, ◌+◌, Err, List, [], length}
use Rattle.wrp_base.specs.declared.fault.TraceFault.{TraceFault}
use Rattle.wrp_records.specs.declared.machine.Refusal.{Refusal}
use Rattle.wrp_records.specs.declared.machine.Refusal.TheVariants.{BadTrace, Broken}
use Rattle.wrp_records.specs.LineMeaning.{LineMeaning, meaning_by}
use Rattle.wrp_records.specs.Refusals.{bad_trace_line}
use Rattle.wrp_calib.specs.Lines.{CalibRecord, record_read}
use Rattle.wrp_calib.specs.Recorded.{Answered, Barred, Say, ending_of}

-- the lines are records of a calibration; nothing is written before their end
abbrev pub Accepts : List (List ℕ) → List ℕ → Type 0
Accepts lines text = (records : List CalibRecord) × Say lines records × (text ≡ [])

-- after records of a calibration a line is none, for this fault
abbrev pub IsFaulty : List (List ℕ) → List ℕ → TraceFault → Type 0
IsFaulty lines line fault =
    (records : List CalibRecord) × Say lines records × (record_read (length lines + 1) line ≡ Err fault)

-- so it is refused; no premise can be broken
abbrev pub Refuses : List (List ℕ) → List ℕ → Refusal → List ℕ → Type 0
Refuses lines line BadTrace last =
    (fault : TraceFault) × IsFaulty lines line fault × (last ≡ bad_trace_line (length lines + 1) fault)
Refuses lines line Broken last = ⊥

-- at the end the answer is written
abbrev pub Closes : List (List ℕ) → List ℕ → Type 0
Closes lines text = (records : List CalibRecord) × Say lines records × (ending_of records ≡ Answered text)

-- at the end the records are refused as a whole
abbrev pub Bars : List (List ℕ) → List ℕ → Type 0
Bars lines line = (records : List CalibRecord) × Say lines records × (ending_of records ≡ Barred line)

-- what the lines of a calibration mean
abbrev pub calibration : LineMeaning
calibration = meaning_by Accepts Refuses Closes Bars
