-- The lines that a calibration writes: its answer, or why there is none (this project's profile).
use Rattle.std.specs.Prelude.{ℕ, ℤ, List, [], ◌∷◌, ◌++◌, codes}
use Rattle.std.specs.Fmt.{signed_decimal}
use Rattle.wrp_calib.specs.declared.span.Span.{Span}
use Rattle.wrp_calib.specs.declared.calibration.Unknown.{Unknown}
use Rattle.wrp_calib.specs.declared.calibration.Unknown.TheVariants.{P, Q, X, Y}
use Rattle.wrp_calib.specs.declared.calibration.CalibOut.{CalibOut}
use Rattle.wrp_calib.specs.declared.calibration.CalibFault.{CalibFault}
use Rattle.wrp_calib.specs.declared.calibration.CalibFault.TheVariants.{Missing, Conflict, Short}
use Rattle.wrp_calib.specs.Lines.{word_of}
use Rattle.wrp_records.specs.Words.{line_of}

-- the name of a delay
abbrev pub name_of : Unknown → List ℕ
name_of P = codes "p"
name_of Q = codes "q"
name_of X = codes "x"
name_of Y = codes "y"

-- `NAME LO HI`
abbrev pub interval_line : List ℕ → Span → List ℕ
interval_line name span = line_of (name ∷ signed_decimal span.lo ∷ signed_decimal span.hi ∷ [])

-- the five lines of an answer
abbrev pub answer_lines : CalibOut → List ℕ
answer_lines out =
    interval_line (codes "p") out.p ++ (interval_line (codes "q") out.q ++ (interval_line (codes "x") out.x
    ++ (interval_line (codes "y") out.y ++ interval_line (codes "kappa") out.kappa)))

-- no record of this word came
abbrev pub missing_line : List ℕ → List ℕ
missing_line word = line_of (codes "bad-calib" ∷ codes "1" ∷ codes "Missing" ∷ word ∷ [])

-- no delay lies in the intervals of all records of this name
abbrev pub conflict_line : Unknown → ℤ → ℤ → List ℕ
conflict_line name lo hi =
    line_of
    (codes "bad-calib" ∷ codes "2" ∷ codes "Conflict" ∷ name_of name ∷ signed_decimal lo ∷ signed_decimal hi ∷ [])

-- the strand of this name may be shorter than 1
abbrev pub short_line : Unknown → ℤ → List ℕ
short_line name lo =
    line_of (codes "bad-calib" ∷ codes "3" ∷ codes "Short" ∷ name_of name ∷ signed_decimal lo ∷ [])

-- the line of a refusal
abbrev pub fault_line : CalibFault → List ℕ
fault_line (Missing kind) = missing_line (word_of kind)
fault_line (Conflict name lo hi) = conflict_line name lo hi
fault_line (Short name lo) = short_line name lo
