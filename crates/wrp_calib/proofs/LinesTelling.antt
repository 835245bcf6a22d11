-- If true delays keep the stated errors, what is expected after the lines is true.
use Rattle.std.proofs.Common.{◌≡◌, ◌⊎◌, inl, inr, ℕ, ℤ, List, get_or, Option, Result, Ok, Err, refl, sym, ap, ap₂, ◌∙◌, arith}
use Rattle.wrp_calib.specs.declared.calibration.CalibOut.{CalibOut}
use Rattle.wrp_calib.specs.declared.calibration.CalibFault.{CalibFault}
use Rattle.wrp_calib.specs.declared.calibration.CalibFault.TheVariants.{Missing, Conflict, Short}
use Rattle.wrp_calib.specs.declared.calibration.Unknown.{Unknown}
use Rattle.wrp_calib.specs.declared.lines.fields.Cord.{Cord}
use Rattle.wrp_calib.specs.Answer.{answer_of}
use Rattle.wrp_calib.specs.Lines.{CalibRecord}
use Rattle.wrp_calib.specs.LinesMeaning.{Bars, Closes}
use Rattle.wrp_calib.specs.LinesTruth.{ConflictsAreReal, HoldsTruth, IsShort, KeepStated, LinesTellTruth}
use Rattle.wrp_calib.specs.Printing.{answer_lines, conflict_line, short_line}
use Rattle.wrp_calib.specs.Recorded.{Answered, Barred, Ending, Say, ending_by, ending_of, ending_with, runs_in}
use Rattle.wrp_calib.specs.Truth.{Delays, TellsTruth}
use Rattle.wrp_calib.proofs.Holding.{answer_of-tells}
use Rattle.wrp_calib.proofs.Saying.{said_once}

-- an answer that is written holds the truth
answer_holds : (delays : Delays) (told : Result CalibOut CalibFault) → TellsTruth delays told
    → (text : List ℕ) → ending_by told ≡ Answered text → HoldsTruth delays text
answer_holds delays (Ok out) tells text is = let same : text ≡ answer_lines out = cc in (out, same, tells)
answer_holds delays (Err fault) tells text is = absurd (cc)

-- and a refusal that is written says that a strand may be too short
refusal_is : (delays : Delays) (told : Result CalibOut CalibFault) → TellsTruth delays told
    → (line : List ℕ) → ending_by told ≡ Barred line → IsShort line
refusal_is delays (Ok out) tells line is = absurd (cc)
refusal_is delays (Err (Missing kind)) tells line is = absurd tells
refusal_is delays (Err (Conflict name lo hi)) tells line is = absurd tells
refusal_is delays (Err (Short name lo)) tells line is = let same : line ≡ short_line name lo = cc in (name, lo, same)

-- one of the two is expected
pub one_due : (lines : List (List ℕ)) (records : List CalibRecord) → Say lines records → (ending : Ending) → ending_of records ≡ ending
    → ((text : List ℕ) × Closes lines text) ⊎ ((line : List ℕ) × Bars lines line)
one_due lines records say (Answered text) is = inl (text, (records, say, is))
one_due lines records say (Barred line) is = inr (line, (records, say, is))

-- the ending of records that state both errors
ending_is : (records : List CalibRecord) (delays : Delays) (keeps : KeepStated records delays)
    → ending_of records ≡ ending_by (answer_of keeps.errors (runs_in records))
ending_is records delays keeps =
    ap₂ (λ (e : Option ℕ) (cord : Option Cord). ending_with e cord (runs_in records)) keeps.error keeps.cord

pub lines_tell_truth : LinesTellTruth
lines_tell_truth lines records delays say keeps =
    let told = answer_of keeps.errors (runs_in records) in
    let tells : TellsTruth delays told = answer_of-tells keeps.errors delays (runs_in records) keeps.came keeps.keep in
    let so : (other : List CalibRecord) → Say lines other → ending_of other ≡ ending_by told =
    λ other said. ap (λ (rs : List CalibRecord). ending_of rs) (said_once lines other records said say) ∙ ending_is records delays keeps in
    record {
      due = one_due lines records say (ending_of records) refl;
      answer = λ text closes. answer_holds delays told tells text (sym (so closes.0 closes.1) ∙ closes.2);
      refusal = λ line bars. refusal_is delays told tells line (sym (so bars.0 bars.1) ∙ bars.2);
    }

apart : (a b : ℕ) → a ≡ 50 → b ≡ 51 → a ≡ b → ⊥
apart a b is is' same = omega arith

-- the line of a conflict is none of a strand that may be too short
not_short : (name other : Unknown) (lo hi low : ℤ) → conflict_line name lo hi ≡ short_line other low → ⊥
not_short name other lo hi low same = apart _ _ refl refl (ap (λ (line : List ℕ). get_or line 10 0) same)

pub conflicts_are_real : ConflictsAreReal
conflicts_are_real lines name lo hi bars records delays say keeps =
    let short = (lines_tell_truth lines records delays say keeps).refusal (conflict_line name lo hi) bars in
    not_short name short.0 lo hi short.1 short.2
