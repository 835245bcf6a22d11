-- The lines that are written for the events that records say are true.
use Rattle.std.proofs.Common.{◌≡◌, refl, ap, sym, subst, append_assoc, append-nil, ℕ, ℤ, pos, Bool, true, false, if◌then◌else◌, Option, None, Some, List, [], ◌∷◌, ◌++◌, codes, arith}
use Rattle.std.specs.Prelude.{IfSome}
use Rattle.std.specs.Fmt.{decimal, signed_decimal}
use Rattle.std.specs.List.{AllByRecursion}
use Rattle.std.specs.Ordering.{int_eq}
use Rattle.wrp_records.specs.Lines.{lines_of}
use Rattle.wrp_plain.specs.declared.event.PlainEvent.{PlainEvent}
use Rattle.wrp_plain.specs.declared.event.PlainSeen.{PlainSeen}
use Rattle.wrp_plain.specs.declared.settings.PlainReport.{PlainReport}
use Rattle.wrp_plain.specs.declared.settings.PlainSet.{PlainSet}
use Rattle.wrp_plain.specs.LineText.{event_text, report_line, report_text, seen_text, step_line, step_text, tick_count}
use Rattle.wrp_plain.specs.LineTruth.{AreTrue, IsTrueAt, IsTrueLine, RecordsTellTruth, Says}
use Rattle.wrp_plain.specs.Measurement.{HasRanges}
use Rattle.wrp_plain.specs.Premises.{Accepts}
use Rattle.wrp_plain.specs.Report.{kept_reports}
use Rattle.wrp_plain.specs.Seen.{calls_of, seen_of, told_by}
use Rattle.wrp_plain.specs.World.{IsLeastOf, IsWithinBound, TellsTruth}
use Rattle.wrp_plain.proofs.LineRanges.{start_ranges}
use Rattle.wrp_records.proofs.WordLemmas.{SameWord, decimal_word, first_word, head_of, line_in_front, line_whole, rest_of, signed_word}
use Rattle.wrp_plain.proofs.LineWords.{digits_are_word}
use Rattle.wrp_plain.proofs.Worth.{tells_truth}

-- what says a report in a line, after its first word
abbrev TrueOff : List ℕ → List ℕ
TrueOff off = codes "true" ++ 32 ∷ (off ++ 10 ∷ [])

abbrev PlainWords : (est bound off : List ℕ) → List ℕ
PlainWords est bound off = codes "plain" ++ 32 ∷ (est ++ 32 ∷ (bound ++ 32 ∷ TrueOff off))

-- the line of a report says it
pub report_says : (IsSo : PlainReport → Type 0) (tick : ℕ) (report : PlainReport) (off : ℤ) → IsWithinBound off report → IsSo report → Says IsSo (report_line tick report off)
report_says IsSo n report truth within so tick est bound off h k l m e =
    let told : List ℕ = TrueOff (signed_decimal truth) in
    let zero : SameWord (decimal n) tick 32 32 (PlainWords (signed_decimal report.est) (signed_decimal report.bound) (signed_decimal truth)) (PlainWords est bound off) =
    first_word (decimal n) tick 32 32 (PlainWords (signed_decimal report.est) (signed_decimal report.bound) (signed_decimal truth)) (PlainWords est bound off) (decimal_word n) (digits_are_word tick h) refl refl e in
    let tail : signed_decimal report.est ++ 32 ∷ (signed_decimal report.bound ++ 32 ∷ told) ≡ est ++ 32 ∷ (bound ++ 32 ∷ TrueOff off) =
    ap (λ (x : List ℕ). rest_of (rest_of (rest_of (rest_of (rest_of (rest_of x)))))) zero.rest in
    let one : SameWord (signed_decimal report.est) est 32 32 (signed_decimal report.bound ++ 32 ∷ told) (bound ++ 32 ∷ TrueOff off) =
    first_word (signed_decimal report.est) est 32 32 (signed_decimal report.bound ++ 32 ∷ told) (bound ++ 32 ∷ TrueOff off) (signed_word report.est) k refl refl tail in
    let two : SameWord (signed_decimal report.bound) bound 32 32 told (TrueOff off) =
    first_word (signed_decimal report.bound) bound 32 32 told (TrueOff off) (signed_word report.bound) l refl refl one.rest in
    let last : signed_decimal truth ++ 10 ∷ [] ≡ off ++ 10 ∷ [] = ap (λ (x : List ℕ). rest_of (rest_of (rest_of (rest_of (rest_of x))))) two.rest in
    let three : SameWord (signed_decimal truth) off 10 10 [] [] = first_word (signed_decimal truth) off 10 10 [] [] (signed_word truth) m refl refl last in
    (record { report = report; offset = truth; est_is = one.word; bound_is = two.word; off_is = three.word; within = within }, so)

-- the line of a command says none
pub step_says : (IsSo : PlainReport → Type 0) (tick : ℕ) (by : ℤ) → Says IsSo (step_line tick by)
step_says IsSo n by tick est bound off h k l m e =
    let words : List ℕ = codes "step" ++ 32 ∷ (signed_decimal by ++ 10 ∷ []) in
    let zero : SameWord (decimal n) tick 32 32 words (PlainWords est bound off) = first_word (decimal n) tick 32 32 words (PlainWords est bound off) (decimal_word n) (digits_are_word tick h) refl refl e in
    absurd (let f : 115 ≡ 112 = ap head_of zero.rest in omega (arith, f))

-- Events

report_in_front : (IsSo : PlainReport → Type 0) (tick : ℕ) (o : Option PlainReport) (off : ℤ) (rest : List ℕ) → IfSome o (IsWithinBound off) → IfSome o IsSo →
    AllByRecursion (Says IsSo) (lines_of rest) → AllByRecursion (Says IsSo) (lines_of (report_text tick o off ++ rest))
report_in_front IsSo tick None off rest within so behind = behind
report_in_front IsSo tick (Some report) off rest within so behind =
    line_in_front (Says IsSo) (report_line tick report off) rest
    (line_whole (decimal tick ∷ codes "plain" ∷ signed_decimal report.est ∷ signed_decimal report.bound ∷ codes "true" ∷ signed_decimal off ∷ [])
    (decimal_word tick, (refl, (signed_word report.est, (signed_word report.bound, (refl, (signed_word off, tt)))))))
    (report_says IsSo tick report off within so) behind

step_if : (IsSo : PlainReport → Type 0) (b : Bool) (tick : ℕ) (by : ℤ) (rest : List ℕ) → AllByRecursion (Says IsSo) (lines_of rest) →
    AllByRecursion (Says IsSo) (lines_of ((if b then [] else step_line tick by) ++ rest))
step_if IsSo true tick by rest behind = behind
step_if IsSo false tick by rest behind =
    line_in_front (Says IsSo) (step_line tick by) rest (line_whole (decimal tick ∷ codes "step" ∷ signed_decimal by ∷ []) (decimal_word tick, (refl, (signed_word by, tt))))
    (step_says IsSo tick by) behind

-- the lines of what is true, in front of lines that are
pub seen_in_front : (IsSo : PlainReport → Type 0) (tick : ℕ) (seen : PlainSeen) (rest : List ℕ) → IfSome seen.report (IsWithinBound seen.off) → IfSome seen.report IsSo →
    AllByRecursion (Says IsSo) (lines_of rest) → AllByRecursion (Says IsSo) (lines_of (seen_text tick seen ++ rest))
seen_in_front IsSo tick seen rest within so behind =
    subst (λ (l : List ℕ). AllByRecursion (Says IsSo) (lines_of l)) (sym (append_assoc (report_text tick seen.report seen.off) (step_text tick seen.command) rest))
    (report_in_front IsSo tick seen.report seen.off (step_text tick seen.command ++ rest) within so
    (step_if IsSo (int_eq seen.command (pos 0)) tick seen.command rest behind))

-- an event that keeps the premises
pub true_at : (set : PlainSet) (off : ℤ) (before : List PlainEvent) (event : PlainEvent) → HasRanges set → Accepts set off (event ∷ before) → IsTrueAt set off before event
true_at set off before event ranges accepted =
    let tells : TellsTruth set before event (seen_of set off before event) = tells_truth set off before ranges accepted.2 event accepted.0 accepted.1 in
    let text : List ℕ = event_text set off before event in
    record {
      tells = tells;
      lines = subst (λ (l : List ℕ). AllByRecursion (IsTrueLine set before event) (lines_of l)) (append-nil text)
          (seen_in_front (IsLeastOf (kept_reports set (told_by event (calls_of set before)))) (tick_count (event ∷ before)) (seen_of set off before event) [] tells.within tells.least tt);
    }

all_true : (set : PlainSet) (off : ℤ) (events : List PlainEvent) → HasRanges set → Accepts set off events → AreTrue set off events
all_true set off [] ranges accepted = tt
all_true set off (event ∷ before) ranges accepted = (true_at set off before event ranges accepted, all_true set off before ranges accepted.2)

-- whatever the records say
pub records_tell_truth_holds : RecordsTellTruth
records_tell_truth_holds first lines start events course = all_true start.set start.off events (start_ranges first start course.starts) course.kept
