-- What the lines that the command writes are worth: each report that is printed is within its bound of the true offset
-- that is printed with it, and that bound is the least that a kept measurement gives; no exchange is too short to be
-- measured (this project's profile).
use Rattle.std.specs.Prelude.{◌≡◌, true, ℕ, ℤ, List, [], ◌∷◌, codes}
use Rattle.std.specs.Char.{is_ascii_digit}
use Rattle.std.specs.Fmt.{signed_decimal}
use Rattle.std.specs.List.{AllByRecursion, list_all}
use Rattle.wrp_io.specs.declared.link.LinkCall.{LinkCall}
use Rattle.wrp_records.specs.declared.status.Status.{Status}
use Rattle.wrp_records.specs.ByLines.{of_lines}
use Rattle.wrp_records.specs.Lines.{lines_of}
use Rattle.wrp_records.specs.Words.{IsWord, line_of}
use Rattle.wrp_plain.specs.declared.event.PlainEvent.{PlainEvent}
use Rattle.wrp_plain.specs.declared.settings.PlainReport.{PlainReport}
use Rattle.wrp_plain.specs.declared.settings.PlainSet.{PlainSet}
use Rattle.wrp_plain.specs.declared.settings.PlainStart.{PlainStart}
use Rattle.wrp_plain.specs.LineCourse.{IsPlainRun, plain_meaning}
use Rattle.wrp_plain.specs.LineText.{event_text}
use Rattle.wrp_plain.specs.Report.{kept_reports}
use Rattle.wrp_plain.specs.Seen.{calls_of, seen_of, told_by}
use Rattle.wrp_plain.specs.World.{IsLeastOf, IsWithinBound, TellsTruth}

-- only digits
abbrev pub AreDigits : List ℕ → Type 0
AreDigits octets = list_all is_ascii_digit octets ≡ true

-- these words are an estimate, a bound and a true offset, and the estimate is at most the bound from the true offset
pub record AreWithin (est bound off : List ℕ) : Type 0 where
  pub report : PlainReport
  pub offset : ℤ
  pub est_is : signed_decimal report.est ≡ est
  pub bound_is : signed_decimal report.bound ≡ bound
  pub off_is : signed_decimal offset ≡ off
  pub within : IsWithinBound offset report

-- if a line says TICK plain EST BOUND true OFF, the three words are these, and the report is such
abbrev pub Says : (PlainReport → Type 0) → List ℕ → Type 0
Says IsSo line =
    (tick est bound off : List ℕ) → AreDigits tick → IsWord est → IsWord bound → IsWord off →
    line ≡ line_of (tick ∷ codes "plain" ∷ est ∷ bound ∷ codes "true" ∷ off ∷ []) →
    (is : AreWithin est bound off) × IsSo is.report

-- a line of an event after the earlier ones: the bound is the least that a measurement gives which is kept with it
abbrev pub IsTrueLine : PlainSet → List PlainEvent → PlainEvent → List ℕ → Type 0
IsTrueLine set before event = Says (IsLeastOf (kept_reports set (told_by event (calls_of set before))))

-- what an event gives after the earlier ones is true, and so is each line that is written for it
pub record IsTrueAt (set : PlainSet) (off : ℤ) (before : List PlainEvent) (event : PlainEvent) : Type 0 where
  pub tells : TellsTruth set before event (seen_of set off before event)
  pub lines : AllByRecursion (IsTrueLine set before event) (lines_of (event_text set off before event))

-- so it is for each of these events, which are listed newest first
abbrev pub AreTrue : PlainSet → ℤ → List PlainEvent → Type 0
AreTrue set off [] = Unit {0}
AreTrue set off (event ∷ before) = IsTrueAt set off before event × AreTrue set off before

-- whatever the records say
abbrev pub RecordsTellTruth : Type 0
RecordsTellTruth =
    (first : List ℕ) (lines : List (List ℕ)) (start : PlainStart) (events : List PlainEvent) →
    IsPlainRun first lines start events → AreTrue start.set start.off events

-- for each line of a text: if it says a report, the estimate is within the bound of the offset
abbrev pub AllAreWithin : List ℕ → Type 0
AllAreWithin text = AllByRecursion (Says (λ report. Unit {0})) (lines_of text)

-- what is expected for an input, what its first records write, and what is left if the source failed
abbrev pub OutputTellsTruth : Type 0
OutputTellsTruth =
    ((octets : List ℕ) (calls : List LinkCall) (status : Status) (text : List ℕ) →
    (of_lines plain_meaning).answers octets calls status text → AllAreWithin text) ×
    ((octets : List ℕ) (calls : List LinkCall) (text : List ℕ) →
    (of_lines plain_meaning).first octets calls text → AllAreWithin text) ×
    ((octets : List ℕ) (text : List ℕ) → (of_lines plain_meaning).cut octets text → AllAreWithin text)
