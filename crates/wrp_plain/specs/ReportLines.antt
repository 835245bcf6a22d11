-- Each report of an event has its line among those that records write, so what is said of these lines is not said of none (this
-- project's profile).
use Rattle.std.specs.Prelude.{ℕ, ℤ, IfSome, List, [], ◌∷◌, ◌++◌, codes}
use Rattle.std.specs.Fmt.{decimal, signed_decimal}
use Rattle.std.specs.List.{Contains}
use Rattle.wrp_records.specs.Lines.{lines_of}
use Rattle.wrp_records.specs.Words.{line_of}
use Rattle.wrp_plain.specs.declared.event.PlainEvent.{PlainEvent}
use Rattle.wrp_plain.specs.declared.event.PlainSeen.{PlainSeen}
use Rattle.wrp_plain.specs.declared.settings.PlainReport.{PlainReport}
use Rattle.wrp_plain.specs.declared.settings.PlainSet.{PlainSet}
use Rattle.wrp_plain.specs.LineText.{events_text, tick_count}
use Rattle.wrp_plain.specs.Seen.{seen_of}

-- if what an event gives at a tick count has a report, the line TICK plain EST BOUND true OFF is one of these, with
-- the report's estimate and bound, and with the true offset
abbrev pub HasReportLine : List (List ℕ) → (tick : ℕ) → PlainSeen → Type 0
HasReportLine lines tick seen =
    IfSome seen.report
    (λ (report : PlainReport). Contains lines
    (line_of
    (decimal tick ∷ codes "plain" ∷ signed_decimal report.est ∷ signed_decimal report.bound ∷ codes "true" ∷ signed_decimal seen.off
    ∷ [])))

-- so it is for each of these events, which are listed newest first
abbrev pub HaveReportLines : List (List ℕ) → PlainSet → ℤ → List PlainEvent → Type 0
HaveReportLines lines set off [] = Unit {0}
HaveReportLines lines set off (event ∷ before) =
    HasReportLine lines (tick_count (event ∷ before)) (seen_of set off before event) × HaveReportLines lines set off before

-- so it is whatever the events are, and whatever follows what is written for them
abbrev pub ReportsHaveLines : Type 0
ReportsHaveLines =
    (set : PlainSet) (off : ℤ) (events : List PlainEvent) (last : List ℕ) →
    HaveReportLines (lines_of (events_text set off events ++ last)) set off events
