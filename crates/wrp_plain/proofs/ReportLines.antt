-- The lines of events are the lines of each event, one after the other, so the line of each report is among them.
use Rattle.std.proofs.Common.{◌≡◌, ◌∙◌, refl, ap, sym, subst, append_assoc, append-nil, ℕ, ℤ, pos, Bool, true, false, if◌then◌else◌, Option, None, Some, List, [], ◌∷◌, ◌++◌, codes, arith}
use Rattle.std.specs.Fmt.{decimal, signed_decimal}
use Rattle.std.specs.List.{Contains}
use Rattle.std.specs.Ordering.{int_eq}
use Rattle.std.proofs.lemmas.List.Elements.{Contains-append_left, Contains-append_right}
use Rattle.wrp_records.specs.Lines.{IsWhole, lines_of}
use Rattle.wrp_records.proofs.Feeds.{lines_of-whole}
use Rattle.wrp_records.proofs.WordLemmas.{decimal_word, line_whole, signed_word}
use Rattle.wrp_plain.specs.declared.event.PlainEvent.{PlainEvent}
use Rattle.wrp_plain.specs.declared.event.PlainSeen.{PlainSeen}
use Rattle.wrp_plain.specs.declared.settings.PlainReport.{PlainReport}
use Rattle.wrp_plain.specs.declared.settings.PlainSet.{PlainSet}
use Rattle.wrp_plain.specs.LineText.{event_text, events_text, report_line, report_text, seen_text, step_line, step_text, tick_count}
use Rattle.wrp_plain.specs.ReportLines.{HasReportLine, HaveReportLines, ReportsHaveLines}
use Rattle.wrp_plain.specs.Seen.{seen_of}

-- Texts of whole lines

-- the lines of what follows a text come after its own
abbrev EndsLines : List ℕ → Type 0
EndsLines text = (rest : List ℕ) → lines_of (text ++ rest) ≡ lines_of text ++ lines_of rest

line_cut : (line rest : List ℕ) → IsWhole line → lines_of (line ++ rest) ≡ line ∷ lines_of rest
line_cut line rest whole =
    ap (λ (l : List ℕ). lines_of (l ++ rest)) whole.is
    ∙ lines_of-whole whole.front rest whole.plain
    ∙ ap (λ (l : List ℕ). l ∷ lines_of rest) (sym whole.is)

line_alone : (line : List ℕ) → IsWhole line → lines_of line ≡ line ∷ []
line_alone line whole = ap lines_of (sym (append-nil line)) ∙ line_cut line [] whole

line_ends : (line : List ℕ) → IsWhole line → EndsLines line
line_ends line whole rest = line_cut line rest whole ∙ ap (λ (l : List (List ℕ)). l ++ lines_of rest) (sym (line_alone line whole))

none_ends : EndsLines []
none_ends rest = refl

both_end : (text more : List ℕ) → EndsLines text → EndsLines more → EndsLines (text ++ more)
both_end text more one two rest =
    ap lines_of (append_assoc text more rest)
    ∙ one (more ++ rest)
    ∙ ap (λ (l : List (List ℕ)). lines_of text ++ l) (two rest)
    ∙ sym (append_assoc (lines_of text) (lines_of more) (lines_of rest))
    ∙ ap (λ (l : List (List ℕ)). l ++ lines_of rest) (sym (one more))

-- Lines of events

report_whole : (tick : ℕ) (report : PlainReport) (off : ℤ) → IsWhole (report_line tick report off)
report_whole tick report off =
    line_whole (decimal tick ∷ codes "plain" ∷ signed_decimal report.est ∷ signed_decimal report.bound ∷ codes "true" ∷ signed_decimal off ∷ [])
    (decimal_word tick, (refl, (signed_word report.est, (signed_word report.bound, (refl, (signed_word off, tt))))))

report_ends : (tick : ℕ) (report : Option PlainReport) (off : ℤ) → EndsLines (report_text tick report off)
report_ends tick None off = none_ends
report_ends tick (Some report) off = line_ends (report_line tick report off) (report_whole tick report off)

step_if : (b : Bool) (tick : ℕ) (by : ℤ) → EndsLines (if b then [] else step_line tick by)
step_if true tick by = none_ends
step_if false tick by =
    line_ends (step_line tick by)
    (line_whole (decimal tick ∷ codes "step" ∷ signed_decimal by ∷ []) (decimal_word tick, (refl, (signed_word by, tt))))

seen_ends : (tick : ℕ) (seen : PlainSeen) → EndsLines (seen_text tick seen)
seen_ends tick seen =
    both_end (report_text tick seen.report seen.off) (step_text tick seen.command) (report_ends tick seen.report seen.off)
    (step_if (int_eq seen.command (pos 0)) tick seen.command)

event_ends : (set : PlainSet) (off : ℤ) (before : List PlainEvent) (event : PlainEvent) → EndsLines (event_text set off before event)
event_ends set off before event = seen_ends (tick_count (event ∷ before)) (seen_of set off before event)

events_end : (set : PlainSet) (off : ℤ) (events : List PlainEvent) → EndsLines (events_text set off events)
events_end set off [] = none_ends
events_end set off (event ∷ before) =
    both_end (events_text set off before) (event_text set off before event) (events_end set off before) (event_ends set off before event)

-- Reports

alone : (line : List ℕ) → Contains (line ∷ []) line
alone line = (0, omega arith, refl)

more_lines : (some lines : List (List ℕ)) (tick : ℕ) (seen : PlainSeen) → ((line : List ℕ) → Contains some line → Contains lines line) →
    HasReportLine some tick seen → HasReportLine lines tick seen
more_lines some lines tick seen f has = by seen.report has
  where
    by : (report : Option PlainReport) → HasReportLine some tick (record seen { report = report }) →
        HasReportLine lines tick (record seen { report = report })
    by None has = tt
    by (Some report) has = f (report_line tick report seen.off) has

report_told : (tick : ℕ) (seen : PlainSeen) → HasReportLine (lines_of (report_text tick seen.report seen.off)) tick seen
report_told tick seen = by seen.report
  where
    by : (report : Option PlainReport) → HasReportLine (lines_of (report_text tick report seen.off)) tick (record seen { report = report })
    by None = tt
    by (Some report) =
        let line : List ℕ = report_line tick report seen.off in
        subst (λ (lines : List (List ℕ)). Contains lines line) (sym (line_alone line (report_whole tick report seen.off))) (alone line)

seen_told : (tick : ℕ) (seen : PlainSeen) → HasReportLine (lines_of (seen_text tick seen)) tick seen
seen_told tick seen =
    let one : List (List ℕ) = lines_of (report_text tick seen.report seen.off) in
    let other : List (List ℕ) = lines_of (step_text tick seen.command) in
    subst (λ (lines : List (List ℕ)). HasReportLine lines tick seen) (sym (report_ends tick seen.report seen.off (step_text tick seen.command)))
    (more_lines one (one ++ other) tick seen (λ line has. Contains-append_left one other line has) (report_told tick seen))

-- All events

all_more : (some lines : List (List ℕ)) (set : PlainSet) (off : ℤ) (events : List PlainEvent) →
    ((line : List ℕ) → Contains some line → Contains lines line) → HaveReportLines some set off events →
    HaveReportLines lines set off events
all_more some lines set off [] f have = tt
all_more some lines set off (event ∷ before) f have = (
  more_lines some lines (tick_count (event ∷ before)) (seen_of set off before event) f have.0,
  all_more some lines set off before f have.1,
)

all_told : (set : PlainSet) (off : ℤ) (events : List PlainEvent) → HaveReportLines (lines_of (events_text set off events)) set off events
all_told set off [] = tt
all_told set off (event ∷ before) =
    let tick : ℕ = tick_count (event ∷ before) in
    let seen : PlainSeen = seen_of set off before event in
    let older : List (List ℕ) = lines_of (events_text set off before) in
    let own : List (List ℕ) = lines_of (event_text set off before event) in
    let cut : lines_of (events_text set off (event ∷ before)) ≡ older ++ own = events_end set off before (event_text set off before event) in (
      subst (λ (lines : List (List ℕ)). HasReportLine lines tick seen) (sym cut)
          (more_lines own (older ++ own) tick seen (λ line has. Contains-append_right older own line has) (seen_told tick seen)),
      subst (λ (lines : List (List ℕ)). HaveReportLines lines set off before) (sym cut)
          (all_more older (older ++ own) set off before (λ line has. Contains-append_left older own line has) (all_told set off before)),
    )

pub reports_have_lines_holds : ReportsHaveLines
reports_have_lines_holds set off events last =
    let own : List (List ℕ) = lines_of (events_text set off events) in
    subst (λ (lines : List (List ℕ)). HaveReportLines lines set off events) (sym (events_end set off events last))
    (all_more own (own ++ lines_of last) set off events (λ line has. Contains-append_left own (lines_of last) line has) (all_told set off events))
