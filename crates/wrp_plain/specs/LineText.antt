-- The lines that are written for the events of a plain servo, and those that name a broken premise (this project's
-- profile).
use Rattle.std.specs.Prelude.{ℕ, ℤ, pos, ◌+◌, ◌==◌, if◌then◌else◌, Option, None, Some, List, [], ◌∷◌, ◌++◌, codes}
use Rattle.std.specs.Fmt.{decimal, signed_decimal}
use Rattle.std.specs.Ordering.{int_eq}
use Rattle.wrp_records.specs.Refusals.{broken_words}
use Rattle.wrp_records.specs.Words.{line_of}
use Rattle.wrp_plain.specs.declared.settings.PlainSet.{PlainSet}
use Rattle.wrp_plain.specs.declared.settings.PlainReport.{PlainReport}
use Rattle.wrp_plain.specs.declared.event.PlainEvent.{PlainEvent}
use Rattle.wrp_plain.specs.declared.event.PlainEvent.TheVariants.{Pass, Tick, Exch}
use Rattle.wrp_plain.specs.declared.event.PlainSeen.{PlainSeen}
use Rattle.wrp_plain.specs.declared.event.PlainBroken.{PlainBroken}
use Rattle.wrp_plain.specs.Seen.{seen_of}

-- how many of these events are ticks
abbrev pub tick_count : List PlainEvent → ℕ
tick_count [] = 0
tick_count (Pass dt drift ∷ events) = tick_count events
tick_count (Tick ∷ events) = tick_count events + 1
tick_count (Exch span dms dsm o2 o3 t ∷ events) = tick_count events

-- `TICK plain EST BOUND true OFF`
abbrev pub report_line : ℕ → PlainReport → ℤ → List ℕ
report_line tick report off =
    line_of
    (decimal tick ∷ codes "plain" ∷ signed_decimal report.est ∷ signed_decimal report.bound ∷ codes "true" ∷
    signed_decimal off ∷ [])

-- `TICK step N`
abbrev pub step_line : ℕ → ℤ → List ℕ
step_line tick by = line_of (decimal tick ∷ codes "step" ∷ signed_decimal by ∷ [])

-- the line of a report, if there is one
abbrev pub report_text : ℕ → Option PlainReport → ℤ → List ℕ
report_text tick None off = []
report_text tick (Some report) off = report_line tick report off

-- the line of a command, if it is not 0
abbrev pub step_text : ℕ → ℤ → List ℕ
step_text tick by = if int_eq by (pos 0) then [] else step_line tick by

-- the lines of what an event gives, at a tick count
abbrev pub seen_text : ℕ → PlainSeen → List ℕ
seen_text tick seen = report_text tick seen.report seen.off ++ step_text tick seen.command

-- the lines of an event after the earlier ones: TICK counts the ticks so far, the event among them
abbrev pub event_text : PlainSet → ℤ → List PlainEvent → PlainEvent → List ℕ
event_text set off events event = seen_text (tick_count (event ∷ events)) (seen_of set off events event)

-- the lines of all events, which are listed newest first
abbrev pub events_text : PlainSet → ℤ → List PlainEvent → List ℕ
events_text set off [] = []
events_text set off (event ∷ events) = events_text set off events ++ event_text set off events event

-- the name of a premise, by its number
unfoldable pub premise_name : ℕ → List ℕ
premise_name premise =
    if premise == 1 then codes "TickLate"
    else if premise == 2 then codes "Rate"
    else if premise == 3 then codes "Span"
    else if premise == 4 then codes "Least"
    else if premise == 5 then codes "Move"
    else if premise == 6 then codes "Stamp"
    else []

-- `broken RECORD PREMISE NAME SHOWN BOUND`
abbrev pub broken_line : ℕ → PlainBroken → List ℕ
broken_line number broken =
    broken_words number broken.premise (premise_name broken.premise) broken.shown broken.bound
