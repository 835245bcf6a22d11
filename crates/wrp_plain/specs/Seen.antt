-- What the servo of a world is given and answers, event by event, and the true offset (this project's profile).
use Rattle.std.specs.Prelude.{ℤ, pos, ◌+ℤ◌, List, [], ◌∷◌, Option, Some, None}
use Rattle.wrp_plain.specs.declared.settings.PlainSet.{PlainSet}
use Rattle.wrp_plain.specs.declared.settings.PlainReport.{PlainReport}
use Rattle.wrp_plain.specs.declared.event.PlainEvent.{PlainEvent}
use Rattle.wrp_plain.specs.declared.event.PlainEvent.TheVariants.{Pass, Tick, Exch}
use Rattle.wrp_plain.specs.declared.event.PlainSeen.{PlainSeen}
use Rattle.wrp_plain.specs.Event.{t1_of, t2_of, t3_of, t4_of, drifts}
use Rattle.wrp_plain.specs.Call.{Call, CallMeasured, CallTick, CallCommand}
use Rattle.wrp_plain.specs.Report.{report_of, command_of}

-- the calls of the servo with what this event gives it
abbrev pub told_by : PlainEvent → List Call → List Call
told_by (Pass dt drift) calls = calls
told_by Tick calls = CallTick ∷ calls
told_by (Exch span dms dsm o2 o3 t) calls = CallMeasured (t1_of t) (t2_of t) (t3_of t) (t4_of t) ∷ calls

-- the report that is expected with this event, after these calls: none when time passes
abbrev pub report_due : PlainSet → PlainEvent → List Call → Option PlainReport
report_due set (Pass dt drift) calls = None
report_due set Tick calls = report_of set calls
report_due set (Exch span dms dsm o2 o3 t) calls = report_of set calls

-- the command against a report
abbrev pub command_against : PlainSet → Option PlainReport → ℤ
command_against set None = pos 0
command_against set (Some report) = command_of set report

-- the command that is expected with this event: only an exchange moves the clock
abbrev pub command_due : PlainSet → PlainEvent → List Call → ℤ
command_due set (Pass dt drift) calls = pos 0
command_due set Tick calls = pos 0
command_due set (Exch span dms dsm o2 o3 t) calls = command_against set (report_of set calls)

-- the calls with the command of this event
abbrev pub commanded_by : PlainSet → PlainEvent → List Call → List Call
commanded_by set (Pass dt drift) calls = calls
commanded_by set Tick calls = calls
commanded_by set (Exch span dms dsm o2 o3 t) calls = CallCommand (command_against set (report_of set calls)) ∷ calls

-- the calls and commands of the servo in these events
abbrev pub calls_of : PlainSet → List PlainEvent → List Call
calls_of set [] = []
calls_of set (event ∷ events) = commanded_by set event (told_by event (calls_of set events))

-- by how much these commands moved the clock
abbrev pub commands : List Call → ℤ
commands [] = pos 0
commands (CallMeasured t1 t2 t3 t4 ∷ calls) = commands calls
commands (CallTick ∷ calls) = commands calls
commands (CallCommand by ∷ calls) = commands calls +ℤ by

-- the true offset after these events: what it was at the start, what it moved by itself, and all commands
abbrev pub true_offset : PlainSet → ℤ → List PlainEvent → ℤ
true_offset set off events = (off +ℤ drifts events) +ℤ commands (calls_of set events)

-- the true offset after this event and before its command
abbrev pub offset_before_command : PlainSet → ℤ → List PlainEvent → PlainEvent → ℤ
offset_before_command set off events event = (off +ℤ drifts (event ∷ events)) +ℤ commands (calls_of set events)

-- what an event gives after these events
abbrev pub seen_of : PlainSet → ℤ → List PlainEvent → PlainEvent → PlainSeen
seen_of set off events event = record {
  report = report_due set event (told_by event (calls_of set events));
  command = command_due set event (told_by event (calls_of set events));
  off = offset_before_command set off events event;
}
