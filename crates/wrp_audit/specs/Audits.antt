-- What the record lines of an audit mean: which lines are events that keep all premises, what they
-- write, and which line is refused (this project's profile).
use Rattle.std.specs.Prelude.{◌≡◌, ℕ, ◌+◌, Option, None, Some, Ok, Err, Result, List, [], length}
use Rattle.wrp_base.specs.declared.fault.TraceFault.{TraceFault}
use Rattle.wrp_base.specs.declared.message.PtpMsg.{PtpMsg}
use Rattle.wrp_frame.specs.declared.fault.FrameFault.{FrameFault}
use Rattle.wrp_trace.specs.Events.{event_read}
use Rattle.wrp_course.specs.Checks.{told_of}
use Rattle.wrp_course.specs.declared.breach.Breach.{Breach}
use Rattle.wrp_course.specs.declared.event.Event.{Event}
use Rattle.wrp_course.specs.Premises.{checks_of}
use Rattle.wrp_course.specs.Run.{Happened, IsSaid, world_after}
use Rattle.wrp_course.specs.Setting.{Setting}
use Rattle.wrp_records.specs.declared.machine.Refusal.{Refusal}
use Rattle.wrp_records.specs.declared.machine.Refusal.TheVariants.{BadTrace, Broken}
use Rattle.wrp_audit.specs.Audited.{IsAudit}
use Rattle.wrp_audit.specs.AuditText.{audit_lines, given_lines}
use Rattle.wrp_network_world.specs.Counts.{all_counts}
use Rattle.wrp_records.specs.LineMeaning.{LineMeaning, bars_none, meaning_by}
use Rattle.wrp_audit.specs.Broken.{broken_line}
use Rattle.wrp_records.specs.Refusals.{bad_trace_line}

-- the lines are events that kept all premises, and this is what an audit writes of them
abbrev pub Audits : Setting → List (List ℕ) → List ℕ → Type 0
Audits s lines text =
    (events : List Happened) × IsAudit s lines events × (text ≡ audit_lines s events)

-- and these are the inputs that they give a node
abbrev pub Emits : Setting → ℕ → List (List ℕ) → List ℕ → Type 0
Emits s n lines text =
    (events : List Happened) × IsAudit s lines events × (text ≡ given_lines s n events)

-- after some lines a line says an event that breaks a premise: both sides of the first comparison that
-- fails are given
pub record Breaks (s : Setting) (lines : List (List ℕ)) (line last : List ℕ) : Type 0 where
  pub events : List Happened
  pub audit : IsAudit s lines events
  pub event : Event
  pub reads : event_read s.cfg line ≡ Ok event
  pub says : Result PtpMsg FrameFault
  pub said : IsSaid event says
  pub breach : Breach
  pub told : told_of (checks_of s (world_after s events) says event) ≡ Some breach
  pub is : last ≡ broken_line (length lines + 1) breach

-- after some lines a line is no event, or an event that breaks a premise
abbrev pub AuditRefuses : Setting → List (List ℕ) → List ℕ → Refusal → List ℕ → Type 0
AuditRefuses s lines line BadTrace last =
    (fault : TraceFault) × (event_read s.cfg line ≡ Err fault)
    × (last ≡ bad_trace_line (length lines + 1) fault)
AuditRefuses s lines line Broken last = Breaks s lines line last

-- at the end the counters that are not 0 are written
abbrev pub AuditCloses : Setting → List (List ℕ) → List ℕ → Type 0
AuditCloses s lines last =
    (events : List Happened) × IsAudit s lines events × (last ≡ all_counts s (world_after s events))

-- after the inputs of a node nothing is written
abbrev pub EmitCloses : List (List ℕ) → List ℕ → Type 0
EmitCloses lines last = last ≡ []

-- what the record lines mean for an audit, and what they mean for the inputs of a node
abbrev pub audit_of : Setting → LineMeaning
audit_of s = meaning_by (Audits s) (AuditRefuses s) (AuditCloses s) bars_none

abbrev pub emission_of : Setting → ℕ → LineMeaning
emission_of s n = meaning_by (Emits s n) (AuditRefuses s) EmitCloses bars_none

-- by what is asked for: the inputs of a node, or otherwise the lines of all nodes
abbrev pub meaning_for : Option ℕ → Setting → LineMeaning
meaning_for None s = audit_of s
meaning_for (Some n) s = emission_of s n
