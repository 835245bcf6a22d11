-- Each report of TRACK in an event, and each report that a link is on, has its line among the lines that are written of
-- the event, so what is said of these lines is not said of none (this project's profile).
use Rattle.std.specs.Prelude.{◌≡◌, ℕ, ℤ, List, [], ◌∷◌, codes}
use Rattle.std.specs.Fmt.{decimal, signed_decimal}
use Rattle.std.specs.List.{AllByRecursion, Contains}
use Rattle.wrp_base.specs.declared.link.LinkState.TheVariants.{LinkOn}
use Rattle.wrp_base.specs.declared.link.LinkWord.TheVariants.{In}
use Rattle.wrp_network.specs.Network.{name_at}
use Rattle.wrp_bounds.specs.Bounds.{path_of}
use Rattle.wrp_course.specs.Given.{NodeStepAt}
use Rattle.wrp_course.specs.Run.{Happened, steps_at, world_after}
use Rattle.wrp_course.specs.Runs.{IsNetwork}
use Rattle.wrp_course.specs.Setting.{Setting}
use Rattle.wrp_course.specs.WorldAt.{WorldAt}
use Rattle.wrp_node.specs.declared.interface.Output.{Output}
use Rattle.wrp_node.specs.declared.interface.Output.TheVariants.{Report}
use Rattle.wrp_node.specs.declared.interface.Report.TheVariants.{Link, Track}
use Rattle.wrp_records.specs.Lines.{lines_of}
use Rattle.wrp_records.specs.Words.{line_of}
use Rattle.wrp_audit.specs.AuditText.{event_lines}
use Rattle.wrp_asked.specs.EventLines.{Writing}
use Rattle.wrp_asked.specs.SimHeadline.{run_lines}

-- for what a node put out in an event that led to this world: some line is one of these
abbrev pub LineOf : Type 1
LineOf = Setting → WorldAt → List (List ℕ) → ℕ → Output → Type 0

-- of a report of TRACK it is the line NODE TICK track EST BOUND true OFF: the name and the tick count of the node, the estimate, the
-- node's path, and its offset from true time
abbrev pub HasTrackLine : LineOf
HasTrackLine s w lines n o =
    (est : ℤ) → o ≡ Report (Track est) →
    Contains lines
    (line_of
    (name_at s.cfg n ∷ decimal (w.node n).ticks ∷ codes "track" ∷ signed_decimal est ∷ decimal (path_of s.cfg n)
    ∷ codes "true" ∷ signed_decimal (w.clock n).off ∷ []))

-- of a report that a link is on it is the line NODE TICK link PORT link-on
abbrev pub HasLinkOnLine : LineOf
HasLinkOnLine s w lines n o =
    (p : ℕ) → o ≡ Report (Link p (In LinkOn)) →
    Contains lines
    (line_of (name_at s.cfg n ∷ decimal (w.node n).ticks ∷ codes "link" ∷ decimal p ∷ codes "link-on" ∷ []))

-- so it is with each report in an event
abbrev pub ReportsHaveLines : LineOf → Writing → Setting → List Happened → Happened → Type 0
ReportsHaveLines HasLine write s before h =
    AllByRecursion
    (λ (step : NodeStepAt).
    AllByRecursion (HasLine s (world_after s (h ∷ before)) (lines_of (write s before h)) step.node) step.outs)
    (steps_at s before h)

-- an audit and a run over a link write these lines, and a simulation too
abbrev pub AreWritten : LineOf → Type 0
AreWritten HasLine =
    (s : Setting) (before : List Happened) (h : Happened) → IsNetwork s →
    ReportsHaveLines HasLine event_lines s before h × ReportsHaveLines HasLine run_lines s before h

-- reports of TRACK
abbrev pub TrackReportsHaveLines : Type 0
TrackReportsHaveLines = AreWritten HasTrackLine

-- and reports that a link is on
abbrev pub LinkOnReportsHaveLines : Type 0
LinkOnReportsHaveLines = AreWritten HasLinkOnLine
