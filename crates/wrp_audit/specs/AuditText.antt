-- What the audit of a network writes: the lines of its nodes' steps, and at the end their counters that
-- are not 0; or the inputs that one node is given (this project's profile).
use Rattle.std.specs.Prelude.{ℕ, ◌==◌, if◌then◌else◌, Some, List, [], ◌∷◌, ◌++◌}
use Rattle.std.specs.List.{flat_map}
use Rattle.wrp_lines.specs.Lines.{output_line}
use Rattle.wrp_trace.specs.Printing.{line_of}
use Rattle.wrp_trace.specs.LineSetting.{line_setting_in}
use Rattle.wrp_course.specs.Given.{NodeStepAt}
use Rattle.wrp_course.specs.Run.{Happened, world_after, steps_at}
use Rattle.wrp_course.specs.Setting.{Setting}
use Rattle.wrp_course.specs.WorldAt.{WorldAt}

-- the lines of what a node put out in an event that led to this world: its tick count there, and how
-- far its clock is there from true time
abbrev pub step_lines : Setting → WorldAt → NodeStepAt → List ℕ
step_lines s w step =
    flat_map
    (λ o. output_line s.cfg step.node (w.node step.node).ticks o (Some (w.clock step.node).off))
    step.outs

-- the lines of all steps of the newest event
abbrev pub event_lines : Setting → List Happened → Happened → List ℕ
event_lines s before h = flat_map (step_lines s (world_after s (h ∷ before))) (steps_at s before h)

-- the lines of all events, which are newest first
abbrev pub audit_lines : Setting → List Happened → List ℕ
audit_lines s [] = []
audit_lines s (h ∷ before) = audit_lines s before ++ event_lines s before h

-- The inputs of one node

-- the line of what a step gave the node, if the step is the node's own; LF is octet 10
abbrev pub given_line : Setting → ℕ → NodeStepAt → List ℕ
given_line s n step = if step.node == n then line_of (line_setting_in s n) step.input ++ 10 ∷ [] else []

-- the lines of all events
abbrev pub given_lines : Setting → ℕ → List Happened → List ℕ
given_lines s n [] = []
given_lines s n (h ∷ before) = given_lines s n before ++ flat_map (given_line s n) (steps_at s before h)
