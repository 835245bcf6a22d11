-- The lines that a loop prints, and the lines that an audit of its events prints (this project's
-- profile).
use Rattle.std.specs.Prelude.{◌≡◌, ℕ, ◌==◌, ◌&&◌, not, Bool, false, if◌then◌else◌, List, [], ◌∷◌, ◌++◌, filter, map, Option, None, Some, codes}
use Rattle.std.specs.Fmt.{decimal}
use Rattle.std.specs.List.{AllByRecursion, concat, filter_map, flat_map}
use Rattle.wrp_network.specs.declared.configuration.NetCfg.{NetCfg}
use Rattle.wrp_course.specs.declared.event.Event.{Event}
use Rattle.wrp_course.specs.Given.{NodeStepAt}
use Rattle.wrp_course.specs.Run.{Happened, steps_at, world_after}
use Rattle.wrp_course.specs.Setting.{Setting}
use Rattle.wrp_course.specs.WorldAt.{WorldAt}
use Rattle.wrp_lines.specs.Lines.{output_line}
use Rattle.wrp_records.specs.Words.{line_of}
use Rattle.wrp_trace.specs.EventPrinting.{event_text}

-- Lines, each with its LF, which is octet 10

-- the line of an event, and the same after `= `
abbrev pub event_line : NetCfg → Event → List ℕ
event_line cfg e = event_text cfg e ++ 10 ∷ []

abbrev pub marked_line : NetCfg → Event → List ℕ
marked_line cfg e = 61 ∷ (32 ∷ event_line cfg e)

-- the lines of what a node put out in an event that led to this world: its tick count there, and how far its clock
-- is there from true time
abbrev pub step_lines : Setting → WorldAt → NodeStepAt → List (List ℕ)
step_lines s w step =
    map (λ o. output_line s.cfg step.node (w.node step.node).ticks o (Some (w.clock step.node).off)) step.outs

-- the lines of all steps of the newest event
abbrev pub steps_lines : Setting → List Happened → Happened → List (List ℕ)
steps_lines s before h = flat_map (step_lines s (world_after s (h ∷ before))) (steps_at s before h)

-- For a loop: each event, and then its steps

abbrev pub loop_lines : Setting → List Happened → List (List ℕ)
loop_lines s [] = []
loop_lines s (h ∷ before) = loop_lines s before ++ (marked_line s.cfg h.event ∷ steps_lines s before h)

abbrev pub loop_text : Setting → List Happened → List ℕ
loop_text s events = concat (loop_lines s events)

-- the last line: how many datagrams were forged, if any was
abbrev pub forged_lines : ℕ → List (List ℕ)
forged_lines count = if count == 0 then [] else line_of (codes "forged" ∷ decimal count ∷ []) ∷ []

-- all lines, if these are the lines of counters
abbrev pub all_lines : Setting → List Happened → (counts : List (List ℕ)) → (forged : ℕ) → List (List ℕ)
all_lines s events counts forged = (loop_lines s events ++ counts) ++ forged_lines forged

-- For the same events: the lines given to an audit, and the lines it writes for their steps

abbrev pub told_lines : Setting → List Happened → List (List ℕ)
told_lines s [] = []
told_lines s (h ∷ before) = told_lines s before ++ event_line s.cfg h.event ∷ []

abbrev pub audit_lines : Setting → List Happened → List (List ℕ)
audit_lines s [] = []
audit_lines s (h ∷ before) = audit_lines s before ++ steps_lines s before h

-- What a reader of the text does: it takes the lines after `= `, without that mark, and the other
-- lines

abbrev pub is_marked : List ℕ → Bool
is_marked (a ∷ (b ∷ rest)) = (a == 61) && (b == 32)
is_marked _ = false

abbrev pub behind_mark : List ℕ → Option (List ℕ)
behind_mark (a ∷ (b ∷ rest)) = if (a == 61) && (b == 32) then Some rest else None
behind_mark _ = None

abbrev pub marked_in : List (List ℕ) → List (List ℕ)
marked_in lines = filter_map behind_mark lines

abbrev pub others_in : List (List ℕ) → List (List ℕ)
others_in lines = filter (λ line. not (is_marked line)) lines

-- no line begins with `= `
abbrev pub NoneIsMarked : List (List ℕ) → Type 0
NoneIsMarked lines = AllByRecursion (λ line. is_marked line ≡ false) lines
