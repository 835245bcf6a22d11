-- What the simulation of a network writes: lines of some kinds for its nodes' steps, and at the end one
-- line for each node, which sums up its run (this project's profile).
use Rattle.std.specs.Prelude.{ℕ, ℤ, ◌==◌, Bool, true, false, if◌then◌else◌, min, Some, List, [], ◌∷◌, ◌++◌, filter, length, map, unsigned_abs}
use Rattle.std.specs.List.{flat_map}
use Rattle.wrp_config.specs.Accepted.{greatest}
use Rattle.wrp_lines.specs.Lines.{output_line, sum_line}
use Rattle.wrp_node.specs.declared.interface.Output.{Output}
use Rattle.wrp_node.specs.declared.interface.Output.TheVariants.{Send, Step, Dac, Report}
use Rattle.wrp_node.specs.declared.interface.Report.TheVariants.{Track}
use Rattle.wrp_node.specs.NodeAt.{state_of}
use Rattle.wrp_course.specs.Given.{NodeStepAt}
use Rattle.wrp_course.specs.Run.{Happened, world_after, steps_at}
use Rattle.wrp_course.specs.Setting.{Setting, node_setting_of, nodes_of}
use Rattle.wrp_course.specs.WorldAt.{WorldAt}

-- The lines of events

-- an output that has a line: a step of the clock, a word of a link, a state of a servo or a report of
-- TRACK; no frame and no DAC value
abbrev pub is_printed : Output → Bool
is_printed (Send port frame) = false
is_printed (Step cycles) = true
is_printed (Dac value) = false
is_printed (Report report) = true

-- the line of an output that a node put out in an event that led to this world, if it has one: its
-- tick count there, and how far its clock is there from true time
abbrev pub printed_line : Setting → WorldAt → ℕ → Output → List ℕ
printed_line s w n o =
    if is_printed o
    then output_line s.cfg n (w.node n).ticks o (Some (w.clock n).off)
    else []

-- the lines of a step of a node
abbrev pub printed_lines : Setting → WorldAt → NodeStepAt → List ℕ
printed_lines s w step = flat_map (printed_line s w step.node) step.outs

-- the lines of all events
abbrev pub sim_lines : Setting → List Happened → List ℕ
sim_lines s [] = []
sim_lines s (h ∷ before) =
    sim_lines s before
    ++ flat_map (printed_lines s (world_after s (h ∷ before))) (steps_at s before h)

-- The lines that sum up

-- a report of TRACK
abbrev pub is_track : Output → Bool
is_track (Report (Track est)) = true
is_track _ = false

-- what a node put out in these steps
abbrev pub outs_of : ℕ → List NodeStepAt → List Output
outs_of n steps = flat_map (λ (step : NodeStepAt). if step.node == n then step.outs else []) steps

-- how far a node's clock is from true time at each of its track lines in an event that led to this
-- world
abbrev pub offsets_in : WorldAt → ℕ → List NodeStepAt → List ℤ
offsets_in w n steps = map (λ o. (w.clock n).off) (filter is_track (outs_of n steps))

-- the same in all events
abbrev pub tracked : Setting → ℕ → List Happened → List ℤ
tracked s n [] = []
tracked s n (h ∷ before) =
    offsets_in (world_after s (h ∷ before)) n (steps_at s before h) ++ tracked s n before

-- how many these are; the count stops at 2^64 - 1
abbrev pub count_of : List ℤ → ℕ
count_of offs = min (length offs) 18_446_744_073_709_551_615

-- the greatest distance of one of them from 0; 0 if there is none
abbrev pub worst_of : List ℤ → ℕ
worst_of offs = greatest (map unsigned_abs offs)

-- the line that sums up a node's run to a world, by the true offsets at its track lines: its tick count
-- and the state of its servo are those in that world
abbrev pub sum_by : Setting → WorldAt → ℕ → List ℤ → List ℕ
sum_by s w n offs =
    sum_line s.cfg n (w.node n).ticks (count_of offs) (worst_of offs) (state_of (node_setting_of s n) (w.node n))

-- these lines of all nodes, over all events
abbrev pub node_sum : Setting → List Happened → ℕ → List ℕ
node_sum s events n = sum_by s (world_after s events) n (tracked s n events)

abbrev pub sum_lines : Setting → List Happened → List ℕ
sum_lines s events = flat_map (node_sum s events) (nodes_of s)
