-- What holds for the lines that are printed of each run of a network (this project's profile).
use Rattle.std.specs.Prelude.{◌≡◌, ◌⊎◌, ℕ, ℤ, Bool, true, if◌then◌else◌, Some, Ok, List, [], ◌∷◌, ◌++◌}
use Rattle.std.specs.List.{flat_map}
use Rattle.wrp_network.specs.declared.configuration.NetCfg.{NetCfg}
use Rattle.wrp_base.specs.declared.link.ServoState.{ServoState}
use Rattle.wrp_course.specs.declared.event.Event.{Event}
use Rattle.wrp_course.specs.Given.{NodeStepAt}
use Rattle.wrp_course.specs.Run.{Happened, steps_at, world_after}
use Rattle.wrp_course.specs.Runs.{IsRun}
use Rattle.wrp_course.specs.Setting.{Setting}
use Rattle.wrp_course.specs.WorldAt.{WorldAt}
use Rattle.wrp_lines.specs.Lines.{output_line}
use Rattle.wrp_node.specs.declared.interface.Output.{Output}
use Rattle.wrp_node.specs.declared.interface.Output.TheVariants.{Step, Report}
use Rattle.wrp_node.specs.declared.interface.Report.TheVariants.{Servo}
use Rattle.wrp_trace.specs.Events.{event_read, bare}
use Rattle.wrp_printed_laws.specs.Offsets.{AllFollow, Seen}
use Rattle.wrp_printed_laws.specs.Steps.{StepsAreSynced}

-- the line of an output of a node in an event that led to this world, if it is printed
abbrev pub output_lines : (Output → Bool) → Setting → WorldAt → ℕ → Output → List (List ℕ)
output_lines is_printed s w n o =
    if is_printed o then output_line s.cfg n (w.node n).ticks o (Some (w.clock n).off) ∷ [] else []

-- the lines of a step of a node, of an event, and of all events, the newest first
abbrev pub step_lines : (Output → Bool) → Setting → WorldAt → NodeStepAt → List (List ℕ)
step_lines is_printed s w step = flat_map (output_lines is_printed s w step.node) step.outs

abbrev pub lines_at : (Output → Bool) → Setting → List Happened → Happened → List (List ℕ)
lines_at is_printed s before h =
    flat_map (step_lines is_printed s (world_after s (h ∷ before))) (steps_at s before h)

abbrev pub lines_in : (Output → Bool) → Setting → List Happened → List (List ℕ)
lines_in is_printed s [] = []
lines_in is_printed s (h ∷ before) = lines_in is_printed s before ++ lines_at is_printed s before h

-- the line says the event, or the same event with nothing but the texts of its names
abbrev pub SaysEvent : NetCfg → List ℕ → Event → Type 0
SaysEvent cfg line e = (event_read cfg line ≡ Ok e) ⊎ (event_read cfg line ≡ Ok (bare e))

-- these event lines say these events, and all lines of each event are printed
abbrev pub AreSeen : Setting → List Seen → List Happened → Type 0
AreSeen s [] [] = Unit {0}
AreSeen s (it ∷ seen) (h ∷ before) =
    SaysEvent s.cfg it.event h.event × (it.lines ≡ lines_at (λ o. true) s before h) × AreSeen s seen before
AreSeen s _ _ = ⊥

-- each track line follows from the event lines and the step lines up to it
abbrev pub OffsetsFollow : Type 0
OffsetsFollow =
    (s : Setting) (events : List Happened) (seen : List Seen) → IsRun s events → AreSeen s seen events →
    AllFollow s.cfg seen

-- each step of a clock and each state of a servo is printed
pub record PrintsStates (is_printed : Output → Bool) : Type 0 where
  pub steps : (cycles : ℤ) → is_printed (Step cycles) ≡ true
  pub states : (state : ServoState) → is_printed (Report (Servo state)) ≡ true

-- each step of a clock is printed while the last printed state of its servo is SYNC_TAI or SYNC_NSEC
abbrev pub StepsComeSynced : Type 0
StepsComeSynced =
    (is_printed : Output → Bool) (s : Setting) (events : List Happened) → PrintsStates is_printed → IsRun s events →
    StepsAreSynced (lines_in is_printed s events)
