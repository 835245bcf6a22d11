-- What a machine of the lines of a plain servo represents: the lines that it has taken (this project's profile).
use Rattle.std.specs.Prelude.{◌≡◌, ◌≤◌, ℕ, ℤ, IfSome, Option, None, Some, List, [], ◌∷◌}
use Rattle.std.specs.Option.{option_map_or}
use Rattle.wrp_records.specs.declared.machine.Refusal.TheVariants as refusal
use Rattle.wrp_records.specs.declared.machine.Taken.{Taken}
use Rattle.wrp_records.specs.declared.machine.Taken.TheVariants as taken
use Rattle.wrp_plain.specs.declared.event.PlainEvent.{PlainEvent}
use Rattle.wrp_plain.specs.declared.event.PlainBroken.{PlainBroken}
use Rattle.wrp_plain.specs.declared.settings.PlainSet.{PlainSet}
use Rattle.wrp_plain.specs.declared.settings.PlainStart.{PlainStart}
use Rattle.wrp_plain.specs.declared.lines.course.PlainRun.{PlainRun}
use Rattle.wrp_plain.specs.declared.lines.PlainLines.{PlainLines}
use Rattle.wrp_plain.specs.LineCourse.{IsPlainRun}
use Rattle.wrp_plain.specs.LineText.{broken_line, event_text, tick_count}
use Rattle.wrp_plain.specs.Premises.{broken_after}
use Rattle.wrp_plain.specs.World.{HadEvents}

-- the course represents these events: its world was given them, and it counts their ticks
pub record HasRun (set : PlainSet) (off : ℤ) (course : PlainRun) (events : List PlainEvent) : Type 0 where
  pub had : HadEvents set off course.world events
  pub ticks : course.ticks ≡ tick_count events

-- it represents the events that the lines say
pub record HasTakenSo (course : PlainRun) (first : List ℕ) (lines : List (List ℕ)) : Type 0 where
  pub start : PlainStart
  pub events : List PlainEvent
  pub is : IsPlainRun first lines start events
  pub run : HasRun start.set start.off course events

-- before the first line there is no course
abbrev pub HasTakenBy : Option PlainRun → List (List ℕ) → Type 0
HasTakenBy None [] = Unit {0}
HasTakenBy None (first ∷ lines) = ⊥
HasTakenBy (Some course) [] = ⊥
HasTakenBy (Some course) (first ∷ lines) = HasTakenSo course first lines

-- the machine has taken these lines
abbrev pub HasTaken : PlainLines → List (List ℕ) → Type 0
HasTaken held lines = HasTakenBy held.course lines

-- no more ticks were counted than events came
abbrev pub CountsTicks : PlainRun → Type 0
CountsTicks course = course.ticks ≤ course.world.events

-- it can take a line
abbrev pub CanTake : PlainLines → Type 0
CanTake held = IfSome held.course CountsTicks

-- how many events came
abbrev pub event_count : PlainLines → ℕ
event_count held = option_map_or (λ (course : PlainRun). course.world.events) held.course 0

-- what became of an event, by what is answered: it kept all premises, and its lines are written; or the first premise
-- that it breaks is reported
abbrev pub Happens : PlainSet → ℤ → List PlainEvent → PlainEvent → ℕ → PlainRun → List ℕ → Taken → Type 0
Happens set off events event number new text taken.Accepted =
    HasRun set off new (event ∷ events) × (text ≡ event_text set off events event)
Happens set off events event number new text (taken.Refused refusal.Broken) =
    (broken : PlainBroken) × (broken_after set off events event ≡ Some broken) × (text ≡ broken_line number broken)
Happens set off events event number new text _ = ⊥
