-- What a command does to the true offset, and for how long a report holds (this project's profile).
use Rattle.std.specs.Prelude.{◌≡◌, ℕ, ℤ, pos, neg_ℤ, ◌≤ℤ◌, ◌<ℤ◌, ◌+ℤ◌, unsigned_abs, List, [], ◌∷◌, ◌++◌, IfSome}
use Rattle.wrp_plain.specs.declared.settings.PlainReport.{PlainReport}
use Rattle.wrp_plain.specs.declared.settings.PlainSet.{PlainSet}
use Rattle.wrp_plain.specs.declared.settings.PlainStart.{PlainStart}
use Rattle.wrp_plain.specs.declared.event.PlainEvent.{PlainEvent}
use Rattle.wrp_plain.specs.declared.event.PlainEvent.TheVariants.{Pass, Tick, Exch}
use Rattle.wrp_plain.specs.declared.event.PlainSeen.{PlainSeen}
use Rattle.wrp_plain.specs.Event.{drifts}
use Rattle.wrp_plain.specs.LineCourse.{IsPlainRun}
use Rattle.wrp_plain.specs.Premises.{Accepts}
use Rattle.wrp_plain.specs.Seen.{seen_of, true_offset}
use Rattle.wrp_plain.specs.World.{IsWithinBound}

-- a command against an estimate: all of it if it is no greater than a step, and else a step towards 0
pub record IsStepAgainst (step est by : ℤ) : Type 0 where
  pub whole : neg_ℤ step ≤ℤ est → est ≤ℤ step → by ≡ neg_ℤ est
  pub above : step <ℤ est → by ≡ neg_ℤ step
  pub below : est <ℤ neg_ℤ step → by ≡ step

-- only an exchange commands, against its report
abbrev pub IsCommanded : PlainSet → PlainEvent → PlainSeen → Type 0
IsCommanded set (Exch span dms dsm o2 o3 t) seen = IfSome seen.report (λ report. IsStepAgainst set.step report.est seen.command)
IsCommanded set _ seen = seen.command ≡ pos 0

-- no event of the list is a tick
abbrev pub HasNoTick : List PlainEvent → Type 0
HasNoTick [] = Unit {0}
HasNoTick (Pass dt drift ∷ events) = HasNoTick events
HasNoTick (Tick ∷ events) = ⊥
HasNoTick (Exch span dms dsm o2 o3 t ∷ events) = HasNoTick events

-- by how much the commands of the later events moved the clock, after those before
abbrev pub moved_in : PlainSet → ℤ → (later before : List PlainEvent) → ℤ
moved_in set off [] before = pos 0
moved_in set off (event ∷ later) before = moved_in set off later before +ℤ (seen_of set off (later ++ before) event).command

-- a report whose estimate is moved with the clock
abbrev pub moved_with : ℤ → PlainReport → PlainReport
moved_with by report = record report { est = report.est +ℤ by }

-- in later events no tick comes, and all of them keep the premises: then the report, moved with all commands since, holds
abbrev pub HoldsFor : PlainSet → ℤ → (before : List PlainEvent) (event : PlainEvent) → PlainSeen → List PlainEvent → Type 0
HoldsFor set off before event seen later =
    HasNoTick later → Accepts set off (later ++ event ∷ before)
    → IfSome seen.report (λ report. IsWithinBound (true_offset set off (later ++ event ∷ before))
    (moved_with (seen.command +ℤ moved_in set off later (event ∷ before)) report))

-- an exchange whose estimate is no greater than a step leaves a true offset of at most the bound
abbrev pub IsLeft : PlainSet → PlainEvent → PlainSeen → (left : ℤ) → Type 0
IsLeft set (Exch span dms dsm o2 o3 t) seen left =
    IfSome seen.report (λ report. neg_ℤ set.step ≤ℤ report.est → report.est ≤ℤ set.step → pos (unsigned_abs left) ≤ℤ report.bound)
IsLeft set _ seen left = Unit {0}

-- an event after those before it. The true offset with which it reports is the one at the start with all drift and all commands
-- before. Its command moves the true offset. What is left of the offset is at most the bound. Its report holds until the next
-- tick.
pub record IsSteeredAt (set : PlainSet) (off : ℤ) (before : List PlainEvent) (event : PlainEvent) : Type 0 where
  pub offset : (seen_of set off before event).off ≡ (off +ℤ drifts (event ∷ before)) +ℤ moved_in set off before []
  pub commanded : IsCommanded set event (seen_of set off before event)
  pub moves : true_offset set off (event ∷ before) ≡ (seen_of set off before event).off +ℤ (seen_of set off before event).command
  pub left : IsLeft set event (seen_of set off before event) (true_offset set off (event ∷ before))
  pub holds : (later : List PlainEvent) → HoldsFor set off before event (seen_of set off before event) later

-- so it is for each of these events, newest first
abbrev pub AreSteered : PlainSet → ℤ → List PlainEvent → Type 0
AreSteered set off [] = Unit {0}
AreSteered set off (event ∷ before) = IsSteeredAt set off before event × AreSteered set off before

-- whatever the records say
abbrev pub ReportsHoldUntilTick : Type 0
ReportsHoldUntilTick =
    (first : List ℕ) (lines : List (List ℕ)) (start : PlainStart) (events : List PlainEvent) →
    IsPlainRun first lines start events → AreSteered start.set start.off events
