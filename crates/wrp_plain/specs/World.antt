-- The list of events that a world with a plain servo represents, and what its reports are worth (this project's
-- profile).
use Rattle.std.specs.Prelude.{◌≡◌, ℕ, ℤ, pos, ◌≤ℤ◌, ◌-ℤ◌, unsigned_abs, List, length, All, Contains, IfSome, IsSome}
use Rattle.wrp_plain.specs.declared.settings.PlainSet.{PlainSet}
use Rattle.wrp_plain.specs.declared.settings.PlainReport.{PlainReport}
use Rattle.wrp_plain.specs.declared.event.PlainEvent.{PlainEvent}
use Rattle.wrp_plain.specs.declared.event.PlainEvent.TheVariants.{Pass, Tick, Exch}
use Rattle.wrp_plain.specs.declared.event.PlainSeen.{PlainSeen}
use Rattle.wrp_plain.specs.Measurement.{round_of, least_round}
use Rattle.wrp_plain.specs.StandsFor.{PlainAt, StandsFor}
use Rattle.wrp_plain.specs.Report.{kept_reports}
use Rattle.wrp_plain.specs.Event.{t1_of, t2_of, t3_of, t4_of, time_since_tick}
use Rattle.wrp_plain.specs.Seen.{told_by, calls_of, true_offset}
use Rattle.wrp_plain.specs.Premises.{Accepts}

-- what a world keeps: its servo, the true offset, the time since the last tick or the start, and the count of events
pub record WorldAt : Type 0 where
  pub servo : PlainAt
  pub off : ℤ
  pub since : ℕ
  pub events : ℕ

-- a world with these settings and this offset at the start was given these events, and refused none of them
pub record HadEvents (set : PlainSet) (off : ℤ) (world : WorldAt) (events : List PlainEvent) : Type 0 where
  pub servo : StandsFor set world.servo (calls_of set events)
  pub off_is : world.off ≡ true_offset set off events
  pub since_is : world.since ≡ time_since_tick events
  pub events_are : world.events ≡ length events
  pub accepted : Accepts set off events

-- a report gives the true offset to within its bound
abbrev pub IsWithinBound : ℤ → PlainReport → Type 0
IsWithinBound off report = pos (unsigned_abs (report.est -ℤ off)) ≤ℤ report.bound

-- a report is one of these, and none of them has a lesser bound
abbrev pub IsLeastOf : List PlainReport → PlainReport → Type 0
IsLeastOf reports report = Contains reports report × All (λ r. report.bound ≤ℤ r.bound) reports

-- an exchange is never Short: its round trip is at least the least one, and it has a report
abbrev pub IsNeverShort : PlainSet → PlainEvent → PlainSeen → Type 0
IsNeverShort set (Pass dt drift) seen = Unit {0}
IsNeverShort set Tick seen = Unit {0}
IsNeverShort set (Exch span dms dsm o2 o3 t) seen =
    (least_round set ≤ℤ round_of (t1_of t) (t2_of t) (t3_of t) (t4_of t)) × IsSome seen.report

-- what an event gives is true: its report is within its bound of the true offset, that bound is the least that a kept
-- measurement gives, and Short never comes
pub record TellsTruth (set : PlainSet) (events : List PlainEvent) (event : PlainEvent) (seen : PlainSeen) : Type 0 where
  pub within : IfSome seen.report (IsWithinBound seen.off)
  pub least : IfSome seen.report (IsLeastOf (kept_reports set (told_by event (calls_of set events))))
  pub never_short : IsNeverShort set event seen
