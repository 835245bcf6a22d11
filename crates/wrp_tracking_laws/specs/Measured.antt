-- A measurement: the four that the exchange hands over is true of the chain, and in TRACK young enough
-- (this project's profile).
use Rattle.std.specs.Prelude.{ℕ, ℤ, ◌≡◌, ◌+◌, ◌*◌, ◌≤◌, Some, List, ◌∷◌, map}
use Rattle.wrp_base.specs.declared.measurement.Four.{Four}
use Rattle.wrp_exch.specs.Call.{Call}
use Rattle.wrp_exch.specs.Exchange.{four_of}
use Rattle.wrp_bounds.specs.declared.numbers.HopNumbers.{HopNumbers}
use Rattle.wrp_tracking_laws.specs.Moment.{Moment}
use Rattle.wrp_tracking_laws.specs.History.{Was, EachStep}
use Rattle.wrp_tracking_laws.specs.Ticks.{TickMoment, TickStep, IsOnTime}
use Rattle.wrp_tracking_laws.specs.HopInTrack.{FourHolds}
use Rattle.wrp_tracking_laws.specs.SyncPieces.{Told, SyncHolds}
use Rattle.wrp_tracking_laws.specs.DelayPieces.{DelayHolds}

-- a moment of the link as one of the node's ticks, with the time of its last tick
abbrev pub tick_of : (last : Moment → ℤ) → Moment → TickMoment
tick_of last m = record { time = m.time; ticks = m.ticks; last = last m }

-- the node ticks on time from the moment of number `from` on
pub record TicksOnTime (dmin dmax : ℕ) (last : Moment → ℤ) (from : ℕ) (history : List Moment)
    : Type 0 where
  pub steps : EachStep (TickStep dmin dmax) from (map (tick_of last) history)
  pub on_time :
      (at : ℕ) (m : Moment) → Was history at m → from ≤ at → IsOnTime dmax (tick_of last m)

-- the four that the exchange hands over is true of the chain, if it is at most `age` ticks old
abbrev pub FourIsTrue : Type 0
FourIsTrue =
    (hop : HopNumbers) (now : Moment) (past : List Moment) (from : ℕ) (constant : ℤ) →
    (said may : List Told) (ring : ℕ) (calls : List Call) (four : Four) (last : Moment → ℤ) →
    (dmin dmax age : ℕ) →
    SyncHolds hop constant said ring calls →
    DelayHolds hop constant (now ∷ past) from may ring calls →
    four_of ring calls ≡ Some four →
    now.ticks ≤ four.tick + age →
    (age + 1) * dmax ≤ hop.age_time →
    TicksOnTime dmin dmax last from (now ∷ past) →
    FourHolds hop now past from constant four
