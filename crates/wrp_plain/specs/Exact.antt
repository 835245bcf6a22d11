-- How a measurement is rounded, which of the kept ones is reported, and which events are taken: each said without the
-- division or the search that finds it (this project's profile).
use Rattle.std.specs.Prelude.{◌≡◌, ◌↔◌, ℕ, ℤ, pos, neg_ℤ, ◌+◌, ◌*◌, ◌^◌, ◌<◌, ◌≤◌, ◌<ℤ◌, ◌≤ℤ◌, ◌+ℤ◌, ◌-ℤ◌, ◌*ℤ◌, unsigned_abs, List, [], ◌∷◌, ◌++◌, None, Some}
use Rattle.std.specs.List.{AllByRecursion}
use Rattle.wrp_plain.specs.declared.settings.PlainSet.{PlainSet}
use Rattle.wrp_plain.specs.declared.settings.PlainReport.{PlainReport}
use Rattle.wrp_plain.specs.declared.event.PlainEvent.{PlainEvent}
use Rattle.wrp_plain.specs.declared.event.PlainEvent.TheVariants.{Pass, Tick, Exch}
use Rattle.wrp_plain.specs.Measurement.{base_of, est_of, exchange_move, moves_within}
use Rattle.wrp_plain.specs.Call.{Call, CallMeasured}
use Rattle.wrp_plain.specs.Report.{kept_reports, report_of}
use Rattle.wrp_plain.specs.Event.{t1_of, t2_of, t3_of, t4_of, time_since_tick}
use Rattle.wrp_plain.specs.Seen.{true_offset}
use Rattle.wrp_plain.specs.Premises.{broken_after}

-- ---- measurements

-- half of a whole number, rounded down
abbrev pub IsHalfDown : ℤ → ℤ → Type 0
IsHalfDown half whole = ((pos 2 *ℤ half) ≤ℤ whole) × (whole ≤ℤ (pos 2 *ℤ half +ℤ pos 1))

-- half of a whole number, rounded up
abbrev pub IsHalfUp : ℤ → ℤ → Type 0
IsHalfUp half whole = (whole ≤ℤ (pos 2 *ℤ half)) × ((pos 2 *ℤ half) ≤ℤ (whole +ℤ pos 1))

-- the bound of a measurement, from half the round trip
abbrev pub bound_from : PlainSet → ℤ → ℤ
bound_from set half = (half -ℤ set.least) +ℤ pos (2 * exchange_move set + 4 * set.err + 1)

-- no report of the list has a lesser bound, and each newer one has a greater; the newest come first
pub record IsNewestOfLeast (reports : List PlainReport) (report : PlainReport) : Type 0 where
  pub newer : List PlainReport
  pub older : List PlainReport
  pub all : reports ≡ newer ++ report ∷ older
  pub above : AllByRecursion (λ r. report.bound <ℤ r.bound) newer
  pub not_below : AllByRecursion (λ r. report.bound ≤ℤ r.bound) older

-- settings without errors, moves and least delay
abbrev pub worked_set : PlainSet
worked_set = record { rate = 0; err = 0; least = pos 0; span = pos 0; dmax = pos 1; ring = 4; step = pos 1 }

-- the offset is rounded down, half of the round trip up, a move up; of equal bounds the newest is reported, as in the
-- worked row, in which both round trips are 12
pub record MeasurementsAreExact : Type 0 where
  pub est : (t1 t2 t3 t4 : ℤ) → IsHalfDown (est_of t1 t2 t3 t4) ((t2 -ℤ t1) -ℤ (t4 -ℤ t3))
  pub base : (set : PlainSet) (round : ℤ) → (half : ℤ) × IsHalfUp half round × (base_of set round ≡ bound_from set half)
  pub moves_at_least : (rate time : ℕ) → rate * time ≤ 10 ^ 12 * moves_within rate time
  pub moves_at_most : (rate time : ℕ) → 10 ^ 12 * moves_within rate time < rate * time + 10 ^ 12
  pub newest : (set : PlainSet) (calls : List Call) (report : PlainReport) → report_of set calls ≡ Some report
      → IsNewestOfLeast (kept_reports set calls) report
  pub worked :
      report_of worked_set
      (CallMeasured (pos 0) (pos 5) (pos 0) (pos 7) ∷ CallMeasured (pos 0) (pos 6) (pos 0) (pos 6) ∷ [])
      ≡ Some (record { est = neg_ℤ (pos 1); bound = pos 7 })

-- ---- events

-- an exchange keeps its premises if this is the true offset: the third, the fourth of both delays, the fifth and the
-- sixth of both stamps of the slave
pub record KeepsExchange (set : PlainSet) (off took dms dsm o2 o3 : ℤ) (t : List ℤ) : Type 0 where
  pub span : took ≤ℤ set.span
  pub least_down : set.least ≤ℤ dms
  pub least_up : set.least ≤ℤ dsm
  pub moved_down : unsigned_abs (o2 -ℤ off) ≤ moves_within set.rate (unsigned_abs took)
  pub moved_up : unsigned_abs (o3 -ℤ off) ≤ moves_within set.rate (unsigned_abs took)
  pub stamps_down : unsigned_abs (((t2_of t -ℤ t1_of t) -ℤ dms) -ℤ o2) ≤ 2 * set.err
  pub stamps_up : unsigned_abs (((t4_of t -ℤ t3_of t) -ℤ dsm) +ℤ o3) ≤ 2 * set.err

-- an event keeps the premises, if this is the true offset and this much time passed since the last tick
abbrev pub Keeps : PlainSet → ℤ → ℕ → PlainEvent → Type 0
Keeps set off since (Pass dt drift) =
    (pos (unsigned_abs dt + since) ≤ℤ set.dmax) × (unsigned_abs drift * 10 ^ 12 ≤ set.rate * unsigned_abs dt)
Keeps set off since Tick = Unit {0}
Keeps set off since (Exch span dms dsm o2 o3 t) = KeepsExchange set off span dms dsm o2 o3 t

-- it breaks none if and only if it keeps them
abbrev pub EventsAreTakenExactly : Type 0
EventsAreTakenExactly =
    (set : PlainSet) (off : ℤ) (events : List PlainEvent) (event : PlainEvent)
    → (broken_after set off events event ≡ None) ↔ Keeps set (true_offset set off events) (time_since_tick events) event
