-- The list of calls that a plain servo stands for (this project's profile).
use Rattle.std.specs.Prelude.{ℕ, ℤ, ◌≡◌, ◌-◌, ◌^◌, ◌≤◌, ◌+ℤ◌, unsigned_abs, int_lt, if◌then◌else◌, List, [], ◌∷◌, take, Option, Some, None}
use Rattle.wrp_plain.specs.declared.settings.PlainSet.{PlainSet}
use Rattle.wrp_plain.specs.declared.settings.PlainReport.{PlainReport}
use Rattle.wrp_plain.specs.declared.kept.Kept.{Kept}
use Rattle.wrp_plain.specs.Call.{Call, Standing, standings, ticks_in}

-- what a plain servo keeps: its settings, the kept measurements with the newest first, the last command since, and the
-- tick count
pub record PlainAt : Type 0 where
  pub set : PlainSet
  pub ring : List Kept
  pub last : ℤ
  pub ticks : ℕ

-- what a kept measurement means
abbrev pub mark_of : ℤ → ℕ → Kept → Standing
mark_of moved ticks kept = record { est = kept.est +ℤ moved; base = kept.base; ticks = ticks - kept.ticks }

-- what the kept measurements mean, if later commands moved the clock by `moved`
abbrev pub marks_from : ℤ → ℕ → List Kept → List Standing
marks_from moved ticks [] = []
marks_from moved ticks (kept ∷ rest) = mark_of moved ticks kept ∷ marks_from (moved +ℤ kept.before) ticks rest

-- what they mean now
abbrev pub marks_at : PlainAt → List Standing
marks_at plain = marks_from plain.last plain.ticks plain.ring

-- a servo with these settings was given these calls
pub record StandsFor (set : PlainSet) (plain : PlainAt) (calls : List Call) : Type 0 where
  pub set_is : plain.set ≡ set
  pub marks_are : marks_at plain ≡ take set.ring (standings set calls)
  pub ticks_are : plain.ticks ≡ ticks_in calls

-- a kept measurement is within its ranges
pub record IsKept (ticks : ℕ) (kept : Kept) : Type 0 where
  pub est : unsigned_abs kept.est ≤ 2 ^ 63
  pub base : unsigned_abs kept.base ≤ 2 ^ 64
  pub ticks_passed : kept.ticks ≤ ticks
  pub before : unsigned_abs kept.before ≤ 2 ^ 60

-- each measurement of the list is
abbrev pub AreKept : ℕ → List Kept → Type 0
AreKept ticks [] = Unit {0}
AreKept ticks (kept ∷ rest) = IsKept ticks kept × AreKept ticks rest

-- the offset of a report is at most 2^68, either sign
abbrev pub HasSmallEst : PlainReport → Type 0
HasSmallEst report = unsigned_abs report.est ≤ 2 ^ 68

-- the lesser of two reports by their bounds, the first of equals
abbrev pub better : Option PlainReport → PlainReport → Option PlainReport
better None report = Some report
better (Some best) report = if int_lt report.bound best.bound then Some report else Some best
