-- The calls of a plain servo and the commands that it gave, as a list with the newest first, so that it is read
-- looking back; and what each measurement means now (this project's profile).
use Rattle.std.specs.Prelude.{ℕ, ℤ, pos, ◌+◌, ◌+ℤ◌, List, [], ◌∷◌}
use Rattle.wrp_plain.specs.declared.settings.PlainSet.{PlainSet}
use Rattle.wrp_plain.specs.Measurement.{est_of, base_of, round_of}

pub data Call : Type 0 where
  CallMeasured : (t1 : ℤ) (t2 : ℤ) (t3 : ℤ) (t4 : ℤ) → Call
  CallTick : Call
  CallCommand : (by : ℤ) → Call

-- what a measurement means: the offset, how far the true one was from it at most, and the ticks since
pub record Standing : Type 0 where
  pub est : ℤ
  pub base : ℤ
  pub ticks : ℕ

-- what the measurements among these calls mean, if later commands moved the clock by `moved` and `ticks` ticks came
-- later: each measured offset is moved by all commands since
abbrev pub marks_before : PlainSet → ℤ → ℕ → List Call → List Standing
marks_before set moved ticks [] = []
marks_before set moved ticks (CallMeasured t1 t2 t3 t4 ∷ calls) =
    record { est = est_of t1 t2 t3 t4 +ℤ moved; base = base_of set (round_of t1 t2 t3 t4); ticks = ticks } ∷
    marks_before set moved ticks calls
marks_before set moved ticks (CallTick ∷ calls) = marks_before set moved (ticks + 1) calls
marks_before set moved ticks (CallCommand by ∷ calls) = marks_before set (moved +ℤ by) ticks calls

-- what the measurements mean now, the newest first
abbrev pub standings : PlainSet → List Call → List Standing
standings set calls = marks_before set (pos 0) 0 calls

-- how many ticks came
abbrev pub ticks_in : List Call → ℕ
ticks_in [] = 0
ticks_in (CallMeasured t1 t2 t3 t4 ∷ calls) = ticks_in calls
ticks_in (CallTick ∷ calls) = ticks_in calls + 1
ticks_in (CallCommand by ∷ calls) = ticks_in calls
