-- What is written of an event, and what holds at each event of a run (this project's profile).
use Rattle.std.specs.Prelude.{ℕ, List, [], ◌∷◌}
use Rattle.wrp_course.specs.Run.{Happened}
use Rattle.wrp_course.specs.Setting.{Setting}

-- what is written of an event, after the events before it
abbrev pub Writing : Type 0
Writing = Setting → List Happened → Happened → List ℕ

-- something holds of each event, with the events before it
abbrev pub AtEachEvent : (List Happened → Happened → Type 0) → List Happened → Type 0
AtEachEvent P [] = Unit {0}
AtEachEvent P (h ∷ before) = P before h × AtEachEvent P before
