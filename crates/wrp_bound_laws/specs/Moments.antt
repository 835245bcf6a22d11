-- Parts of a run: what held after an event, and after each that came since (this project's profile).
use Rattle.std.specs.Prelude.{List, [], ◌∷◌, ◌++◌}
use Rattle.wrp_course.specs.Run.{Happened}

-- it held after the older events, and after each of the newer ones
abbrev pub AtEach : (List Happened → Type 0) → (newer older : List Happened) → Type 0
AtEach P [] older = P older
AtEach P (h ∷ newer) older = P (h ∷ (newer ++ older)) × AtEach P newer older
