-- Laws of simulations (this project's profile).
use Rattle.std.specs.Prelude.{◌≡◌, ◌<◌, ℕ, List, length}
use Rattle.wrp_course.specs.Setting.{Setting}
use Rattle.wrp_simulate.specs.Simulates.{Overruns, Simulates}

-- no event of a simulation has the number 4,294,967,295; and if the number of the next event is too great, an event
-- came for each number below it
abbrev pub EventsAreNumbered : Type 0
EventsAreNumbered =
    (s : Setting) (seed : ℕ) (lines : List (List ℕ)) (run : Simulates s seed lines) →
    (length run.events < 4_294_967_295) × (Overruns s seed lines run → length run.events ≡ 4_294_967_294)
