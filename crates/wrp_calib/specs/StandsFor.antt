-- The list of runs that a calibration stands for, the newest first (this project's profile).
use Rattle.std.specs.Prelude.{◌≡◌, List, [], ◌∷◌, map, Option, Some, None}
use Rattle.wrp_calib.specs.declared.run.RunKind.TheVariants.{Ref, Straight, Swapped}
use Rattle.wrp_calib.specs.declared.run.Ends.{Ends}
use Rattle.wrp_calib.specs.Span.{point, meet, intersection, IsSmall}
use Rattle.wrp_calib.specs.Run.{Run, runs_of, down_of, up_of}
use Rattle.wrp_calib.specs.Estimate.{Errors}

-- what a calibration keeps: the errors that it was given, and of each kind the greatest and the least measured delays
pub record CalibAt : Type 0 where
  pub errors : Errors
  pub reference : Option Ends
  pub straight : Option Ends
  pub swapped : Option Ends

-- the greatest and the least of these runs' measured delays, on the way down and up
abbrev pub ends_of : List Run → Option Ends
ends_of [] = None
ends_of (run ∷ runs) = Some (record {
  down = intersection (point (down_of run)) (map (λ r. point (down_of r)) runs);
  up = intersection (point (up_of run)) (map (λ r. point (up_of r)) runs);
})

-- the ends that a run alone gives
abbrev pub run_ends : Run → Ends
run_ends run = record { down = point (down_of run); up = point (up_of run) }

-- the ends with one more run's
abbrev pub joined : Ends → Option Ends → Ends
joined run None = run
joined run (Some ends) = record { down = meet run.down ends.down; up = meet run.up ends.up }

-- the four ends are each at most 2^62, either sign
abbrev pub HasSmallEnds : Ends → Type 0
HasSmallEnds ends = IsSmall 62 ends.down × IsSmall 62 ends.up

-- a calibration with these errors was given these runs
pub record StandsFor (errors : Errors) (calib : CalibAt) (runs : List Run) : Type 0 where
  pub errors_are : calib.errors ≡ errors
  pub reference : calib.reference ≡ ends_of (runs_of Ref runs)
  pub straight : calib.straight ≡ ends_of (runs_of Straight runs)
  pub swapped : calib.swapped ≡ ends_of (runs_of Swapped runs)
