-- That a calibration's intervals hold no number too many: each delay in one keeps the stated errors in the runs that
-- measured it, and no whole numbers closer together hold every asymmetry (this project's profile).
use Rattle.std.specs.Prelude.{ℤ, pos, ◌≤ℤ◌, ◌<ℤ◌, ◌+ℤ◌, List, Result, Ok, Err}
use Rattle.std.specs.List.{AllByRecursion}
use Rattle.wrp_base.specs.Closeness.{IsWithin}
use Rattle.wrp_calib.specs.declared.span.Span.{Span}
use Rattle.wrp_calib.specs.declared.run.RunKind.TheVariants.{Ref, Straight, Swapped}
use Rattle.wrp_calib.specs.declared.calibration.CalibOut.{CalibOut}
use Rattle.wrp_calib.specs.declared.calibration.CalibFault.{CalibFault}
use Rattle.wrp_calib.specs.declared.calibration.CalibFault.TheVariants.{Short}
use Rattle.wrp_calib.specs.declared.calibration.Unknown.{Unknown}
use Rattle.wrp_calib.specs.declared.calibration.Unknown.TheVariants.{P, Q, X, Y}
use Rattle.wrp_calib.specs.Span.{Holds}
use Rattle.wrp_calib.specs.Run.{Run, runs_of, down_of, up_of}
use Rattle.wrp_calib.specs.Estimate.{Errors}
use Rattle.wrp_calib.specs.Answer.{answer_of}
use Rattle.wrp_calib.specs.Truth.{KeepsCord, HoldsAsymmetry}

-- as the ports' delay on one way this number keeps the errors in each of these runs over the patch cord
abbrev pub FitsCord : Errors → (Run → ℤ) → List Run → ℤ → Type 0
FitsCord errors way references ports = AllByRecursion (λ run. KeepsCord errors ports (way run)) references

-- as a strand's delay this number keeps the errors in each of these runs, with some delay of the ports that the runs over
-- the patch cord allow
abbrev pub FitsStrand : Errors → (Run → ℤ) → (references runs : List Run) → ℤ → Type 0
FitsStrand errors way references runs strand =
    AllByRecursion
    (λ run. (ports : ℤ) × FitsCord errors way references ports × IsWithin errors.e (way run) (ports +ℤ strand)) runs

-- the runs allow this number as this delay
abbrev pub Allow : Errors → List Run → Unknown → ℤ → Type 0
Allow errors runs P delay = FitsCord errors down_of (runs_of Ref runs) delay
Allow errors runs Q delay = FitsCord errors up_of (runs_of Ref runs) delay
Allow errors runs X delay =
    FitsStrand errors down_of (runs_of Ref runs) (runs_of Straight runs) delay
    × FitsStrand errors up_of (runs_of Ref runs) (runs_of Swapped runs) delay
Allow errors runs Y delay =
    FitsStrand errors down_of (runs_of Ref runs) (runs_of Swapped runs) delay
    × FitsStrand errors up_of (runs_of Ref runs) (runs_of Straight runs) delay

-- whatever whole numbers hold the asymmetry of all strands with delays in these intervals, neither end is inside this
-- interval
abbrev pub IsTightest : Span → (x y : Span) → Type 0
IsTightest kappa x y =
    (other : Span) → ((a b : ℤ) → Holds x a → Holds y b → HoldsAsymmetry other a b)
    → (other.lo ≤ℤ kappa.lo) × (kappa.hi ≤ℤ other.hi)

-- the runs allow each delay of an answer's intervals, and the asymmetry's interval is the tightest
pub record IsTight (errors : Errors) (runs : List Run) (out : CalibOut) : Type 0 where
  pub p : (delay : ℤ) → Holds out.p delay → Allow errors runs P delay
  pub q : (delay : ℤ) → Holds out.q delay → Allow errors runs Q delay
  pub x : (delay : ℤ) → Holds out.x delay → Allow errors runs X delay
  pub y : (delay : ℤ) → Holds out.y delay → Allow errors runs Y delay
  pub kappa : IsTightest out.kappa out.x out.y

-- so it is for each answer; and a strand is called too short only if the runs allow the least end of its interval,
-- which is below 1
abbrev pub AnswersAreTight : Errors → List Run → Result CalibOut CalibFault → Type 0
AnswersAreTight errors runs (Ok out) = IsTight errors runs out
AnswersAreTight errors runs (Err (Short name lo)) = (lo <ℤ pos 1) × Allow errors runs name lo
AnswersAreTight errors runs (Err fault) = Unit {0}

abbrev pub IntervalsAreTight : Type 0
IntervalsAreTight = (errors : Errors) (runs : List Run) → AnswersAreTight errors runs (answer_of errors runs)
