-- The true delays of a calibration, what they keep of the stated errors, and what an answer shows of them (this
-- project's profile).
use Rattle.std.specs.Prelude.{ℤ, pos, ◌^◌, ◌≤ℤ◌, ◌+ℤ◌, ◌*ℤ◌, ◌≢◌, List, [], Result, Ok, Err}
use Rattle.wrp_base.specs.Closeness.{IsWithin}
use Rattle.wrp_calib.specs.declared.span.Span.{Span}
use Rattle.wrp_calib.specs.declared.run.RunKind.{RunKind}
use Rattle.wrp_calib.specs.declared.run.RunKind.TheVariants.{Ref, Straight, Swapped}
use Rattle.wrp_calib.specs.declared.calibration.CalibOut.{CalibOut}
use Rattle.wrp_calib.specs.declared.calibration.CalibFault.{CalibFault}
use Rattle.wrp_calib.specs.declared.calibration.CalibFault.TheVariants.{Missing, Conflict, Short}
use Rattle.wrp_calib.specs.Span.{Holds}
use Rattle.wrp_calib.specs.Run.{Run, runs_of, down_of, up_of}
use Rattle.wrp_calib.specs.Estimate.{Errors}

-- the true delays: of the ports on the way down and up, and of the two strands
pub record Delays : Type 0 where
  pub p : ℤ
  pub q : ℤ
  pub x : ℤ
  pub y : ℤ

-- the delay measured over the patch cord is within e of the ports' delay and the cord's, and the cord's within ep of d
abbrev pub KeepsCord : Errors → ℤ → ℤ → Type 0
KeepsCord errors ports f =
    (cord : ℤ) × IsWithin errors.ep cord (pos errors.d) × IsWithin errors.e f (ports +ℤ cord)

-- the two delays that a run of this kind measured keep the errors: each is within e of the sum of the true delays passed
abbrev pub KeepsErrorsAs : Errors → Delays → RunKind → ℤ → ℤ → Type 0
KeepsErrorsAs errors true Ref f g = KeepsCord errors true.p f × KeepsCord errors true.q g
KeepsErrorsAs errors true Straight f g =
    IsWithin errors.e f (true.p +ℤ true.x) × IsWithin errors.e g (true.q +ℤ true.y)
KeepsErrorsAs errors true Swapped f g =
    IsWithin errors.e f (true.p +ℤ true.y) × IsWithin errors.e g (true.q +ℤ true.x)

-- the run keeps the stated errors of the true delays
abbrev pub KeepsErrors : Errors → Delays → Run → Type 0
KeepsErrors errors true run = KeepsErrorsAs errors true run.kind (down_of run) (up_of run)

-- a run of this kind came
abbrev pub Came : RunKind → List Run → Type 0
Came kind runs = runs_of kind runs ≢ []

-- a run of every kind came
abbrev pub CameAll : List Run → Type 0
CameAll runs = Came Ref runs × Came Straight runs × Came Swapped runs

-- the interval holds the asymmetry 2^40 * (x / (x + y) - 1/2), said without division: 2^39 above its ends, times x + y,
-- lie 2^40 * x
abbrev pub HoldsAsymmetry : Span → ℤ → ℤ → Type 0
HoldsAsymmetry kappa x y =
    (((kappa.lo +ℤ pos (2 ^ 39)) *ℤ (x +ℤ y)) ≤ℤ (pos (2 ^ 40) *ℤ x)) ×
    ((pos (2 ^ 40) *ℤ x) ≤ℤ ((kappa.hi +ℤ pos (2 ^ 39)) *ℤ (x +ℤ y)))

-- each interval holds its true value
pub record HoldsAll (out : CalibOut) (true : Delays) : Type 0 where
  pub p : Holds out.p true.p
  pub q : Holds out.q true.q
  pub x : Holds out.x true.x
  pub y : Holds out.y true.y
  pub positive : pos 1 ≤ℤ (true.x +ℤ true.y)
  pub kappa : HoldsAsymmetry out.kappa true.x true.y

-- the answer holds the truth, or is that a strand may be too short
abbrev pub TellsTruth : Delays → Result CalibOut CalibFault → Type 0
TellsTruth true (Ok out) = HoldsAll out true
TellsTruth true (Err (Missing kind)) = ⊥
TellsTruth true (Err (Conflict name lo hi)) = ⊥
TellsTruth true (Err (Short name lo)) = Unit {0}
