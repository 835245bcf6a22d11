-- The answer of a calibration: its four delays and its asymmetry, or the first reason why there is none (this
-- project's profile).
use Rattle.std.specs.Prelude.{pos, if◌then◌else◌, int_lt, List, [], ◌∷◌, Result, Ok, Err}
use Rattle.wrp_calib.specs.declared.span.Span.{Span}
use Rattle.wrp_calib.specs.declared.run.RunKind.TheVariants.{Ref, Straight, Swapped}
use Rattle.wrp_calib.specs.declared.calibration.Unknown.TheVariants.{P, Q, X, Y}
use Rattle.wrp_calib.specs.declared.calibration.CalibOut.{CalibOut}
use Rattle.wrp_calib.specs.declared.calibration.CalibFault.{CalibFault}
use Rattle.wrp_calib.specs.declared.calibration.CalibFault.TheVariants.{Missing, Conflict, Short}
use Rattle.wrp_calib.specs.Span.{is_empty}
use Rattle.wrp_calib.specs.Run.{Run, runs_of, down_of, up_of}
use Rattle.wrp_calib.specs.Estimate.{Errors, ports_span, strand_span, kappa_span}

-- the answer from these four intervals: the first that is empty, then the first strand that may be shorter than 1, refuses
abbrev pub judged : Span → Span → Span → Span → Result CalibOut CalibFault
judged p q x y =
    if is_empty p then Err (Conflict P p.lo p.hi)
    else (if is_empty q then Err (Conflict Q q.lo q.hi)
    else (if is_empty x then Err (Conflict X x.lo x.hi)
    else (if is_empty y then Err (Conflict Y y.lo y.hi)
    else (if int_lt x.lo (pos 1) then Err (Short X x.lo)
    else (if int_lt y.lo (pos 1) then Err (Short Y y.lo)
    else Ok (record { p = p; q = q; x = x; y = y; kappa = kappa_span x y }))))))

-- the answer from the reference runs, the straight and the swapped ones: a strand is x of the straight runs on the way
-- down and of the swapped ones on the way up, and y the other way
abbrev pub answer_from : Errors → List Run → List Run → List Run → Result CalibOut CalibFault
answer_from errors [] ss ws = Err (Missing Ref)
answer_from errors (r ∷ rs) [] ws = Err (Missing Straight)
answer_from errors (r ∷ rs) (s ∷ ss) [] = Err (Missing Swapped)
answer_from errors (r ∷ rs) (s ∷ ss) (w ∷ ws) =
    let p = ports_span errors down_of r rs in
    let q = ports_span errors up_of r rs in
    judged p q (strand_span errors p q s ss w ws) (strand_span errors p q w ws s ss)

-- the answer that is expected after these runs
abbrev pub answer_of : Errors → List Run → Result CalibOut CalibFault
answer_of errors runs =
    answer_from errors (runs_of Ref runs) (runs_of Straight runs) (runs_of Swapped runs)
