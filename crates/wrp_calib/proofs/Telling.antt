-- The answer from the kept ends is the answer that is expected after the runs.
use Rattle.std.proofs.Common.{◌≡◌, ℤ, List, [], ◌∷◌, map, Option, Result, refl, ap, ap₂, ◌∙◌, sym, arith}
use Rattle.std.proofs.lemmas.Int.{ints, clamps}
use Rattle.wrp_calib.specs.declared.span.Span.{Span}
use Rattle.wrp_calib.specs.declared.run.RunKind.TheVariants.{Ref, Straight, Swapped}
use Rattle.wrp_calib.specs.declared.run.Ends.{Ends}
use Rattle.wrp_calib.specs.declared.calibration.CalibOut.{CalibOut}
use Rattle.wrp_calib.specs.declared.calibration.CalibFault.{CalibFault}
use Rattle.wrp_calib.specs.Span.{point, meet, intersection}
use Rattle.wrp_calib.specs.Run.{Run, runs_of, down_of, up_of}
use Rattle.wrp_calib.specs.Estimate.{Errors, ports_interval, strand_interval, ports_span, strand_span}
use Rattle.wrp_calib.specs.Answer.{judged, answer_from, answer_of}
use Rattle.wrp_calib.specs.StandsFor.{CalibAt, ends_of, StandsFor}
use Rattle.wrp_calib.specs.Kept.{ports_at, strand_at, answer_with, answer_at}
use Rattle.wrp_calib.proofs.Spans.{Moves, intersection-append, both_ends-intersection}

ports-moves : (errors : Errors) → Moves (ports_interval errors)
ports-moves errors = record { lo = λ a b. omega (arith, ints, clamps); hi = λ a b. omega (arith, ints, clamps) }

strand-moves : (errors : Errors) (ports : Span) → Moves (strand_interval errors ports)
strand-moves errors ports = record { lo = λ a b. omega (arith, ints, clamps); hi = λ a b. omega (arith, ints, clamps) }

-- the greatest and the least delays that runs measured
ends : (Run → ℤ) → Run → List Run → Span
ends way r rs = intersection (point (way r)) (map (λ run. point (way run)) rs)

ports_at-is : (errors : Errors) (way : Run → ℤ) (r : Run) (rs : List Run) →
    ports_at errors (ends way r rs) ≡ ports_span errors way r rs
unfolding ends
ports_at-is errors way r rs = both_ends-intersection (ports_interval errors) (ports-moves errors) way r rs

strand_at-is : (errors : Errors) (p q : Span) (s : Run) (ss : List Run) (w : Run) (ws : List Run) →
    strand_at errors p q (ends down_of s ss) (ends up_of w ws) ≡ strand_span errors p q s ss w ws
unfolding ends
strand_at-is errors p q s ss w ws =
    ap₂ meet (both_ends-intersection (strand_interval errors p) (strand-moves errors p) down_of s ss)
    (both_ends-intersection (strand_interval errors q) (strand-moves errors q) up_of w ws)
    ∙ sym (intersection-append (strand_interval errors p (down_of s)) (map (λ r. strand_interval errors p (down_of r)) ss)
    (strand_interval errors q (up_of w)) (map (λ r. strand_interval errors q (up_of r)) ws))

-- the strands' intervals follow the ports'
judged_at : Errors → Span → Span → Run → List Run → Run → List Run → Result CalibOut CalibFault
judged_at errors p q s ss w ws = judged p q (strand_span errors p q s ss w ws) (strand_span errors p q w ws s ss)

answer_with-is : (errors : Errors) (rs ss ws : List Run) →
    answer_with errors (ends_of rs) (ends_of ss) (ends_of ws) ≡ answer_from errors rs ss ws
unfolding ends judged_at
answer_with-is errors [] ss ws = refl
answer_with-is errors (r ∷ rs) [] ws = refl
answer_with-is errors (r ∷ rs) (s ∷ ss) [] = refl
answer_with-is errors (r ∷ rs) (s ∷ ss) (w ∷ ws) =
    let p = ports_at errors (ends down_of r rs) in
    let q = ports_at errors (ends up_of r rs) in
    ap₂ (judged p q) (strand_at-is errors p q s ss w ws) (strand_at-is errors p q w ws s ss)
    ∙ ap₂ (λ (a b : Span). judged_at errors a b s ss w ws) (ports_at-is errors down_of r rs) (ports_at-is errors up_of r rs)

pub answer_at-is : (errors : Errors) (calib : CalibAt) (runs : List Run) → StandsFor errors calib runs →
    answer_at calib ≡ answer_of errors runs
answer_at-is errors calib runs stands =
    ap (λ (e : Errors). answer_with e calib.reference calib.straight calib.swapped) stands.errors_are
    ∙ ap (λ (e : Option Ends). answer_with errors e calib.straight calib.swapped) stands.reference
    ∙ ap₂ (answer_with errors (ends_of (runs_of Ref runs))) stands.straight stands.swapped
    ∙ answer_with-is errors (runs_of Ref runs) (runs_of Straight runs) (runs_of Swapped runs)
