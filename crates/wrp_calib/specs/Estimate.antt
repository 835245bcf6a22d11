-- What the runs show of the four delays and of the asymmetry: the interval that each run gives, and their
-- intersections (this project's profile). p and q are the delays of the ports on the way down and up, x and y the
-- delays of the two strands.
use Rattle.std.specs.Prelude.{ℕ, ℤ, pos, ◌^◌, ◌+ℤ◌, ◌-ℤ◌, ◌*ℤ◌, List, ◌++◌, ◌∷◌, map}
use Rattle.wrp_base.specs.Division.{floor_quotient, ceil_quotient}
use Rattle.wrp_calib.specs.declared.span.Span.{Span}
use Rattle.wrp_calib.specs.Span.{intersection}
use Rattle.wrp_calib.specs.Run.{Run, down_of, up_of}

-- e: how far a measured delay may be off. d and ep: what either direction of the patch cord takes, and how far it may be off.
pub record Errors : Type 0 where
  pub e : ℕ
  pub d : ℕ
  pub ep : ℕ

-- the interval of the ports' delay, from a delay measured over the patch cord
abbrev pub ports_interval : Errors → ℤ → Span
ports_interval errors f = record {
  lo = ((f -ℤ pos errors.e) -ℤ pos errors.d) -ℤ pos errors.ep;
  hi = ((f +ℤ pos errors.e) -ℤ pos errors.d) +ℤ pos errors.ep;
}

-- the interval of a strand's delay, from a delay measured over it and the interval of the ports' delay
abbrev pub strand_interval : Errors → Span → ℤ → Span
strand_interval errors ports f = record {
  lo = (f -ℤ pos errors.e) -ℤ ports.hi;
  hi = (f +ℤ pos errors.e) -ℤ ports.lo;
}

-- the intersection of the ports' intervals: of p if `way` is the delay down, of q if it is the delay up
abbrev pub ports_span : Errors → (Run → ℤ) → Run → List Run → Span
ports_span errors way r rs =
    let told = λ (run : Run). ports_interval errors (way run) in
    intersection (told r) (map told rs)

-- the intersection of a strand's intervals: `p_runs` passed it on the way down, `q_runs` on the way up
abbrev pub strand_span : Errors → Span → Span → Run → List Run → Run → List Run → Span
strand_span errors p q s ss w ws =
    let down = λ (run : Run). strand_interval errors p (down_of run) in
    let up = λ (run : Run). strand_interval errors q (up_of run) in
    intersection (down s) (map down ss ++ (up w ∷ map up ws))

-- the least and the greatest asymmetry 2^40 * (x / (x + y) - 1/2) of strands with these delays, rounded outwards
abbrev pub kappa_span : Span → Span → Span
kappa_span x y = record {
  lo = floor_quotient (x.lo *ℤ pos (2 ^ 40)) (x.lo +ℤ y.hi) -ℤ pos (2 ^ 39);
  hi = ceil_quotient (x.hi *ℤ pos (2 ^ 40)) (x.hi +ℤ y.lo) -ℤ pos (2 ^ 39);
}
