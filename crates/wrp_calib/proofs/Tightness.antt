-- Each number of an answer's intervals is allowed by the runs, and the asymmetry's ends are the tightest.
use Rattle.std.proofs.Common.{◌≡◌, ℤ, pos, negsuc, ◌^◌, ◌+◌, ◌*◌, ◌<◌, ◌≤ℤ◌, ◌<ℤ◌, ◌+ℤ◌, ◌-ℤ◌, ◌*ℤ◌, Bool, true, false, cond, int_lt, List, [], ◌∷◌, map, Result, refl, subst, arith}
use Rattle.std.specs.Int.{int_max, int_min}
use Rattle.std.specs.List.{AllByRecursion}
use Rattle.std.proofs.Math.IntN.{*ℤ_comm}
use Rattle.std.proofs.Math.Nat.{lt_of_mul-lt-mul_left}
use Rattle.std.proofs.lemmas.Int.{ints, clamps}
use Rattle.wrp_base.specs.Closeness.{IsWithin}
use Rattle.wrp_base.specs.Division.{floor_quotient, ceil_quotient}
use Rattle.wrp_base.proofs.DivisionLaws.{floor_quotient-next, ceil_quotient-next}
use Rattle.wrp_calib.specs.declared.span.Span.{Span}
use Rattle.wrp_calib.specs.declared.run.RunKind.TheVariants.{Ref, Straight, Swapped}
use Rattle.wrp_calib.specs.declared.calibration.CalibOut.{CalibOut}
use Rattle.wrp_calib.specs.declared.calibration.CalibFault.{CalibFault}
use Rattle.wrp_calib.specs.declared.calibration.Unknown.TheVariants.{P, Q, X, Y}
use Rattle.wrp_calib.specs.Span.{Holds, is_empty, meet, intersection}
use Rattle.wrp_calib.specs.Run.{Run, runs_of, down_of, up_of}
use Rattle.wrp_calib.specs.Estimate.{Errors, ports_interval, strand_interval, ports_span, strand_span, kappa_span}
use Rattle.wrp_calib.specs.Answer.{judged, answer_from}
use Rattle.wrp_calib.specs.Truth.{KeepsCord}
use Rattle.wrp_calib.specs.Tightness.{FitsCord, FitsStrand, Allow, IsTightest, AnswersAreTight, IntervalsAreTight}
use Rattle.wrp_calib.proofs.Spans.{intersection-append}

-- ---- delays

Holds-first : (a b : Span) (n : ℤ) → Holds (meet a b) n → Holds a n
Holds-first a b n h = (omega (arith, ints, clamps, h.0), omega (arith, ints, clamps, h.1))

Holds-second : (a b : Span) (n : ℤ) → Holds (meet a b) n → Holds b n
Holds-second a b n h = (omega (arith, ints, clamps, h.0), omega (arith, ints, clamps, h.1))

-- what an intersection holds, each interval holds
Holds-each : (told : Run → Span) (n : ℤ) (r : Run) (rs : List Run) → Holds (intersection (told r) (map told rs)) n →
    AllByRecursion (λ run. Holds (told run) n) (r ∷ rs)
Holds-each told n r [] h = (h, tt)
Holds-each told n r (next ∷ rest) h = (
  Holds-first (told r) (intersection (told next) (map told rest)) n h,
  Holds-each told n next rest (Holds-second (told r) (intersection (told next) (map told rest)) n h),
)

-- from each of some runs to each
each : (F G : Run → Type 0) → ((run : Run) → F run → G run) → (runs : List Run) → AllByRecursion F runs → AllByRecursion G runs
each F G go [] all = tt
each F G go (run ∷ runs) all = (go run all.0, each F G go runs all.1)

-- a delay of the ports in the interval of a run over the cord: the cord may have been as long as it needs to be
keeps_cord : (errors : Errors) (f p : ℤ) → Holds (ports_interval errors f) p → KeepsCord errors p f
keeps_cord errors f p h =
    let cord = int_max (pos errors.d -ℤ pos errors.ep) (int_min (pos errors.d +ℤ pos errors.ep) (f -ℤ p)) in
    (cord, omega (arith, ints, clamps, h.0, h.1), omega (arith, ints, clamps, h.0, h.1))

fits_cord : (errors : Errors) (way : Run → ℤ) (r : Run) (rs : List Run) (p : ℤ) → Holds (ports_span errors way r rs) p →
    FitsCord errors way (r ∷ rs) p
fits_cord errors way r rs p h =
    each (λ run. Holds (ports_interval errors (way run)) p) (λ run. KeepsCord errors p (way run))
    (λ run holds. keeps_cord errors (way run) p holds) (r ∷ rs)
    (Holds-each (λ run. ports_interval errors (way run)) p r rs h)

not_empty : (a : Span) → is_empty a ≡ false → a.lo ≤ℤ a.hi
not_empty a e = grind (arith, ints)

-- a delay of a strand in the interval of a run: some delay of the ports in theirs goes with it
with_ports : (errors : Errors) (ports : Span) (f x : ℤ) → ports.lo ≤ℤ ports.hi → Holds (strand_interval errors ports f) x →
    (p : ℤ) × Holds ports p × IsWithin errors.e f (p +ℤ x)
with_ports errors ports f x some h =
    let p = int_max ports.lo (int_min ports.hi (f -ℤ x)) in
    (p, (omega (arith, ints, clamps, some), omega (arith, ints, clamps, some)), omega (arith, ints, clamps, some, h.0, h.1))

fits_strand : (errors : Errors) (way : Run → ℤ) (r : Run) (rs : List Run) → is_empty (ports_span errors way r rs) ≡ false →
    (s : Run) (ss : List Run) (x : ℤ) →
    Holds (intersection (strand_interval errors (ports_span errors way r rs) (way s)) (map (λ run. strand_interval errors (ports_span errors way r rs) (way run)) ss)) x →
    FitsStrand errors way (r ∷ rs) (s ∷ ss) x
fits_strand errors way r rs some s ss x h =
    let ports = ports_span errors way r rs in
    each (λ run. Holds (strand_interval errors ports (way run)) x)
    (λ run. (p : ℤ) × FitsCord errors way (r ∷ rs) p × IsWithin errors.e (way run) (p +ℤ x))
    (λ run holds. let found = with_ports errors ports (way run) x (not_empty ports some) holds in
    (found.0, fits_cord errors way r rs found.0 found.1, found.2)) (s ∷ ss)
    (Holds-each (λ run. strand_interval errors ports (way run)) x s ss h)

-- a strand that the first runs pass on the way down and the others on the way up
fits_strands : (errors : Errors) (r : Run) (rs : List Run) → is_empty (ports_span errors down_of r rs) ≡ false → is_empty (ports_span errors up_of r rs) ≡ false →
    (s : Run) (ss : List Run) (w : Run) (ws : List Run) (x : ℤ) →
    Holds (strand_span errors (ports_span errors down_of r rs) (ports_span errors up_of r rs) s ss w ws) x →
    FitsStrand errors down_of (r ∷ rs) (s ∷ ss) x × FitsStrand errors up_of (r ∷ rs) (w ∷ ws) x
fits_strands errors r rs some_p some_q s ss w ws x h =
    let down = λ (run : Run). strand_interval errors (ports_span errors down_of r rs) (down_of run) in
    let up = λ (run : Run). strand_interval errors (ports_span errors up_of r rs) (up_of run) in
    let At : Span → Type 0 = λ span. Holds span x in
    let both : Holds (meet (intersection (down s) (map down ss)) (intersection (up w) (map up ws))) x =
    subst At (intersection-append (down s) (map down ss) (up w) (map up ws)) h in (
      fits_strand errors down_of r rs some_p s ss x (Holds-first (intersection (down s) (map down ss)) (intersection (up w) (map up ws)) x both),
      fits_strand errors up_of r rs some_q w ws x (Holds-second (intersection (down s) (map down ss)) (intersection (up w) (map up ws)) x both),
    )

-- ---- the asymmetry

-- what times a positive number is less than another that times it, is less
less_factor : (s k q : ℤ) → pos 0 <ℤ s → (s *ℤ k) <ℤ (s *ℤ q +ℤ s) → k ≤ℤ q
less_factor (pos s) (pos k) (pos q) positive less =
    let product : s * k < s * (q + 1) = omega (arith, ints, less) in
    let fewer : k < q + 1 = lt_of_mul-lt-mul_left s product in
    omega (arith, ints, fewer)
less_factor (pos s) (negsuc k) (pos q) positive less = omega (arith, ints)
less_factor (pos s) (negsuc k) (negsuc q) positive less =
    let product : s * q < s * (k + 1) = omega (arith, ints, less) in
    let fewer : q < k + 1 = lt_of_mul-lt-mul_left s product in
    omega (arith, ints, fewer)
less_factor (pos s) (pos k) (negsuc q) positive less = absurd (omega (arith, ints, less))
less_factor (negsuc s) k q positive less = absurd (omega (arith, ints, positive))

greatest_floor : (n s k : ℤ) → pos 0 <ℤ s → (k *ℤ s) ≤ℤ n → k ≤ℤ floor_quotient n s
greatest_floor n s k positive below =
    let next : n <ℤ (s *ℤ floor_quotient n s +ℤ s) = floor_quotient-next n s positive in
    let same : k *ℤ s ≡ s *ℤ k = *ℤ_comm k s in
    less_factor s k (floor_quotient n s) positive (omega (arith, ints, next, below, same))

least_ceil : (n s k : ℤ) → pos 0 <ℤ s → n ≤ℤ (k *ℤ s) → ceil_quotient n s ≤ℤ k
least_ceil n s k positive above =
    let next : (s *ℤ ceil_quotient n s) <ℤ (n +ℤ s) = ceil_quotient-next n s positive in
    let same : k *ℤ s ≡ s *ℤ k = *ℤ_comm k s in
    less_factor s (ceil_quotient n s) k positive (omega (arith, ints, next, above, same))

tightest : (x y : Span) → pos 1 ≤ℤ x.lo → x.lo ≤ℤ x.hi → pos 1 ≤ℤ y.lo → y.lo ≤ℤ y.hi → IsTightest (kappa_span x y) x y
tightest x y one_x some_x one_y some_y other holds =
    let low = (holds x.lo y.hi (omega (arith, ints), some_x) (some_y, omega (arith, ints))).0 in
    let high = (holds x.hi y.lo (some_x, omega (arith, ints)) (omega (arith, ints), some_y)).1 in
    let same_low : pos (2 ^ 40) *ℤ x.lo ≡ x.lo *ℤ pos (2 ^ 40) = *ℤ_comm (pos (2 ^ 40)) x.lo in
    let same_high : pos (2 ^ 40) *ℤ x.hi ≡ x.hi *ℤ pos (2 ^ 40) = *ℤ_comm (pos (2 ^ 40)) x.hi in
    let lo : (other.lo +ℤ pos (2 ^ 39)) ≤ℤ floor_quotient (x.lo *ℤ pos (2 ^ 40)) (x.lo +ℤ y.hi) =
    greatest_floor (x.lo *ℤ pos (2 ^ 40)) (x.lo +ℤ y.hi) (other.lo +ℤ pos (2 ^ 39)) (omega (arith, ints)) (subst (λ n. ((other.lo +ℤ pos (2 ^ 39)) *ℤ (x.lo +ℤ y.hi)) ≤ℤ n) same_low low) in
    let hi : ceil_quotient (x.hi *ℤ pos (2 ^ 40)) (x.hi +ℤ y.lo) ≤ℤ (other.hi +ℤ pos (2 ^ 39)) =
    least_ceil (x.hi *ℤ pos (2 ^ 40)) (x.hi +ℤ y.lo) (other.hi +ℤ pos (2 ^ 39)) (omega (arith, ints)) (subst (λ n. n ≤ℤ ((other.hi +ℤ pos (2 ^ 39)) *ℤ (x.hi +ℤ y.lo))) same_high high) in
    (omega (arith, ints, lo), omega (arith, ints, hi))

-- ---- answers

-- what is so for a refusal if it is made, and for the answer if it is not
either : (So : Result CalibOut CalibFault → Type 0) (b : Bool) (refusal answer : Result CalibOut CalibFault) →
    (b ≡ true → So refusal) → (b ≡ false → So answer) → So (cond b refusal answer)
either So true refusal answer at_refusal at_answer = at_refusal refl
either So false refusal answer at_refusal at_answer = at_answer refl

below_one : (a : ℤ) → int_lt a (pos 1) ≡ true → a <ℤ pos 1
below_one a e = grind (arith, ints)

from_one : (a : ℤ) → int_lt a (pos 1) ≡ false → pos 1 ≤ℤ a
from_one a e = grind (arith, ints)

judged-tight : (errors : Errors) (runs : List Run) (p q x y : Span) →
    (is_empty p ≡ false → (n : ℤ) → Holds p n → Allow errors runs P n) →
    (is_empty q ≡ false → (n : ℤ) → Holds q n → Allow errors runs Q n) →
    (is_empty p ≡ false → is_empty q ≡ false → (n : ℤ) → Holds x n → Allow errors runs X n) →
    (is_empty p ≡ false → is_empty q ≡ false → (n : ℤ) → Holds y n → Allow errors runs Y n) →
    AnswersAreTight errors runs (judged p q x y)
judged-tight errors runs p q x y at_p at_q at_x at_y =
    let So = λ (told : Result CalibOut CalibFault). AnswersAreTight errors runs told in
    either So (is_empty p) _ _ (λ bad. tt) (λ some_p.
    either So (is_empty q) _ _ (λ bad. tt) (λ some_q.
    either So (is_empty x) _ _ (λ bad. tt) (λ some_x.
    either So (is_empty y) _ _ (λ bad. tt) (λ some_y.
    let long_x : x.lo ≤ℤ x.hi = not_empty x some_x in
    let long_y : y.lo ≤ℤ y.hi = not_empty y some_y in
    either So (int_lt x.lo (pos 1)) _ _ (λ short. (below_one x.lo short, at_x some_p some_q x.lo (omega (arith, ints), long_x))) (λ x_one.
    either So (int_lt y.lo (pos 1)) _ _ (λ short. (below_one y.lo short, at_y some_p some_q y.lo (omega (arith, ints), long_y))) (λ y_one.
    record {
      p = at_p some_p;
      q = at_q some_q;
      x = at_x some_p some_q;
      y = at_y some_p some_q;
      kappa = tightest x y (from_one x.lo x_one) long_x (from_one y.lo y_one) long_y;
    }))))))

answer_from-tight : (errors : Errors) (runs rs ss ws : List Run) → runs_of Ref runs ≡ rs → runs_of Straight runs ≡ ss → runs_of Swapped runs ≡ ws →
    AnswersAreTight errors runs (answer_from errors rs ss ws)
answer_from-tight errors runs [] ss ws refs straight swapped = tt
answer_from-tight errors runs (r ∷ rs) [] ws refs straight swapped = tt
answer_from-tight errors runs (r ∷ rs) (s ∷ ss) [] refs straight swapped = tt
answer_from-tight errors runs (r ∷ rs) (s ∷ ss) (w ∷ ws) refs straight swapped =
    let p = ports_span errors down_of r rs in
    let q = ports_span errors up_of r rs in
    judged-tight errors runs p q (strand_span errors p q s ss w ws) (strand_span errors p q w ws s ss)
    (λ some n h. rw refs (fits_cord errors down_of r rs n h))
    (λ some n h. rw refs (fits_cord errors up_of r rs n h))
    (λ some_p some_q n h. rw refs (rw straight (rw swapped (fits_strands errors r rs some_p some_q s ss w ws n h))))
    (λ some_p some_q n h. rw refs (rw straight (rw swapped (fits_strands errors r rs some_p some_q w ws s ss n h))))

pub intervals_are_tight : IntervalsAreTight
intervals_are_tight errors runs =
    answer_from-tight errors runs (runs_of Ref runs) (runs_of Straight runs) (runs_of Swapped runs) refl refl refl
