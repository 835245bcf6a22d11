-- If the true delays keep the stated errors, the intervals hold them.
use Rattle.std.proofs.Common.{◌≡◌, ◌≢◌, ℤ, pos, ◌^◌, ◌≤ℤ◌, ◌+ℤ◌, ◌-ℤ◌, ◌*ℤ◌, Bool, true, false, cond, int_lt, List, [], ◌∷◌, map, All, Result, Err, refl, sym, subst, arith}
use Rattle.std.proofs.lemmas.Int.{ints}
use Rattle.std.proofs.lemmas.List.Elements.{All-head, All-tail}
use Rattle.wrp_base.specs.Division.{floor_quotient, ceil_quotient}
use Rattle.wrp_base.specs.Closeness.{IsWithin}
use Rattle.wrp_calib.specs.declared.span.Span.{Span}
use Rattle.wrp_calib.specs.declared.run.RunKind.{RunKind}
use Rattle.wrp_calib.specs.declared.run.RunKind.TheVariants.{Ref, Straight, Swapped}
use Rattle.wrp_calib.specs.declared.calibration.CalibOut.{CalibOut}
use Rattle.wrp_calib.specs.declared.calibration.CalibFault.{CalibFault}
use Rattle.wrp_calib.specs.declared.calibration.CalibFault.TheVariants.{Short}
use Rattle.wrp_calib.specs.declared.calibration.Unknown.{Unknown}
use Rattle.wrp_calib.specs.declared.calibration.Unknown.TheVariants.{X, Y}
use Rattle.wrp_calib.specs.Span.{Holds, is_empty, intersection}
use Rattle.wrp_calib.specs.Run.{Run, is_of, runs_of, down_of, up_of}
use Rattle.wrp_calib.specs.Estimate.{Errors, ports_interval, strand_interval, ports_span, strand_span, kappa_span}
use Rattle.wrp_calib.specs.Answer.{judged, answer_from, answer_of}
use Rattle.wrp_calib.specs.Truth.{Delays, KeepsCord, KeepsErrorsAs, KeepsErrors, CameAll, HoldsAsymmetry, TellsTruth}
use Rattle.wrp_calib.proofs.Spans.{intersection-append, Holds-meet, is_empty-holds}
use Rattle.wrp_calib.proofs.Shares.{least-share, greatest-share}

-- all runs of a list keep the errors, as runs of this kind
KeepAs : Errors → Delays → RunKind → List Run → Type 0
KeepAs errors delays kind [] = Unit {0}
KeepAs errors delays kind (run ∷ runs) = KeepsErrorsAs errors delays kind (down_of run) (up_of run) × KeepAs errors delays kind runs

-- what passes the test of a kind is of it
of_kind : (a b : RunKind) → is_of a b ≡ true → b ≡ a
of_kind Ref Ref e = refl
of_kind Straight Straight e = refl
of_kind Swapped Swapped e = refl
of_kind Ref Straight e = cc
of_kind Ref Swapped e = cc
of_kind Straight Ref e = cc
of_kind Straight Swapped e = cc
of_kind Swapped Ref e = cc
of_kind Swapped Straight e = cc

KeepAs-step : (errors : Errors) (delays : Delays) (kind : RunKind) (run : Run) (kept : List Run) (b : Bool) → is_of kind run.kind ≡ b →
    KeepsErrors errors delays run → KeepAs errors delays kind kept → KeepAs errors delays kind (cond b (run ∷ kept) kept)
unfolding KeepAs
KeepAs-step errors delays kind run kept true e keeps rest =
    let P : RunKind → Type 0 = λ k. KeepsErrorsAs errors delays k (down_of run) (up_of run) in
    (subst P (of_kind kind run.kind e) keeps, rest)
KeepAs-step errors delays kind run kept false e keeps rest = rest

KeepAs-runs_of : (errors : Errors) (delays : Delays) (kind : RunKind) (runs : List Run) → All (KeepsErrors errors delays) runs →
    KeepAs errors delays kind (runs_of kind runs)
unfolding KeepAs
KeepAs-runs_of errors delays kind [] all = tt
KeepAs-runs_of errors delays kind (run ∷ runs) all =
    KeepAs-step errors delays kind run (runs_of kind runs) (is_of kind run.kind) refl
    (All-head (KeepsErrors errors delays) run runs all)
    (KeepAs-runs_of errors delays kind runs (All-tail (KeepsErrors errors delays) run runs all))

-- an intersection holds what each interval holds
Holds-runs : (errors : Errors) (delays : Delays) (kind : RunKind) (told : Run → Span) (n : ℤ) →
    ((run : Run) → KeepsErrorsAs errors delays kind (down_of run) (up_of run) → Holds (told run) n) →
    (r : Run) (rs : List Run) → KeepAs errors delays kind (r ∷ rs) → Holds (intersection (told r) (map told rs)) n
unfolding KeepAs
Holds-runs errors delays kind told n each r [] keep = each r keep.0
Holds-runs errors delays kind told n each r (next ∷ rest) keep =
    Holds-meet (told r) (intersection (told next) (map told rest)) n (each r keep.0) (Holds-runs errors delays kind told n each next rest keep.1)

Holds-ports : (errors : Errors) (p f : ℤ) → KeepsCord errors p f → Holds (ports_interval errors f) p
Holds-ports errors p f (cord, near, sums) = (omega (arith, ints), omega (arith, ints))

Holds-strand : (errors : Errors) (ports : Span) (p x f : ℤ) → Holds ports p → IsWithin errors.e f (p +ℤ x) → Holds (strand_interval errors ports f) x
Holds-strand errors ports p x f holds near = (omega (arith, ints), omega (arith, ints))

-- a strand that the first runs pass on the way down and the others on the way up
Holds-strands : (errors : Errors) (delays : Delays) (there back : RunKind) (p q : Span) (x : ℤ) → Holds p delays.p → Holds q delays.q →
    ((run : Run) → KeepsErrorsAs errors delays there (down_of run) (up_of run) → IsWithin errors.e (down_of run) (delays.p +ℤ x)) →
    ((run : Run) → KeepsErrorsAs errors delays back (down_of run) (up_of run) → IsWithin errors.e (up_of run) (delays.q +ℤ x)) →
    (s : Run) (ss : List Run) (w : Run) (ws : List Run) → KeepAs errors delays there (s ∷ ss) → KeepAs errors delays back (w ∷ ws) →
    Holds (strand_span errors p q s ss w ws) x
Holds-strands errors delays there back p q x at_p at_q down up s ss w ws keep_s keep_w =
    let told_down = λ (run : Run). strand_interval errors p (down_of run) in
    let told_up = λ (run : Run). strand_interval errors q (up_of run) in
    let P : Span → Type 0 = λ span. Holds span x in
    subst P (sym (intersection-append (told_down s) (map told_down ss) (told_up w) (map told_up ws)))
    (Holds-meet (intersection (told_down s) (map told_down ss)) (intersection (told_up w) (map told_up ws)) x
    (Holds-runs errors delays there told_down x (λ run keeps. Holds-strand errors p delays.p x (down_of run) at_p (down run keeps)) s ss keep_s)
    (Holds-runs errors delays back told_up x (λ run keeps. Holds-strand errors q delays.q x (up_of run) at_q (up run keeps)) w ws keep_w))

back_again : (a h : ℤ) → (a -ℤ h) +ℤ h ≡ a
back_again a h = omega (arith, ints)

HoldsAsymmetry-kappa : (x y : Span) (true_x true_y : ℤ) → Holds x true_x → Holds y true_y → pos 1 ≤ℤ x.lo → pos 1 ≤ℤ y.lo →
    HoldsAsymmetry (kappa_span x y) true_x true_y
HoldsAsymmetry-kappa x y true_x true_y (x_lo, x_hi) (y_lo, y_hi) at_x at_y =
    let P : ℤ → Type 0 = λ a. (a *ℤ (true_x +ℤ true_y)) ≤ℤ (pos (2 ^ 40) *ℤ true_x) in
    let Q : ℤ → Type 0 = λ a. (pos (2 ^ 40) *ℤ true_x) ≤ℤ (a *ℤ (true_x +ℤ true_y)) in (
      subst P (sym (back_again (floor_quotient (x.lo *ℤ pos (2 ^ 40)) (x.lo +ℤ y.hi)) (pos (2 ^ 39))))
          (least-share (2 ^ 40) x.lo y.hi true_x true_y at_x x_lo (omega (arith, ints)) y_hi),
      subst Q (sym (back_again (ceil_quotient (x.hi *ℤ pos (2 ^ 40)) (x.hi +ℤ y.lo)) (pos (2 ^ 39))))
          (greatest-share (2 ^ 40) x.hi y.lo true_x true_y (omega arith) (omega (arith, ints)) x_hi (omega (arith, ints)) y_lo),
    )

below_one : (a : ℤ) → int_lt a (pos 1) ≡ false → pos 1 ≤ℤ a
below_one a e = grind (arith, ints)

-- past a refusal that does not come
passed : (delays : Delays) (b : Bool) (refusal answer : Result CalibOut CalibFault) → b ≡ false → TellsTruth delays answer →
    TellsTruth delays (cond b refusal answer)
passed delays true refusal answer e tells = absurd (cc)
passed delays false refusal answer e tells = tells

-- past a refusal that may come
short : (delays : Delays) (b : Bool) (name : Unknown) (lo : ℤ) (answer : Result CalibOut CalibFault) → (b ≡ false → TellsTruth delays answer) →
    TellsTruth delays (cond b (Err (Short name lo)) answer)
short delays true name lo answer tells = tt
short delays false name lo answer tells = tells refl

-- intervals that hold the truth are judged to do so, except for a strand that may be too short
judged-tells : (delays : Delays) (p q x y : Span) → Holds p delays.p → Holds q delays.q → Holds x delays.x → Holds y delays.y →
    TellsTruth delays (judged p q x y)
judged-tells delays p q x y at_p at_q at_x at_y =
    passed delays (is_empty p) _ _ (is_empty-holds p delays.p at_p)
    (passed delays (is_empty q) _ _ (is_empty-holds q delays.q at_q)
    (passed delays (is_empty x) _ _ (is_empty-holds x delays.x at_x)
    (passed delays (is_empty y) _ _ (is_empty-holds y delays.y at_y)
    (short delays (int_lt x.lo (pos 1)) X x.lo _ (λ long_x.
    short delays (int_lt y.lo (pos 1)) Y y.lo _ (λ long_y.
    let from_x : pos 1 ≤ℤ x.lo = below_one x.lo long_x in
    let from_y : pos 1 ≤ℤ y.lo = below_one y.lo long_y in
    record {
      p = at_p;
      q = at_q;
      x = at_x;
      y = at_y;
      positive = omega (arith, ints, at_x.0, at_y.0);
      kappa = HoldsAsymmetry-kappa x y delays.x delays.y at_x at_y from_x from_y;
    }))))))

answer_from-tells : (errors : Errors) (delays : Delays) (rs ss ws : List Run) → rs ≢ [] → ss ≢ [] → ws ≢ [] →
    KeepAs errors delays Ref rs → KeepAs errors delays Straight ss → KeepAs errors delays Swapped ws →
    TellsTruth delays (answer_from errors rs ss ws)
answer_from-tells errors delays [] ss ws came_r came_s came_w keep_r keep_s keep_w = absurd (came_r refl)
answer_from-tells errors delays (r ∷ rs) [] ws came_r came_s came_w keep_r keep_s keep_w = absurd (came_s refl)
answer_from-tells errors delays (r ∷ rs) (s ∷ ss) [] came_r came_s came_w keep_r keep_s keep_w = absurd (came_w refl)
answer_from-tells errors delays (r ∷ rs) (s ∷ ss) (w ∷ ws) came_r came_s came_w keep_r keep_s keep_w =
    let p = ports_span errors down_of r rs in
    let q = ports_span errors up_of r rs in
    let at_p : Holds p delays.p =
    Holds-runs errors delays Ref (λ (run : Run). ports_interval errors (down_of run)) delays.p
    (λ run keeps. Holds-ports errors delays.p (down_of run) keeps.0) r rs keep_r in
    let at_q : Holds q delays.q =
    Holds-runs errors delays Ref (λ (run : Run). ports_interval errors (up_of run)) delays.q
    (λ run keeps. Holds-ports errors delays.q (up_of run) keeps.1) r rs keep_r in
    judged-tells delays p q (strand_span errors p q s ss w ws) (strand_span errors p q w ws s ss) at_p at_q
    (Holds-strands errors delays Straight Swapped p q delays.x at_p at_q (λ run keeps. keeps.0) (λ run keeps. keeps.1) s ss w ws keep_s keep_w)
    (Holds-strands errors delays Swapped Straight p q delays.y at_p at_q (λ run keeps. keeps.0) (λ run keeps. keeps.1) w ws s ss keep_w keep_s)

pub answer_of-tells : (errors : Errors) (delays : Delays) (runs : List Run) → CameAll runs →
    All (KeepsErrors errors delays) runs → TellsTruth delays (answer_of errors runs)
answer_of-tells errors delays runs came keeps =
    answer_from-tells errors delays (runs_of Ref runs) (runs_of Straight runs) (runs_of Swapped runs) came.0 came.1 came.2
    (KeepAs-runs_of errors delays Ref runs keeps) (KeepAs-runs_of errors delays Straight runs keeps) (KeepAs-runs_of errors delays Swapped runs keeps)
