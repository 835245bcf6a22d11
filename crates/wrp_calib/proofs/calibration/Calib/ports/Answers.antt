-- The ends of the ports' delay, step by step.
use Rattle.std.proofs.Common.{◌≡◌, ℕ, ℤ, pos, ◌^◌, ◌≤◌, ◌+◌, ◌+ℤ◌, ◌-ℤ◌, unsigned_abs, FitsSigned, to_z, of_z, ap, ap₂, ◌∙◌, arith}
use Rattle.std.specs.Int.{w128}
use Rattle.std.proofs.lemmas.Int.{ints, to_z-of_z}
use Rattle.wrp_calib.specs.Span.{both_ends}
use Rattle.wrp_calib.specs.Estimate.{ports_interval}
use Rattle.wrp_calib.specs.StandsFor.{CalibAt}
use Rattle.wrp_calib.proofs.Reading.{span_of, fits_small, less, more}
use Rattle.wrp_calib.proofs.calibration.Calib.ports.Goals as goal

-- a step of at most 10^15, down and up
step_down : (a r : ℤ) (e n : ℕ) → e ≤ 10 ^ 15 → unsigned_abs a ≤ n → r ≡ a -ℤ pos e → unsigned_abs r ≤ n + 10 ^ 15
step_down a r e n h k is = omega (arith, ints)

step_up : (a r : ℤ) (e n : ℕ) → e ≤ 10 ^ 15 → unsigned_abs a ≤ n → r ≡ a +ℤ pos e → unsigned_abs r ≤ n + 10 ^ 15
step_up a r e n h k is = omega (arith, ints)

-- so what such a step of what was read gives
lessened : (a b r : ℤ) (e n : ℕ) → FitsSigned w128 a → FitsSigned w128 b → b ≡ pos e → e ≤ 10 ^ 15 → unsigned_abs a ≤ n →
    r ≡ to_z w128 (of_z w128 a) -ℤ to_z w128 (of_z w128 b) → unsigned_abs r ≤ n + 10 ^ 15
lessened a b r e n f g same h k is =
    let plain : r ≡ a -ℤ pos e = less a b (pos e) r f g same is in
    step_down a r e n h k plain

raised : (a b r : ℤ) (e n : ℕ) → FitsSigned w128 a → FitsSigned w128 b → b ≡ pos e → e ≤ 10 ^ 15 → unsigned_abs a ≤ n →
    r ≡ to_z w128 (of_z w128 a) +ℤ to_z w128 (of_z w128 b) → unsigned_abs r ≤ n + 10 ^ 15
raised a b r e n f g same h k is =
    let plain : r ≡ a +ℤ pos e = more a b (pos e) r f g same is in
    step_up a r e n h k plain

-- and that is read as small
wide : (a : ℤ) → FitsSigned w128 a → unsigned_abs a ≤ 2 ^ 64 → unsigned_abs (to_z w128 (of_z w128 a)) ≤ 2 ^ 125
wide a f h = rw (to_z-of_z w128 a f) (omega arith)

-- the lower end, and the upper one, are at most 2^63
low_small : (f r : ℤ) (e d ep : ℕ) → unsigned_abs f ≤ 2 ^ 62 → e ≤ 10 ^ 9 → d ≤ 10 ^ 15 → ep ≤ 10 ^ 9 →
    r ≡ ((f -ℤ pos e) -ℤ pos d) -ℤ pos ep → unsigned_abs r ≤ 2 ^ 63
low_small f r e d ep h i j k is = omega (arith, ints)

high_small : (f r : ℤ) (e d ep : ℕ) → unsigned_abs f ≤ 2 ^ 62 → e ≤ 10 ^ 9 → d ≤ 10 ^ 15 → ep ≤ 10 ^ 9 →
    r ≡ ((f +ℤ pos e) -ℤ pos d) +ℤ pos ep → unsigned_abs r ≤ 2 ^ 63
high_small f r e d ep h i j k is = omega (arith, ints)

-- the two ends
low_is : (c : goal.After-sum-hi) → c.difference-lo.result ≡ ((c.args.told.lo -ℤ pos c.self.inside.e) -ℤ pos c.self.inside.d) -ℤ pos c.self.inside.ep
low_is c =
    less c.difference-2.result c.into-ep.result _ _ (record { sfits = c.difference-2.type_inv }) (record { sfits = c.into-ep.type_inv }) c.into-ep.ensures c.difference-lo.ensures.value
    ∙ ap (λ (x : ℤ). x -ℤ pos c.self.inside.ep)
    (less c.difference.result c.into-d.result _ _ (record { sfits = c.difference.type_inv }) (record { sfits = c.into-d.type_inv }) c.into-d.ensures c.difference-2.ensures.value
    ∙ ap (λ (x : ℤ). x -ℤ pos c.self.inside.d)
    (less c.args.told.lo c.into-e.result _ _ (fits_small c.args.told.lo (omega (arith, c.requires.0))) (record { sfits = c.into-e.type_inv }) c.into-e.ensures c.difference.ensures.value))

high_is : (c : goal.After-sum-hi) → c.sum-hi.result ≡ ((c.args.told.hi +ℤ pos c.self.inside.e) -ℤ pos c.self.inside.d) +ℤ pos c.self.inside.ep
high_is c =
    more c.difference-3.result c.into-ep.result _ _ (record { sfits = c.difference-3.type_inv }) (record { sfits = c.into-ep.type_inv }) c.into-ep.ensures c.sum-hi.ensures.value
    ∙ ap (λ (x : ℤ). x +ℤ pos c.self.inside.ep)
    (less c.sum.result c.into-d.result _ _ (record { sfits = c.sum.type_inv }) (record { sfits = c.into-d.type_inv }) c.into-d.ensures c.difference-3.ensures.value
    ∙ ap (λ (x : ℤ). x -ℤ pos c.self.inside.d)
    (more c.args.told.hi c.into-e.result _ _ (fits_small c.args.told.hi (omega (arith, c.requires.1))) (record { sfits = c.into-e.type_inv }) c.into-e.ensures c.sum.ensures.value))

pub difference-requires-2-clause-a : goal.difference-requires-2-clause-a
difference-requires-2-clause-a c =
    let small : unsigned_abs c.difference.result ≤ 2 ^ 62 + 10 ^ 15 =
    lessened c.args.told.lo c.into-e.result c.difference.result c.self.inside.e (2 ^ 62) (fits_small c.args.told.lo (omega (arith, c.requires.0))) (record { sfits = c.into-e.type_inv }) c.into-e.ensures (omega (arith, c.self.invariant.0)) c.requires.0 c.difference.ensures.value in
    wide c.difference.result (record { sfits = c.difference.type_inv }) (omega (arith, small))

pub difference-lo-requires-clause-a : goal.difference-lo-requires-clause-a
difference-lo-requires-clause-a c =
    let small : unsigned_abs c.difference-2.result ≤ 2 ^ 62 + 10 ^ 15 + 10 ^ 15 =
    lessened c.difference.result c.into-d.result c.difference-2.result c.self.inside.d (2 ^ 62 + 10 ^ 15) (record { sfits = c.difference.type_inv }) (record { sfits = c.into-d.type_inv }) c.into-d.ensures c.self.invariant.1
    (lessened c.args.told.lo c.into-e.result c.difference.result c.self.inside.e (2 ^ 62) (fits_small c.args.told.lo (omega (arith, c.requires.0))) (record { sfits = c.into-e.type_inv }) c.into-e.ensures (omega (arith, c.self.invariant.0)) c.requires.0 c.difference.ensures.value) c.difference-2.ensures.value in
    wide c.difference-2.result (record { sfits = c.difference-2.type_inv }) (omega (arith, small))

pub difference-requires-3-clause-a : goal.difference-requires-3-clause-a
difference-requires-3-clause-a c =
    let small : unsigned_abs c.sum.result ≤ 2 ^ 62 + 10 ^ 15 =
    raised c.args.told.hi c.into-e.result c.sum.result c.self.inside.e (2 ^ 62) (fits_small c.args.told.hi (omega (arith, c.requires.1))) (record { sfits = c.into-e.type_inv }) c.into-e.ensures (omega (arith, c.self.invariant.0)) c.requires.1 c.sum.ensures.value in
    wide c.sum.result (record { sfits = c.sum.type_inv }) (omega (arith, small))

pub sum-hi-requires-clause-a : goal.sum-hi-requires-clause-a
sum-hi-requires-clause-a c =
    let small : unsigned_abs c.difference-3.result ≤ 2 ^ 62 + 10 ^ 15 + 10 ^ 15 =
    lessened c.sum.result c.into-d.result c.difference-3.result c.self.inside.d (2 ^ 62 + 10 ^ 15) (record { sfits = c.sum.type_inv }) (record { sfits = c.into-d.type_inv }) c.into-d.ensures c.self.invariant.1
    (raised c.args.told.hi c.into-e.result c.sum.result c.self.inside.e (2 ^ 62) (fits_small c.args.told.hi (omega (arith, c.requires.1))) (record { sfits = c.into-e.type_inv }) c.into-e.ensures (omega (arith, c.self.invariant.0)) c.requires.1 c.sum.ensures.value) c.difference-3.ensures.value in
    wide c.difference-3.result (record { sfits = c.difference-3.type_inv }) (omega (arith, small))

pub returns-clause-value : goal.returns-clause-value
returns-clause-value c =
    ap₂ span_of
    (to_z-of_z w128 c.difference-lo.result (record { sfits = c.difference-lo.type_inv }) ∙ low_is c)
    (to_z-of_z w128 c.sum-hi.result (record { sfits = c.sum-hi.type_inv }) ∙ high_is c)
    ∙ ap (λ (v : CalibAt). both_ends (ports_interval v.errors) c.args.told) c.self.view_is

pub returns-clause-small : goal.returns-clause-small
returns-clause-small c =
    let known = c.self.invariant in (
      rw (to_z-of_z w128 c.difference-lo.result (record { sfits = c.difference-lo.type_inv }))
          (low_small c.args.told.lo c.difference-lo.result c.self.inside.e c.self.inside.d c.self.inside.ep c.requires.0 known.0 known.1 known.2 (low_is c)),
      rw (to_z-of_z w128 c.sum-hi.result (record { sfits = c.sum-hi.type_inv }))
          (high_small c.args.told.hi c.sum-hi.result c.self.inside.e c.self.inside.d c.self.inside.ep c.requires.1 known.0 known.1 known.2 (high_is c)),
    )
