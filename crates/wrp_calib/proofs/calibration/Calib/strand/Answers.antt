-- The ends of a strand's delay, step by step.
use Rattle.std.proofs.Common.{◌≡◌, ℕ, ℤ, pos, ◌^◌, ◌≤◌, ◌+ℤ◌, ◌-ℤ◌, unsigned_abs, refl, ap, ap₂, ◌∙◌, arith}
use Rattle.std.specs.Int.{w128}
use Rattle.std.proofs.lemmas.Int.{ints, to_z-of_z}
use Rattle.wrp_calib.specs.Span.{both_ends}
use Rattle.wrp_calib.specs.Estimate.{strand_interval}
use Rattle.wrp_calib.specs.StandsFor.{CalibAt}
use Rattle.wrp_calib.proofs.Reading.{span_of, fits_small, less, more}
use Rattle.wrp_calib.proofs.calibration.Calib.strand.Goals as goal

-- the lower end, and the upper one, are at most 2^64
low_small : (f g r : ℤ) (e : ℕ) → unsigned_abs f ≤ 2 ^ 62 → unsigned_abs g ≤ 2 ^ 63 → e ≤ 10 ^ 9 → r ≡ (f -ℤ pos e) -ℤ g → unsigned_abs r ≤ 2 ^ 64
low_small f g r e h i j is = omega (arith, ints)

high_small : (f g r : ℤ) (e : ℕ) → unsigned_abs f ≤ 2 ^ 62 → unsigned_abs g ≤ 2 ^ 63 → e ≤ 10 ^ 9 → r ≡ (f +ℤ pos e) -ℤ g → unsigned_abs r ≤ 2 ^ 64
high_small f g r e h i j is = omega (arith, ints)

-- the two ends
low_is : (c : goal.After-difference-hi) → c.difference-lo.result ≡ (c.args.told.lo -ℤ pos c.self.inside.e) -ℤ c.args.ports.hi
low_is c =
    less c.difference.result c.args.ports.hi _ _ (record { sfits = c.difference.type_inv }) (fits_small c.args.ports.hi c.requires.ports.1) refl c.difference-lo.ensures.value
    ∙ ap (λ (x : ℤ). x -ℤ c.args.ports.hi)
    (less c.args.told.lo c.into-e.result _ _ (fits_small c.args.told.lo (omega (arith, c.requires.told.0))) (record { sfits = c.into-e.type_inv }) c.into-e.ensures c.difference.ensures.value)

high_is : (c : goal.After-difference-hi) → c.difference-hi.result ≡ (c.args.told.hi +ℤ pos c.self.inside.e) -ℤ c.args.ports.lo
high_is c =
    less c.sum.result c.args.ports.lo _ _ (record { sfits = c.sum.type_inv }) (fits_small c.args.ports.lo c.requires.ports.0) refl c.difference-hi.ensures.value
    ∙ ap (λ (x : ℤ). x -ℤ c.args.ports.lo)
    (more c.args.told.hi c.into-e.result _ _ (fits_small c.args.told.hi (omega (arith, c.requires.told.1))) (record { sfits = c.into-e.type_inv }) c.into-e.ensures c.sum.ensures.value)

pub returns-clause-value : goal.returns-clause-value
returns-clause-value c =
    ap₂ span_of
    (to_z-of_z w128 c.difference-lo.result (record { sfits = c.difference-lo.type_inv }) ∙ low_is c)
    (to_z-of_z w128 c.difference-hi.result (record { sfits = c.difference-hi.type_inv }) ∙ high_is c)
    ∙ ap (λ (v : CalibAt). both_ends (strand_interval v.errors c.args.ports) c.args.told) c.self.view_is

pub returns-clause-small : goal.returns-clause-small
returns-clause-small c =
    let known = c.self.invariant in (
      rw (to_z-of_z w128 c.difference-lo.result (record { sfits = c.difference-lo.type_inv }))
          (low_small c.args.told.lo c.args.ports.hi c.difference-lo.result c.self.inside.e c.requires.told.0 c.requires.ports.1 known.0 (low_is c)),
      rw (to_z-of_z w128 c.difference-hi.result (record { sfits = c.difference-hi.type_inv }))
          (high_small c.args.told.hi c.args.ports.lo c.difference-hi.result c.self.inside.e c.requires.told.1 c.requires.ports.0 known.0 (high_is c)),
    )
