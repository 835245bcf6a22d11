-- What the stamps of the way down are off by, step by step.
use Rattle.std.proofs.Common.{◌≡◌, ℤ, ◌^◌, ◌≤◌, ◌-ℤ◌, unsigned_abs, FitsSigned, ap₂, ◌∙◌, arith}
use Rattle.std.specs.Int.{w128}
use Rattle.std.proofs.lemmas.Int.{ints, to_z-of_z}
use Rattle.wrp_plain.specs.Event.{t1_of, t2_of}
use Rattle.wrp_plain.proofs.Reading.{way_is}
use Rattle.wrp_plain.proofs.premises.down_error.Goals as goal

-- a small error less an offset is small
error_small : (a b r : ℤ) → unsigned_abs a ≤ 2 ^ 65 → unsigned_abs b ≤ 2 ^ 94 → r ≡ a -ℤ b → unsigned_abs r ≤ 2 ^ 125
error_small a b r h k e = omega (arith, ints)

pub returns-clause-value : goal.returns-clause-value
returns-clause-value c =
    to_z-of_z w128 c.difference.result (record { sfits = c.difference.type_inv }) ∙ c.difference.ensures.value
    ∙ ap₂ (λ (a b : ℤ). a -ℤ b)
    (way_is (t1_of c.args.t.now) (t2_of c.args.t.now) c.args.dms c.way_error.result c.requires.t.t1 c.requires.t.t2 c.ranges.dms (record { sfits = c.way_error.type_inv }) c.way_error.ensures.value)
    (to_z-of_z w128 c.args.o2 c.ranges.o2)

pub returns-clause-small : goal.returns-clause-small
returns-clause-small c =
    let way : FitsSigned w128 c.way_error.result = record { sfits = c.way_error.type_inv } in
    let e = simp (to_z-of_z w128 c.way_error.result way, to_z-of_z w128 c.args.o2 c.ranges.o2) at c.difference.ensures.value in
    rw (to_z-of_z w128 c.difference.result (record { sfits = c.difference.type_inv }))
    (error_small c.way_error.result c.args.o2 c.difference.result c.way_error.ensures.small c.requires.o2 e)
