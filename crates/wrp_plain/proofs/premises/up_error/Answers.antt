-- What the stamps of the way up are off by, step by step.
use Rattle.std.proofs.Common.{◌≡◌, ℤ, ◌^◌, ◌≤◌, ◌+ℤ◌, unsigned_abs, FitsSigned, ap₂, ◌∙◌, arith}
use Rattle.std.specs.Int.{w128}
use Rattle.std.proofs.lemmas.Int.{ints, to_z-of_z}
use Rattle.wrp_plain.specs.Event.{t3_of, t4_of}
use Rattle.wrp_plain.proofs.Reading.{way_is}
use Rattle.wrp_plain.proofs.premises.up_error.Goals as goal

-- a small error with an offset is small
error_small : (a b r : ℤ) → unsigned_abs a ≤ 2 ^ 65 → unsigned_abs b ≤ 2 ^ 94 → r ≡ a +ℤ b → unsigned_abs r ≤ 2 ^ 125
error_small a b r h k e = omega (arith, ints)

pub returns-clause-value : goal.returns-clause-value
returns-clause-value c =
    to_z-of_z w128 c.sum.result (record { sfits = c.sum.type_inv }) ∙ c.sum.ensures.value
    ∙ ap₂ (λ (a b : ℤ). a +ℤ b)
    (way_is (t3_of c.args.t.now) (t4_of c.args.t.now) c.args.dsm c.way_error.result c.requires.t.t3 c.requires.t.t4 c.ranges.dsm (record { sfits = c.way_error.type_inv }) c.way_error.ensures.value)
    (to_z-of_z w128 c.args.o3 c.ranges.o3)

pub returns-clause-small : goal.returns-clause-small
returns-clause-small c =
    let way : FitsSigned w128 c.way_error.result = record { sfits = c.way_error.type_inv } in
    let e = simp (to_z-of_z w128 c.way_error.result way, to_z-of_z w128 c.args.o3 c.ranges.o3) at c.sum.ensures.value in
    rw (to_z-of_z w128 c.sum.result (record { sfits = c.sum.type_inv }))
    (error_small c.way_error.result c.args.o3 c.sum.result c.way_error.ensures.small c.requires.o3 e)
