use Rattle.std.proofs.Common.{◌∙◌, sym}
use Rattle.std.proofs.lemmas.Int.{to_z-of_z}
use Rattle.std.specs.Int.{w32}
use Rattle.wrp_course.specs.Premises.{bit_check}
use Rattle.wrp_course.proofs.Told.{bits_more, bits_end, ends, goes_on}
use Rattle.wrp_premises.proofs.premises.beat.first_wrong.Goals as goal

pub returns-in-Some : goal.returns-in-Some
returns-in-Some c =
    let steps = to_z-of_z w32 c.args.steps c.ranges.steps in
    let so_far = simp steps at c.loop-i.invariant in
    let told = simp steps at c.bit_kept.ensures in
    ends _ _ _ _ c.in-Some.breach so_far (bits_more (bit_check c.args.steps c.args.beat c.args.bits) c.loop-i.i c.loop-i-test.true) (sym told ∙ c.in-Some.is)

pub loop-i-preserved : goal.loop-i-preserved
loop-i-preserved c =
    goes_on _ _ _ _ c.loop-i.invariant (bits_more _ c.loop-i.i c.loop-i-test.true) (sym c.bit_kept.ensures ∙ c.in_default.is)

pub returns : goal.returns
returns c =
    let steps = to_z-of_z w32 c.args.steps c.ranges.steps in
    let so_far = simp steps at c.loop-i.invariant in
    sym (bits_end (bit_check c.args.steps c.args.beat c.args.bits) c.loop-i.i c.loop-i-test.false) ∙ so_far
