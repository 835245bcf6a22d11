use Rattle.std.proofs.Common.{◌∙◌, sym, to_z, of_z}
use Rattle.std.proofs.lemmas.Int.{to_z-of_z}
use Rattle.std.specs.Int.{w64}
use Rattle.wrp_course.specs.Premises.{rate_of_fibre}
use Rattle.wrp_course.proofs.Told.{flat_more, flat_end, ends, goes_on}
use Rattle.wrp_premises.proofs.premises.rates.fibre_rates.Goals as goal

pub returns-in-Some : goal.returns-in-Some
returns-in-Some c =
    let dt = to_z-of_z w64 c.args.dt c.ranges.dt in
    let so_far = simp dt at c.loop-by.invariant in
    let told = simp dt at c.fibre_rate.ensures in
    ends _ _ _ _ c.in-Some.breach so_far (flat_more (rate_of_fibre c.args.dt) c.args.moves.now c.loop-by.by-index _ c.loop-by-test.true) (sym told ∙ c.in-Some.is)

pub loop-by-preserved : goal.loop-by-preserved
loop-by-preserved c =
    goes_on _ _ _ _ c.loop-by.invariant (flat_more (rate_of_fibre (to_z w64 (of_z w64 c.args.dt))) c.args.moves.now c.loop-by.by-index _ c.loop-by-test.true)
    (sym c.fibre_rate.ensures ∙ c.in_default.is)

pub returns : goal.returns
returns c =
    let dt = to_z-of_z w64 c.args.dt c.ranges.dt in
    let so_far = simp dt at c.loop-by.invariant in
    sym (flat_end (rate_of_fibre c.args.dt) c.args.moves.now c.loop-by.by-index c.loop-by-test.false) ∙ so_far
