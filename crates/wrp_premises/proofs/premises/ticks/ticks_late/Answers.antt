use Rattle.std.proofs.Common.{◌∙◌, sym, to_z, of_z, arith}
use Rattle.std.proofs.lemmas.Option.{slice_get-get_or}
use Rattle.std.specs.Int.{w128}
use Rattle.wrp_course.specs.Premises.{late_by}
use Rattle.wrp_plant.proofs.SignedReads.{read}
use Rattle.wrp_course.proofs.Told.{map_more, map_end, ends, goes_on}
use Rattle.wrp_premises.proofs.premises.ticks.ticks_late.Goals as goal

pub tick_late-requires-clause-ticked : goal.tick_late-requires-clause-ticked
tick_late-requires-clause-ticked c =
    c.requires.ticked c.loop-clock.clock-index _ (slice_get-get_or c.args.clocks.now c.loop-clock.clock-index _ c.loop-clock-test.true)

pub returns-in-Some : goal.returns-in-Some
returns-in-Some c =
    let most = read c.args.most (omega (arith, c.requires.most)) in
    let later = read c.args.after (omega (arith, c.requires.after)) in
    let so_far = simp (most, later) at c.loop-clock.invariant in
    let told = simp (most, later) at c.tick_late.ensures in
    ends _ _ _ _ c.in-Some.breach so_far (map_more (late_by c.args.most c.args.after) c.args.clocks.now c.loop-clock.clock-index _ c.loop-clock-test.true) (sym told ∙ c.in-Some.is)

pub loop-clock-preserved : goal.loop-clock-preserved
loop-clock-preserved c =
    goes_on _ _ _ _ c.loop-clock.invariant
    (map_more (late_by (to_z w128 (of_z w128 c.args.most)) (to_z w128 (of_z w128 c.args.after))) c.args.clocks.now c.loop-clock.clock-index _ c.loop-clock-test.true)
    (sym c.tick_late.ensures ∙ c.in_default.is)

pub returns : goal.returns
returns c =
    let most = read c.args.most (omega (arith, c.requires.most)) in
    let later = read c.args.after (omega (arith, c.requires.after)) in
    let so_far = simp (most, later) at c.loop-clock.invariant in
    sym (map_end (late_by c.args.most c.args.after) c.args.clocks.now c.loop-clock.clock-index c.loop-clock-test.false) ∙ so_far
