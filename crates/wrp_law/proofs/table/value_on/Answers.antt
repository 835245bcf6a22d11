-- Each goal is a step of the walk.
use Rattle.std.proofs.Common.{◌∙◌, ap, SFits, w64, rules}
use Rattle.std.proofs.lemmas.Int.{to_z-of_z}
use Rattle.wrp_law.specs.Table.{table_value}
use Rattle.wrp_law.proofs.Tables.{is_before}
use Rattle.wrp_law.proofs.Walk.{begun, next, tested, found, passed, ended}
use Rattle.wrp_law.proofs.table.value_on.Goals as goal

pub loop-end-init : goal.loop-end-init
loop-end-init c =
    rw (to_z-of_z w64 c.args.x c.ranges.x) (begun c.args.points.now c.args.x c.requires.table c.requires.x)

pub on_segment-requires : goal.on_segment-requires
on_segment-requires c =
    let walk = next _ _ _ _ _ c.loop-end-test.true c.loop-end.invariant in
    record { start = walk.fits.0; end = walk.fits.1.0; rises = walk.rises.0; stays = walk.rises.1; after = walk.after; before = is_before _ _ (tested _ _ _ walk.fits.1.0 c.if-x-end.true) }

pub returns-then-x-end : goal.returns-then-x-end
returns-then-x-end c =
    let walk = next _ _ _ _ _ c.loop-end-test.true c.loop-end.invariant in
    let fits : SFits w64 c.on_segment.result = search rules in
    to_z-of_z w64 c.on_segment.result fits ∙ c.on_segment.ensures ∙ found _ _ _ _ _ walk (tested _ _ _ walk.fits.1.0 c.if-x-end.true)
    ∙ ap (table_value c.args.points.now) (to_z-of_z w64 c.args.x c.ranges.x)

pub loop-end-preserved : goal.loop-end-preserved
loop-end-preserved c =
    let walk = next _ _ _ _ _ c.loop-end-test.true c.loop-end.invariant in
    passed _ _ _ _ _ walk (tested _ _ _ walk.fits.1.0 c.if-x-end.false)

pub returns : goal.returns
returns c =
    let fits : SFits w64 c.loop-end.start.1 = search rules in
    to_z-of_z w64 c.loop-end.start.1 fits ∙ ended _ _ _ _ _ c.loop-end-test.false c.loop-end.invariant
    ∙ ap (table_value c.args.points.now) (to_z-of_z w64 c.args.x c.ranges.x)
