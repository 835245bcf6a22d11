-- Each output is counted or passed over.
use Rattle.std.proofs.Common.{◌∙◌, ◌++◌, ap, map, of_z, subst, sym, to_z, ℤ, List}
use Rattle.std.specs.Prelude.{filter}
use Rattle.std.proofs.lemmas.Int.{to_z-of_z}
use Rattle.std.specs.Int.{w128}
use Rattle.wrp_node.specs.declared.interface.Output.{Output}
use Rattle.wrp_simulate.specs.SimStands.{IsTotal}
use Rattle.wrp_simulate.specs.SimText.{is_track}
use Rattle.wrp_simulate.proofs.SimLines.{counted_all, counted_more, counted_same}
use Rattle.wrp_simulate.proofs.totals.Total.with_all.Goals.{then-is_track, else-is_track}
use Rattle.wrp_simulate.proofs.totals.Total.with_all.Goals as goal

pub loop-out-preserved : goal.loop-out-preserved
loop-out-preserved c =
    elim c.if-is_track.branch [
      | then-is_track w ↦
          rw w.total-is
          (counted_more (to_z w128 (of_z w128 c.args.off)) c.args.outs.now c.loop-out.out-index c.out-item.result c.args.self c.loop-out.total w.with-total.result c.loop-out-test.true c.loop-out.invariant
          (sym (c.is_track.ensures ∙ ap is_track c.out-item.is) ∙ w.if-is_track.true) w.with-total.ensures)
      | else-is_track w ↦
          rw w.total-is
          (counted_same (to_z w128 (of_z w128 c.args.off)) c.args.outs.now c.loop-out.out-index c.out-item.result c.args.self c.loop-out.total c.loop-out-test.true c.loop-out.invariant
          (sym (c.is_track.ensures ∙ ap is_track c.out-item.is) ∙ w.if-is_track.false))
    ]

pub returns : goal.returns
returns c =
    subst
    (λ (off : ℤ). (offs : List ℤ) → IsTotal offs c.args.self → IsTotal (map (λ (o : Output). off) (filter is_track c.args.outs.now) ++ offs) c.loop-out.total)
    (to_z-of_z w128 c.args.off c.ranges.off)
    (counted_all (to_z w128 (of_z w128 c.args.off)) c.args.outs.now c.loop-out.out-index c.args.self c.loop-out.total c.loop-out-test.false c.loop-out.invariant)
