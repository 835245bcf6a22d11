-- Each output has its line.
use Rattle.std.proofs.Common.{◌++◌, ◌∙◌, ap, of_z, to_z, Some}
use Rattle.std.proofs.lemmas.Int.{to_z-of_z}
use Rattle.std.specs.Int.{w128}
use Rattle.std.specs.List.{flat_map}
use Rattle.wrp_lines.specs.Lines.{output_line}
use Rattle.wrp_node.specs.declared.interface.Output.{Output}
use Rattle.wrp_loop.proofs.Lacking.{lacks_less, lacks_none}
use Rattle.wrp_loop.proofs.lines.append_outputs.Goals as goal

pub loop-out-preserved : goal.loop-out-preserved
loop-out-preserved c =
    lacks_less (λ o. output_line c.args.net.now.cfg c.args.node c.args.ticks o (Some (to_z w128 (of_z w128 c.args.off)))) c.args.outs.now c.loop-out.out-index c.out-item.result c.loop-out.text.items
    c.append_output_line.new.text.items _ c.loop-out-test.true c.loop-out.invariant
    (c.in_ok-append_output_line.ensures.ok
    ∙ ap (λ (o : Output). c.loop-out.text.items ++ output_line c.args.net.now.cfg c.args.node c.args.ticks o (Some (to_z w128 (of_z w128 c.args.off)))) c.out-item.is)

pub returns : goal.returns
returns c =
    let off = to_z-of_z w128 c.args.off c.ranges.off in
    lacks_none (λ o. output_line c.args.net.now.cfg c.args.node c.args.ticks o (Some (to_z w128 (of_z w128 c.args.off)))) c.args.outs.now c.loop-out.out-index c.loop-out.text.items _
    c.loop-out-test.false c.loop-out.invariant
    ∙ (λ i. c.args.text.now.items ++ flat_map (λ o. output_line c.args.net.now.cfg c.args.node c.args.ticks o (Some (off i))) c.args.outs.now)
