-- Each output has its line.
use Rattle.std.proofs.Common.{◌++◌, ◌∙◌, of_z, to_z}
use Rattle.std.proofs.lemmas.Int.{to_z-of_z}
use Rattle.std.specs.Int.{w128}
use Rattle.std.specs.List.{flat_map}
use Rattle.wrp_simulate.specs.SimStands.{printed_by}
use Rattle.wrp_replay.proofs.CountLemmas.{lacks_none}
use Rattle.wrp_simulate.proofs.simulation.append_outputs.Goals as goal

pub returns : goal.returns
returns c =
    let bound = to_z-of_z w128 c.args.bound c.ranges.bound in
    let off = to_z-of_z w128 c.args.off c.ranges.off in
    lacks_none
    (λ o. printed_by c.args.name.now c.args.ticks (to_z w128 (of_z w128 c.args.bound)) (to_z w128 (of_z w128 c.args.off)) o) c.args.outs.now c.loop-out.out-index c.loop-out.text.items _
    c.loop-out-test.false c.loop-out.invariant
    ∙ (λ i. c.args.text.now.items ++ flat_map (λ o. printed_by c.args.name.now c.args.ticks (bound i) (off i) o) c.args.outs.now)
