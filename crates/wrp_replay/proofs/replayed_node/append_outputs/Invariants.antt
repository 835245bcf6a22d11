use Rattle.std.proofs.Common.{◌≡◌, ◌++◌, drop, None}
use Rattle.std.specs.List.{flat_map}
use Rattle.wrp_lines.specs.Lines.{output_line_of}
use Rattle.wrp_replay.proofs.replayed_node.append_outputs.Given as goal

abbrev pub invariant-loop-out : goal.invariant-loop-out
invariant-loop-out l =
    l.text.items ++ flat_map (λ o. output_line_of l.name l.ticks o l.bound None) (drop l.out-index l.outs)
    ≡ l.fn.text.items ++ flat_map (λ o. output_line_of l.name l.ticks o l.bound None) l.outs
