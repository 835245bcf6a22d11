use Rattle.std.proofs.Common.{◌≡◌, ◌++◌, drop, Some}
use Rattle.std.specs.List.{flat_map}
use Rattle.wrp_lines.specs.Lines.{output_line}
use Rattle.wrp_loop.proofs.lines.append_outputs.Given as goal

abbrev pub invariant-loop-out : goal.invariant-loop-out
invariant-loop-out l =
    l.text.items ++ flat_map (λ o. output_line l.net.cfg l.node l.ticks o (Some l.off)) (drop l.out-index l.outs)
    ≡ l.fn.text.items ++ flat_map (λ o. output_line l.net.cfg l.node l.ticks o (Some l.off)) l.outs
