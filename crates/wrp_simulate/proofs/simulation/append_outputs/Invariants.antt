use Rattle.std.proofs.Common.{◌≡◌, ◌++◌, drop}
use Rattle.std.specs.List.{flat_map}
use Rattle.wrp_simulate.specs.SimStands.{printed_by}
use Rattle.wrp_simulate.proofs.simulation.append_outputs.Given as goal

abbrev pub invariant-loop-out : goal.invariant-loop-out
invariant-loop-out l =
    l.text.items ++ flat_map (λ o. printed_by l.name l.ticks l.bound l.off o) (drop l.out-index l.outs)
    ≡ l.fn.text.items ++ flat_map (λ o. printed_by l.name l.ticks l.bound l.off o) l.outs
