-- No output so far steps the clock.
use Rattle.std.proofs.Common.{◌≡◌, drop}
use Rattle.wrp_changes.specs.PlantTold.{cycles_in}
use Rattle.wrp_changes.proofs.telling.reads.cycles_in.Given as goal

abbrev pub invariant-loop-out : goal.invariant-loop-out
invariant-loop-out l = cycles_in (drop l.out-index l.fn.outs) ≡ cycles_in l.fn.outs
