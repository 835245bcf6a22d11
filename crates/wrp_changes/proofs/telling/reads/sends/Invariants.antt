-- No output so far is a frame.
use Rattle.std.proofs.Common.{◌≡◌, drop}
use Rattle.wrp_changes.specs.PlantTold.{sends}
use Rattle.wrp_changes.proofs.telling.reads.sends.Given as goal

abbrev pub invariant-loop-out : goal.invariant-loop-out
invariant-loop-out l = sends (drop l.out-index l.fn.outs) ≡ sends l.fn.outs
