-- The first times of the blocks so far.
use Rattle.std.proofs.Common.{◌≡◌, length}
use Rattle.wrp_sim.proofs.NextTicks.{FirstsTo}
use Rattle.wrp_sim.proofs.ticks.firsts_from.Given as goal

abbrev pub invariant-loop-b : goal.invariant-loop-b
invariant-loop-b l = (length l.firsts ≡ 8) × FirstsTo l.fn.since l.fn.times l.b l.firsts
