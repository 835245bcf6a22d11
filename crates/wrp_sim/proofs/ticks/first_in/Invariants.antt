-- The first of the times so far; its place is among those.
use Rattle.std.proofs.Common.{◌≤◌}
use Rattle.wrp_sim.specs.NextTick.{IsFirstOf}
use Rattle.wrp_sim.proofs.ticks.first_in.Given as goal

abbrev pub invariant-loop-n : goal.invariant-loop-n
invariant-loop-n l =
    (l.first.place ≤ l.n) × (l.first.place ≤ l.fn.end) × IsFirstOf l.fn.since l.fn.times l.fn.start l.n l.first
