-- The first of the times of the blocks so far; its place is in one of them.
use Rattle.std.proofs.Common.{◌≤◌, ◌*◌, ℤ, List}
use Rattle.wrp_sim.specs.NextTick.{AreFirsts, IsFirstOf}
use Rattle.wrp_sim.proofs.ticks.soonest_of.Given as goal

abbrev pub invariant-loop-b : goal.invariant-loop-b
invariant-loop-b l =
    (since : ℤ) (ticks : List ℤ) → AreFirsts since ticks l.fn.firsts →
    (l.first.place ≤ l.b * 8) × IsFirstOf since ticks 0 (l.b * 8) l.first
