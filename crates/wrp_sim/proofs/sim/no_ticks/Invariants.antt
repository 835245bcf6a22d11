-- This many times, all 0.
use Rattle.std.proofs.Common.{◌≡◌, length, pos}
use Rattle.wrp_plant.specs.Plant.{Each}
use Rattle.wrp_sim.proofs.sim.no_ticks.Given as goal

abbrev pub invariant-loop-node : goal.invariant-loop-node
invariant-loop-node l = (length l.tick_at.items ≡ l._node) × Each (λ n t. t ≡ pos 0) l.tick_at.items
