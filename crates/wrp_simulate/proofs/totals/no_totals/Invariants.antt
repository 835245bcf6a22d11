-- This many totals, each of no line.
use Rattle.std.proofs.Common.{◌≡◌, [], length}
use Rattle.wrp_plant.specs.Plant.{Each}
use Rattle.wrp_simulate.specs.SimStands.{IsTotal}
use Rattle.wrp_simulate.proofs.totals.no_totals.Given as goal

abbrev pub invariant-loop-node : goal.invariant-loop-node
invariant-loop-node l =
    record {
      count : length l.totals.items ≡ l._node;
      each : Each (λ n. IsTotal []) l.totals.items;
    }
