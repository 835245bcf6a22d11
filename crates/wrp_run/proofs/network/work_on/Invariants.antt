-- Each node before this one has its law, as its link's law says.
use Rattle.std.proofs.Common.{◌≡◌, ◌≤◌, ◌-◌, length}
use Rattle.wrp_network.specs.Network.{node_count}
use Rattle.wrp_plant.specs.Plant.{Each}
use Rattle.wrp_network_world.specs.LawsFit.{IsMade}
use Rattle.wrp_run.proofs.network.work_on.Given as goal

abbrev pub invariant-loop-n : goal.invariant-loop-n
invariant-loop-n g l =
    record {
      within : l.n ≤ node_count l.fn.net.cfg;
      count : length l.laws.items ≡ l.n;
      made : Each (IsMade (λ f. f.0) l.fn.net) l.laws.items;
    }

abbrev pub decreases-loop-n : goal.decreases-loop-n
decreases-loop-n g l = node_count l.fn.net.cfg - l.n
