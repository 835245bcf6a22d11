-- Each node before this one has its bound.
use Rattle.std.proofs.Common.{◌≡◌, ◌<◌, ◌≤◌, ◌-◌, ◌^◌, length, pos}
use Rattle.wrp_network.specs.Network.{node_count}
use Rattle.wrp_bounds.specs.Bounds.{path_of}
use Rattle.wrp_plant.specs.Plant.{Each}
use Rattle.wrp_network_world.proofs.bounds.bounds_of.Given as goal

abbrev pub invariant-loop-node : goal.invariant-loop-node
invariant-loop-node l =
    record {
      within : l.node ≤ node_count l.fn.net.cfg;
      count : length l.bounds.items ≡ l.node;
      each : Each (λ n bound. bound ≡ pos (path_of l.fn.net.cfg n)) l.bounds.items;
      small : Each (λ n bound. path_of l.fn.net.cfg n < 2 ^ 100) l.bounds.items;
    }

abbrev pub decreases-loop-node : goal.decreases-loop-node
decreases-loop-node l = node_count l.fn.net.cfg - l.node
