-- The counters of the nodes from this one on are still missing.
use Rattle.std.proofs.Common.{◌≤◌, ◌-◌}
use Rattle.wrp_network.specs.Network.{node_count}
use Rattle.wrp_course.specs.Setting.{Setting}
use Rattle.wrp_world.specs.StandsFor.{StandsFor}
use Rattle.wrp_course.specs.WorldAt.{WorldAt}
use Rattle.wrp_network_world.proofs.NodeCounts.{LacksNodes}
use Rattle.wrp_network_world.proofs.counts.append_all_counts.Given as goal

abbrev pub invariant-loop-node : goal.invariant-loop-node
invariant-loop-node g l =
    record {
      within : l.node ≤ node_count l.fn.world.plant.net.cfg;
      lacks : (s : Setting) (w : WorldAt) → StandsFor (λ f x y. g.F.Fn.post f (x, tt) y) s w l.fn.world
          → LacksNodes s w (node_count l.fn.world.plant.net.cfg) l.node l.text.items l.fn.text.items;
    }

abbrev pub decreases-loop-node : goal.decreases-loop-node
decreases-loop-node g l = node_count l.fn.world.plant.net.cfg - l.node
