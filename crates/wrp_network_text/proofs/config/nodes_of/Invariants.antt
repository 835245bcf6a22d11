use Rattle.std.proofs.Common.{◌≡◌, ◌≤◌, ◌++◌, drop, map, length}
use Rattle.toml.specs.View.{view}
use Rattle.wrp_caldb.specs.Database.{each_table}
use Rattle.wrp_network_text.specs.Config.{node_of}
use Rattle.wrp_config.specs.Same.{bare_node}
use Rattle.wrp_network_text.proofs.config.nodes_of.Given as goal

abbrev pub invariant-loop-value : goal.invariant-loop-value
invariant-loop-value l = (length l.all.items ≤ l.value-index)
    × (each_table (node_of l.clock) (map view l.nodes)
    ≡ map bare_node l.all.items ++ each_table (node_of l.clock) (map view (drop l.value-index l.nodes)))
