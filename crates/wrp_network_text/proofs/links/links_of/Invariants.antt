use Rattle.std.proofs.Common.{◌≡◌, ◌≤◌, ◌++◌, drop, map, length}
use Rattle.toml.specs.View.{view}
use Rattle.wrp_caldb.specs.Database.{each_table}
use Rattle.wrp_network_text.specs.Config.{link_of}
use Rattle.wrp_config.specs.Same.{bare_link}
use Rattle.wrp_network_text.proofs.links.links_of.Given as goal

abbrev pub invariant-loop-value : goal.invariant-loop-value
invariant-loop-value l = (length l.all.items ≤ l.value-index)
    × (each_table (link_of (map view l.nodes) l.lists) (map view l.links)
    ≡ map bare_link l.all.items ++ each_table (link_of (map view l.nodes) l.lists) (map view (drop l.value-index l.links)))
