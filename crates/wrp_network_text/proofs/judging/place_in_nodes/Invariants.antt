use Rattle.std.proofs.Common.{◌≡◌, drop, map}
use Rattle.toml.specs.View.{view}
use Rattle.wrp_caldb.specs.Refusal.{first_among, on_table}
use Rattle.wrp_network_text.specs.Places.{place_in_node}
use Rattle.wrp_network_text.proofs.judging.place_in_nodes.Given as goal

abbrev pub invariant-loop-i : goal.invariant-loop-i
invariant-loop-i l =
    first_among (λ n d. on_table (place_in_node l.clock l.code (map view l.nodes) n) d) 0 (map view l.nodes)
    ≡ first_among (λ n d. on_table (place_in_node l.clock l.code (map view l.nodes) n) d) l.i (map view (drop l.i l.nodes))
