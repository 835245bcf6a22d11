use Rattle.std.proofs.Common.{◌≡◌, drop, map}
use Rattle.toml.specs.View.{view}
use Rattle.wrp_caldb.specs.Refusal.{first_among, on_table}
use Rattle.wrp_network_text.specs.Links.{Context}
use Rattle.wrp_network_text.specs.Places.{place_in_link}
use Rattle.wrp_network_text.proofs.judging.place_in_links.Given as goal

abbrev pub invariant-loop-i : goal.invariant-loop-i
invariant-loop-i l =
    let file : Context = record { nodes = map view l.nodes; db = l.lists } in
    first_among (λ n d. on_table (place_in_link l.code file (map view l.links) n) d) 0 (map view l.links)
    ≡ first_among (λ n d. on_table (place_in_link l.code file (map view l.links) n) d) l.i (map view (drop l.i l.links))
