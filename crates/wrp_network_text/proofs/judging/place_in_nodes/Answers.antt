use Rattle.std.proofs.Common.{◌≡◌, ℕ, None, map}
use Rattle.toml.specs.Data.{Data}
use Rattle.toml.specs.View.{view, table_view}
use Rattle.wrp_caldb.specs.Refusal.{first_among, on_table}
use Rattle.wrp_calibration_text.proofs.Passes.{none_in_table, none_beside, passed}
use Rattle.wrp_network_text.specs.Places.{place_in_node}
use Rattle.wrp_network_text.proofs.judging.place_in_nodes.Goals.{in-Some+in_default-place_in_node, in_default}
use Rattle.wrp_network_text.proofs.judging.place_in_nodes.Goals as goal

pub loop-i-preserved : goal.loop-i-preserved
loop-i-preserved c =
    let i = c.loop-i.i in
    let value = c.index-nodes-i.result in
    let place = λ (n : ℕ) (d : Data). on_table (place_in_node c.args.clock c.args.code (map view c.args.nodes.now) n) d in
    let none : place i (view value) ≡ None
    = elim c.match-as_table.branch [
      | in-Some+in_default-place_in_node w ↦ none_in_table (place_in_node c.args.clock c.args.code (map view c.args.nodes.now) i) (view value) (table_view w.in-Some.node.now) w.in-Some.ensures w.in_default-place_in_node.ensures
      | in_default w ↦ none_beside (place_in_node c.args.clock c.args.code (map view c.args.nodes.now) i) (view value) w.in_default.ensures
    ] in
    passed place c.args.nodes.now i value (first_among place 0 (map view c.args.nodes.now)) c.loop-i-test.true c.index-nodes-i.is none c.loop-i.invariant
