use Rattle.std.proofs.Common.{List, Option, Some, option_map, map, ap, ◌∙◌}
use Rattle.std.specs.List.{find}
use Rattle.toml.specs.View.{view, table_view}
use Rattle.wrp_caldb.specs.Refusal.{key_place}
use Rattle.wrp_network_text.specs.Links.{LinkKey, Context, has_link_fault}
use Rattle.wrp_network_text.proofs.link_rows.place_of_link_keys.Goals as goal

pub returns-in-Some : goal.returns-in-Some
returns-in-Some c =
    let file : Context = record { nodes = map view c.args.nodes.now; db = c.args.lists.now } in
    ap Some c.of_key.ensures
    ∙ ap (λ name. key_place c.args.at (Some name)) c.key.ensures.value
    ∙ ap (λ (o : Option LinkKey). key_place c.args.at (option_map (λ k. k.key.name) o)) c.in-Some.ensures
    ∙ ap (λ (rows : List LinkKey). key_place c.args.at (option_map (λ k. k.key.name) (find (has_link_fault c.args.code file (table_view c.args.link.now)) rows))) c.link_rows.ensures
