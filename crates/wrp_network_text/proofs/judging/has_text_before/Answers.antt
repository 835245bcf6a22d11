use Rattle.std.proofs.Common.{sym, ◌∙◌}
use Rattle.toml.specs.View.{view, table_view}
use Rattle.wrp_calibration_text.proofs.Values.{list_any-first}
use Rattle.wrp_network_text.specs.Places.{has_text_of}
use Rattle.wrp_network_text.proofs.judging.has_text_before.Goals as goal

pub returns : goal.returns
returns c = c.any_has_text_of.ensures ∙ sym (list_any-first (has_text_of c.args.key.now (table_view c.args.table.now)) view c.args.count c.args.values.now)
