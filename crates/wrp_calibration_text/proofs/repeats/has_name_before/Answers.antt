use Rattle.std.proofs.Common.{sym, ◌∙◌}
use Rattle.toml.specs.View.{view, table_view}
use Rattle.wrp_caldb.specs.Repeats.{has_name_of}
use Rattle.wrp_calibration_text.proofs.Values.{list_any-first}
use Rattle.wrp_calibration_text.proofs.repeats.has_name_before.Goals as goal

pub returns : goal.returns
returns c = c.any_has_name_of.ensures ∙ sym (list_any-first (has_name_of (table_view c.args.table.now)) view c.args.count c.args.values.now)
