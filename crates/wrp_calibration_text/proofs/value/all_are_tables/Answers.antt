use Rattle.std.proofs.Common.{sym, ◌∙◌}
use Rattle.std.specs.Option.{is_some}
use Rattle.toml.specs.Data.{as_table}
use Rattle.toml.specs.View.{view}
use Rattle.wrp_calibration_text.proofs.Values.{list_all-map}
use Rattle.wrp_calibration_text.proofs.value.all_are_tables.Goals as goal

pub returns : goal.returns
returns c = c.each_is_table.ensures ∙ sym (list_all-map (λ d. is_some (as_table d)) view c.args.values.now)
