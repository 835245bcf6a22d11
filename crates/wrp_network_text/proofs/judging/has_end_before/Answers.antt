use Rattle.std.proofs.Common.{sym, ◌∙◌, option_copied}
use Rattle.toml.specs.View.{view}
use Rattle.wrp_calibration_text.proofs.Values.{list_any-first}
use Rattle.wrp_network_text.specs.Places.{has_end}
use Rattle.wrp_network_text.proofs.judging.has_end_before.Goals as goal

pub returns : goal.returns
returns c = c.any_has_end.ensures ∙ sym (list_any-first (has_end (option_copied c.args.text)) view c.args.count c.args.links.now)
