use Rattle.std.proofs.Common.{sym, ap, ◌∙◌, option_copied}
use Rattle.toml.specs.View.{view}
use Rattle.wrp_calibration_text.proofs.NamesMet.{repeats_none}
use Rattle.wrp_calibration_text.proofs.met.repeats_name.Goals as goal

pub returns-in-None-clause-before : goal.returns-in-None-clause-before
returns-in-None-clause-before c earlier met =
    sym (repeats_none (view c.args.value.now) earlier (sym c.name_of_value.ensures ∙ ap option_copied c.in-None.is))
