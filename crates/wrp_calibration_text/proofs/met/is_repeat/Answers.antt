use Rattle.std.proofs.Common.{◌++◌, ◌∷◌, []}
use Rattle.toml.specs.View.{view}
use Rattle.wrp_calibration_text.proofs.NamesMet.{if_told, if_met}
use Rattle.wrp_calibration_text.proofs.met.is_repeat.Goals as goal

pub returns-in-Twice-clause-before : goal.returns-in-Twice-clause-before
returns-in-Twice-clause-before c earlier table met is =
    if_told c.args.code earlier (view c.args.value.now) table c.repeats_name.result is (c.repeats_name.ensures.before earlier (met c.in-Twice.is))

pub returns-in-Twice-clause-noted : goal.returns-in-Twice-clause-noted
returns-in-Twice-clause-noted c earlier met =
    if_met c.args.code c.repeats_name.new.names (earlier ++ view c.args.value.now ∷ []) c.repeats_name.result
    (c.repeats_name.ensures.noted earlier (met c.in-Twice.is))
