-- A module that a name finds with these values has them by its own entries.
use Rattle.std.proofs.Common.{◌∙◌, refl, sym}
use Rattle.wrp_trace.specs.LineSetting.{has_values}
use Rattle.wrp_trace.proofs.FirstOfName.{found_by_entries, none_without_pair}
use Rattle.wrp_trace.proofs.line_setting.valued.Goals as goal

pub returns-in-Some : goal.returns-in-Some
returns-in-Some c =
    c.valued_for.ensures
    ∙ found_by_entries c.args.net.now.db (has_values c.args.values) c.in-Some.tx_nm c.in-Some.rx_nm _ (sym c.pair_at.ensures ∙ c.in-Some.is)

pub returns-in-None : goal.returns-in-None
returns-in-None c = sym (none_without_pair c.args.net.now.db (has_values c.args.values) _ (sym c.pair_at.ensures ∙ c.in-None.is) refl)
