use Rattle.std.proofs.Common.{List, ap, ◌∙◌}
use Rattle.toml.specs.View.{table_view}
use Rattle.wrp_caldb.specs.Key.{Key}
use Rattle.wrp_caldb.specs.Refusal.{place_in_table}
use Rattle.wrp_calibration_text.proofs.BareFibres.{without_law}
use Rattle.wrp_calibration_text.proofs.judging.place_in_fibre_keys.Goals as goal

pub returns-in-None : goal.returns-in-None
returns-in-None c =
    let fibre = table_view c.args.fibre.now in
    c.place_in_table-in-None.ensures
    ∙ ap (λ (rows : List Key). place_in_table c.args.code c.args.at rows fibre) c.fibre_rows.ensures
    ∙ without_law c.args.code c.args.at fibre c.in-None.ensures
