use Rattle.std.proofs.Common.{Some, option_map, map, ap, sym, ◌∙◌}
use Rattle.toml.specs.View.{view}
use Rattle.wrp_caldb.specs.Points.{list_of}
use Rattle.wrp_calibration_text.proofs.Values.{list_of-items_of}
use Rattle.wrp_calibration_text.proofs.value.array_of.Goals as goal

pub returns-in-Some : goal.returns-in-Some
returns-in-Some c =
    ap (λ xs. Some (map view xs)) c.as_slice.ensures.value
    ∙ ap Some (sym (list_of-items_of (map view c.in-Some.array.now.items)))
    ∙ ap (option_map list_of) c.in-Some.ensures
