use Rattle.std.proofs.Common.{◌≡◌, ◌++◌, drop, map}
use Rattle.toml.specs.Data.{table}
use Rattle.toml.specs.View.{view}
use Rattle.wrp_calibration_text.specs.Text.{fibre_members}
use Rattle.wrp_calibration_text.proofs.text.fibres_value.Given as goal

abbrev pub invariant-loop-fibre : goal.invariant-loop-fibre
invariant-loop-fibre l =
    map (λ x. table (fibre_members x)) l.fibres
    ≡ map view l.tables.items ++ map (λ x. table (fibre_members x)) (drop l.fibre-index l.fibres)
