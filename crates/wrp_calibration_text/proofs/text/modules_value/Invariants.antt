use Rattle.std.proofs.Common.{◌≡◌, ◌++◌, drop, map}
use Rattle.toml.specs.Data.{table}
use Rattle.toml.specs.View.{view}
use Rattle.wrp_calibration_text.specs.Text.{module_members}
use Rattle.wrp_calibration_text.proofs.text.modules_value.Given as goal

abbrev pub invariant-loop-module : goal.invariant-loop-module
invariant-loop-module l =
    map (λ x. table (module_members x)) l.modules
    ≡ map view l.tables.items ++ map (λ x. table (module_members x)) (drop l.module-index l.modules)
