use Rattle.std.proofs.Common.{◌≡◌, ◌++◌, drop, map}
use Rattle.toml.specs.View.{view}
use Rattle.wrp_caldb.specs.Database.{each_table, module_of}
use Rattle.wrp_calibration_text.proofs.reading.modules_of.Given as goal

abbrev pub invariant-loop-value : goal.invariant-loop-value
invariant-loop-value l =
    each_table (module_of l.version) (map view l.values) ≡ l.modules.items ++ each_table (module_of l.version) (map view (drop l.value-index l.values))
