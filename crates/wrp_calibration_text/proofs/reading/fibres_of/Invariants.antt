use Rattle.std.proofs.Common.{◌≡◌, ◌++◌, drop, map}
use Rattle.toml.specs.View.{view}
use Rattle.wrp_caldb.specs.Database.{each_table, fibre_of}
use Rattle.wrp_calibration_text.proofs.reading.fibres_of.Given as goal

abbrev pub invariant-loop-value : goal.invariant-loop-value
invariant-loop-value l =
    each_table fibre_of (map view l.values) ≡ l.fibres.items ++ each_table fibre_of (map view (drop l.value-index l.values))
