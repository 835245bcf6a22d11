use Rattle.std.proofs.Common.{◌≡◌, ◌++◌, drop, map}
use Rattle.toml.specs.View.{view}
use Rattle.wrp_caldb.specs.Database.{each_table, entry_of}
use Rattle.wrp_calibration_text.proofs.reading.pairs_of.Given as goal

abbrev pub invariant-loop-value : goal.invariant-loop-value
invariant-loop-value l =
    each_table entry_of (map view l.pairs) ≡ l.entries.items ++ each_table entry_of (map view (drop l.value-index l.pairs))
