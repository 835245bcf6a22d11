use Rattle.std.proofs.Common.{◌≡◌}
use Rattle.toml.specs.View.{table_view}
use Rattle.wrp_caldb.specs.Rows.{has_unknown}
use Rattle.wrp_calibration_text.proofs.Values.{unknown_among}
use Rattle.wrp_calibration_text.proofs.faults.has_unknown.Given as goal

abbrev pub invariant-loop-key : goal.invariant-loop-key
invariant-loop-key l = has_unknown l.rows (table_view l.table) ≡ unknown_among l.rows l.key-iterator
