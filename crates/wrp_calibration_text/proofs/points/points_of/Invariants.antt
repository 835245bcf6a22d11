use Rattle.std.proofs.Common.{◌≡◌, ◌++◌, length, drop, map, option_map}
use Rattle.toml.specs.View.{view}
use Rattle.wrp_caldb.specs.Points.{points_of}
use Rattle.wrp_calibration_text.proofs.points.points_of.Given as goal

abbrev pub invariant-loop-value : goal.invariant-loop-value
invariant-loop-value l = (length l.points.items ≡ l.value-index)
    × (points_of (map view l.values)
    ≡ option_map (λ rest. l.points.items ++ rest) (points_of (map view (drop l.value-index l.values))))
