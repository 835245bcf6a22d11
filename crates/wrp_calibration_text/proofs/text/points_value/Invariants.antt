use Rattle.std.proofs.Common.{◌≡◌, ◌++◌, drop, map}
use Rattle.toml.specs.View.{view}
use Rattle.wrp_calibration_text.specs.Text.{point_data}
use Rattle.wrp_calibration_text.proofs.text.points_value.Given as goal

abbrev pub invariant-loop-point : goal.invariant-loop-point
invariant-loop-point l =
    map point_data l.points ≡ map view l.values.items ++ map point_data (drop l.point-index l.points)
