use Rattle.std.proofs.Common.{◌≡◌, drop}
use Rattle.wrp_caldb.specs.Points.{rises_from}
use Rattle.wrp_calibration_text.proofs.points.rises_from.Given as goal

abbrev pub invariant-loop-point : goal.invariant-loop-point
invariant-loop-point l = rises_from l.fn.first l.rest ≡ rises_from l.before (drop l.point-index l.rest)
