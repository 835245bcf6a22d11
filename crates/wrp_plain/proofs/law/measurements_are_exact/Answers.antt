-- By the parts of a measurement.
use Rattle.wrp_plain.proofs.Exact.{measurements_are_exact}
use Rattle.wrp_plain.proofs.law.measurements_are_exact.Goals as goal

pub returns : goal.returns
returns c = measurements_are_exact
