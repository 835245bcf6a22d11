-- The law.
use Rattle.wrp_plain.proofs.Bound.{measured_within_bound_holds}
use Rattle.wrp_plain.proofs.law.measured_within_bound.Goals as goal

pub returns : goal.returns
returns c = measured_within_bound_holds
