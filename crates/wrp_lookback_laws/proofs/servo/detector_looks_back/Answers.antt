-- The lock detector, looking back.
use Rattle.wrp_lookback_laws.proofs.DetectorLaws.{detector_looks_back}
use Rattle.wrp_lookback_laws.proofs.servo.detector_looks_back.Goals as goal

pub returns : goal.returns
returns c = detector_looks_back (record { told = c.told_last.ensures; sum = c.phase_is_sum.ensures.sum; moves = c.phase_is_sum.ensures.moves })
