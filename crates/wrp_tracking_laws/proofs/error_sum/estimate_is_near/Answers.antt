use Rattle.wrp_tracking_laws.proofs.ErrorSums as proof
use Rattle.wrp_tracking_laws.proofs.error_sum.estimate_is_near.Goals as goal

pub returns : goal.returns
returns c = proof.estimate-near
