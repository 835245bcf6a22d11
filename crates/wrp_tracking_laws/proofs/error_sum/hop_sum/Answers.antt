use Rattle.wrp_tracking_laws.proofs.ErrorSums as proof
use Rattle.wrp_tracking_laws.proofs.error_sum.hop_sum.Goals as goal

pub returns : goal.returns
returns c = proof.hop-sum
