use Rattle.wrp_tracking_laws.proofs.WorkedHops as proof
use Rattle.wrp_tracking_laws.proofs.error_sum.worked_hop.Goals as goal

pub returns : goal.returns
returns c = proof.worked-hop
