use Rattle.wrp_link.proofs.Quiet as proof
use Rattle.wrp_link.proofs.laws.quiet_time_lasts.Goals as goal

pub returns : goal.returns
returns c = proof.quiet_time_lasts
