use Rattle.wrp_tracking_laws.proofs.Histories as proof
use Rattle.wrp_tracking_laws.proofs.history.slow_between.Goals as goal

pub returns : goal.returns
returns c = proof.slow-between
