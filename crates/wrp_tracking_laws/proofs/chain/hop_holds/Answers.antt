use Rattle.wrp_tracking_laws.proofs.HopsInTrack as proof
use Rattle.wrp_tracking_laws.proofs.chain.hop_holds.Goals as goal

pub returns-clause-estimate : goal.returns-clause-estimate
returns-clause-estimate c = proof.estimate-holds

pub returns-clause-track : goal.returns-clause-track
returns-clause-track c = proof.hop-holds
