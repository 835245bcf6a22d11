use Rattle.wrp_tracking_laws.proofs.DelayHalves as proof
use Rattle.wrp_tracking_laws.proofs.pieces.delay_half_is_kept.Goals as goal

pub returns-clause-request : goal.returns-clause-request
returns-clause-request c = proof.request-keeps

pub returns-clause-sending : goal.returns-clause-sending
returns-clause-sending c = proof.sending-keeps

pub returns-clause-resp : goal.returns-clause-resp
returns-clause-resp c = proof.resp-keeps

pub returns-clause-others : goal.returns-clause-others
returns-clause-others c = proof.others-keep_delay
