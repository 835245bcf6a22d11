use Rattle.wrp_tracking_laws.proofs.Ages as proof
use Rattle.wrp_tracking_laws.proofs.servo.track_is_young.Goals as goal

pub returns : goal.returns
returns c = proof.track-is_young
