use Rattle.wrp_tracking_laws.proofs.Servos as proof
use Rattle.wrp_tracking_laws.proofs.servo.track_gives.Goals as goal

pub returns : goal.returns
returns c = proof.track-gives
