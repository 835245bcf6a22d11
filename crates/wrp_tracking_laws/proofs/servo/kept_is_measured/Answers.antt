use Rattle.wrp_tracking_laws.proofs.Kept as proof
use Rattle.wrp_tracking_laws.proofs.servo.kept_is_measured.Goals as goal

pub returns : goal.returns
returns c = proof.kept-is_measured
