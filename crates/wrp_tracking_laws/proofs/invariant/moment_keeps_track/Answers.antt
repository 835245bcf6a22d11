use Rattle.wrp_tracking_laws.proofs.Parts as proof
use Rattle.wrp_tracking_laws.proofs.invariant.moment_keeps_track.Goals as goal

pub returns : goal.returns
returns c = proof.moment-keeps_track
