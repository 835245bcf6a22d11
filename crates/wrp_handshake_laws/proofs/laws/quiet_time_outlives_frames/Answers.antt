use Rattle.wrp_handshake_laws.proofs.Proved as proof
use Rattle.wrp_handshake_laws.proofs.laws.quiet_time_outlives_frames.Goals as goal

pub returns : goal.returns
returns c = proof.quiet_time_outlives_frames
