use Rattle.wrp_handshake_laws.proofs.Proved as proof
use Rattle.wrp_handshake_laws.proofs.laws.slave_stays_from_locked.Goals as goal

pub returns : goal.returns
returns c = proof.slave_stays_from_locked
