use Rattle.wrp_handshake_laws.proofs.Proved as proof
use Rattle.wrp_handshake_laws.proofs.laws.master_stays_from_lock.Goals as goal

pub returns : goal.returns
returns c = proof.master_stays_from_lock
