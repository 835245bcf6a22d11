use Rattle.wrp_handshake_laws.proofs.Worked as proof
use Rattle.wrp_handshake_laws.proofs.laws.worked_handshake.Goals as goal

pub returns : goal.returns
returns c = proof.worked_handshake
