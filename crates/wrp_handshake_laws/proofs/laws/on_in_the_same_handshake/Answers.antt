use Rattle.wrp_handshake_laws.proofs.Proved as proof
use Rattle.wrp_handshake_laws.proofs.laws.on_in_the_same_handshake.Goals as goal

pub returns : goal.returns
returns c = proof.on_in_the_same_handshake
