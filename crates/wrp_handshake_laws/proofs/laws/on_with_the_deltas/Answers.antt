use Rattle.wrp_handshake_laws.proofs.Proved as proof
use Rattle.wrp_handshake_laws.proofs.laws.on_with_the_deltas.Goals as goal

pub returns : goal.returns
returns c = proof.on_with_the_deltas
