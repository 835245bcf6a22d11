use Rattle.wrp_handshake_laws.proofs.Proved as proof
use Rattle.wrp_handshake_laws.proofs.laws.marks_are_a_history.Goals as goal

pub returns : goal.returns
returns c = proof.marks_are_a_history
