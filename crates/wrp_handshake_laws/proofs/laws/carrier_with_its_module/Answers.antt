use Rattle.wrp_handshake_laws.proofs.Proved as proof
use Rattle.wrp_handshake_laws.proofs.laws.carrier_with_its_module.Goals as goal

pub returns : goal.returns
returns c = proof.carrier_with_its_module
